-- Comparing a set with a lent chain: same, or the first difference. docs/RULES.md, "Is it running?": the lowest device that differs from what
-- is its own; what of it is named is said in differences/specs/Groups.
use Rattle.std.specs.Prelude.{ℕ, suc, Bool, not, ◌&&◌, List, [], ◌∷◌, eqb, length}
use Rattle.parts.specs.Parts.{known, is_count}
use Rattle.tables.specs.Lists.{every}
use Rattle.tables.specs.Refusals.{Row, ◌when◌, first, answer}
use Rattle.device.specs.declared.device.Device.{Device}
use Rattle.calls.specs.Chain.{has_part, all_known, all_fit}
use Rattle.model.specs.Set.{Set, Own, owned}
use Rattle.sets.specs.Sets.{lengths_fit, settings_fit}
use Rattle.differences.specs.declared.compared.Compared.{Compared}
use Rattle.differences.specs.Groups.{groups, in_groups, compared, same}

-- the first difference, from device n on
unfoldable pub difference : ℕ → List Own → List Device → Compared
difference n [] ds = same
difference n (o ∷ os) [] = same
difference n (o ∷ os) (d ∷ ds) = in_groups n 1 (groups o d) (difference (suc n) os ds)

-- the chain has the set's number of devices and its part
abbrev pub same_chain : Set → List Device → Bool
same_chain s ds = eqb (length ds) s.devices && every (has_part s.part) ds

-- the rows by their five tests
abbrev pub rows_of : Bool → Bool → Bool → Bool → Bool → List Row
rows_of parts counts lists values records =
    (1 when not parts) ∷ (2 when not counts) ∷ (4 when not lists) ∷ (6 when not values) ∷ (13 when not records) ∷ []

-- when a comparison is refused: of the set as the four writers do, of the chain by its records
abbrev pub compare_table : Set → List Device → List Row
compare_table s ds =
    rows_of (known s.part && all_known ds) (is_count s.devices && is_count (length ds))
    (lengths_fit s.part s.devices s.configuration (length s.calibration) (length s.individual) && same_chain s ds)
    (settings_fit s.part s.configuration s.global s.individual) (all_fit ds)

-- the number under which a comparison is refused, or 0
unfoldable pub compare_refusal : Set → List Device → ℕ
compare_refusal s ds = first (compare_table s ds)

-- what a comparison answers
unfoldable pub comparison : Set → List Device → Compared
comparison s ds = answer (compare_refusal s ds) (λ n. compared n 0 0 0) (difference 1 (owned s) ds)
