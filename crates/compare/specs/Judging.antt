-- Inside: the refusal of a comparison by what one pass over the records found, and how long the lists of an accepted one are. What is compared
-- and answered is said in Compare; that both refusals are one is in proofs/Judged.
use Rattle.std.specs.Prelude.{ℕ, ◌≡◌, ◌*◌, Bool, false, Option, Some, None, ◌&&◌, List, eqb, length}
use Rattle.parts.specs.Parts.{part_of, known, multiplex, slice_fields, is_count}
use Rattle.tables.specs.Refusals.{Row}
use Rattle.parts.specs.declared.command.Command.TheVariants.{Individual}
use Rattle.judgement.specs.declared.judging.Judged.{Judged}
use Rattle.sets.specs.Sets.{lengths_fit, settings_fit}
use Rattle.sets.specs.declared.numbers.SetNumbers.{SetNumbers}
use Rattle.compare.specs.Compare.{rows_of}

-- the first record's part, where there is a record, is the set's
abbrev pub begins_with : Option ℕ → ℕ → Bool
begins_with None n = false
begins_with (Some part) n = eqb part n

-- the number of records is the set's, and each is of the set's part
abbrev pub chain_fits : SetNumbers → Judged → ℕ → Bool
chain_fits g j count = eqb count g.devices && (j.same && begins_with j.part g.part)

-- the rows of a comparison, by what one pass over the records found
abbrev pub rows_by : SetNumbers → ℕ → List ℕ → Judged → ℕ → List Row
rows_by g bytes individual j count =
    rows_of (known g.part && j.known) (is_count g.devices && is_count count)
    (lengths_fit g.part g.devices g.configuration bytes (length individual) && chain_fits g j count)
    (settings_fit g.part g.configuration g.global individual) j.fits

-- the chain has the set's number of devices, and the lists are each device's bytes and values one after the other
pub record ListsLong (g : SetNumbers) (bytes values count : ℕ) : Type 0 where
  pub devices : g.devices ≡ count
  pub bytes_in : g.devices * (part_of g.part).banks ≡ bytes
  pub values_in : g.devices * slice_fields (part_of g.part) Individual (multiplex g.configuration) ≡ values
