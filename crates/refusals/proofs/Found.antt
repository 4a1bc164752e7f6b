-- By what one pass over the records finds, each call's refusal is the one that calls/specs/Calls gives it: the pass finds what the tests of a
-- chain say (judgement/proofs/Pass), so the rows are the same, test by test.
use mathlib.Core.Path.{◌≡◌, refl, ap, ◌∙◌}
use mathlib.Core.Bool.{Bool, not, ◌&&◌}
use mathlib.Core.List.{List, [], ◌∷◌, ◌++◌}
use Prim.Native.Nat.{ℕ}
use lib.Dec.{ltb, leb}
use lib.ListN.{length, get_or}
use Rattle.std.specs.Prelude.{Option}
use Rattle.parts.specs.Parts.{known, part_of, outputs, is_count}
use Rattle.tables.specs.Refusals.{Row, ◌when◌, first}
use Rattle.tables.specs.Lists.{all_below}
use Rattle.device.specs.declared.device.Device.{Device}
use Rattle.calls.specs.Chain.{all_known, same_parts, all_fit, blank}
use Rattle.calls.specs.Calls.{room_for, chain_rows, fresh_table, fresh_refusal, run_refusal, fault_refusal}
use Rattle.judgement.specs.Judging.{unjudged, judged_from}
use Rattle.refusals.specs.Rows.{judged_rows, run_rows, is_device, has_output, fault_rows, output_rows}
use Rattle.tables.proofs.Booleans.{and_assoc}
use Rattle.judgement.proofs.Pass.{known-found, fits-found, same-found, part-found}

-- a table with the rows of a chain's records before a call's own
abbrev rows_with : Bool → Bool → ℕ → List Row → List Row
rows_with known same n own = (1 when not known) ∷ (2 when not (is_count n)) ∷ (4 when not same) ∷ own

rows-found : (ds : List Device) (f : Bool → List Row)
    → first (judged_rows (judged_from unjudged ds) (length ds) ++ f (judged_from unjudged ds).fits) ≡ first (chain_rows ds ++ f (all_fit ds))
rows-found ds f =
    ap (λ (b : Bool). first (rows_with b (judged_from unjudged ds).same (length ds) (f (judged_from unjudged ds).fits))) (known-found unjudged ds)
    ∙ ap (λ (b : Bool). first (rows_with (all_known ds) b (length ds) (f (judged_from unjudged ds).fits))) (same-found ds)
    ∙ ap (λ (b : Bool). first (rows_with (all_known ds) (same_parts ds) (length ds) (f b))) (fits-found unjudged ds)

pub fresh-refusal-found : (part bit limit n : ℕ) → first (fresh_table part bit limit n) ≡ fresh_refusal part bit limit n
unfolding fresh_refusal
fresh-refusal-found part bit limit n = refl

pub run-refusal-found : (ds : List Device) (ss : List ℕ) (room : ℕ) → first (run_rows (judged_from unjudged ds) (length ds) ss room) ≡ run_refusal ds ss room
unfolding run_refusal
run-refusal-found ds ss room = rows-found ds (λ b. (5 when ltb room (room_for (length ss))) ∷ (13 when not (all_below ss 4 && b)) ∷ [])

pub fault-refusal-found : (ds : List Device) (device kind : ℕ)
    → first (fault_rows (judged_from unjudged ds) (length ds) device kind) ≡ fault_refusal ds device kind
unfolding fault_refusal
fault-refusal-found ds device kind =
    rows-found ds (λ b. (13 when not (is_device (length ds) device && (ltb kind 2 && b))) ∷ [])
    ∙ ap (λ (b : Bool). first (chain_rows ds ++ (13 when not b) ∷ [])) (and_assoc (leb 1 device) (leb device (length ds)) (ltb kind 2 && all_fit ds))

-- the rows of a question about an output, with the first record's part: without a record number 2 is given before it is asked for
pub output-refusal-found : (ds : List Device) (device output : ℕ)
    → first (output_rows (judged_from unjudged ds) (length ds) device output)
    ≡ first (chain_rows ds
    ++ (13 when not (leb 1 device && (leb device (length ds) && (ltb output (outputs (part_of (get_or ds 0 blank).registers.part)) && all_fit ds)))) ∷ [])
output-refusal-found [] device output = refl
output-refusal-found (d ∷ ds) device output =
    rows-found (d ∷ ds) (λ b. (13 when not (is_device (length (d ∷ ds)) device && (has_output (judged_from unjudged (d ∷ ds)).part output && b))) ∷ [])
    ∙ ap (λ (p : Option ℕ). first (chain_rows (d ∷ ds) ++ (13 when not (is_device (length (d ∷ ds)) device && (has_output p output && all_fit (d ∷ ds)))) ∷ []))
    (part-found d ds)
    ∙ ap (λ (b : Bool). first (chain_rows (d ∷ ds) ++ (13 when not b) ∷ []))
    (and_assoc (leb 1 device) (leb device (length (d ∷ ds))) (ltb output (outputs (part_of d.registers.part)) && all_fit (d ∷ ds)))
