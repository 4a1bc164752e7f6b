-- Each call's refusal, by what one pass over the records found and their number. What a call refuses is said in calls/specs/Calls; that both
-- are the same is in proofs/Found.
use Rattle.std.specs.Prelude.{ℕ, Bool, not, ◌&&◌, Option, Some, None, List, [], ◌∷◌, ◌++◌, ltb, leb, length}
use Rattle.parts.specs.Parts.{part_of, outputs, is_count}
use Rattle.tables.specs.Refusals.{Row, ◌when◌}
use Rattle.tables.specs.Lists.{all_below}
use Rattle.calls.specs.Calls.{room_for}
use Rattle.judgement.specs.declared.judging.Judged.{Judged}

-- 1, 2 and 4: parts and count
abbrev pub judged_rows : Judged → ℕ → List Row
judged_rows j n = (1 when not j.known) ∷ (2 when not (is_count n)) ∷ (4 when not j.same) ∷ []

-- the rows of a run
abbrev pub run_rows : Judged → ℕ → List ℕ → ℕ → List Row
run_rows j n ss room = judged_rows j n ++ (5 when ltb room (room_for (length ss))) ∷ (13 when not (all_below ss 4 && j.fits)) ∷ []

-- devices are numbered from 1
abbrev pub is_device : ℕ → ℕ → Bool
is_device n device = leb 1 device && leb device n

-- the rows of a fault setting
abbrev pub fault_rows : Judged → ℕ → ℕ → ℕ → List Row
fault_rows j n device kind = judged_rows j n ++ (13 when not (is_device n device && (ltb kind 2 && j.fits))) ∷ []

-- the first record's part says how many outputs there are: where there is no record, what 0 is read as
abbrev pub has_output : Option ℕ → ℕ → Bool
has_output None output = ltb output (outputs (part_of 0))
has_output (Some part) output = ltb output (outputs (part_of part))

-- the rows of a question about an output
abbrev pub output_rows : Judged → ℕ → ℕ → ℕ → List Row
output_rows j n device output = judged_rows j n ++ (13 when not (is_device n device && (has_output j.part output && j.fits))) ∷ []
