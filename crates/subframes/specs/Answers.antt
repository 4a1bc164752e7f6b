-- What the questions about subframes answer, for any input: the refusal of their table, or the answer of Subframes.
use Rattle.std.specs.Prelude.{ℕ, ◌+◌, Bool, not, List, [], ◌∷◌, ltb, leb, ℤ, Result, Ok, Err}
use Rattle.tables.specs.Refusals.{Row, ◌when◌, first, answer}
use Rattle.parts.specs.Parts.{Part, known, part_of, subframes}
use Rattle.subframes.specs.Subframes.{is_on, lead_of}

-- a window of w subframes does not end within the frame
abbrev pub window_over : Part → ℕ → ℕ → ℕ → Bool
window_over p configuration from w = ltb (subframes p configuration) (from + w)

-- ---- the tables of refusals

-- is a subframe ON
abbrev pub on_rows : ℕ → ℕ → ℕ → List Row
on_rows part configuration subframe = (1 when not (known part)) ∷ (13 when leb (subframes (part_of part) configuration) subframe) ∷ []

-- the lead of a window
abbrev pub lead_rows : ℕ → ℕ → ℕ → ℕ → List Row
lead_rows part configuration from w = (1 when not (known part)) ∷ (13 when window_over (part_of part) configuration from w) ∷ []

-- ---- the answers

-- is a subframe ON
unfoldable pub on_answer : ℕ → ℕ → ℕ → ℕ → Result Bool ℕ
on_answer part configuration global subframe =
    answer (first (on_rows part configuration subframe)) Err (Ok (is_on (part_of part) configuration global subframe))

-- the lead of a window
unfoldable pub lead_answer : ℕ → ℕ → ℕ → ℕ → ℕ → Result ℤ ℕ
lead_answer part configuration global from w =
    answer (first (lead_rows part configuration from w)) Err (Ok (lead_of (part_of part) configuration global from w))
