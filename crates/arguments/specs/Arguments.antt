-- The program's two arguments, part and N, as texts: a missing argument is the empty text. docs/RULES.md, "The bench program".
-- A decimal is one digit or more and nothing else: no sign and no blank; zeros in front count for nothing. A number over 65,535 is
-- read as 65,535, which is neither a part nor an N.
use Rattle.std.specs.Prelude.{ℕ, ◌+◌, ◌-◌, ◌*◌, ◌^◌, min, Bool, true, false, not, ◌&&◌, cond, Option, Some, None, Result, Ok, Err, List, [], ◌∷◌, eqb, ltb, leb, length}
use Rattle.tables.specs.Refusals.{Row, ◌when◌, first, answer}
use Rattle.parts.specs.Parts.{known}
use Rattle.arguments.specs.declared.judging.Chain.{Chain}

-- `0` to `9`
abbrev pub is_digit : ℕ → Bool
is_digit b = leb 48 b && leb b 57

-- digits alone
unfoldable pub digits_only : List ℕ → Bool
digits_only [] = true
digits_only (b ∷ bs) = is_digit b && digits_only bs

-- the number that digits say
unfoldable pub numeral : List ℕ → ℕ
numeral [] = 0
numeral (b ∷ bs) = (b - 48) * 10 ^ length bs + numeral bs

-- what a text says
unfoldable pub parsed : List ℕ → Option ℕ
parsed text = cond (not (eqb (length text) 0) && digits_only text) (Some (min (numeral text) 65535)) None

-- the number of a text that says one
abbrev pub value_of : Option ℕ → ℕ
value_of (Some n) = n
value_of None = 0

-- a part's number
abbrev pub is_part : Option ℕ → Bool
is_part (Some n) = known n
is_part None = false

-- 1 to 512
abbrev pub count_accepted : Option ℕ → Bool
count_accepted (Some n) = ltb 0 n && ltb n 513
count_accepted None = false

-- 1 and 2
abbrev pub asked_rows : Option ℕ → Option ℕ → List Row
asked_rows part devices = (1 when not (is_part part)) ∷ (2 when not (count_accepted devices)) ∷ []

-- the chain that they ask for
unfoldable pub judged : Option ℕ → Option ℕ → Result Chain ℕ
judged part devices =
    answer (first (asked_rows part devices)) Err (Ok (record { part = value_of part; devices = value_of devices }))

-- what the texts of the two arguments ask for
abbrev pub asked : List ℕ → List ℕ → Result Chain ℕ
asked part devices = judged (parsed part) (parsed devices)
