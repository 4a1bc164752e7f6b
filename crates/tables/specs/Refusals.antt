-- A refusal: rows of a number and a test, in the order of the table of docs/RULES.md. The first row whose test holds gives the number; 0 says
-- that none does. Every operation's refusals are such a table. That the number given is the lowest that applies is in proofs/Rows.
use Rattle.std.specs.Prelude.{ℕ, ◌≤◌, ◌≡◌, Bool, true, cond, List, [], ◌∷◌, ◌⊎◌, eqb, Result, Ok, Err}
use Rattle.tables.specs.declared.refusal.Refusal.{Refusal}
use Rattle.tables.specs.declared.refusal.Refusal.TheVariants as R

-- a row: the number is given when the test holds
infix 20 ◌when◌
pub data Row : Type 0 where
  ◌when◌ : ℕ → Bool → Row

-- the number that a table gives, or 0
abbrev pub first : List Row → ℕ
first [] = 0
first ((n when b) ∷ rows) = cond b n (first rows)

-- a number applies: a row with it has a test that holds
abbrev pub Applies : ℕ → List Row → Type 0
Applies m [] = ⊥
Applies m ((n when b) ∷ rows) = ((m ≡ n) × (b ≡ true)) ⊎ Applies m rows

-- n is the lowest number that applies
pub record Lowest (n : ℕ) (rows : List Row) : Type 0 where
  pub applies : Applies n rows
  pub least : (k : ℕ) → Applies k rows → n ≤ k

-- an answer: the refusal, or what was asked for
abbrev pub answer : {A : Type 0} → ℕ → (ℕ → A) → A → A
answer n refused accepted = cond (eqb n 0) accepted (refused n)

-- what a lent list holds afterwards: a refused call leaves it as it was
abbrev pub content : {A : Type 0} → ℕ → List A → List A → List A
content n before after = cond (eqb n 0) after before

-- ---- refusals by name

-- the number of a refusal
abbrev pub number_of : Refusal → ℕ
number_of R.UnknownPart = 1
number_of R.WrongDeviceCount = 2
number_of R.LongTail = 3
number_of R.WrongLength = 4
number_of R.NoRoom = 5
number_of R.HighValue = 6
number_of R.WrongSync = 7
number_of R.WrongCommand = 8
number_of R.WrongCount = 9
number_of R.UnequalCopies = 10
number_of R.UnusedBitSet = 11
number_of R.WrongTail = 12
number_of R.OutOfRange = 13

-- an answer with its refusal by number: what an operation answers is equated with a definition in numbers
abbrev pub numbered : {A : Type 0} → Result A Refusal → Result A ℕ
numbered (Ok a) = Ok a
numbered (Err r) = Err (number_of r)

-- the number that an answer carries: 0 where it is no refusal
abbrev pub carried : {A : Type 0} → Result A Refusal → ℕ
carried (Ok a) = 0
carried (Err r) = number_of r

-- the same of an answer in numbers
abbrev pub number_in : {A : Type 0} → Result A ℕ → ℕ
number_in (Ok a) = 0
number_in (Err n) = n
