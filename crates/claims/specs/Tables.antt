-- What it is to answer by a table of refusals: the number that an answer carries, 0 where it is none, is given exactly under the table's
-- conditions; and what then stands in the answer and in a lent list.
use Rattle.std.specs.Prelude.{ℕ, ◌≡◌, List}
use Rattle.tables.specs.Refusals.{Row, Applies, Lowest}

-- 0 exactly where no number of the table applies, and any other number exactly where it is the lowest that applies
pub record Exactly (rows : List Row) (number : ℕ) : Type 0 where
  pub accepts : ((k : ℕ) → Applies k rows → ⊥) → number ≡ 0
  pub accepted : number ≡ 0 → (k : ℕ) → Applies k rows → ⊥
  pub refuses : (n : ℕ) → Lowest n rows → number ≡ n
  pub refused : (number ≡ 0 → ⊥) → Lowest number rows

-- an answer of that kind: what was asked for, or its number alone
pub record Answers {A : Type 0} (number_of : A → ℕ) (rows : List Row) (refusal : ℕ → A) (asked given : A) : Type 0 where
  pub exactly : Exactly rows (number_of given)
  pub accepted : number_of given ≡ 0 → given ≡ asked
  pub refused : (number_of given ≡ 0 → ⊥) → given ≡ refusal (number_of given)

-- what a lent list holds afterwards, by that number: what is written on acceptance, or what it held before
pub record Leaves {A : Type 0} (number : ℕ) (before written after : List A) : Type 0 where
  pub accepted : number ≡ 0 → after ≡ written
  pub refused : (number ≡ 0 → ⊥) → after ≡ before
