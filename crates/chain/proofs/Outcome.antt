-- What the outcome of a run says of its refusal: a refused one has its number, an accepted one none and where it begins. Assumes nothing.
use Rattle.std.proofs.Common.{◌≡◌, ◌∙◌, ℕ, Bool, true, false, refl, sym, ap, cond, eqb}
use Rattle.std.specs.Prelude.{Result, Ok, Err, IsErrAnd}
use Rattle.tables.specs.declared.refusal.Refusal.{Refusal}
use borrow.Author.Tests.{eqb-true, eq-eqb}
use Rattle.tables.specs.Refusals.{answer, number_of, numbered}
use Rattle.cursor.specs.Answer.{answered, ran}
use Rattle.cursor.specs.declared.entry.Ran.{Ran}

pub number-of-refused : {A : Type 0} (m n : ℕ) (a : A) → ◌≡◌ {A = Result A ℕ} (Err m) (answer n Err (Ok a)) → m ≡ n
number-of-refused {A} m n a e = go (eqb n 0) e
  where
    go : (t : Bool) → ◌≡◌ {A = Result A ℕ} (Err m) (cond t (Ok a) (Err n)) → m ≡ n
    go true e = cc
    go false e = cc

pub accepted-none : {A : Type 0} (n : ℕ) (a b : A) → ◌≡◌ {A = Result A ℕ} (Ok b) (answer n Err (Ok a)) → n ≡ 0
accepted-none {A} n a b e = go (eqb n 0) refl e
  where
    go : (t : Bool) → eqb n 0 ≡ t → ◌≡◌ {A = Result A ℕ} (Ok b) (cond t (Ok a) (Err n)) → n ≡ 0
    go true f e = eqb-true n 0 f
    go false f e = cc

pub accepted-is : {A : Type 0} (n : ℕ) (a b : A) → ◌≡◌ {A = Result A ℕ} (Ok b) (answer n Err (Ok a)) → b ≡ a
accepted-is {A} n a b e = go (eqb n 0) e
  where
    go : (t : Bool) → ◌≡◌ {A = Result A ℕ} (Ok b) (cond t (Ok a) (Err n)) → b ≡ a
    go true e = cc
    go false e = cc

-- the answer by both numbers
pub answered-ran : (n k : ℕ) → answered (answer n Err (Ok k)) ≡ ran n k
answered-ran n k = go (eqb n 0) refl
  where
    go : (t : Bool) → eqb n 0 ≡ t → answered (cond t (Ok k) (Err n)) ≡ record { returned = cond t k 0; refusal = n }
    go true e = ap (λ (m : ℕ). record { returned = k; refusal = m }) (sym (eqb-true n 0 e))
    go false e = refl

pub written-is : (n w k : ℕ) → n ≡ 0 → ran n w ≡ ran n k → w ≡ k
written-is n w k z e = rw (eq-eqb n 0 z) at (ap (λ (r : Ran). r.returned) e)

-- a refusal that is handed on
pub handed-on : (x : Result ℕ Refusal) (r : Refusal) (out : Result ℕ ℕ) → IsErrAnd x (λ y. y ≡ r) → ◌≡◌ {A = Result ℕ ℕ} (Err (number_of r)) out
    → numbered x ≡ out
handed-on (Ok n) r out h e = absurd h
handed-on (Err y) r out h e = ap (λ (z : Refusal). numbered {A = ℕ} (Err z)) h ∙ e
