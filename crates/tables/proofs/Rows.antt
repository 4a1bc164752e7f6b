-- The laws of a refusal, for any rows: what no row gives, and that the number given is the lowest that applies. Assumes nothing.
use mathlib.Core.Path.{◌≡◌, refl, sym, ap, ◌∙◌}
use mathlib.Core.Bool.{Bool, true, false, not, true≢false, ◌&&◌, cond}
use mathlib.Core.List.{List, [], ◌∷◌, ◌++◌}
use Prim.Native.Nat.{ℕ, ◌<◌}
use native.Mathlib.Omega.{arith}
use mathlib.Core.Logic.{inl, inr, ⊎_elim}
use lib.Dec.{ltb, eqb}
use borrow.Author.Tests.{ltb-true, eqb-true, eqb-false, eq-eqb, ne_eqb}
use Rattle.tables.proofs.Booleans.{and_left, and_right}
use Rattle.tables.specs.Refusals.{Row, ◌when◌, first, Applies, answer, content, Lowest, number_of}
use Rattle.tables.specs.declared.refusal.Refusal.{Refusal}
use Rattle.tables.specs.declared.refusal.Refusal.TheVariants as R

-- no row's test holds
abbrev pub Clear : List Row → Type 0
Clear [] = Unit {0}
Clear ((n when b) ∷ rows) = (b ≡ false) × Clear rows

-- no row has the number 0
abbrev pub positive : List Row → Bool
positive [] = true
positive ((n when b) ∷ rows) = ltb 0 n && positive rows

-- the numbers rise
abbrev pub above : ℕ → List Row → Bool
above m [] = true
above m ((n when b) ∷ rows) = ltb m n && above n rows

pub clear : (rows : List Row) → positive rows ≡ true → first rows ≡ 0 → Clear rows
clear [] p e = tt
clear ((n when true) ∷ rows) p e =
    let h : 0 < n = ltb-true 0 n (and_left (ltb 0 n) (positive rows) p) in
    absurd (omega arith)
clear ((n when false) ∷ rows) p e = (refl, clear rows (and_right (ltb 0 n) (positive rows) p) e)

pub none : (rows : List Row) → Clear rows → first rows ≡ 0
none [] c = refl
none ((n when true) ∷ rows) c = absurd (true≢false c.0)
none ((n when false) ∷ rows) c = none rows c.1

-- rows after rows
pub first-later : (xs bs : List Row) → Clear xs → first (xs ++ bs) ≡ first bs
first-later [] bs c = refl
first-later ((n when true) ∷ xs) bs c = absurd (true≢false c.0)
first-later ((n when false) ∷ xs) bs c = first-later xs bs c.1

pub first-sooner : (xs bs : List Row) → (first xs ≡ 0 → ⊥) → first (xs ++ bs) ≡ first xs
first-sooner [] bs h = absurd (h refl)
first-sooner ((n when true) ∷ xs) bs h = refl
first-sooner ((n when false) ∷ xs) bs h = first-sooner xs bs h

-- the same, as the code goes: n came from the rows xs, and m from those after them
pub sooner : {n : ℕ} (xs bs : List Row) → n ≡ first xs → (n ≡ 0 → ⊥) → n ≡ first (xs ++ bs)
sooner xs bs e h = e ∙ sym (first-sooner xs bs (λ z. h (e ∙ z)))

pub later : {n m : ℕ} (xs bs : List Row) → positive xs ≡ true → n ≡ first xs → n ≡ 0 → m ≡ first bs → m ≡ first (xs ++ bs)
later xs bs p e z f = f ∙ sym (first-later xs bs (clear xs p (sym e ∙ z)))

-- one row, by its test
pub yes : {b : Bool} (n k : ℕ) → b ≡ true → n ≡ cond b n k
yes {b} n k e = ap (λ (d : Bool). cond d n k) (sym e)

pub no : {b : Bool} {m k : ℕ} (n : ℕ) → b ≡ false → m ≡ k → m ≡ cond b n k
no {b} {m} {k} n e f = f ∙ ap (λ (d : Bool). cond d n k) (sym e)

pub differs : {r s x y : ℕ} → r ≡ x → s ≡ y → (r ≡ s → ⊥) → not (eqb x y) ≡ true
differs {r} {s} {x} {y} e f h = ap not (ne_eqb x y (λ z. h (e ∙ z ∙ sym f)))

pub agrees : {r s x y : ℕ} → r ≡ x → s ≡ y → r ≡ s → not (eqb x y) ≡ false
agrees {r} {s} {x} {y} e f h = ap not (eq-eqb x y (sym e ∙ h ∙ f))

-- an answer and a lent list, by the number that the code found
pub refused : {A : Type 0} {n m : ℕ} (f : ℕ → A) (a : A) → n ≡ m → (n ≡ 0 → ⊥) → f n ≡ answer m f a
refused {n = n} {m = m} f a e h = ap f e ∙ ap (λ (d : Bool). cond d a (f m)) (sym (ne_eqb m 0 (λ z. h (e ∙ z))))

pub accepted : {A : Type 0} {n m : ℕ} {a b : A} (f : ℕ → A) → n ≡ m → n ≡ 0 → a ≡ b → a ≡ answer m f b
accepted {n = n} {m = m} {b = b} f e z q = q ∙ ap (λ (d : Bool). cond d b (f m)) (sym (eq-eqb m 0 (sym e ∙ z)))

pub kept : {A : Type 0} {n m : ℕ} (before after : List A) → n ≡ m → (n ≡ 0 → ⊥) → before ≡ content m before after
kept {n = n} {m = m} before after e h = ap (λ (d : Bool). cond d after before) (sym (ne_eqb m 0 (λ z. h (e ∙ z))))

pub changed : {A : Type 0} {n m : ℕ} {now after : List A} (before : List A) → n ≡ m → n ≡ 0 → now ≡ after → now ≡ content m before after
changed {n = n} {m = m} {now = now} {after = after} before e z q = q ∙ ap (λ (d : Bool). cond d after before) (sym (eq-eqb m 0 (sym e ∙ z)))

-- ---- the number given is the lowest that applies

applies-above : (m : ℕ) (rows : List Row) → above m rows ≡ true → (k : ℕ) → Applies k rows → m < k
applies-above m [] a k h = absurd h
applies-above m ((n when b) ∷ rows) a k h =
    let l : m < n = ltb-true m n (and_left (ltb m n) (above n rows) a) in
    ⊎_elim (λ e. omega (arith, e.0)) (λ j. omega (arith, applies-above n rows (and_right (ltb m n) (above n rows) a) k j)) h

lowest-from : (m : ℕ) (rows : List Row) → above m rows ≡ true → (first rows ≡ 0 → ⊥) → Lowest (first rows) rows
lowest-from m [] a h = absurd (h refl)
lowest-from m ((n when true) ∷ rows) a h =
    record {
      applies = inl (refl, refl);
      least = λ k j. ⊎_elim (λ e. omega (arith, e.0)) (λ i. omega (arith, applies-above n rows (and_right (ltb m n) (above n rows) a) k i)) j;
    }
lowest-from m ((n when false) ∷ rows) a h =
    let r = lowest-from n rows (and_right (ltb m n) (above n rows) a) h in
    record { applies = inr r.applies; least = λ k j. ⊎_elim (λ e. absurd (true≢false (sym e.1))) (λ i. r.least k i) j }

pub lowest : (rows : List Row) → above 0 rows ≡ true → (first rows ≡ 0 → ⊥) → Lowest (first rows) rows
lowest rows a h = lowest-from 0 rows a h

pub none-applies : (rows : List Row) → positive rows ≡ true → first rows ≡ 0 → (k : ℕ) → Applies k rows → ⊥
none-applies rows p e k h = at rows (clear rows p e) h where
  at : (rs : List Row) → Clear rs → Applies k rs → ⊥
  at [] c j = j
  at ((n when b) ∷ rs) c j = ⊎_elim (λ d. true≢false (sym d.1 ∙ c.0)) (λ i. at rs c.1 i) j

pub none-given : (rows : List Row) → above 0 rows ≡ true → ((k : ℕ) → Applies k rows → ⊥) → first rows ≡ 0
none-given rows a h = at (eqb (first rows) 0) refl where
  at : (b : Bool) → eqb (first rows) 0 ≡ b → first rows ≡ 0
  at true e = eqb-true (first rows) 0 e
  at false e = absurd (h (first rows) (lowest rows a (eqb-false (first rows) 0 e)).applies)

-- 0 is no refusal's number
pub named : (r : Refusal) → number_of r ≡ 0 → ⊥
named R.UnknownPart e = absurd (omega (arith, e))
named R.WrongDeviceCount e = absurd (omega (arith, e))
named R.LongTail e = absurd (omega (arith, e))
named R.WrongLength e = absurd (omega (arith, e))
named R.NoRoom e = absurd (omega (arith, e))
named R.HighValue e = absurd (omega (arith, e))
named R.WrongSync e = absurd (omega (arith, e))
named R.WrongCommand e = absurd (omega (arith, e))
named R.WrongCount e = absurd (omega (arith, e))
named R.UnequalCopies e = absurd (omega (arith, e))
named R.UnusedBitSet e = absurd (omega (arith, e))
named R.WrongTail e = absurd (omega (arith, e))
named R.OutOfRange e = absurd (omega (arith, e))
