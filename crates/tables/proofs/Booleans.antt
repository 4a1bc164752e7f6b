-- The laws of Bool's &&, || and cond, by cases on the first test. Every crate's proofs cite them from here; those of `not` and of the
-- comparisons of numbers are the library's (borrow.Author.Tests). Assumes nothing.
use mathlib.Core.Path.{◌≡◌, refl, sym, ap, ◌∙◌}
use mathlib.Core.Bool.{Bool, true, false, true≢false, ◌&&◌, ◌||◌, cond}

-- ---- &&

pub and_left : (a b : Bool) → (a && b) ≡ true → a ≡ true
and_left true b e = refl
and_left false b e = absurd (true≢false (sym e))

pub and_right : (a b : Bool) → (a && b) ≡ true → b ≡ true
and_right true b e = e
and_right false b e = absurd (true≢false (sym e))

pub and_both : (a b : Bool) → (a && b) ≡ true → (a ≡ true) × (b ≡ true)
and_both a b e = (and_left a b e, and_right a b e)

pub both-and : (a b : Bool) → a ≡ true → b ≡ true → (a && b) ≡ true
both-and a b p q = rw (p, q)

pub and-false : (b : Bool) → (b && false) ≡ false
and-false true = refl
and-false false = refl

pub and-true : (b : Bool) → (b && true) ≡ b
and-true true = refl
and-true false = refl

pub and_assoc : (a b c : Bool) → ((a && b) && c) ≡ (a && (b && c))
and_assoc true b c = refl
and_assoc false b c = refl

-- ---- ||

pub or-first : {a : Bool} (b : Bool) → a ≡ true → (a || b) ≡ true
or-first b e = ap (λ (d : Bool). d || b) e

pub or-second : {a b x : Bool} → a ≡ false → b ≡ x → (a || b) ≡ x
or-second {a} {b} e f = ap (λ (d : Bool). d || b) e ∙ f

pub or-none : (a b : Bool) → (a || b) ≡ false → (a ≡ false) × (b ≡ false)
or-none true b e = absurd (true≢false e)
or-none false b e = (refl, e)

pub or-false : (b : Bool) → b ≡ (b || false)
or-false true = refl
or-false false = refl

-- ---- cond

-- what holds of both ways of a test holds of what it chooses
pub cond_both : {A : Type 0} (P : A → Type 0) (t : Bool) (a b : A) → (t ≡ true → P a) → (t ≡ false → P b) → P (cond t a b)
cond_both P true a b p q = p refl
cond_both P false a b p q = q refl

-- one test after another
pub cond-and : {A : Type 0} (a b : Bool) (x y : A) → cond a (cond b x y) y ≡ cond (a && b) x y
cond-and true b x y = refl
cond-and false b x y = refl
