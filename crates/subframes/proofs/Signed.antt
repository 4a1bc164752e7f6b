-- Differences of two natural numbers as integers: when two of them are equal, and their bounds. By cases on which number is larger.
-- Assumes nothing.
use mathlib.Core.Path.{◌≡◌, refl, sym, ap, ◌∙◌, subst}
use mathlib.Core.Bool.{Bool, true, false, cond}
use Prim.Native.Nat.{ℕ, zero, suc, ◌+◌, ◌-◌, ◌<◌, ◌≤◌}
use native.Mathlib.Nat.{add-zero, sub-zero}
use native.Mathlib.Omega.{arith}
use lib.Dec.{ltb, lt→ltb}
use lib.IntN.{ℤ, pos, negsuc, neg_ℤ, sub_ℕ, ◌-ℤ◌}
use lib.Signed.{◌<ℤ◌, lt_z_yes}
use borrow.Author.Tests.{ltb-true, ltb-false, le-ltb}

pub sub-pos : (a b : ℕ) → pos a -ℤ pos b ≡ sub_ℕ a b
sub-pos a zero = ap pos (add-zero a ∙ sym (sub-zero a)) ∙ ap (λ (t : Bool). cond t (negsuc (0 - suc a)) (pos (a - 0))) (sym (le-ltb a 0 (omega arith)))
sub-pos a (suc b) = refl

-- a law of differences, from its two cases
pub each-sub : (P : ℤ → Type 0) (a b : ℕ) → (a < b → P (negsuc (b - suc a))) → (b ≤ a → P (pos (a - b))) → P (pos a -ℤ pos b)
each-sub P a b less more = subst P (sym (sub-pos a b)) (at (ltb a b) refl) where
  at : (t : Bool) → ltb a b ≡ t → P (cond t (negsuc (b - suc a)) (pos (a - b)))
  at true e = less (ltb-true a b e)
  at false e = more (ltb-false a b e)

pub sub-equal : (a b c d : ℕ) → a + d ≡ c + b → pos a -ℤ pos b ≡ pos c -ℤ pos d
sub-equal a b c d e =
    each-sub (λ z. z ≡ pos c -ℤ pos d) a b
    (λ h. each-sub (λ z. negsuc (b - suc a) ≡ z) c d (λ k. ap negsuc (omega arith)) (λ k. absurd (omega arith)))
    (λ h. each-sub (λ z. pos (a - b) ≡ z) c d (λ k. absurd (omega arith)) (λ k. ap pos (omega arith)))

-- a difference of two numbers below n lies strictly between -n and n
pub sub-below : (n a b : ℕ) → a < n → b < n → (neg_ℤ (pos n) <ℤ (pos a -ℤ pos b)) × ((pos a -ℤ pos b) <ℤ pos n)
sub-below zero a b h k = absurd (omega arith)
sub-below (suc n) a b h k =
    each-sub (λ z. (negsuc n <ℤ z) × (z <ℤ pos (suc n))) a b
    (λ l. (lt_z_yes (lt→ltb (b - suc a) n (omega arith)), lt_z_yes tt))
    (λ l. (lt_z_yes tt, lt_z_yes (lt→ltb (a - b) (suc n) (omega arith))))
