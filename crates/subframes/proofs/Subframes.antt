-- ON subframes, for any S and any level g below S. Each subframe adds g + 1, at most S, to what is divided by S, so a quotient rises by
-- one or not at all: it counts the ON subframes so far, and the ON count of a window is a difference of two quotients. The lead of a
-- window is then a difference of two remainders modulo S. Assumes nothing.
use mathlib.Core.Path.{◌≡◌, refl, sym, ap, ◌∙◌, subst}
use mathlib.Core.Bool.{Bool, true, false}
use Prim.Native.Nat.{ℕ, zero, suc, ◌+◌, ◌-◌, ◌*◌, ◌/◌, ◌%◌, ◌<◌, ◌≤◌}
use native.Mathlib.Nat.{mul-le-mul, add-zero, add-suc, zero-mul, suc-mul, add-mul, mul-add, mod-lt, div-mul-le_self, le-div_iff_mul-le, add-div_right, mul-div_cancel_left, zero-div, zero-add, div-add-mod}
use native.Mathlib.Numerals.{add-one}
use native.Mathlib.Omega.{arith}
use lib.Dec.{ltb}
use lib.IntN.{ℤ, pos, neg_ℤ, ◌-ℤ◌}
use lib.Signed.{◌<ℤ◌}
use borrow.Author.Tests.{ltb-true, ltb-false}
use Rattle.bits.specs.Bits.{digit}
use Rattle.parts.specs.Parts.{part_of, subframes}
use Rattle.parts.proofs.Laws.{usable}
use Rattle.subframes.specs.Subframes.{how_many_from, on_first, on, on_count, lead, level}
use Rattle.subframes.proofs.Signed.{sub-equal, sub-below}

div_mono : {m n : ℕ} (k : ℕ) → 0 < k → m ≤ n → m / k ≤ n / k
div_mono {m} {n} k h l = (le-div_iff_mul-le {k = k} {x = m / k} {y = n} h).1 (omega (arith, div-mul-le_self m k))

-- a test of a rise by one or none
digit-rise : (a b : ℕ) → a ≤ b → b ≤ a + 1 → a + digit (ltb a b) ≡ b
digit-rise a b h k = at (ltb a b) refl where
  at : (t : Bool) → ltb a b ≡ t → a + digit t ≡ b
  at true e = omega (arith, ltb-true a b e)
  at false e = omega (arith, ltb-false a b e)

digit-le : (t : Bool) → digit t ≤ 1
digit-le true = omega arith
digit-le false = omega arith

how_many_from-le : (f : ℕ → Bool) (from n : ℕ) → how_many_from f from n ≤ n
unfolding how_many_from
how_many_from-le f from zero = omega arith
how_many_from-le f from (suc n) = omega (arith, how_many_from-le f from n, digit-le (f (from + n)))

module _ (S g : ℕ) (h : g < S) where
  next : (s : ℕ) → (s + 1) * (g + 1) ≡ s * (g + 1) + (g + 1)
  next s = rw (add-one s, suc-mul)

  first-le : (s : ℕ) → on_first S g s ≤ on_first S g (s + 1)
  first-le s = div_mono S (omega arith) (omega (arith, next s))

  first-rise : (s : ℕ) → on_first S g (s + 1) ≤ on_first S g s + 1
  first-rise s = subst (λ (n : ℕ). on_first S g (s + 1) ≤ n) (add-div_right (s * (g + 1)) (omega arith)) (div_mono S (omega arith) (omega (arith, next s)))

  -- the quotient counts the ON subframes
  pub first_count : (from w : ℕ) → on_first S g from + on_count S g from w ≡ on_first S g (from + w)
  unfolding how_many_from
  first_count from zero = add-zero _ ∙ ap (on_first S g) (sym (add-zero from))
  first_count from (suc w) =
      let s : ℕ = from + w in
      omega (arith, first_count from w, digit-rise (on_first S g s) (on_first S g (s + 1)) (first-le s) (first-rise s), ap (on_first S g) (add-one s ∙ sym (add-suc from w)))

  -- the ON subframes of a window are not more than it has
  pub first-window : (from w : ℕ) → (on_first S g from ≤ on_first S g (from + w)) × (on_first S g (from + w) ≤ on_first S g from + w)
  first-window from w = omega (arith, first_count from w, how_many_from-le (on S g) from w)

  -- the ON count of a window is a difference of two quotients
  pub count-quotients : (from w : ℕ) → on_count S g from w ≡ on_first S g (from + w) - on_first S g from
  count-quotients from w = omega (arith, first_count from w)

  -- a frame has exactly g + 1 ON subframes
  pub count-frame : on_count S g 0 S ≡ g + 1
  count-frame =
      omega (arith, first_count 0 S, ap (λ (n : ℕ). n / S) (zero-mul (g + 1)) ∙ zero-div S, ap (on_first S g) (zero-add S) ∙ mul-div_cancel_left (g + 1) {n = S} (omega arith))

  -- the lead is a difference of two remainders
  pub lead-remainders : (from w : ℕ) → lead S g from w ≡ pos (from * (g + 1) % S) -ℤ pos ((from + w) * (g + 1) % S)
  lead-remainders from w =
      let a : ℕ = from * (g + 1) in
      let b : ℕ = (from + w) * (g + 1) in
      let n : ℕ = on_count S g from w in
      sub-equal (S * n) (w * (g + 1)) (a % S) (b % S)
      (omega (arith, div-add-mod a S, div-add-mod b S, add-mul from w (g + 1), mul-add S (a / S) n, ap (λ (k : ℕ). S * k) (first_count from w)))

  -- the lead of any window lies strictly between -S and S
  pub lead-below : (from w : ℕ) → (neg_ℤ (pos S) <ℤ lead S g from w) × (lead S g from w <ℤ pos S)
  lead-below from w =
      subst (λ (z : ℤ). (neg_ℤ (pos S) <ℤ z) × (z <ℤ pos S)) (sym (lead-remainders from w))
      (sub-below S (from * (g + 1) % S) ((from + w) * (g + 1) % S) (mod-lt _ (omega arith)) (mod-lt _ (omega arith)))

-- ---- of the parts

-- any byte is a level
pub level-lt : (part configuration global : ℕ) → level (part_of part) configuration global < subframes (part_of part) configuration
level-lt part configuration global = mod-lt global ((usable part).subframes configuration).0

-- what a window's products stay below
pub product_lt : {m n : ℕ} → m ≤ 128 → n ≤ 128 → m * n < 32768
product_lt h k = omega (arith, mul-le-mul h k)
