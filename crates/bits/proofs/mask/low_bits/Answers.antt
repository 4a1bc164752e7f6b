-- `1 << width` is 2 ^ width, so one less is a mask; a width of 64 or more leaves the number as it is. Assumes nothing.
use mathlib.Core.Path.{◌≡◌, sym, ap, ◌∙◌}
use Prim.Native.Nat.{ℕ, ◌*◌, ◌%◌, ◌^◌, ◌<◌}
use native.Mathlib.Nat.{one-mul, mod-eq_of_lt, lt_of_lt_of_le}
use native.Mathlib.Omega.{arith}
use lib.Bits.{and_mask}
use lib.Pow.{pow-lt, pow_mono}
use Rattle.bits.proofs.mask.low_bits.Goals as goal

one_shl : (w : ℕ) → w < 64 → (1 * 2 ^ w) % 2 ^ 64 ≡ 2 ^ w
one_shl w h = ap (λ (n : ℕ). n % 2 ^ 64) (one-mul (2 ^ w)) ∙ mod-eq_of_lt (pow-lt h)

pub returns-then-width-ge64 : goal.returns-then-width-ge64
returns-then-width-ge64 c = let a = c.args in
    let small : a.value < 2 ^ 64 = omega arith in
    sym (mod-eq_of_lt (lt_of_lt_of_le small (pow_mono c.if-width-ge64.true)))

pub returns : goal.returns
returns c = let a = c.args in rw (one_shl a.width (omega arith)) (and_mask a.value a.width)
