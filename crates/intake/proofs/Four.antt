-- Four states at once, by their word under the mask. Assumes nothing.
use mathlib.Core.Path.{◌≡◌}
use Rattle.std.specs.Prelude.{Some, None}
use Prim.Native.Nat.{ℕ, ◌-◌, ◌*◌, ◌/◌, ◌%◌, ◌≤◌}
use native.Mathlib.Omega.{arith}
use lib.Bits.{bit_and}
use mir.Val.{Fits}
use mir.Syntax.{w8}
use Rattle.intake.specs.Words.{word_of, four_bits}
use Rattle.intake.proofs.Words.{Halves, halves-one, halves-word, four-high, four-other}

module _ (a b c d : ℕ) (la : Fits w8 a) (lb : Fits w8 b) (lc : Fits w8 c) (ld : Fits w8 d) where
  -- all four are high where the word under the mask says so
  high : bit_and (word_of a b c d) 0xfefefefe ≡ 0x02020202 → Halves a b c d
  high e = halves-one a b c d la.fits lb.fits lc.fits ld.fits e

  pub bits_high : bit_and (word_of a b c d) 0xfefefefe ≡ 0x02020202 → four_bits a b c d ≡ Some ((word_of a b c d - 0x02020202) * 0x08040201 / 0x1000000 % 16)
  bits_high e = four-high a b c d (high e)

  pub bits_other : (bit_and (word_of a b c d) 0xfefefefe ≡ 0x02020202 → ⊥) → four_bits a b c d ≡ None
  bits_other h = four-other a b c d (λ t. h (halves-word a b c d la.fits lb.fits lc.fits ld.fits t))

  pub word_least : bit_and (word_of a b c d) 0xfefefefe ≡ 0x02020202 → 0x02020202 ≤ word_of a b c d
  word_least e = let h = high e in omega (arith, h.first, h.second, h.third, h.fourth)
