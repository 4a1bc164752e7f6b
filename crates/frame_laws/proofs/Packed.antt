-- Header, slices and tail packed into bytes, taken apart again: what the readers' tests find in them. The header computes; behind it the
-- bits are cut at known lengths. For any count and any slices, so for frames and for returns. Assumes nothing.
use mathlib.Core.Path.{◌≡◌, refl, ap, sym, ◌∙◌}
use mathlib.Core.Bool.{Bool, false}
use mathlib.Core.List.{List, ◌++◌, append_assoc}
use Prim.Native.Nat.{ℕ, ◌+◌, ◌-◌, ◌*◌, ◌%◌, ◌^◌, ◌<◌, ◌≤◌}
use native.Mathlib.Nat.{mod-eq_of_lt}
use native.Mathlib.Omega.{arith}
use lib.Pow.{pow_pos}
use lib.ListN.{length, take, drop, replicate, length-append, length-drop}
use lib.Seq.{take_at, drop_at, drop-drop, length-take-le}
use Rattle.bits.specs.Bits.{bits, number, fields, padded, bytes_of, bytes_for}
use Rattle.bits.proofs.Laws as bit
use Rattle.parts.specs.Parts.{code}
use Rattle.parts.specs.Wire.{header, command_count, frame}
use Rattle.parts.specs.declared.command.Command.{Command}
use Rattle.parts.specs.declared.command.Command.TheVariants.{Individual, Calibration, Global, Configuration}
use Rattle.frames.specs.Frames.{field, tail_bits}
use Rattle.frames.specs.declared.told.Tail.{Tail}
use Rattle.frames.proofs.Pieces.{length-header}

-- ---- the header, with anything behind it

module _ (n : ℕ) (bs : List Bool) where
  header-sync : (c : Command) → field 0 8 (header c n ++ bs) ≡ 0xE8
  unfolding header command_count bits number
  header-sync c = refl

  header-pairs : (c : Command) → field 8 6 (header c n ++ bs) ≡ 21 * code c
  unfolding header command_count bits number
  header-pairs Individual = refl
  header-pairs Calibration = refl
  header-pairs Global = refl
  header-pairs Configuration = refl

  header-count : (c : Command) → take 10 (drop 14 (header c n ++ bs)) ≡ bits 10 n
  unfolding header command_count bits
  header-count c = refl

  header-rest : (c : Command) → drop 24 (header c n ++ bs) ≡ bs
  unfolding header command_count bits
  header-rest c = refl

pub header-fields : (c : Command) → bits 8 0xE8 ++ (bits 6 (21 * code c) ++ bits 10 0) ≡ header c 0
unfolding header command_count bits
header-fields Individual = refl
header-fields Calibration = refl
header-fields Global = refl
header-fields Configuration = refl

-- ---- bits and the numbers they say

-- k bits from the bit `at` on are those of the number they say
pub bits-field : (at k : ℕ) (bs : List Bool) → at + k ≤ length bs → bits k (field at k bs) ≡ take k (drop at bs)
bits-field at k bs h =
    let n : length (take k (drop at bs)) ≡ k = length-take-le k (drop at bs) (omega (arith, length-drop at bs)) in
    ap (λ (j : ℕ). bits j (field at k bs)) (sym n) ∙ bit.bits-number (take k (drop at bs))

pub zeros : (bs : List Bool) → number bs ≡ 0 → bs ≡ replicate (length bs) false
zeros bs e = sym (bit.bits-number bs) ∙ ap (bits (length bs)) e ∙ bit.bits-zero (length bs)

number-zeros : (n : ℕ) → number (replicate n false) ≡ 0
number-zeros n = ap number (sym (bit.bits-zero n)) ∙ bit.number-bits n 0 ∙ mod-eq_of_lt (pow_pos n)

-- ---- a frame or a return

module _ (c : Command) (n : ℕ) (slices : List Bool) (tail : Tail) (m : ℕ) (len : length slices ≡ m) where
  abbrev sent : List Bool
  sent = frame c n slices (tail_bits tail)

  abbrev pad : ℕ
  pad = (8 - length sent % 8) % 8

  abbrev pub rest : List Bool
  rest = tail_bits tail ++ replicate pad false

  -- the bits of its bytes
  abbrev said : List Bool
  said = fields 8 (bytes_of sent)

  pub packed-long : length (bytes_of sent) ≡ bytes_for (24 + m + tail.length)
  unfolding frame
  packed-long =
      let e : length sent ≡ 24 + m + tail.length =
      omega (arith, length-append (header c n) (slices ++ tail_bits tail), length-header c n, length-append slices (tail_bits tail), len, bit.length-bits tail.length tail.number) in
      bit.length-bytes_of sent ∙ ap bytes_for e

  packed_said : said ≡ header c n ++ (slices ++ rest)
  unfolding frame padded
  packed_said =
      bit.bits_of_bytes sent
      ∙ append_assoc (header c n) (slices ++ tail_bits tail) (replicate pad false)
      ∙ ap (λ (z : List Bool). header c n ++ z) (append_assoc slices (tail_bits tail) (replicate pad false))

  pub packed-sync : field 0 8 said ≡ 0xE8
  packed-sync = ap (field 0 8) packed_said ∙ header-sync n (slices ++ rest) c

  pub packed-pairs : field 8 6 said ≡ 21 * code c
  packed-pairs = ap (field 8 6) packed_said ∙ header-pairs n (slices ++ rest) c

  pub packed-count : n < 1024 → field 14 10 said ≡ n
  packed-count h =
      ap (field 14 10) packed_said ∙ ap number (header-count n (slices ++ rest) c) ∙ bit.number-bits 10 n ∙ mod-eq_of_lt h

  pub packed-behind : drop 24 said ≡ slices ++ rest
  packed-behind = ap (drop 24) packed_said ∙ header-rest n (slices ++ rest) c

  packed-end : drop (24 + m) said ≡ rest
  packed-end = sym (drop-drop m 24 said) ∙ ap (drop m) packed-behind ∙ drop_at slices rest m len

  pub packed-tail : tail.number < 2 ^ tail.length → field (24 + m) tail.length said ≡ tail.number
  packed-tail h =
      ap (λ (z : List Bool). number (take tail.length z)) packed-end
      ∙ ap number (take_at (tail_bits tail) (replicate pad false) tail.length (bit.length-bits tail.length tail.number))
      ∙ bit.number-bits tail.length tail.number ∙ mod-eq_of_lt h

  pub packed-unused : number (drop (24 + m + tail.length) said) ≡ 0
  packed-unused =
      ap number (sym (drop-drop tail.length (24 + m) said) ∙ ap (drop tail.length) packed-end
      ∙ drop_at (tail_bits tail) (replicate pad false) tail.length (bit.length-bits tail.length tail.number))
      ∙ number-zeros pad
