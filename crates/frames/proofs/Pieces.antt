-- The pieces of a frame, and the frame put together. Header and slices are whole bytes, so the frame's bytes are those of its pieces one
-- after the other; what stands behind a piece in its last byte is that byte's unused bits. Assumes nothing.
use mathlib.Core.Path.{◌≡◌, refl, ap, ap₂, ◌∙◌}
use mathlib.Core.List.{List, ◌++◌}
use Prim.Native.Nat.{ℕ, ◌+◌, ◌*◌, ◌-◌, ◌%◌}
use native.Mathlib.Omega.{arith}
use lib.ListN.{length, take, drop, length-append, length-drop}
use lib.Seq.{take_all}
use Rattle.bits.specs.Bits.{bits, number, fields, bytes_of, bytes_for}
use Rattle.bits.proofs.Laws as bit
use Rattle.parts.specs.Wire.{command_count, header, frame}
use Rattle.parts.specs.declared.command.Command.{Command}
use Rattle.frames.specs.Frames.{field_count, field_bits, slices_bits, tail_bits, frame_bits, frame_of, frame_length}
use Rattle.frames.specs.declared.told.Told.{Told}
use Rattle.frames.specs.declared.told.Tail.{Tail}
use Rattle.frames.proofs.Lengths.{slices-whole}

-- ---- the header

pub length-header : (c : Command) (n : ℕ) → length (header c n) ≡ 24
unfolding header command_count bits
length-header c n = refl

-- ---- the frame's length

module _ (t : Told) (tail : Tail) (vs : List ℕ) (len : length vs ≡ field_count t) where
  pub length-slices : length (fields (field_bits t) vs) ≡ slices_bits t
  length-slices = bit.length_fields (field_bits t) vs ∙ ap (λ (n : ℕ). n * field_bits t) len

  pub length-frame_bits : length (frame_bits t tail vs) ≡ 24 + slices_bits t + tail.length
  unfolding frame_bits frame
  length-frame_bits =
      length-append (header t.command 0) (fields (field_bits t) vs ++ tail_bits tail)
      ∙ ap₂ (λ (x y : ℕ). x + y) (length-header t.command 0)
      (length-append (fields (field_bits t) vs) (tail_bits tail) ∙ ap₂ (λ (x y : ℕ). x + y) length-slices (bit.length-bits tail.length tail.number))
      ∙ regroup (slices_bits t) tail.length
    where
      regroup : (a b : ℕ) → 24 + (a + b) ≡ 24 + a + b
      regroup a b = omega arith

  pub length-frame_of : length (frame_of t tail vs) ≡ frame_length t tail
  unfolding frame_of
  length-frame_of = bit.length-bytes_of (frame_bits t tail vs) ∙ ap bytes_for length-frame_bits

  -- its bytes, piece by piece
  pub frame-pieces : frame_of t tail vs ≡ bytes_of (header t.command 0) ++ (bytes_of (fields (field_bits t) vs) ++ bytes_of (tail_bits tail))
  unfolding frame_of frame_bits frame
  frame-pieces =
      bit.bytes_of-append (header t.command 0) (fields (field_bits t) vs ++ tail_bits tail) (ap (λ (n : ℕ). n % 8) (length-header t.command 0))
      ∙ ap (λ (z : List ℕ). bytes_of (header t.command 0) ++ z)
      (bit.bytes_of-append (fields (field_bits t) vs) (tail_bits tail) (ap (λ (n : ℕ). n % 8) length-slices ∙ slices-whole t))

-- ---- the end

-- what stands behind the bit `end` is the unused bits of the last byte
pub rest_all : (end : ℕ) (frame : List ℕ) → length frame ≡ bytes_for end
    → number (take ((8 - end % 8) % 8) (drop end (fields 8 frame))) ≡ number (drop end (fields 8 frame))
rest_all end frame h =
    ap number (take_all ((8 - end % 8) % 8) (drop end (fields 8 frame)) (omega (arith, length-drop end (fields 8 frame), bit.length_fields 8 frame)))
