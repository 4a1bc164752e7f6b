-- A frame's fields read from its bytes, and bytes that pass the reader's tests put together again to the frame. Assumes nothing.
use mathlib.Core.Path.{◌≡◌, ap, ap₂, sym, ◌∙◌}
use mathlib.Core.Bool.{Bool, false}
use mathlib.Core.List.{List, ◌++◌, append_assoc}
use Prim.Native.Nat.{ℕ, ◌+◌, ◌*◌, ◌^◌, ◌<◌, ◌≤◌}
use native.Mathlib.Omega.{arith}
use lib.ListN.{length, get_or, take, drop, replicate, length-drop, take-append-drop}
use lib.Seq.{take-add, drop-drop}
use Rattle.bits.specs.Bits.{bits, number, fields, split}
use Rattle.bits.proofs.Laws as bit
use Rattle.parts.specs.Parts.{code}
use Rattle.parts.specs.Wire.{header, frame}
use Rattle.frames.specs.Frames.{field_count, field_bits, slices_bits, tail_bits, frame_bits, frame_of, frame_length, field}
use Rattle.frame_reader.specs.Reading.{held_fields}
use Rattle.frames.specs.declared.told.Told.{Told}
use Rattle.frames.specs.declared.told.Tail.{Tail}
use Rattle.frames.proofs.Lengths.{frame-holds}
use Rattle.frames.proofs.Pieces.{length-slices}
use Rattle.frame_laws.proofs.Packed as packed

-- ---- the fields of a written frame

module _ (t : Told) (tail : Tail) (vs : List ℕ) (len : length vs ≡ field_count t) where
  pub held-frame : ((i : ℕ) → get_or vs i 0 < 2 ^ field_bits t) → held_fields t (frame_of t tail vs) ≡ vs
  unfolding held_fields frame_of frame_bits
  held-frame below =
      let bs = fields (field_bits t) vs in
      let l = length-slices t tail vs len in
      ap (split (field_bits t) (field_count t)) (packed.packed-behind t.command 0 bs tail (slices_bits t) l)
      ∙ ap (λ (n : ℕ). split (field_bits t) n (bs ++ packed.rest t.command 0 bs tail (slices_bits t) l)) (sym len)
      ∙ bit.split-fields (field_bits t) vs (packed.rest t.command 0 bs tail (slices_bits t) l) below

-- ---- the other way: bytes whose pieces are those of a frame are the frame

pub rebuilt : (t : Told) (tail : Tail) (fr : List ℕ) → length fr ≡ frame_length t tail → ((i : ℕ) → get_or fr i 0 < 256)
    → field 0 8 (fields 8 fr) ≡ 0xE8 → field 8 6 (fields 8 fr) ≡ 21 * code t.command → field 14 10 (fields 8 fr) ≡ 0
    → number (drop (24 + slices_bits t + tail.length) (fields 8 fr)) ≡ 0
    → field (24 + slices_bits t) tail.length (fields 8 fr) ≡ tail.number
    → frame_of t tail (held_fields t fr) ≡ fr
unfolding frame_of frame_bits frame held_fields
rebuilt t tail fr long b sync pairs count unused ends =
    sym (bit.bytes-unique fr (frame_bits t tail (held_fields t fr)) (length zs) few b whole) where
      bs : List Bool
      bs = fields 8 fr

      n : ℕ
      n = slices_bits t

      zs : List Bool
      zs = drop (24 + n + tail.length) bs

      bytes : length bs ≡ length fr * 8
      bytes = bit.length_fields 8 fr

      room : 24 + n + tail.length ≤ length bs
      room = omega (arith, (frame-holds t tail (length fr) long).1, bytes)

      few : length zs < 8
      few = omega (arith, length-drop (24 + n + tail.length) bs, bytes, long)

      head : take 24 bs ≡ header t.command 0
      head =
          take-add 8 16 bs
          ∙ ap₂ (λ (x y : List Bool). x ++ y)
          (sym (packed.bits-field 0 8 bs (omega (arith, room))) ∙ ap (bits 8) sync)
          (take-add 6 10 (drop 8 bs)
          ∙ ap₂ (λ (x y : List Bool). x ++ y)
          (sym (packed.bits-field 8 6 bs (omega (arith, room))) ∙ ap (bits 6) pairs)
          (ap (take 10) (drop-drop 6 8 bs) ∙ sym (packed.bits-field 14 10 bs (omega (arith, room))) ∙ ap (bits 10) count))
          ∙ packed.header-fields t.command

      body : take n (drop 24 bs) ≡ fields (field_bits t) (held_fields t fr)
      body = sym (bit.fields_split (field_bits t) (field_count t) (drop 24 bs) (omega (arith, length-drop 24 bs, room)))

      last : take tail.length (drop (24 + n) bs) ≡ tail_bits tail
      last = sym (packed.bits-field (24 + n) tail.length bs room) ∙ ap (bits tail.length) ends

      whole : bs ≡ frame_bits t tail (held_fields t fr) ++ replicate (length zs) false
      whole =
          sym (take-append-drop (24 + n + tail.length) bs)
          ∙ ap₂ (λ (x y : List Bool). x ++ y)
          (take-add (24 + n) tail.length bs
          ∙ ap₂ (λ (x y : List Bool). x ++ y) (take-add 24 n bs ∙ ap₂ (λ (x y : List Bool). x ++ y) head body) last
          ∙ append_assoc (header t.command 0) (fields (field_bits t) (held_fields t fr)) (tail_bits tail))
          (packed.zeros zs unused)
