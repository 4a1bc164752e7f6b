-- Lengths of a told frame: what is small fits. Assumes nothing.
use mathlib.Core.Path.{◌≡◌, sym, ap, ◌∙◌}
use Prim.Native.Nat.{ℕ, ◌+◌, ◌*◌, ◌/◌, ◌%◌, ◌<◌, ◌≤◌}
use native.Mathlib.Nat.{mod-lt, mul_assoc, mul_left_comm, mul-mod_right, mul-le-mul_left, mul-le-mul_right}
use native.Mathlib.Omega.{arith}
use borrow.Author.Tests.{le-leb}
use Rattle.bits.specs.Bits.{bytes_for}
use Rattle.parts.specs.Parts.{most_devices, part_of, multiplex, subframes, slice_fields, slice_bits}
use Rattle.parts.proofs.Laws.{usable}
use Rattle.parts.proofs.Rows.{fields-some, fields_le, field-wide, field-narrow, slice-whole}
use Rattle.frames.specs.Frames.{field_count, field_bits, slices_bits, frame_length, told_fields}
use Rattle.frames.specs.declared.told.Told.{Told}
use Rattle.frames.specs.declared.told.Tail.{Tail}

module _ (t : Told) where
  fields-small : (1 ≤ slice_fields (part_of t.part) t.command (multiplex t.configuration))
      × (slice_fields (part_of t.part) t.command (multiplex t.configuration) ≤ 48)
  fields-small = (
    fields-some (part_of t.part) (usable t.part) t.command (multiplex t.configuration),
    fields_le (part_of t.part) (usable t.part) t.command (multiplex t.configuration) (mod-lt t.configuration (omega arith)),
  )

  pub width-wide : 8 ≤ field_bits t
  width-wide = field-wide (part_of t.part) (usable t.part) t.command

  pub width_narrow : field_bits t ≤ 14
  width_narrow = field-narrow (part_of t.part) (usable t.part) t.command

  pub count_small : t.devices ≤ most_devices → field_count t ≤ most_devices * 48
  count_small h = omega (arith, mul-le-mul_left t.devices fields-small.1, mul-le-mul_right 48 h)

  pub count-some : 0 < t.devices → 0 < field_count t
  count-some h = omega (arith, mul-le-mul_left t.devices fields-small.0)

  pub bits_small : t.devices ≤ most_devices → slices_bits t ≤ most_devices * 48 * 14
  bits_small h = omega (arith, mul-le-mul_left (field_count t) width_narrow, mul-le-mul_right 14 (count_small h))

  pub bits-slices : t.devices * slice_bits (part_of t.part) t.command (multiplex t.configuration) ≡ slices_bits t
  bits-slices = sym (mul_assoc t.devices (slice_fields (part_of t.part) t.command (multiplex t.configuration)) (field_bits t))

  -- slices are whole bytes
  pub slices-whole : slices_bits t % 8 ≡ 0
  slices-whole =
      let s : ℕ = slice_bits (part_of t.part) t.command (multiplex t.configuration) in
      let whole : s ≡ 8 * (s / 8) = omega (arith, slice-whole (part_of t.part) t.command (multiplex t.configuration)) in
      ap (λ (n : ℕ). n % 8) (sym bits-slices ∙ ap (λ (n : ℕ). t.devices * n) whole ∙ mul_left_comm t.devices 8 (s / 8))
      ∙ mul-mod_right 8 (t.devices * (s / 8))

  -- a slice has no fewer bytes than fields
  pub bytes-more : field_count t ≤ bytes_for (slices_bits t)
  bytes-more = omega (arith, mul-le-mul_left (field_count t) width-wide)

  pub frame-room : (tail : Tail) → frame_length t tail ≡ 3 + bytes_for (slices_bits t) + bytes_for tail.length
  frame-room tail = omega (arith, slices-whole)

  -- a frame of the right length has all its bits
  pub frame-holds : (tail : Tail) (l : ℕ) → l ≡ frame_length t tail → (3 + field_count t ≤ l) × (24 + slices_bits t + tail.length ≤ 8 * l)
  frame-holds tail l e = (omega (arith, bytes-more, frame-room tail), omega arith)

-- ---- the fields of a told frame whose N is not over its limit
module _ (t : Told) (few : t.devices ≤ most_devices) where
  pub told_fields_few : told_fields t ≡ field_count t
  unfolding told_fields
  told_fields_few = rw (le-leb t.devices most_devices few)

-- subframes fit into a byte
pub subframes-small : (n g : ℕ) → subframes (part_of n) g < 256
subframes-small n g = omega (arith, (usable n).subframes g)
