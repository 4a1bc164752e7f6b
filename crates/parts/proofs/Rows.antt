-- What holds of any row that can be used, and of some rows that cannot: outputs, fields and limits are within what a record and a number of the
-- code have room for. By cases on the command. Assumes nothing.
use mathlib.Core.Path.{◌≡◌}
use Prim.Native.Nat.{ℕ, ◌+◌, ◌*◌, ◌/◌, ◌%◌, ◌<◌, ◌≤◌}
use native.Mathlib.Nat.{le_refl, le_trans, mul-pos, mul-le-mul, mul-le-mul_left, div-lt_iff_lt-mul}
use native.Mathlib.Omega.{arith}
use lib.Dec.{lit≤}
use lib.Pow.{pow_pos, pow_mono}
use Rattle.parts.specs.Parts.{Part, outputs, limit, field_width, field_limit, slice_fields, slice_bits, Usable}
use Rattle.parts.specs.declared.command.Command.{Command}
use Rattle.parts.specs.declared.command.Command.TheVariants.{Individual, Calibration, Global, Configuration}

-- ---- of any row

pub limit-pos : (p : Part) → 0 < limit p
limit-pos p = pow_pos p.width

pub field-limit-pos : (p : Part) (c : Command) → 0 < field_limit p c
field-limit-pos p c = pow_pos (field_width p c)

-- a slice is whole bytes
pub slice-whole : (p : Part) (c : Command) (m : ℕ) → slice_bits p c m % 8 ≡ 0
slice-whole p Individual m = omega arith
slice-whole p Calibration m = omega arith
slice-whole p Global m = omega arith
slice-whole p Configuration m = omega arith

-- no slice has more fields than two for each output
pub fields-used : (p : Part) (c : Command) (m : ℕ) → m < 2 → slice_fields p c m ≤ 2 * outputs p
fields-used p Individual m h =
    let two : 1 + m ≤ 2 = omega arith in
    omega (arith, mul-le-mul_left (outputs p) two)
fields-used p Calibration m h = omega arith
fields-used p Global m h = omega arith
fields-used p Configuration m h = omega arith

-- a bit of a slice is of one of its fields
pub field_of : (p : Part) (c : Command) (m t : ℕ) → 0 < field_width p c → t < slice_bits p c m → t / field_width p c < slice_fields p c m
field_of p c m t w h = (div-lt_iff_lt-mul w).1 h

-- ---- of one that can be used
module _ (p : Part) (u : Usable p) where
  pub outputs-le : outputs p ≤ 24
  outputs-le = omega (arith, u.few_banks)

  -- a field has 8 to 14 bits
  pub field-wide : (c : Command) → 8 ≤ field_width p c
  field-wide Individual = u.wide
  field-wide Calibration = lit≤ tt
  field-wide Global = lit≤ tt
  field-wide Configuration = lit≤ tt

  pub field-width-pos : (c : Command) → 0 < field_width p c
  field-width-pos c = le_trans (lit≤ tt) (field-wide c)

  pub field-narrow : (c : Command) → field_width p c ≤ 14
  field-narrow Individual = u.narrow
  field-narrow Calibration = lit≤ tt
  field-narrow Global = lit≤ tt
  field-narrow Configuration = lit≤ tt

  -- a slice has a field for each bank at least, and 48 at most
  pub fields-some : (c : Command) (m : ℕ) → 1 ≤ slice_fields p c m
  fields-some Individual m = mul-pos (omega (arith, u.some_bank)) (omega arith)
  fields-some Calibration m = u.some_bank
  fields-some Global m = u.some_bank
  fields-some Configuration m = u.some_bank

  pub fields_le : (c : Command) (m : ℕ) → m < 2 → slice_fields p c m ≤ 48
  fields_le Individual m h =
      let two : 1 + m ≤ 2 = omega arith in
      mul-le-mul outputs-le two
  fields_le Calibration m h = omega (arith, u.few_banks)
  fields_le Global m h = omega (arith, u.few_banks)
  fields_le Configuration m h = omega (arith, u.few_banks)

  -- a slice has 8 bits at least
  pub slice-bits-some : (c : Command) (m : ℕ) → 8 ≤ slice_bits p c m
  slice-bits-some c m = mul-le-mul (fields-some c m) (field-wide c)

  pub slice-bits-pos : (c : Command) (m : ℕ) → 0 < slice_bits p c m
  slice-bits-pos c m = le_trans (lit≤ tt) (slice-bits-some c m)

  -- a value has 256 values at least
  limit-wide : 256 ≤ limit p
  limit-wide = pow_mono u.wide

  -- a field is no wider than a value
  pub field-limit-le : (c : Command) → field_limit p c ≤ limit p
  field-limit-le Individual = le_refl (limit p)
  field-limit-le Calibration = limit-wide
  field-limit-le Global = limit-wide
  field-limit-le Configuration = limit-wide
