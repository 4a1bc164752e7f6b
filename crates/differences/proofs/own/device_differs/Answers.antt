-- By the tests of the four groups, each as it came out. Assumes nothing.
use Rattle.std.proofs.Common.{◌≡◌, rules}
use borrow.Author.Tests.{lt-ltb, le-ltb, eq-eqb, ne_eqb}
use Rattle.differences.proofs.Groups.{found_by}
use Rattle.differences.proofs.own.device_differs.Goals as goal

pub returns-then-configuration-device : goal.returns-then-configuration-device
returns-then-configuration-device c = rw (found_by, c.differs.ensures, ne_eqb _ _ c.if-configuration-device.true)

pub returns-then-byte-calibration : goal.returns-then-byte-calibration
returns-then-byte-calibration c =
    let byte = c.bank_difference-byte.ensures.0 in
    rw (found_by, c.differs-then-byte-calibration.ensures, byte, eq-eqb _ _ c.if-configuration-device.false, lt-ltb _ _ (rw byte at c.if-byte-calibration.true))

pub returns-then-global-device : goal.returns-then-global-device
returns-then-global-device c =
    let byte = c.bank_difference-byte.ensures.0 in
    let other : c.args.global ≡ c.args.device.now.registers.active → ⊥ = search rules in
    rw (
      found_by,
      c.differs-then-global-device.ensures,
      eq-eqb _ _ c.if-configuration-device.false,
      le-ltb _ _ (rw byte at c.if-byte-calibration.false),
      ne_eqb _ _ other,
    )

pub returns-then-value-individual : goal.returns-then-value-individual
returns-then-value-individual c =
    let byte = c.bank_difference-byte.ensures.0 in
    let value = c.active_difference-value.ensures.0 in
    rw (
      found_by,
      c.differs-then-value-individual.ensures,
      value,
      eq-eqb _ _ c.if-configuration-device.false,
      le-ltb _ _ (rw byte at c.if-byte-calibration.false),
      eq-eqb _ _ c.if-global-device.false,
      lt-ltb _ _ (rw value at c.if-value-individual.true),
    )

pub returns : goal.returns
returns c =
    let byte = c.bank_difference-byte.ensures.0 in
    let value = c.active_difference-value.ensures.0 in
    rw (
      found_by,
      c.differs-2.ensures,
      eq-eqb _ _ c.if-configuration-device.false,
      le-ltb _ _ (rw byte at c.if-byte-calibration.false),
      eq-eqb _ _ c.if-global-device.false,
      le-ltb _ _ (rw value at c.if-value-individual.false),
    )
