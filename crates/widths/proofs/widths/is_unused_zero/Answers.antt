use Prim.Native.Nat.{ℕ, ◌≤◌}
use mathlib.Core.Path.{◌≡◌, ap, sym, ◌∙◌}
use native.Mathlib.Omega.{arith}
use lib.Dec.{ltb}
use lib.ListN.{length}
use borrow.Author.Tests.{lt-ltb, le-ltb}
use Rattle.parts.specs.Parts.{part_of, outputs, constants_of}
use Rattle.widths.specs.Widths.{values_below}
use Rattle.parts.specs.declared.part.Constants.{Constants}
use Rattle.parts.proofs.Laws.{usable}
use Rattle.widths.proofs.Together.{take_rest, fit-by-bits}
use borrow.Author.Rules.{rules}
use Rattle.widths.proofs.widths.is_unused_zero.Goals as goal

few : (part : ℕ) (k : Constants) → k ≡ constants_of (part_of part) → k.banks ≤ 3
few part k e = omega (arith, ap (λ (k : Constants). k.banks) e, (usable part).few_banks)

pub bits_from-requires : goal.bits_from-requires
bits_from-requires c = omega (arith, few c.args.registers.part _ c.constants_of-banks.ensures)

pub slice_bounds-bytes_below-count : goal.slice_bounds-bytes_below-count
slice_bounds-bytes_below-count c = few c.args.registers.part _ c.constants_of-banks.ensures

pub returns-then-bits_from-lt1 : goal.returns-then-bits_from-lt1
returns-then-bits_from-lt1 c = let r = c.args.registers in
    let long : length r.calibration ≡ 3 = search rules in
    let bits : ltb c.bits_from.result 1 ≡ values_below r (outputs (part_of r.part)) 1 =
    rw (c.bits_from.ensures, c.constants_of-banks.ensures) (fit-by-bits r (outputs (part_of r.part)) 0) in
    rw (
      c.bytes_below.ensures,
      sym bits ∙ lt-ltb _ _ c.if-bits_from-lt1.true,
      take_rest 3 c.constants_of-banks.result.banks r.calibration long,
      c.constants_of-banks.ensures,
    )

pub returns-else-bits_from-lt1 : goal.returns-else-bits_from-lt1
returns-else-bits_from-lt1 c = let r = c.args.registers in
    let bits : ltb c.bits_from.result 1 ≡ values_below r (outputs (part_of r.part)) 1 =
    rw (c.bits_from.ensures, c.constants_of-banks.ensures) (fit-by-bits r (outputs (part_of r.part)) 0) in
    rw (sym bits ∙ le-ltb _ _ c.if-bits_from-lt1.false) (le-ltb _ _ c.if-bits_from-lt1.false)
