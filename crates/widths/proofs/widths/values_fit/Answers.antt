use mathlib.Core.Path.{◌≡◌, sym, ◌∙◌}
use lib.Dec.{ltb}
use borrow.Author.Tests.{lt-ltb, le-ltb}
use Rattle.parts.specs.Parts.{part_of, limit}
use Rattle.widths.specs.Widths.{values_below}
use Rattle.widths.proofs.Together.{fit-by-bits}
use Rattle.widths.proofs.widths.values_fit.Goals as goal

pub returns-then-bits_from-value_limit : goal.returns-then-bits_from-value_limit
returns-then-bits_from-value_limit c = let r = c.args.registers in
    let bits : ltb c.bits_from.result c.value_limit.result ≡ values_below r 0 (limit (part_of r.part)) =
    rw (c.bits_from.ensures, c.value_limit.ensures) (fit-by-bits r 0 (part_of r.part).width) in
    rw (sym bits ∙ lt-ltb _ _ c.if-bits_from-value_limit.true) c.is_unused_zero.ensures

pub returns-else-bits_from-value_limit : goal.returns-else-bits_from-value_limit
returns-else-bits_from-value_limit c = let r = c.args.registers in
    let bits : ltb c.bits_from.result c.value_limit.result ≡ values_below r 0 (limit (part_of r.part)) =
    rw (c.bits_from.ensures, c.value_limit.ensures) (fit-by-bits r 0 (part_of r.part).width) in
    rw (sym bits ∙ le-ltb _ _ c.if-bits_from-value_limit.false) (le-ltb _ _ c.if-bits_from-value_limit.false)
