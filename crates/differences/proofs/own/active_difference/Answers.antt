-- By the set's multiplex bit. To compare as many values as are in use is to compare all of them with what is in use. Assumes nothing.
use Rattle.std.proofs.Common.{rules}
use borrow.Author.Tests.{eq-eqb, ne_eqb}
use Rattle.parts.specs.Parts.{part_of, outputs}
use Rattle.differences.proofs.Differs.{differs-by, turns-within}
use Rattle.differences.proofs.own.active_difference.Goals as goal

pub returns-then-configuration-eq0 : goal.returns-then-configuration-eq0
returns-then-configuration-eq0 c =
    (rw (c.first_difference.ensures.value, differs-by, c.outputs_of-outputs.ensures, eq-eqb _ _ c.if-configuration-eq0.true), search rules)

pub returns : goal.returns
returns c =
    let a = c.args in
    let r = a.device.now.registers in (
      rw (c.turns_difference.ensures.0, c.min-in_use.ensures, c.outputs_of-outputs.ensures, ne_eqb _ _ c.if-configuration-eq0.false)
          (turns-within (outputs (part_of r.part)) a.values.now r.active0 r.active1),
      search rules,
    )
