use Rattle.std.proofs.Common.{rules, sym, ◌∙◌}
use Rattle.intake.proofs.Passing.{behind_block}
use Rattle.intake.proofs.Words.{filled-next-four}
use Rattle.intake.proofs.field.fill.Goals as goal

pub loop-four-preserved : goal.loop-four-preserved
loop-four-preserved c =
    let v = c.loop-four.invariant in
    let s = c.in-Some.ensures.steps in
    let ahead = sym v.1 ∙ s.1.0 in
    let four = s.1.1 ∙ v.0 in
    let next = filled-next-four c.loop-four.value c.args.end c.args.states.now _ _ c.loop-four.at c.in-Some-four_bits.bits ahead four v.2 (search rules)
    (sym c.four_bits.ensures.bits ∙ c.in-Some-four_bits.is) in (
      s.0 ∙ v.0,
      behind_block _ _ _ c.loop-four.at 4 ahead four,
      next.0,
      search rules,
      rw c.from.ensures (v.4 ∙ next.1),
    )
