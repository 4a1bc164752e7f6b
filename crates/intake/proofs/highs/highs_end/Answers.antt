use mathlib.Core.Path.{sym, ◌∙◌}
use Rattle.intake.proofs.Clauses.{highs_passed}
use Rattle.intake.proofs.highs.highs_end.Goals as goal

pub returns : goal.returns
returns c =
    let ss = c.args.states.now in
    let a = c.high_blocks.ensures in
    let b = c.high_blocks-2.ensures in
    c.low_or_end.ensures ∙ sym (highs_passed ss c.args.from _ a.0 a.1 ∙ highs_passed ss _ _ b.0 b.1)
