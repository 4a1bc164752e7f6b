use Rattle.std.proofs.Common.{rules, ℕ, ◌<◌, sym, ◌∙◌, subst}
use Rattle.intake.proofs.Passing.{behind_block, behind_all}
use Rattle.intake.proofs.blocks.blocks_end.Goals as goal

pub loop-block-preserved : goal.loop-block-preserved
loop-block-preserved g c =
    let v = c.loop-block.invariant in
    let s = c.in-Some.ensures.steps in
    let block = c.in-Some.block.now in
    let rest = sym v.1 ∙ s.1.0 in
    let long = s.1.1 ∙ v.0 in (
      s.0 ∙ v.0,
      behind_block c.args.states.now block _ c.loop-block.end g.row.SIZE rest long,
      search rules,
      behind_all c.args.states.now block _ c.loop-block.end g.row.SIZE rest long g.K.Kind.IsOf c.args.from v.3
          (λ k h. c.has_all.ensures c.if-not-has_all.false k (subst (λ (m : ℕ). k < m) (sym long) h)),
    )
