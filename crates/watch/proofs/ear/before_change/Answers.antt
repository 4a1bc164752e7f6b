use Rattle.std.proofs.Common.{arith}
use Rattle.watch.proofs.Changes.{passed-more, next-by-count}
use Rattle.watch.proofs.ear.before_change.Goals as goal

pub returns-in-Some-clause-value : goal.returns-in-Some-clause-value
returns-in-Some-clause-value c = let a = c.args in
    let s = c.in-Some in
    let parts = s.ensures.cases in omega (
      arith,
      passed-more a.level a.states.now s.block.now s.behind.now 64 0 (omega (arith, parts.2)) parts.0 parts.1 (c.stays.ensures c.if-stays.true 0),
      next-by-count a.level s.behind.now 64,
      next-by-count a.level s.behind.now 0,
      c.before_change_by_blocks.ensures.value,
    )

pub returns-in_default-clause-value : goal.returns-in_default-clause-value
returns-in_default-clause-value c = omega (arith, c.count_at.ensures.value, next-by-count c.args.level c.args.states.now 0)
