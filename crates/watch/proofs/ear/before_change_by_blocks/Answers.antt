use Rattle.std.proofs.Common.{◌≡◌, ◌+◌, ◌-◌, length, sym, ◌∙◌, arith}
use Rattle.watch.proofs.Changes.{passed-more, next-by-count}
use Rattle.watch.proofs.ear.before_change_by_blocks.Goals as goal

pub loop-block-preserved : goal.loop-block-preserved
loop-block-preserved c = let a = c.args in
    let l = c.loop-block in
    let s = c.in-Some in
    let parts = s.ensures.cases in
    let passed = length a.states.now - length l.rest.now in
    let count : passed + 64 ≡ length a.states.now - length s.behind.now = omega (arith, l.invariant.within, parts.2) in
    record {
      same = rw (← count)
          (l.invariant.same
          ∙ passed-more a.level l.rest.now s.block.now s.behind.now 64 passed (omega (arith, parts.2)) parts.0 parts.1 (c.stays.ensures c.if-not-stays.false passed));
      within = omega (arith, l.invariant.within, parts.2);
    }

pub returns-clause-value : goal.returns-clause-value
returns-clause-value c = let a = c.args in
    let l = c.loop-block in
    rw c.count_at.ensures.value (sym (l.invariant.same ∙ next-by-count a.level l.rest.now (length a.states.now - length l.rest.now)))
