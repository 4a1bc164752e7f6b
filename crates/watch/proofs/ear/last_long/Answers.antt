use Rattle.watch.proofs.Changes.{Changes, next-change-is, long-end, long-none, long-skip, long-last}
use Rattle.watch.specs.Ear.{next_in}
use Rattle.std.proofs.Common.{◌-◌, ◌<◌, ◌≤◌, sym, ◌∙◌, arith}
use Rattle.watch.proofs.ear.last_long.Goals as goal

pub loop-stop-init : goal.loop-stop-init
loop-stop-init c = let a = c.args in
    rw c.min-stop.ensures (long-end a.limit a.states.now a.from a.to, omega arith)

pub returns-then-stop-from : goal.returns-then-stop-from
returns-then-stop-from c = let t = c in
    let a = t.args in
    let l = t.loop-stop in
    sym (l.invariant.0 ∙ long-none a.limit a.states.now a.from l.stop c.if-stop-from.true)

pub returns-then-first-stop : goal.returns-then-first-stop
returns-then-first-stop c = let n = c in
    let f = n in
    let t = f in
    let a = t.args in
    let l = t.loop-stop in
    let s = a.states.now in
    let far : l.stop ≤ next_in s (l.stop - a.limit) l.stop = rw n.next_change-first.ensures at c.if-first-stop.true in
    let big : a.limit < l.stop - a.from = f.if-stop-from.false in
    rw c.last_change.ensures
    (sym (l.invariant.0 ∙ long-last a.limit s a.from (l.stop - a.limit) l.stop (omega (arith, big)) (omega (arith, big)) l.invariant.1 far))

pub loop-stop-preserved : goal.loop-stop-preserved
loop-stop-preserved c = let n = c in
    let f = n in
    let t = f in
    let a = t.args in
    let l = t.loop-stop in
    let s = a.states.now in
    let q = l.stop - a.limit in
    let near : next_in s (l.stop - a.limit) l.stop < l.stop = rw n.next_change-first.ensures at c.if-first-stop.false in
    let big : a.limit < l.stop - a.from = f.if-stop-from.false in
    let is : Changes s (l.stop - a.limit) (next_in s (l.stop - a.limit) l.stop) = next-change-is a.limit s q l.stop (omega arith) l.invariant.1 near in
    rw n.next_change-first.ensures (
      l.invariant.0
          ∙ long-skip a.limit s a.from (next_in s q l.stop) l.stop (omega (arith, big, is.0)) near l.invariant.1 (omega (arith, is.0)) is.1,
      omega (arith, near, l.invariant.1),
    )

pub returns : goal.returns
returns c = let t = c in
    let a = t.args in
    let l = t.loop-stop in
    let end : l.stop ≤ a.from = c.loop-stop-test.false in
    sym (l.invariant.0 ∙ long-none a.limit a.states.now a.from l.stop (omega (arith, end)))
