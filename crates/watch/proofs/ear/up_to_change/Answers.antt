use Rattle.std.proofs.Common.{◌+◌, ◌-◌, map, length, ◌∙◌, arith}
use Rattle.watch.specs.Watch.{data_bit}
use Rattle.watch.proofs.Changes.{behind-less}
use Rattle.watch.proofs.ear.up_to_change.Goals as goal

pub loop-front-preserved : goal.loop-front-preserved
loop-front-preserved c = let a = c.args in
    let l = c.loop-front in
    let s = c.in-Some in
    let parts = s.ensures.cases in
    record {
      same = λ t. l.invariant.same t
          ∙ behind-less a.level l.rest.now s.front.now s.block.now t (length l.rest.now - 64) parts.0 parts.1
          (rw c.level_behind.ensures at (c.stays.ensures c.if-not-stays.false (t + length (map data_bit s.front.now))));
      within = omega (arith, l.invariant.within, parts.2);
    }
