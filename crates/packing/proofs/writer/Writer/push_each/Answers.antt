use native.Mathlib.Omega.{arith}
use Rattle.packing.proofs.Writing as writing
use Rattle.packing.proofs.writer.Writer.push_each.Goals as goal

pub loop-value-init : goal.loop-value-init
loop-value-init c = writing.pushed_none _

pub loop-value-preserved : goal.loop-value-preserved
loop-value-preserved c = let a = c.args in
    let l = c.loop-value in
    writing.pushed_more a.width 1 a.values.now l.value-index l.invariant
    (writing.pushed_at a.width a.values.now l.value-index (omega arith) c.from.ensures c.push-writer.ensures)
