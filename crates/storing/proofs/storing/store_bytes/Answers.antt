use Rattle.std.proofs.Common.{arith}
use Rattle.storing.specs.Stored.{bytes_of}
use Rattle.storing.proofs.Lists.{length-bytes, bytes-front, bytes-behind, written-start, written-next, written-all}
use Rattle.storing.proofs.storing.store_bytes.Goals as goal

pub loop-i-init : goal.loop-i-init
loop-i-init c = written-start _ _

pub loop-i-preserved : goal.loop-i-preserved
loop-i-preserved c = let a = c.args in
    let l = c.loop-i in
    written-next (bytes_of a.slice.now a.banks) a.held.now l.i l.held _ (omega arith) l.invariant
    (grind (arith, bytes-front, bytes-behind, l.invariant.rest l.i))

pub returns : goal.returns
returns c = let a = c.args in
    written-all (bytes_of a.slice.now a.banks) a.held.now c.loop-i.i c.loop-i.held (omega (arith, length-bytes a.slice.now a.banks)) (omega arith)
    c.loop-i.invariant
