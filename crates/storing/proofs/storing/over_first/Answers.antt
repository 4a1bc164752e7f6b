use Rattle.std.proofs.Common.{arith}
use Rattle.storing.specs.Stored.{strided}
use Rattle.storing.proofs.Lists.{length-strided, strided-front, strided-behind, written-start, written-next, written-all}
use Rattle.storing.proofs.storing.over_first.Goals as goal

pub loop-i-init : goal.loop-i-init
loop-i-init c = written-start _ _

pub loop-i-preserved : goal.loop-i-preserved
loop-i-preserved c = let a = c.args in
    let l = c.loop-i in
    written-next (strided a.slice a.first a.stride a.outputs) a.held l.i l.values _ (omega arith) l.invariant
    (grind (arith, strided-front, strided-behind, l.invariant.rest l.i))

pub returns : goal.returns
returns c = let a = c.args in
    written-all (strided a.slice a.first a.stride a.outputs) a.held c.loop-i.i c.loop-i.values
    (omega (arith, length-strided a.slice a.first a.stride a.outputs)) (omega arith) c.loop-i.invariant
