use Rattle.storing.specs.Stored.{strided}
use Rattle.storing.proofs.Lists.{Written}
use Rattle.storing.proofs.storing.over_first.Given as goal

abbrev pub invariant-loop-i : goal.invariant-loop-i
invariant-loop-i l = Written (strided l.slice l.first l.stride l.outputs) l.fn.held l.i l.values
