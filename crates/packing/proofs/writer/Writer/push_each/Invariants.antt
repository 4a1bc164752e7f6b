-- The values before this one are written. Assumes nothing.
use Prim.Native.Nat.{◌*◌}
use lib.ListN.{take}
use Rattle.bits.specs.Bits.{fields}
use Rattle.packing.specs.Writing.{Pushed}
use Rattle.packing.proofs.writer.Writer.push_each.Given as goal

abbrev pub invariant-loop-value : goal.invariant-loop-value
invariant-loop-value l = Pushed l.initial.out l.out l.initial.writer l.writer (l.value-index * l.width) (fields l.width (take l.value-index l.values))
