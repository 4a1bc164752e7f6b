-- The values before this one are read. Assumes nothing.
use lib.ListN.{take}
use Rattle.unpacking.specs.Reading.{Pulled}
use Rattle.unpacking.proofs.reader.Reader.pull_each.Given as goal

abbrev pub invariant-loop-value : goal.invariant-loop-value
invariant-loop-value l = Pulled l.src l.initial.reader l.reader l.width (take l.value-index l.values)
