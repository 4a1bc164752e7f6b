-- The high part, and then the low 32 bits. Assumes nothing.
use native.Mathlib.Omega.{arith}
use Rattle.unpacking.proofs.Reading as reading
use Rattle.unpacking.proofs.reader.Reader.pull_wide.Goals as goal

pub returns : goal.returns
returns c = reading.pulled-wide _ (omega arith) (omega arith) c.pull-high.ensures c.pull-low.ensures
