-- The high part, and then the low 32 bits. Assumes nothing.
use native.Mathlib.Omega.{arith}
use Rattle.packing.proofs.Writing as writing
use Rattle.packing.proofs.writer.Writer.push_wide.Goals as goal

pub returns : goal.returns
returns c = let a = c.args in
    writing.then-low a.width a.value (omega arith) c.push-high.ensures c.push-2.ensures
