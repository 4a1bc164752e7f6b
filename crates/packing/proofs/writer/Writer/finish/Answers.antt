-- Zeros are pushed, and then whole bytes wait. Assumes nothing.
use native.Mathlib.Omega.{arith}
use Rattle.packing.proofs.Writing as writing
use Rattle.packing.proofs.writer.Writer.finish.Goals as goal

pub returns : goal.returns
returns c = let d = writing.then-none c.push-padded.ensures c.flush.ensures.0 in
    (d, omega (arith, d.count, c.flush.ensures.1))
