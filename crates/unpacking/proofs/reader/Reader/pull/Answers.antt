-- The bits asked for are the highest of those that are taken in. Assumes nothing.
use Prim.Native.Nat.{◌-◌}
use native.Mathlib.Omega.{arith}
use Rattle.unpacking.proofs.Reading as reading
use Rattle.unpacking.proofs.reader.Reader.pull.Goals as goal

pub returns : goal.returns
returns c = let taken = c.fill-at in
    let w = c.args.width in
    reading.pulled-one w (taken.result.have - w) (omega (arith, taken.ensures.enough)) _ c.low_bits.ensures taken.ensures
