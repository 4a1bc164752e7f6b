-- Four bytes are taken in at once, or one after the other. Assumes nothing.
use native.Mathlib.Omega.{arith}
use Rattle.unpacking.proofs.Reading as reading
use Rattle.unpacking.proofs.reader.Reader.fill.Goals as goal

pub returns : goal.returns
returns c = rw c.from.ensures (reading.filled-word _ (omega arith) (omega arith) (omega arith) (omega arith) c.load_word.ensures)
