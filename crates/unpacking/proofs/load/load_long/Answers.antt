-- Four bytes stand behind four bytes. Assumes nothing.
use native.Mathlib.Omega.{arith}
use Rattle.unpacking.proofs.Reading as reading
use Rattle.unpacking.proofs.load.load_long.Goals as goal

pub returns : goal.returns
returns c = reading.loaded-more 0 (omega arith) c.load_word.ensures c.load_word-2.ensures
