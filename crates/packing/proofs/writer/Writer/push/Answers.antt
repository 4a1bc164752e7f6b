-- The bits stand behind those that wait; 32 of them go to memory together. Assumes nothing.
use native.Mathlib.Omega.{arith}
use Rattle.packing.proofs.Writing as writing
use Rattle.packing.proofs.writer.Writer.push.Goals as goal

pub returns-then-have-lt32 : goal.returns-then-have-lt32
returns-then-have-lt32 c = writing.pushed-kept c.args.value _ c.low_bits.ensures

pub returns : goal.returns
returns c = writing.pushed-stored c.args.value (omega arith) _ c.low_bits.ensures c.store_word.ensures
