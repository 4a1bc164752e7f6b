-- Bytes are the bytes of their own bits.
use Rattle.std.proofs.Common.{arith}
use Rattle.std.proofs.lemmas.Grind.{common_steps}
use Rattle.bits.specs.Bits.{over, over_at}
use Rattle.bits.proofs.Laws.{bytes-of-bits}
use Rattle.frame_writer.proofs.put.put_bytes.Goals as goal

pub returns : goal.returns
unfolding over over_at
returns c = let same = bytes-of-bits c.args.bytes.now (λ i. (c.type_inv.bytes i).fits) in grind (arith, common_steps, same)
