use Rattle.std.proofs.Common.{arith}
use Rattle.watch.specs.Blocks.{bit_of}
use Rattle.watch.proofs.ByBlock.{still-all}
use Rattle.watch.proofs.blocks.stays.Goals as goal

pub returns : goal.returns
returns c = let a = c.args in
    λ e t. still-all (bit_of a.din) a.level a.block.now t (λ k h. c.loop-state.invariant e k (omega arith))
