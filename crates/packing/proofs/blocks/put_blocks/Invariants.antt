-- The blocks before this one are laid; at least one value is behind each block. Assumes nothing.
use mathlib.Core.Path.{◌≡◌}
use Prim.Native.Nat.{◌+◌, ◌*◌, ◌/◌}
use lib.ListN.{length, take}
use Rattle.bits.specs.Bits.{fields, bytes_for}
use Rattle.packing.specs.Blocks.{Laid}
use Rattle.packing.proofs.blocks.put_blocks.Given as goal

abbrev pub invariant-loop-block : goal.invariant-loop-block
invariant-loop-block l =
    let done = l.block-index * 128 in
    Laid l.initial.out l.out l.at (done / 8 * l.width) (l.at + bytes_for (length l.values * l.width)) (fields l.width (take done l.values))
    × (l.to ≡ l.at + done / 8 * l.width)
