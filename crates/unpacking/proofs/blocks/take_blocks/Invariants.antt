-- Each turn reads a block; at least one value is behind each, so that eight bytes can be loaded at each group of the block. Assumes nothing.
use mathlib.Core.Path.{◌≡◌}
use Prim.Native.Nat.{◌+◌, ◌*◌, ◌/◌}
use lib.ListN.{take}
use Rattle.unpacking.specs.Reading.{from, Pulled}
use Rattle.unpacking.proofs.blocks.take_blocks.Given as goal

abbrev pub invariant-loop-k : goal.invariant-loop-k
invariant-loop-k l = Pulled l.src (from l.at) (from l.here) l.width (take (128 * l.k) l.values)
    × (l.here ≡ l.at + 128 * l.k / 8 * l.width)
