-- The words before this one are stored; what the last of them has too many stands behind. Assumes nothing.
use mathlib.Core.Path.{◌≡◌}
use Prim.Native.Nat.{◌+◌, ◌*◌, ◌-◌, ◌/◌}
use lib.ListN.{take}
use Rattle.bits.specs.Bits.{fields}
use Rattle.bits.specs.Words.{high_bits}
use Rattle.packing.specs.Blocks.{Laid}
use Rattle.packing.proofs.blocks.put_words.Given as goal

abbrev pub invariant-loop-word : goal.invariant-loop-word
invariant-loop-word l =
    let step = l.width / 2 in
    Laid l.initial.out l.out l.from (l.word-index * step) (l.from + 32 * step + (8 - step)) (fields (8 * step) (take l.word-index (high_bits (8 * step) l.words)))
    × (l.at ≡ l.from + l.word-index * step)
