-- The values of the words before this one are stored. Assumes nothing.
use mathlib.Core.Path.{◌≡◌}
use lib.ListN.{take}
use Rattle.bits.specs.Bits.{over_at}
use Rattle.unpacking.specs.Blocks.{group_values}
use Rattle.unpacking.proofs.blocks.spread_words_of.Given as goal

abbrev pub invariant-loop-j : goal.invariant-loop-j
invariant-loop-j l = l.values ≡ over_at l.first (group_values l.lanes.width (take l.j l.words)) l.initial.values
