-- The words before `j` are made. Assumes nothing.
use mathlib.Core.Path.{◌≡◌}
use lib.Seq.{paste}
use Rattle.packing.specs.Blocks.{group_words}
use Rattle.packing.proofs.blocks.make_words_of.Given as goal

abbrev pub invariant-loop-j : goal.invariant-loop-j
invariant-loop-j l = l.words ≡ paste l.initial.words 0 (group_words l.lanes.width 32 l.block) l.j
