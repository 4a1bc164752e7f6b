-- The words before this one are loaded. Assumes nothing.
use mathlib.Core.Path.{◌≡◌}
use Prim.Native.Nat.{◌+◌, ◌*◌, ◌/◌}
use Rattle.unpacking.proofs.Words as law
use Rattle.unpacking.proofs.blocks.load_words.Given as goal

abbrev pub invariant-loop-word : goal.invariant-loop-word
invariant-loop-word l = law.Staged l.src l.first (l.width / 2) (4 * l.width) 32 l.words l.word-index
    × (l.at ≡ l.first + l.word-index * (l.width / 2))
