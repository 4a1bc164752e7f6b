use Rattle.std.proofs.Common.{◌≡◌, ℕ, ◌<◌, ◌≤◌, length, get_or, drop}
use Rattle.std.specs.Slice.Iter.{chunks_exact_rest, chunks_exact_size}
use Rattle.intake.proofs.blocks.blocks_end.Given as goal

abbrev pub invariant-loop-block : goal.invariant-loop-block
invariant-loop-block g l =
    (chunks_exact_size l.block-iterator ≡ g.row.SIZE) × (chunks_exact_rest l.block-iterator ≡ drop l.end l.states)
    × (l.from ≤ l.end) × ((k : ℕ) → l.from ≤ k → k < l.end → (k < length l.states) × g.K.Kind.IsOf (get_or l.states k 0))
