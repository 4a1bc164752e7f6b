use Rattle.std.proofs.Common.{◌≡◌, ℕ, ◌<◌, true, get_or}
use Rattle.watch.specs.Blocks.{bit_of}
use Rattle.watch.proofs.blocks.stays.Given as goal

abbrev pub invariant-loop-state : goal.invariant-loop-state
invariant-loop-state l = l.all ≡ true → (k : ℕ) → k < l.state-index → bit_of l.din (get_or l.block k 0) ≡ l.level
