use Rattle.std.proofs.Common.{◌≡◌, true, ℕ, ◌<◌, get_or}
use Rattle.intake.proofs.lows.LowStatesKind.has_all.Given as goal

abbrev pub invariant-loop-state : goal.invariant-loop-state
invariant-loop-state l = l.all ≡ true → (k : ℕ) → k < l.state-index → get_or l.block k 0 < 2
