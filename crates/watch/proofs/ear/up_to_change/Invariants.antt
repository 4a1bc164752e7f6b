use Rattle.std.proofs.Common.{◌≡◌, ℕ, ◌≤◌, map, length}
use Rattle.watch.specs.Watch.{data_bit}
use Rattle.watch.specs.Ear.{last_change}
use Rattle.watch.proofs.ear.up_to_change.Given as goal

abbrev pub invariant-loop-front : goal.invariant-loop-front
invariant-loop-front l = record {
  same : (t : ℕ) → last_change l.level (map data_bit l.states) t ≡ last_change l.level (map data_bit l.rest) t;
  within : length l.rest ≤ length l.states;
}

abbrev pub decreases-loop-front : goal.decreases-loop-front
decreases-loop-front l = length l.rest
