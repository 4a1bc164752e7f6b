use Rattle.std.proofs.Common.{◌≡◌, ◌-◌, ◌≤◌, map, length}
use Rattle.watch.specs.Watch.{data_bit}
use Rattle.watch.specs.Ear.{next_change}
use Rattle.watch.proofs.ear.before_change_by_blocks.Given as goal

abbrev pub invariant-loop-block : goal.invariant-loop-block
invariant-loop-block l = record {
  same : next_change l.level (map data_bit l.states) 0 ≡ next_change l.level (map data_bit l.rest) (length l.states - length l.rest);
  within : length l.rest ≤ length l.states;
}

abbrev pub decreases-loop-block : goal.decreases-loop-block
decreases-loop-block l = length l.rest
