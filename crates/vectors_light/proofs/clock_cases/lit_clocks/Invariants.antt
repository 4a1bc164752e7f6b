-- No more clocks are lit than were asked for.
use Rattle.std.proofs.Common.{◌≤◌}
use Rattle.vectors_light.proofs.clock_cases.lit_clocks.Given as goal

abbrev pub invariant-loop-clock : goal.invariant-loop-clock
invariant-loop-clock l = l.came.count ≤ l.clock
