-- What was read fits the list that it is put into, which keeps its length. The measure is what is left of the list.
use Rattle.std.proofs.Common.{◌≡◌, ◌-◌, ◌≤◌, length}
use Rattle.bench.proofs.read_full.Given as goal

abbrev pub invariant-loop-got : goal.invariant-loop-got
invariant-loop-got g l = record { in_range : l.got ≤ length l.input; size : length l.input ≡ length l.initial.input }

abbrev pub decreases-loop-got : goal.decreases-loop-got
decreases-loop-got g l = length l.initial.input - l.got
