use Rattle.watch.proofs.Changes.{long_in}
use Rattle.std.proofs.Common.{◌≡◌, ◌≤◌, length}
use Rattle.watch.proofs.ear.last_long.Given as goal

abbrev pub invariant-loop-stop : goal.invariant-loop-stop
invariant-loop-stop l = (long_in l.limit l.states l.from l.to ≡ long_in l.limit l.states l.from l.stop) × (l.stop ≤ length l.states)

abbrev pub decreases-loop-stop : goal.decreases-loop-stop
decreases-loop-stop l = l.stop
