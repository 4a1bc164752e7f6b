use mathlib.Core.Path.{◌≡◌}
use Rattle.intake.specs.Intake.{headed_all}
use lib.ListN.{drop}
use Rattle.intake.proofs.highs.head_all.Given as goal

abbrev pub invariant-loop-at : goal.invariant-loop-at
invariant-loop-at l = headed_all l.initial.phase (drop l.from l.states) l.from ≡ headed_all l.phase (drop l.at l.states) l.at
