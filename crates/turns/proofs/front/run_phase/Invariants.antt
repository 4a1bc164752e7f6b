use Rattle.turns.specs.Front.{phase_run}
use mathlib.Core.Path.{◌≡◌}
use lib.ListN.{drop}
use Rattle.turns.proofs.front.run_phase.Given as goal

abbrev pub invariant-loop-at : goal.invariant-loop-at
invariant-loop-at l = phase_run l.initial.phase (drop l.from l.states) l.from ≡ phase_run l.phase (drop l.at l.states) l.at
