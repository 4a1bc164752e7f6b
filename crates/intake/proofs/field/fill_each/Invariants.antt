use mathlib.Core.Path.{◌≡◌}
use Rattle.intake.specs.Intake.{filled}
use Prim.Native.Nat.{◌-◌, ◌<◌}
use lib.ListN.{drop}
use Rattle.intake.proofs.field.fill_each.Given as goal

abbrev pub invariant-loop-at : goal.invariant-loop-at
invariant-loop-at l = (l.value < 65536) × (filled l.initial.value (l.end - l.from) (drop l.from l.states) l.from ≡ filled l.value (l.end - l.at) (drop l.at l.states) l.at)
