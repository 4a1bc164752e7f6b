use mathlib.Core.Path.{◌≡◌}
use Prim.Native.Nat.{◌<◌}
use lib.ListN.{drop}
use Rattle.turns.specs.Front.{hear_all}
use Rattle.turns.proofs.front.hear_each.Given as goal

abbrev pub invariant-loop-at : goal.invariant-loop-at
invariant-loop-at l = (l.window < 65536) × (hear_all l.initial.window (drop l.from l.states) l.from ≡ hear_all l.window (drop l.at l.states) l.at)
