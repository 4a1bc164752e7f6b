-- What is left of the states, and what is left to do with them. Assumes nothing.
use mathlib.Core.Path.{◌≡◌}
use Rattle.std.specs.Slice.Iter.{chunks_exact_rest, chunks_exact_size}
use Rattle.intake.specs.Intake.{filled}
use Prim.Native.Nat.{◌-◌, ◌<◌, ◌≤◌}
use lib.ListN.{drop, take}
use Rattle.intake.proofs.field.fill.Given as goal

abbrev pub invariant-loop-four : goal.invariant-loop-four
invariant-loop-four l =
    (chunks_exact_size l.four-iterator ≡ 4) × (chunks_exact_rest l.four-iterator ≡ drop l.at (take l.end l.states)) × (l.at ≤ l.end) × (l.value < 65536)
    × (filled l.initial.value (l.end - l.from) (drop l.from l.states) l.from ≡ filled l.value (l.end - l.at) (drop l.at l.states) l.at)
