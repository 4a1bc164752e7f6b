-- Before each turn what is left to do is the same; one turn fills the field that the next bit is of.
use mathlib.Core.Path.{◌≡◌}
use Prim.Native.Nat.{◌-◌, ◌/◌, ◌%◌, ◌<◌, ◌≤◌}
use lib.ListN.{length, drop}
use Rattle.intake.specs.Intake.{high_taken, collecting}
use Rattle.device.specs.Step.{at, slice_length}
use Rattle.phases.specs.declared.phase.Phase.TheVariants.{Slice}
use Rattle.parts.specs.Parts.{part_of, field_width, field_limit}
use Rattle.intake.proofs.slice.gather.Given as goal

abbrev pub invariant-loop-i : goal.invariant-loop-i
invariant-loop-i l = (l.width ≡ field_width (part_of l.registers.part) l.command)
    × (l.below ≡ field_limit (part_of l.registers.part) l.command)
    × (l.bits ≡ slice_length l.registers l.command)
    × (l.t < slice_length l.registers l.command)
    × (length l.slice ≡ 48)
    × (l.k ≡ l.t / l.width)
    × (l.lack ≡ l.width - l.t % l.width)
    × (high_taken (at l.registers (Slice l.command l.count l.taken)) (drop l.from l.states) l.from ≡ high_taken (collecting l.registers l.slice l.command l.count l.t) (drop l.i l.states) l.i)
    × (l.bits ≤ 672)

abbrev pub decreases-loop-i : goal.decreases-loop-i
decreases-loop-i l = length l.states - l.i
