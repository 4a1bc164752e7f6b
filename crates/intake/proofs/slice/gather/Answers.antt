use mathlib.Core.Path.{◌≡◌, sym, ap, ap₂, ◌∙◌}
use Prim.Native.Nat.{ℕ, ◌+◌, ◌-◌, ◌%◌, ◌<◌, ◌≤◌}
use lib.ListN.{set, drop, length-set}
use native.Mathlib.Omega.{arith}
use Rattle.device.specs.Step.{slice_length}
use Rattle.parts.specs.Parts.{part_of, field_width}
use Rattle.parts.specs.declared.command.Command.{Command}
use Rattle.parts.proofs.Laws.{usable}
use Rattle.parts.proofs.Rows.{field-width-pos}
use Rattle.registers.specs.declared.registers.Registers.{Registers}
use Rattle.intake.specs.Intake.{field_after, lack_after, progress_of, high_taken, collecting}
use Rattle.intake.proofs.Slices.{FieldTaken, field_taken, slice-le, field_next, goes_on, goes-more, goes-full}
use Rattle.intake.proofs.Clauses.{high_end}
use Rattle.intake.proofs.Settled.{full-progress}
use Rattle.intake.proofs.slice.gather.Goals as goal
use Rattle.intake.proofs.slice.gather.Goals.{After-fill-filled}

-- the width is not 0
width-pos : (r : Registers) (c : Command) (w : ℕ) → w ≡ field_width (part_of r.part) c → 0 < w
width-pos r c w e = omega (arith, e, field-width-pos (part_of r.part) (usable r.part) c)

-- one turn: field t / w takes what it lacks
turn : (c : After-fill-filled) → FieldTaken c.args.registers c.args.command c.args.count c.args.states.now c.loop-i.slice c.loop-i.t c.loop-i.i c.field_width-width.result c.field_limit-below.result c.fill-filled.result
turn c =
    let a = c.args in
    let l = c.loop-i in
    let v = l.invariant in
    let sl = l.slice in
    let ss = a.states.now in
    let i = l.i in
    field_taken a.registers a.command a.count ss sl l.t i c.field_width-width.result c.field_limit-below.result c.fill-filled.result v.0 v.1 v.4 v.3 c.loop-i-test.true (omega arith)
    (grind (arith, c.fill-filled.ensures, c.min.ensures, v.5, v.6))

-- and what is left to do
onward : (c : After-fill-filled) → high_taken (collecting c.args.registers c.loop-i.slice c.args.command c.args.count c.loop-i.t) (drop c.loop-i.i c.args.states.now) c.loop-i.i
    ≡ goes_on c.args.registers c.args.command c.args.count c.args.states.now (set c.loop-i.slice c.loop-i.k (c.fill-filled.result.value % c.field_limit-below.result))
    (c.loop-i.t + (c.fill-filled.result.at - c.loop-i.i)) c.fill-filled.result.at
onward c =
    let a = c.args in
    let l = c.loop-i in
    let f = c.fill-filled.result in
    (turn c).same
    ∙ ap (λ (k : ℕ). goes_on a.registers a.command a.count a.states.now (set l.slice k (f.value % c.field_limit-below.result)) (l.t + (f.at - l.i)) f.at) (sym l.invariant.5)

pub overflow_sub-t : goal.overflow_sub-t
overflow_sub-t c = omega (arith, (turn (goal.at.overflow_sub-t c).After-fill-filled).more)

pub overflow_add-t : goal.overflow_add-t
overflow_add-t c = record { fits = omega (arith, (turn (goal.at.overflow_add-t c).After-fill-filled).near, c.loop-i.invariant.3, slice-le c.args.registers c.args.command) }

pub returns-then-t-bits : goal.returns-then-t-bits
returns-then-t-bits c =
    let a = c.args in
    let f = c.fill-filled.result in
    let sl = set c.loop-i.slice c.loop-i.k (f.value % c.field_limit-below.result) in
    let full : slice_length a.registers a.command ≤ c.loop-i.t + (f.at - c.loop-i.i) = omega (arith, c.loop-i.invariant.2, c.if-t-bits.true) in
    c.whole.ensures
    ∙ sym (ap progress_of (c.loop-i.invariant.7 ∙ onward (goal.at.returns-then-t-bits c).After-fill-filled ∙ goes-full a.registers a.command a.count a.states.now sl _ f.at full)
    ∙ full-progress a.registers sl a.command a.count f.at)

pub overflow_sub-left : goal.overflow_sub-left
overflow_sub-left c = omega (arith, (turn (goal.at.overflow_sub-left c).After-fill-filled).more)

pub overflow_sub-left-in-loop-i : goal.overflow_sub-left-in-loop-i
overflow_sub-left-in-loop-i c = omega (arith, (turn (goal.at.overflow_sub-left-in-loop-i c).After-fill-filled).own, c.loop-i.invariant.6)

pub loop-i-smaller : goal.loop-i-smaller
loop-i-smaller c = omega (arith, (turn (goal.at.loop-i-smaller c).After-fill-filled).more, c.loop-i-test.true)

pub loop-i-preserved : goal.loop-i-preserved
loop-i-preserved c =
    let a = c.args in
    let v = c.loop-i.invariant in
    let at_fill = (goal.at.loop-i-preserved c).After-fill-filled in
    let f = c.fill-filled.result in
    let w = c.field_width-width.result in
    let n = f.at - c.loop-i.i in
    let more : c.loop-i.t + n < slice_length a.registers a.command = omega (arith, v.2, c.if-t-bits.false) in
    let next = field_next w c.loop-i.t n (width-pos a.registers a.command w v.0) (turn at_fill).own in (
      v.0,
      v.1,
      v.2,
      more,
      simp length-set v.4,
      c.field_after-k.ensures ∙ ap₂ (λ (k lack : ℕ). field_after k (lack - n)) v.5 v.6 ∙ next.0,
      c.lack_after-lack.ensures ∙ ap (λ (lack : ℕ). lack_after w (lack - n)) v.6 ∙ next.1,
      v.7 ∙ onward at_fill ∙ goes-more a.registers a.command a.count a.states.now _ _ f.at more,
      v.8,
    )

pub returns : goal.returns
returns c = c.part_of-2.ensures ∙ sym (ap progress_of (c.loop-i.invariant.7 ∙ high_end _ c.args.states.now c.loop-i.i c.loop-i.i c.loop-i-test.false))
