-- The arrays of a record keep the lengths that their types say: a fresh device has them, and a step, a clock and a fault setting keep them.
-- By cases on the step. Assumes nothing.
use mathlib.Core.Path.{◌≡◌, refl, ◌∙◌}
use native.Mathlib.Omega.{arith}
use mathlib.Core.List.{List}
use Prim.Native.Nat.{ℕ, ◌+◌, ◌/◌, ◌%◌}
use lib.Dec.{eqb, ltb}
use lib.ListN.{length, length-set}
use Rattle.bits.specs.Bits.{over}
use Rattle.bits.proofs.Laws.{length_over}
use Rattle.parts.proofs.Laws.{usable}
use Rattle.parts.proofs.Rows.{outputs-le}
use Rattle.parts.specs.Parts.{part_of, outputs, multiplex, field_width, field_limit}
use Rattle.parts.specs.declared.command.Command.{Command}
use Rattle.parts.specs.declared.command.Command.TheVariants.{Individual, Calibration, Global, Configuration}
use Rattle.phases.specs.Phases.{phase_of}
use Rattle.registers.specs.Held.{holding, showing, took}
use Rattle.storing.specs.Stored.{strided, slice_bytes, stored, copies}
use Rattle.positions.specs.Positions.{placed_at, next, ticked}
use Rattle.device.specs.Step.{ticked_device, fresh_device, faulted, slice_length, step_high}
use Rattle.phases.specs.declared.phase.Phase.{Phase}
use Rattle.phases.specs.declared.phase.Phase.TheVariants.{Hunting, Opening, Counting, Slice, Passing, Lost}
use Rattle.registers.specs.declared.registers.Registers.{Registers}
use Rattle.device.specs.declared.device.Device.{Device}
use Rattle.device.specs.declared.device.Stepped.{Stepped}
use Rattle.storing.proofs.Lists.{length-strided, length-bytes}
use Rattle.tables.proofs.Booleans.{cond_both}
use Rattle.machine.proofs.Machine.{run_holds}
use Rattle.watch.specs.Watch.{expired}
use Rattle.watch.specs.declared.watch.Watch.{Watch}
use Rattle.device.specs.Run.{step_record, under_watch, watched, clock_record}
use Rattle.link.specs.View.{Sizes, Arrays}

-- ---- the two ways in which registers change

holding-sizes : {r : Registers} {configuration waiting : ℕ} {calibration waiting0 waiting1 slice : List ℕ} → Sizes r
    → length calibration ≡ 3 → length waiting0 ≡ 24 → length waiting1 ≡ 24 → length slice ≡ 48
    → Sizes (holding r configuration calibration waiting waiting0 waiting1 slice)
holding-sizes h c w0 w1 s = record { calibration = c; waiting0 = w0; waiting1 = w1; active0 = h.active0; active1 = h.active1; slice = s }

showing-sizes : {r : Registers} {overtemperature openled active : ℕ} {active0 active1 : List ℕ} → Sizes r → length active0 ≡ 24 → length active1 ≡ 24
    → Sizes (showing r overtemperature openled active active0 active1)
showing-sizes h a0 a1 =
    record { calibration = h.calibration; waiting0 = h.waiting0; waiting1 = h.waiting1; active0 = a0; active1 = a1; slice = h.slice }

-- another position
placed-sizes : {r : Registers} {n : ℕ} → Sizes r → Sizes (placed_at r n)
placed-sizes h = record { calibration = h.calibration; waiting0 = h.waiting0; waiting1 = h.waiting1; active0 = h.active0; active1 = h.active1; slice = h.slice }

-- ---- a step

-- what goes over the values, or the calibration, of a device has no more of them
values-size : (r : Registers) (a k : ℕ) (vs : List ℕ) → length vs ≡ 24 → length (over (strided r.slice a k (outputs (part_of r.part))) vs) ≡ 24
values-size r a k vs e =
    let p = part_of r.part in
    length_over (strided r.slice a k (outputs p)) vs (omega (arith, length-strided r.slice a k (outputs p), outputs-le p (usable r.part))) ∙ e

bytes-size : (r : Registers) → length r.calibration ≡ 3 → length (over (slice_bytes r) r.calibration) ≡ 3
bytes-size r e =
    length_over (slice_bytes r) r.calibration (omega (arith, length-bytes r.slice (part_of r.part).banks, (usable r.part).few_banks)) ∙ e

stored-sizes : (r : Registers) (c : Command) → Sizes r → Sizes (stored r c)
stored-sizes r Individual h =
    cond_both Sizes (eqb (multiplex r.configuration) 0) _ _
    (λ _. holding-sizes h h.calibration (values-size r 0 1 r.waiting0 h.waiting0) h.waiting1 h.slice)
    (λ _. holding-sizes h h.calibration (values-size r 0 2 r.waiting0 h.waiting0) (values-size r 1 2 r.waiting1 h.waiting1) h.slice)
stored-sizes r Calibration h = holding-sizes h (bytes-size r h.calibration) h.waiting0 h.waiting1 h.slice
stored-sizes r Global h =
    cond_both Sizes (copies r) _ _ (λ _. holding-sizes h h.calibration h.waiting0 h.waiting1 h.slice) (λ _. h)
stored-sizes r Configuration h =
    cond_both Sizes (copies r) _ _ (λ _. holding-sizes h h.calibration h.waiting0 h.waiting1 h.slice) (λ _. h)

high-sizes : (r : Registers) (p : Phase) (s : ℕ) → Sizes r → Sizes (step_high r p s).device.registers
high-sizes r (Hunting w) s h = h
high-sizes r (Opening read) s h = h
high-sizes r (Counting c read) s h = h
high-sizes r (Slice c n t) s h =
    let q : Registers = took r (t / field_width (part_of r.part) c) (s % 2) (field_limit (part_of r.part) c) in
    let k : Sizes q = holding-sizes h h.calibration h.waiting0 h.waiting1 (simp length-set h.slice) in
    cond_both (λ (x : Stepped). Sizes x.device.registers) (ltb (t + 1) (slice_length r c)) _ _ (λ _. k) (λ _. stored-sizes q c k)
high-sizes r Passing s h = h
high-sizes r Lost s h = h

pub step-arrays : (d : Device) (s : ℕ) → Arrays d → Arrays (step_record d s).0
unfolding step_record
step-arrays d s h =
    placed-sizes (cond_both (λ (x : Stepped). Sizes x.device.registers) (ltb s 2) _ _ (λ _. h) (λ _. high-sizes d.registers (phase_of d.place) s h))

-- ---- a clock

pub tick-arrays : (d : Device) → Arrays d → Arrays (ticked_device d)
unfolding ticked
tick-arrays d h = placed-sizes (cond_both Sizes (eqb (next d.registers) 0) _ _ (λ _. showing-sizes h h.waiting0 h.waiting1) (λ _. h))

-- the end of a clock: the watchdog, and what an expiry leaves
under-sizes : (r : Registers) (w : Watch) → Sizes r → Sizes (under_watch r w)
under-sizes r w h =
    cond_both Sizes (expired w) _ _
    (λ _. record { calibration = h.calibration; waiting0 = refl; waiting1 = refl; active0 = refl; active1 = refl; slice = h.slice })
    (λ _. record { calibration = h.calibration; waiting0 = h.waiting0; waiting1 = h.waiting1; active0 = h.active0; active1 = h.active1; slice = h.slice })

pub clock-arrays : (d : Device) (sent : List ℕ) → Arrays d → Arrays (clock_record d sent).0
unfolding clock_record watched
clock-arrays d sent h = under-sizes _ _ (run_holds step_record Arrays step-arrays (ticked_device d) sent (tick-arrays d h))

-- ---- what is not a clock

pub faulted-arrays : (d : Device) (kind flag : ℕ) → Arrays d → Arrays (faulted d kind flag)
faulted-arrays d kind flag h = cond_both Sizes (eqb kind 0) _ _ (λ _. showing-sizes h h.active0 h.active1) (λ _. showing-sizes h h.active0 h.active1)

pub fresh-arrays : (q bit limit : ℕ) → Arrays (fresh_device q bit limit)
fresh-arrays q bit limit = record { calibration = refl; waiting0 = refl; waiting1 = refl; active0 = refl; active1 = refl; slice = refl }
