-- What a device takes in one turn, with what its watchdog hears, is a run of it over packets, one state to a clock. As long as it sends nothing, its
-- watchdog hears state after state; the header under way is one packet; the state of a store is heard with the configuration then held; and what a
-- passing device hears changes nothing else. By induction on the states. Assumes nothing.
use mathlib.Core.Path.{◌≡◌, refl, sym, ap, ◌∙◌, subst}
use mathlib.Core.Bool.{Bool, true, false, cond}
use mathlib.Core.List.{List, [], ◌∷◌, ◌++◌, map}
use Prim.Native.Nat.{ℕ, ◌+◌, ◌-◌, ◌/◌, ◌%◌}
use native.Mathlib.Omega.{arith}
use lib.Dec.{ltb}
use lib.ListN.{length}
use Rattle.machine.specs.Machine as machine
use Rattle.machine.proofs.Machine.{run-one}
use Rattle.parts.specs.Parts.{part_of, field_width, field_limit}
use Rattle.watch.specs.Kept.{expired_by, watch_in, listened}
use Rattle.watch.proofs.Clocks.{told}
use Rattle.watch.specs.declared.watch.Watch.{Watch}
use Rattle.watch.specs.declared.kept.Listened.{Listened}
use Rattle.phases.specs.Phases.{phase_of, heard}
use Rattle.phases.specs.declared.phase.Phase.{Phase}
use Rattle.phases.specs.declared.phase.Phase.TheVariants.{Hunting, Opening, Counting, Slice, Passing, Lost}
use Rattle.phases.specs.declared.phase.Sent.{Sent}
use Rattle.phases.specs.declared.phase.Sent.TheVariants.{Nothing, One, Header}
use Rattle.registers.specs.Held.{with_watch, with_slice, took, fault, raised}
use Rattle.registers.specs.declared.registers.Registers.{Registers}
use Rattle.storing.specs.Stored.{stored}
use Rattle.device.specs.Step.{step, step_high, moved, sending, slice_length, sent_states}
use Rattle.device.specs.declared.device.Device.{Device}
use Rattle.device.specs.declared.device.Stepped.{Stepped}
use Rattle.intake.specs.Intake.{dated_by}
use Rattle.turns.specs.Watching.{is_on, cleared_device, hearing}
use Rattle.turns.proofs.LeavingStates.{length-header-states}
use Rattle.turns.proofs.Timed.{Timed, stamp, stamped, timed, step_timed, run_timed}
use Rattle.turns.proofs.Hearing.{heard_registers, hearing-after, hearing-on, header-nothing, hearing_step, step-hearing}
use Rattle.turns.proofs.Late.{Packet, packet, singles, before, step_late, run_late}

pub none-sent : (x : Sent) → sent_states x ≡ [] → x ≡ Nothing
none-sent Nothing e = refl
none-sent (One s) e = absurd (omega (arith, ap length e))
none-sent (Header c n) e = absurd (omega (arith, sym (length-header-states c n), ap length e))

-- ---- a state at which nothing is sent changes no register but the slice

pub record SliceOnly (r q : Registers) : Type 0 where
  pub slice : List ℕ
  pub is : q ≡ with_slice r slice

high-slice : (r : Registers) (p : Phase) (s : ℕ) → (step_high r p s).sent ≡ Nothing → SliceOnly r (step_high r p s).device.registers
high-slice r (Hunting window) s e = record { slice = r.slice; is = refl }
high-slice r (Opening read) s e = record { slice = r.slice; is = refl }
high-slice r (Counting c read) s e = record { slice = r.slice; is = refl }
high-slice r (Slice c n t) s e = by (ltb (t + 1) (slice_length r c)) e
  where
    q : Registers
    q = took r (t / field_width (part_of r.part) c) (s % 2) (field_limit (part_of r.part) c)

    by : (l : Bool) → (cond l (moved q (Slice c n (t + 1))) (sending (stored q c) Passing (Header c (raised n (fault q c))))).sent ≡ Nothing
        → SliceOnly r (cond l (moved q (Slice c n (t + 1))) (sending (stored q c) Passing (Header c (raised n (fault q c))))).device.registers
    by true f = record { slice = q.slice; is = refl }
    by false f = absurd (header-nothing f)
high-slice r Passing s e = record { slice = r.slice; is = refl }
high-slice r Lost s e = record { slice = r.slice; is = refl }

pub step-slice : (d : Device) (s : ℕ) → (step d s).sent ≡ Nothing → SliceOnly d.registers (step d s).device.registers
step-slice d s e = by (ltb s 2) e
  where
    r : Registers
    r = d.registers

    low : Stepped
    low = moved r (heard (phase_of d.place) s)

    by : (l : Bool) → (cond l low (step_high r (phase_of d.place) s)).sent ≡ Nothing → SliceOnly r (cond l low (step_high r (phase_of d.place) s)).device.registers
    by true f = record { slice = r.slice; is = refl }
    by false f = high-slice r (phase_of d.place) s f

-- so the bit stays set or clear
step-on : (d : Device) (s : ℕ) → (step d s).sent ≡ Nothing → is_on (step d s).device.registers ≡ is_on d.registers
step-on d s e = ap is_on (step-slice d s e).is

-- ---- such a state, heard

-- a device that is cleared or not has heard so
pub cleared-hearing : (x : Bool) (d : Device) → cleared_device x d ≡ hearing (told d.registers.watch x) d
cleared-hearing true d = refl
cleared-hearing false d = refl

-- nothing heard
pub hearing-none : (d : Device) → hearing (told d.registers.watch false) d ≡ d
hearing-none d = refl

timed-quiet : (t : ℕ) (d : Device) (s : ℕ) → (step d s).sent ≡ Nothing → step_timed d (stamp t s) ≡ ((step d s).device, [])
unfolding step_timed
timed-quiet t d s e = go (step d s).sent e
  where
    go : (y : Sent) → y ≡ Nothing → ◌≡◌ {A = Device × List Timed} (dated_by y t d.registers (step d s).device, stamped t (sent_states y)) ((step d s).device, [])
    go y f = rw f

timed-hearing : (b : Listened) (t : ℕ) (d : Device) (s : ℕ) → (step d s).sent ≡ Nothing → step_timed (hearing b d) (stamp t s) ≡ (hearing b (step d s).device, [])
timed-hearing b t d s e =
    let h : step (hearing b d) s ≡ hearing_step b (step d s) = step-hearing b d s e in
    timed-quiet t (hearing b d) s (ap (λ (x : Stepped). x.sent) h ∙ e) ∙ ap (λ (x : Stepped). (x.device, [])) h

-- states at which nothing is sent
pub data Quiet : Device → List ℕ → Type 0 where
  none : {d : Device} → Quiet d []
  also : {d : Device} {s : ℕ} {ss : List ℕ} → (step d s).sent ≡ Nothing → Quiet (step d s).device ss → Quiet d (s ∷ ss)

-- the device after them
unfoldable pub quietly : Device → List ℕ → Device
quietly d [] = d
quietly d (s ∷ ss) = quietly (step d s).device ss

pub run-quiet : (d : Device) (ss : List ℕ) (k : ℕ) → Quiet d ss → run_timed d (timed k ss) ≡ (quietly d ss, [])
unfolding quietly timed machine.run
run-quiet d [] k none = refl
run-quiet d (s ∷ ss) k (also e q) =
    ap (λ (y : Device × List Timed). ((run_timed y.0 (timed (k + 1) ss)).0, y.1 ++ (run_timed y.0 (timed (k + 1) ss)).1)) (timed-quiet (k + 1) d s e)
    ∙ run-quiet (step d s).device ss (k + 1) q

pub hearing-quiet : (b : Listened) (d : Device) (ss : List ℕ) → Quiet d ss → Quiet (hearing b d) ss
hearing-quiet b d [] none = none
hearing-quiet b d (s ∷ ss) (also e q) =
    let h : step (hearing b d) s ≡ hearing_step b (step d s) = step-hearing b d s e in
    also (ap (λ (x : Stepped). x.sent) h ∙ e) (subst (λ (x : Stepped). Quiet x.device ss) (sym h) (hearing-quiet b (step d s).device ss q))

pub quietly-hearing : (b : Listened) (d : Device) (ss : List ℕ) → Quiet d ss → quietly (hearing b d) ss ≡ hearing b (quietly d ss)
unfolding quietly
quietly-hearing b d [] none = refl
quietly-hearing b d (s ∷ ss) (also e q) =
    ap (λ (x : Stepped). quietly x.device ss) (step-hearing b d s e) ∙ quietly-hearing b (step d s).device ss q

pub quietly-on : (d : Device) (ss : List ℕ) → Quiet d ss → is_on (quietly d ss).registers ≡ is_on d.registers
unfolding quietly
quietly-on d [] none = refl
quietly-on d (s ∷ ss) (also e q) = quietly-on (step d s).device ss q ∙ step-on d s e

-- ---- late runs over such states

-- the clock before the next
pub less_one : (k : ℕ) → k + 1 - 1 ≡ k
less_one k = omega arith

-- one state
late-one : (d : Device) (s k : ℕ) → (step d s).sent ≡ Nothing
    → step_late d (record { clock = k + 1; states = s ∷ [] })
    ≡ (hearing (told (watch_in (is_on d.registers) (is_on d.registers) (k + 1) (s ∷ []) d.registers.watch) (expired_by (is_on d.registers) k d.registers.watch)) (step d s).device, [])
unfolding step_late
late-one d s k e =
    let r : Registers = d.registers in
    let x : Bool = expired_by (is_on r) k r.watch in
    let b : Listened = told r.watch x in
    let f : before (k + 1) d ≡ hearing b d = ap (λ (n : ℕ). cleared_device (expired_by (is_on r) n r.watch) d) (less_one k) ∙ cleared-hearing x d in
    let a : run_timed (before (k + 1) d) (stamp (k + 1) s ∷ []) ≡ (hearing b (step d s).device, []) =
    ap (λ (y : Device). run_timed y (stamp (k + 1) s ∷ [])) f ∙ run-one step_timed (hearing b d) (stamp (k + 1) s) ∙ timed-hearing b (k + 1) d s e in
    let on : is_on (heard_registers b (step d s).device.registers) ≡ is_on r =
    hearing-on b (step d s).device.registers (sym (ap (λ (z : Registers). z.watch.bit) (step-slice d s e).is)) ∙ step-on d s e in
    ap (λ (y : Device × List Timed). late y) a ∙ ap (λ (o : Bool). (record { registers = with_watch (heard_registers b (step d s).device.registers) (watch_in (is_on r) o (k + 1) (s ∷ []) r.watch); place = (step d s).device.place }, [])) on
  where
    late : Device × List Timed → Device × List Packet
    late y = (
      record { registers = with_watch y.0.registers (watch_in (is_on d.registers) (is_on y.0.registers) (k + 1) (s ∷ []) d.registers.watch); place = y.0.place },
      packet (k + 1) (map (λ z. z.state) y.1),
    )

pub late-quiet : (d : Device) (ss : List ℕ) (k : ℕ) → Quiet d ss
    → run_late d (singles k ss) ≡ (hearing (listened (is_on d.registers) k ss d.registers.watch) (quietly d ss), [])
unfolding quietly singles listened machine.run
late-quiet d [] k none = refl
late-quiet d (s ∷ ss) k (also e q) =
    let r : Registers = d.registers in
    let on : Bool = is_on r in
    let w : Watch = watch_in on on (k + 1) (s ∷ []) r.watch in
    let b : Listened = told w (expired_by on k r.watch) in
    let n : Device = (step d s).device in
    let o : is_on (heard_registers b n.registers) ≡ on =
    hearing-on b n.registers (sym (ap (λ (z : Registers). z.watch.bit) (step-slice d s e).is)) ∙ step-on d s e in
    ap (λ (y : Device × List Packet). ((run_late y.0 (singles (k + 1) ss)).0, y.1 ++ (run_late y.0 (singles (k + 1) ss)).1)) (late-one d s k e)
    ∙ late-quiet (hearing b n) ss (k + 1) (hearing-quiet b n ss q)
    ∙ ap (λ (z : Bool). (hearing (listened z (k + 1) ss w) (quietly (hearing b n) ss), [])) o
    ∙ ap (λ (z : Device). (hearing (listened on (k + 1) ss w) z, [])) (quietly-hearing b n ss q)
    ∙ ap (λ (z : Device). (z, [])) (hearing-after b (listened on (k + 1) ss w) (quietly n ss))
