-- What a device takes in one turn is a run of it over those states, one to a clock. A device that is not passing sends nothing, or a header once, and passes
-- then. High states go through passing devices as they are. By induction on the states at hand.
use mathlib.Core.Path.{◌≡◌, refl, ap, sym, ◌∙◌, subst}
use mathlib.Core.Bool.{Bool, true, false, cond, true≢false}
use mathlib.Core.List.{List, [], ◌∷◌, ◌++◌, append-nil}
use Prim.Native.Nat.{ℕ, ◌+◌, ◌/◌, ◌%◌, ◌<◌, ◌≤◌}
use native.Mathlib.Nat.{mod-lt}
use native.Mathlib.Omega.{arith}
use lib.Dec.{ltb, eqb}
use lib.ListN.{length, get_or, drop, drop_of_length-le}
use borrow.Author.Tests.{lt-ltb, le-ltb}
use Rattle.machine.specs.Machine.{chain}
use Rattle.machine.specs.Machine as machine
use Rattle.machine.proofs.Machine.{run-nil}
use Rattle.parts.specs.Parts.{part_of, field_width, field_limit}
use Rattle.parts.specs.declared.command.Command.{Command}
use Rattle.phases.specs.Phases.{phase_of, heard, headed}
use Rattle.registers.specs.Held.{took, fault, raised}
use Rattle.storing.specs.Stored.{stored}
use Rattle.device.specs.Step.{step, step_high, moved, sending, slice_length, sent_states, at}
use Rattle.phases.specs.declared.phase.Phase.{Phase}
use Rattle.phases.specs.declared.phase.Phase.TheVariants.{Hunting, Opening, Counting, Slice, Passing, Lost}
use Rattle.phases.specs.declared.phase.Sent.{Sent}
use Rattle.phases.specs.declared.phase.Sent.TheVariants.{Nothing, One, Header}
use Rattle.registers.specs.declared.registers.Registers.{Registers}
use Rattle.device.specs.declared.device.Device.{Device}
use Rattle.device.specs.declared.device.Stepped.{Stepped}
use Rattle.phases.proofs.Places.{Small}
use Rattle.intake.specs.Intake.{Taken, stopped, dated_by, dated_step, step_in, unless_sent, high_taken}
use Rattle.intake.proofs.Clauses.{drop-on, high_end}
use Rattle.intake.proofs.Settled.{Settles, settled-high}
use Rattle.tables.proofs.Booleans.{cond_both}
use Rattle.turns.specs.Front.{is_passing, passes, phase_only, phase_step, phase_run, phase_taken, front_taken, slice_start, device_taken, low_taken}
use Rattle.turns.specs.declared.front.PhaseRun.{PhaseRun}
use Rattle.cursor.proofs.Cases.{NoHeader, not_last}
use Rattle.turns.proofs.Timed.{Timed, stamped, timed, step_timed, run_timed, pass_on, timed-none, timed-cons}
use Rattle.turns.proofs.Phases.{step-low, step-phase_only, heard-small, roam_step-small, headed-quiet, phase_run-quiet, phase_run-low}

-- ---- high states go through passing devices

pub data High : List Timed → Type 0 where
  none : High []
  also : {x : Timed} {xs : List Timed} → ltb x.state 2 ≡ false → High xs → High (x ∷ xs)

abbrev pub passer : Registers → Device
passer r = at r Passing

pub data AllPass : List Device → Type 0 where
  none : AllPass []
  also : {r : Registers} {ds : List Device} → AllPass ds → AllPass (passer r ∷ ds)

pass-one : (r : Registers) (x : Timed) (xs : List Timed) → ltb x.state 2 ≡ false → run_timed (passer r) (x ∷ xs) ≡ ((run_timed (passer r) xs).0, x ∷ (run_timed (passer r) xs).1)
unfolding machine.run step_timed
pass-one r x xs e = rw e refl

pass_all : (r : Registers) (hs xs : List Timed) → High hs → run_timed (passer r) (hs ++ xs) ≡ ((run_timed (passer r) xs).0, hs ++ (run_timed (passer r) xs).1)
pass_all r [] xs none = refl
pass_all r (x ∷ hs) xs (also e h) = pass-one r x (hs ++ xs) e ∙ ap (λ (y : Device × List Timed). (y.0, x ∷ y.1)) (pass_all r hs xs h)

pub through-high : (ps : List Device) (hs xs : List Timed) → AllPass ps → High hs → pass_on ps (hs ++ xs) ≡ ((pass_on ps xs).0, hs ++ (pass_on ps xs).1)
unfolding chain
through-high [] hs xs none h = refl
through-high (d ∷ ps) hs xs (also {r} a) h =
    ap (λ (x : Device × List Timed). (x.0 ∷ (pass_on ps x.1).0, (pass_on ps x.1).1)) (pass_all r hs xs h)
    ∙ ap (λ (x : List Device × List Timed). ((run_timed (passer r) xs).0 ∷ x.0, x.1)) (through-high ps hs (run_timed (passer r) xs).1 a h)

-- ---- what a device takes is a run of it over the states before `at`, one to a clock

-- low states may be among them, or not
pub record Takes (low : Bool) (d : Device) (ss : List ℕ) (k : ℕ) (t : Taken) : Type 0 where
  pub own : List ℕ
  pub rest : List ℕ
  pub whole : ss ≡ own ++ rest
  pub high : low ≡ false → High (timed k own)
  pub far : t.at ≡ k + length own
  pub runs : run_timed d (timed k own) ≡ (t.device, stamped t.at (sent_states t.sent))

-- what a state of clock k + 1 leaves, and what is sent of the states after it
abbrev onwards : ℕ → List ℕ → Stepped → Device × List Timed
onwards k ss x = ((run_timed x.device (timed (k + 1) ss)).0, stamped (k + 1) (sent_states x.sent) ++ (run_timed x.device (timed (k + 1) ss)).1)

run_step : (d : Device) (s : ℕ) (ss : List ℕ) (k : ℕ) → run_timed d (timed k (s ∷ ss)) ≡ onwards k ss (step_in (k + 1) d s)
unfolding machine.run step_timed timed
run_step d s ss k = refl

pub takes_none : (low : Bool) (d : Device) (ss : List ℕ) (k : ℕ) → Takes low d ss k (stopped d k Nothing)
takes_none low d ss k =
    record {
      own = [];
      rest = ss;
      whole = refl;
      high = λ _. rw (timed-none k) none;
      far = omega arith;
      runs = rw (timed-none k) (run-nil step_timed d);
    }

-- the device goes on at s, and sends nothing
takes-on : (low : Bool) (d : Device) (s : ℕ) (ss : List ℕ) (k : ℕ) (x : Stepped) (t : Taken) → step_in (k + 1) d s ≡ x → x.sent ≡ Nothing → (low ≡ false → ltb s 2 ≡ false)
    → Takes low x.device ss (k + 1) t → Takes low d (s ∷ ss) k t
takes-on low d s ss k x t e n h r =
    record {
      own = s ∷ r.own;
      rest = r.rest;
      whole = ap (λ (xs : List ℕ). s ∷ xs) r.whole;
      high = λ f. rw (timed-cons k s r.own) (also (h f) (r.high f));
      far = omega (arith, r.far);
      runs = run_step d s r.own k
          ∙ ap (onwards k r.own) e
          ∙ ap (λ (y : Sent). onwards k r.own (record { device = x.device; sent = y })) n
          ∙ r.runs;
    }

-- the device sends at s
takes-sent : (d : Device) (s : ℕ) (ss : List ℕ) (k : ℕ) → ltb s 2 ≡ false
    → Takes false d (s ∷ ss) k (stopped (step_in (k + 1) d s).device (k + 1) (step d s).sent)
takes-sent d s ss k h =
    record {
      own = s ∷ [];
      rest = ss;
      whole = refl;
      high = λ _. rw (timed-cons k s [], timed-none (k + 1)) (also h none);
      far = omega arith;
      runs = run_step d s [] k
          ∙ ap (λ (zs : List Timed). ((run_timed after zs).0, stamped (k + 1) (sent_states (step d s).sent) ++ (run_timed after zs).1)) (timed-none (k + 1))
          ∙ ap (λ (y : Device × List Timed). (y.0, stamped (k + 1) (sent_states (step d s).sent) ++ y.1)) (run-nil step_timed after)
          ∙ ap (λ (zs : List Timed). (after, zs)) (append-nil (stamped (k + 1) (sent_states (step d s).sent)));
    }
  where
    after : Device
    after = (step_in (k + 1) d s).device

takes_step : (d : Device) (s : ℕ) (ss : List ℕ) (k : ℕ) (x : Sent) → (step d s).sent ≡ x → ltb s 2 ≡ false
    → Takes false (step_in (k + 1) d s).device ss (k + 1) (high_taken (step_in (k + 1) d s).device ss (k + 1))
    → Takes false d (s ∷ ss) k (unless_sent x (high_taken (step_in (k + 1) d s).device ss (k + 1)) (stopped (step_in (k + 1) d s).device (k + 1) x))
takes_step d s ss k Nothing e h r = takes-on false d s ss k (step_in (k + 1) d s) (high_taken (step_in (k + 1) d s).device ss (k + 1)) refl e (λ _. h) r
takes_step d s ss k (One b) e h r = subst (λ (x : Sent). Takes false d (s ∷ ss) k (stopped (step_in (k + 1) d s).device (k + 1) x)) e (takes-sent d s ss k h)
takes_step d s ss k (Header c n) e h r = subst (λ (x : Sent). Takes false d (s ∷ ss) k (stopped (step_in (k + 1) d s).device (k + 1) x)) e (takes-sent d s ss k h)

-- high states
pub takes : (d : Device) (ss : List ℕ) (k : ℕ) → Takes false d ss k (high_taken d ss k)
unfolding high_taken
takes d [] k = takes_none false d [] k
takes d (s ∷ ss) k = go (takes (step_in (k + 1) d s).device ss (k + 1)) (ltb s 2) refl
  where
    go : Takes false (step_in (k + 1) d s).device ss (k + 1) (high_taken (step_in (k + 1) d s).device ss (k + 1)) → (t : Bool) → ltb s 2 ≡ t
        → Takes false d (s ∷ ss) k
        (cond t (stopped d k Nothing) (unless_sent (step d s).sent (high_taken (step_in (k + 1) d s).device ss (k + 1)) (stopped (step_in (k + 1) d s).device (k + 1) (step d s).sent)))
    go r true h = takes_none false d (s ∷ ss) k
    go r false h = takes_step d s ss k (step d s).sent refl h r

-- a state that sends nothing is not dated
quiet-in : (t : ℕ) (d : Device) (s : ℕ) (x : Stepped) → step d s ≡ x → x.sent ≡ Nothing → step_in t d s ≡ x
quiet-in t d s x e n = ap (dated_step t d.registers) e ∙ ap (λ (y : Sent). record { device = dated_by y t d.registers x.device; sent = x.sent }) n

-- states at which the phase alone goes on
abbrev gone : Registers → PhaseRun → Taken
gone r q = stopped (at r q.phase) q.at Nothing

takes-phase_run : (r : Registers) (p : Phase) (ss : List ℕ) (k : ℕ) → Small p → Takes true (at r p) ss k (gone r (phase_run p ss k))
unfolding phase_run
takes-phase_run r p [] k h = takes_none true (at r p) [] k
takes-phase_run r p (s ∷ ss) k h = go (takes-phase_run r (phase_step p s) ss (k + 1) (roam_step-small p s h)) (phase_only p s) refl
  where
    go : Takes true (at r (phase_step p s)) ss (k + 1) (gone r (phase_run (phase_step p s) ss (k + 1))) → (t : Bool) → phase_only p s ≡ t
        → Takes true (at r p) (s ∷ ss) k (gone r (cond t (phase_run (phase_step p s) ss (k + 1)) (record { phase = p; at = k })))
    go x true e =
        takes-on true (at r p) s ss k (moved r (phase_step p s)) (gone r (phase_run (phase_step p s) ss (k + 1))) (quiet-in (k + 1) (at r p) s (moved r (phase_step p s)) (step-phase_only r p s h e) refl) refl (λ f. absurd (true≢false f)) x
    go x false e = takes_none true (at r p) (s ∷ ss) k

-- and so does any device, from a low state on
pub takes_low : (d : Device) (s : ℕ) (ss : List ℕ) (k : ℕ) → ltb s 2 ≡ true → Takes true d (s ∷ ss) k (phase_taken d (phase_run (phase_of d.place) (s ∷ ss) k))
takes_low d s ss k e =
    let p = heard (phase_of d.place) s in
    subst (λ (q : PhaseRun). Takes true d (s ∷ ss) k (phase_taken d q)) (sym (phase_run-low (phase_of d.place) s ss k e))
    (takes-on true d s ss k (moved d.registers p) (gone d.registers (phase_run p ss (k + 1))) (quiet-in (k + 1) d s (moved d.registers p) (step-low d s e) refl) refl (λ f. absurd (true≢false f))
    (takes-phase_run d.registers p ss (k + 1) (heard-small (phase_of d.place) s)))

-- ---- a device that is not passing sends nothing, or a header once, and is passing then

pub data Fine : Stepped → Type 0 where
  on : {r : Registers} (p : Phase) → is_passing p ≡ false → Fine (moved r p)
  ends : {r : Registers} {c : Command} {n : ℕ} → n < 1024 → Fine (sending r Passing (Header c n))

-- the numbers of a phase are passing where the phase is
pub passes_at : (r : Registers) (p : Phase) → is_passing p ≡ false → passes (at r p) ≡ false
passes_at r (Hunting window) e = refl
passes_at r (Opening read) e = refl
passes_at r (Counting c read) e = refl
passes_at r (Slice c count taken) e = refl
passes_at r Passing e = absurd (true≢false e)
passes_at r Lost e = refl

raised_lt : (n flag : ℕ) → raised n flag < 1024
raised_lt n flag =
    cond_both (λ (x : ℕ). x < 1024) (eqb flag 0) (n % 1024) ((n + 1) % 1024) (λ _. mod-lt n (omega arith)) (λ _. mod-lt (n + 1) (omega arith))

fine-high : (r : Registers) (p : Phase) (s : ℕ) → is_passing p ≡ false → Fine (step_high r p s)
fine-high r (Hunting w) s e = on (headed (Hunting w) (s % 2)) (headed-quiet (Hunting w) (s % 2) e)
fine-high r (Opening a) s e = on (headed (Opening a) (s % 2)) (headed-quiet (Opening a) (s % 2) e)
fine-high r (Counting c a) s e = on (headed (Counting c a) (s % 2)) (headed-quiet (Counting c a) (s % 2) e)
fine-high r (Slice c n t) s e =
    let q : Registers = took r (t / field_width (part_of r.part) c) (s % 2) (field_limit (part_of r.part) c) in
    cond_both Fine (ltb (t + 1) (slice_length r c)) (moved q (Slice c n (t + 1))) (sending (stored q c) Passing (Header c (raised n (fault q c))))
    (λ _. on (Slice c n (t + 1)) refl) (λ _. ends (raised_lt n (fault q c)))
fine-high r Passing s e = absurd (true≢false e)
fine-high r Lost s e = on Lost refl

pub fine-low : (d : Device) (s : ℕ) → ltb s 2 ≡ true → Fine (step d s)
fine-low d s e =
    subst (λ (t : Bool). Fine (cond t (moved d.registers (heard (phase_of d.place) s)) (step_high d.registers (phase_of d.place) s))) (sym e) (on (heard (phase_of d.place) s) refl)

pub fine-step : (d : Device) (s : ℕ) → passes d ≡ false → Fine (step d s)
fine-step d s e =
    let p : Phase = phase_of d.place in
    cond_both Fine (ltb s 2) (moved d.registers (heard p s)) (step_high d.registers p s) (λ _. on (heard p s) refl)
    (λ _. fine-high d.registers p s e)

pub data Ending : Taken → Type 0 where
  quiet : {d : Device} {k : ℕ} → passes d ≡ false → Ending (stopped d k Nothing)
  sent : {r : Registers} {k : ℕ} {c : Command} {n : ℕ} → n < 1024 → Ending (stopped (passer r) k (Header c n))

fine-ending : (q : Registers) (st : Stepped) (ss : List ℕ) (k : ℕ) → Fine st → ((d : Device) → passes d ≡ false → Ending (high_taken d ss k))
    → Ending (unless_sent st.sent (high_taken (dated_step k q st).device ss k) (stopped (dated_step k q st).device k st.sent))
fine-ending q _ ss k (on {r} p e) rec = rec (at r p) (passes_at r p e)
fine-ending q _ ss k (ends h) rec = sent h

pub endings : (d : Device) (ss : List ℕ) (k : ℕ) → passes d ≡ false → Ending (high_taken d ss k)
unfolding high_taken
endings d [] k e = quiet e
endings d (s ∷ ss) k e =
    let st : Stepped = step_in (k + 1) d s in
    cond_both Ending (ltb s 2) (stopped d k Nothing) (unless_sent st.sent (high_taken st.device ss (k + 1)) (stopped st.device (k + 1) st.sent))
    (λ _. quiet e) (λ _. fine-ending d.registers (step d s) ss (k + 1) (fine-step d s e) (λ d' e'. endings d' ss (k + 1) e'))

-- any device at a low state, passing or not
pub ending-low : (d : Device) (s : ℕ) (ss : List ℕ) (k : ℕ) → ltb s 2 ≡ true → Ending (phase_taken d (phase_run (phase_of d.place) (s ∷ ss) k))
ending-low d s ss k e =
    let p = heard (phase_of d.place) s in
    subst (λ (q : PhaseRun). Ending (phase_taken d q)) (sym (phase_run-low (phase_of d.place) s ss k e))
    (quiet (passes_at d.registers (phase_run p ss (k + 1)).phase (phase_run-quiet p ss (k + 1) refl)))

-- ---- the device of a turn, by the next state, where no header is under way to it

pub device-front : (d : Device) (p : Sent) (ss : List ℕ) (i : ℕ) → NoHeader p → front_taken d ss i ≡ device_taken d p ss i
device-front d Nothing ss i h = refl
device-front d (One s) ss i h = refl
device-front d (Header c n) ss i h = absurd (not_last h)

pub front-end : (d : Device) (ss : List ℕ) (i : ℕ) → length ss ≤ i → high_taken d (drop i ss) i ≡ front_taken d (drop i ss) i
front-end d ss i h = high_end d ss i i h ∙ ap (λ (xs : List ℕ). front_taken d xs i) (sym (drop_of_length-le ss h))

-- at a state s, by whether it is low and the device passes
abbrev front_by : Device → List ℕ → ℕ → Bool → Bool → Taken
front_by d xs i low passing = cond low (phase_taken d (phase_run (phase_of d.place) xs i)) (cond passing (stopped d i (One 0)) (high_taken d xs i))

front_by_lem : (d : Device) (ss : List ℕ) (i : ℕ) (low passing : Bool) → i < length ss → ltb (get_or ss i 0) 2 ≡ low → passes d ≡ passing
    → front_by d (drop i ss) i low passing ≡ front_taken d (drop i ss) i
front_by_lem d ss i low passing h e g =
    ap (λ (t : Bool). front_by d (drop i ss) i t passing) (sym e)
    ∙ ap (λ (t : Bool). front_by d (drop i ss) i (ltb (get_or ss i 0) 2) t) (sym g)
    ∙ ap (λ (xs : List ℕ). front_by d xs i (ltb (get_or ss i 0) 2) (passes d)) (drop-on ss i h)
    ∙ ap (λ (xs : List ℕ). front_taken d xs i) (sym (drop-on ss i h))

pub front_low : (d : Device) (ss : List ℕ) (i : ℕ) → i < length ss → get_or ss i 0 < 2 → low_taken d Nothing (drop i ss) i ≡ front_taken d (drop i ss) i
front_low d ss i h l = front_by_lem d ss i true (passes d) h (lt-ltb (get_or ss i 0) 2 l) refl

pub front-passes : (d : Device) (ss : List ℕ) (i : ℕ) → i < length ss → 2 ≤ get_or ss i 0 → passes d ≡ true → stopped d i (One 0) ≡ front_taken d (drop i ss) i
front-passes d ss i h l e = front_by_lem d ss i false true h (le-ltb (get_or ss i 0) 2 l) e

pub front-high : (d : Device) (ss : List ℕ) (i : ℕ) → i < length ss → 2 ≤ get_or ss i 0 → passes d ≡ false → high_taken d (drop i ss) i ≡ front_taken d (drop i ss) i
front-high d ss i h l e = front_by_lem d ss i false false h (le-ltb (get_or ss i 0) 2 l) e

-- ---- what it took is settled in its record

front-settles : (d : Device) (ss : List ℕ) (i : ℕ) → Settles d (front_taken d ss i)
front-settles d [] i = refl
front-settles d (s ∷ ss) i =
    cond_both (Settles d) (ltb s 2) (phase_taken d (phase_run (phase_of d.place) (s ∷ ss) i)) (cond (passes d) (stopped d i (One 0)) (high_taken d (s ∷ ss) i))
    (λ _. refl) (λ _. cond_both (Settles d) (passes d) (stopped d i (One 0)) (high_taken d (s ∷ ss) i) (λ _. refl) (λ _. settled-high (s ∷ ss) d i))

pub device-settles : (d : Device) (p : Sent) (ss : List ℕ) (i : ℕ) → Settles d (device_taken d p ss i)
device-settles d (Header c n) ss i = settled-high ss (slice_start d c n) i
device-settles d Nothing ss i = front-settles d ss i
device-settles d (One b) ss i = front-settles d ss i
