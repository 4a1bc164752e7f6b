-- What is not a clock, seen in the model: a fresh device, a fault setting; then every accepted call on a chain. By cases on the call: a run is
-- `through-agree`, a fault setting changes registers that no phase looks at. Assumes nothing.
use mathlib.Core.Path.{◌≡◌, refl, ap, ◌∙◌}
use mathlib.Core.Bool.{Bool, true, false, cond}
use mathlib.Core.List.{List, [], ◌∷◌, map}
use Prim.Native.Nat.{ℕ, zero, suc, ◌-◌}
use lib.Dec.{eqb}
use lib.ListN.{length, length-map, get_or, set, replicate, get_or-map}
use borrow.Author.Tests.{eq-eqb}
use Rattle.bits.specs.Bits.{is_one, digit}
use Rattle.parts.specs.Parts.{part_of, outputs}
use Rattle.parts.specs.Wire.{State, state_at}
use Rattle.parts.proofs.Laws.{usable}
use Rattle.parts.proofs.Rows.{outputs-le}
use Rattle.registers.specs.Held.{flagged, showing}
use Rattle.phases.specs.Phases.{phase_of}
use Rattle.device.specs.Step.{fresh_device, faulted}
use Rattle.device.specs.Judgement.{fits}
use Rattle.phases.specs.declared.phase.Phase.{Phase}
use Rattle.registers.specs.declared.registers.Registers.{Registers}
use Rattle.device.specs.declared.device.Device.{Device}
use Rattle.tables.proofs.Booleans.{and_both, cond_both}
use Rattle.calls.specs.Chain.{all_fit, blank}
use Rattle.calls.specs.Calls.{run_refusal, run_devices, returned}
use Rattle.calls.proofs.Accepted.{Accepted, accepted-run}
use Rattle.calls.specs.History.{Call, fresh, run, fault, refusal_of, effect, after, given, answered}
use Rattle.model.specs.Lists.{All}
use Rattle.model.proofs.Lists.{take-replicate, all-below}
use Rattle.model.specs.Device as model
use Rattle.watchdog.specs.Watched.{Watched}
use Rattle.link.specs.View.{registers_of, phase_in, device_of, clocked_of, watched_of, Arrays}
use Rattle.link.specs.Called.{flag_set, flag_watched, called}
use Rattle.link.proofs.View.{Sound, showing-phase}
use Rattle.link.proofs.Device.{through-agree}
use Rattle.link.proofs.Calls.{after-effect, ran-one}

one-digit : (b : Bool) → is_one (digit b) ≡ b
one-digit true = refl
one-digit false = refl

-- ---- a fresh device

fresh-same : (part bit limit : ℕ) → device_of (fresh_device part bit limit) ≡ model.fresh_device (part_of part)
unfolding device_of
fresh-same part bit limit =
    let p = part_of part in
    let u = usable part in
    rw (take-replicate p.banks 3 0 u.few_banks, take-replicate (outputs p) 24 0 (outputs-le p u))

replicate-map : {A B : Type 0} (f : A → B) (n : ℕ) (x : A) → map f (replicate n x) ≡ replicate n (f x)
replicate-map f zero x = refl
replicate-map f (suc n) x = rw (replicate-map f n x)

-- ---- a fault setting

flagged-registers : (r : Registers) (kind : ℕ) (flag : Bool) → registers_of (flagged r kind (digit flag)) ≡ model.flagged kind flag (registers_of r)
flagged-registers r kind flag = go (eqb kind 0)
  where
    go : (b : Bool)
        → registers_of (cond b (showing r (digit flag) r.openled r.active r.active0 r.active1) (showing r r.overtemperature (digit flag) r.active r.active0 r.active1))
        ≡ record {
          part = part_of r.part;
          configuration = r.configuration;
          calibration = (registers_of r).calibration;
          waiting = (registers_of r).waiting;
          active = (registers_of r).active;
          overtemperature = cond b flag (is_one r.overtemperature);
          openled = cond b (is_one r.openled) flag;
        }
    go true = rw (one-digit flag)
    go false = rw (one-digit flag)

flagged-phase : (r : Registers) (kind flag : ℕ) (p : Phase) → phase_in (flagged r kind flag) p ≡ phase_in r p
flagged-phase r kind flag p =
    cond_both (λ (q : Registers). phase_in q p ≡ phase_in r p) (eqb kind 0) _ _
    (λ _. showing-phase r flag r.openled r.active r.active0 r.active1 p)
    (λ _. showing-phase r r.overtemperature flag r.active r.active0 r.active1 p)

flagged-position : (r : Registers) (kind flag : ℕ) → (flagged r kind flag).position ≡ r.position
flagged-position r kind flag = cond_both (λ (q : Registers). q.position ≡ r.position) (eqb kind 0) _ _ (λ _. refl) (λ _. refl)

flagged-watch : (r : Registers) (kind flag : ℕ) → (flagged r kind flag).watch ≡ r.watch
flagged-watch r kind flag = cond_both (λ (q : Registers). q.watch ≡ r.watch) (eqb kind 0) _ _ (λ _. refl) (λ _. refl)

pub fault-same : (d : Device) (kind : ℕ) (flag : Bool) → clocked_of (faulted d kind (digit flag)) ≡ flag_set kind flag (clocked_of d)
unfolding device_of
fault-same d kind flag =
    rw (
      flagged-registers d.registers kind flag,
      flagged-phase d.registers kind (digit flag) (phase_of d.place),
      flagged-position d.registers kind (digit flag),
    )

pub fault-watched : (d : Device) (kind : ℕ) (flag : Bool) → watched_of (faulted d kind (digit flag)) ≡ flag_watched kind flag (watched_of d)
fault-watched d kind flag = rw (fault-same d kind flag, flagged-watch d.registers kind (digit flag))

set-map : {A B : Type 0} (f : A → B) (xs : List A) (i : ℕ) (x : A) → map f (set xs i x) ≡ set (map f xs) i (f x)
set-map f [] i x = refl
set-map f (y ∷ ys) zero x = refl
set-map f (y ∷ ys) (suc i) x = rw (set-map f ys i x)

-- ---- every accepted call

-- records that fit and whose arrays have their lengths
pub all_sound : (ds : List Device) → all_fit ds ≡ true → All Arrays ds → All Sound ds
all_sound [] e h = tt
all_sound (d ∷ ds) e h = let f = and_both (fits d) (all_fit ds) e in (record { fit = f.0; arrays = h.0 }, all_sound ds f.1 h.1)

accepted-given : (ds : List Device) (ss out : List ℕ) → refusal_of ds (run ss out) ≡ 0 → given ds (run ss out) ≡ ss
unfolding refusal_of
accepted-given ds ss out e = rw (eq-eqb (run_refusal ds ss (length out)) 0 e)

accepted-after : (ds : List Device) (c : Call) → refusal_of ds c ≡ 0 → after ds c ≡ effect ds c
accepted-after ds c e = after-effect ds c ∙ rw (eq-eqb (refusal_of ds c) 0 e)

accepted-of : (ds : List Device) (ss out : List ℕ) → refusal_of ds (run ss out) ≡ 0 → Accepted ds ss (length out)
unfolding refusal_of
accepted-of ds ss out e = accepted-run ds ss (length out) (eq-eqb (run_refusal ds ss (length out)) 0 e)

pub call_same : (ds : List Device) (c : Call) → All Arrays ds → refusal_of ds c ≡ 0
    → ◌≡◌ {A = List Watched × List State} (map watched_of (after ds c), map state_at (answered ds c)) (called (map watched_of ds) c)
call_same ds (fresh part bit limit) a e =
    rw (
      accepted-after ds (fresh part bit limit) e,
      length-map,
      replicate-map watched_of (length ds) (fresh_device part bit limit),
      fresh-same part bit limit,
    )
call_same ds (run ss out) a e =
    let f = accepted-given ds ss out e in
    let x = ran-one ds ss out in
    let w : Accepted ds ss (length out) = accepted-of ds ss out e in
    ap (λ (y : List Device × List ℕ). (map watched_of y.0, map state_at y.1)) x
    ∙ ap (λ (zs : List ℕ). (map watched_of (run_devices ds zs), map state_at (returned ds zs))) f
    ∙ through-agree ds ss (all_sound ds w.fit a) (all-below 4 ss w.below)
call_same ds (fault device kind flag) a e =
    rw (
      accepted-after ds (fault device kind flag) e,
      set-map watched_of ds (device - 1) (faulted (get_or ds (device - 1) blank) kind (digit flag)),
      fault-watched (get_or ds (device - 1) blank) kind flag,
      get_or-map watched_of ds (device - 1) blank,
    )
