-- A restore of a chain with clocks, cut after any number of states. Active values change at boundaries only, so they are what waited before the
-- last one, by induction on the states; what waited then is the model's cut after so many states, by erasure. Assumes nothing.
use mathlib.Core.Path.{◌≡◌, refl, sym, ap, ◌∙◌}
use mathlib.Core.Bool.{Bool, true, false, cond}
use mathlib.Core.List.{List, [], ◌∷◌, ◌++◌, map, map-map}
use Prim.Native.Nat.{ℕ, zero, suc, ◌≤◌, ◌<◌}
use native.Mathlib.Omega.{arith}
use lib.Dec.{eqb, leb}
use lib.ListN
use lib.ListN.{length, length-map, take, get_or}
use lib.Seq.{take-suc}
use Rattle.parts.specs.Parts.{Part}
use Rattle.parts.specs.Wire.{State, low, Edge, lows}
use Rattle.parts.specs.declared.command.Command.{Command}
use Rattle.parts.specs.declared.command.Command.TheVariants.{Individual, Calibration, Global, Configuration}
use Rattle.machine.specs.Machine.{run, clock}
use Rattle.machine.proofs.Machine.{run-append, run-one, chain-keeps, length-clocks}
use Rattle.model.specs.Lists.{Pairwise}
use Rattle.model.specs.Device.{Values, Registers, Device, load, activated, run_chain, registers_in}
use Rattle.model.specs.Set.{Own}
use Rattle.model.specs.Restore.{pieces_states, states_until, CutFields}
use Rattle.model.proofs.Lists.{pairwise-length, get_d_map}
use Rattle.model.proofs.Restore.{Ready}
use Rattle.model.proofs.CutSet.{cut-sent}
use Rattle.clocked.specs.Clock.{Clocked, registers_of, next, tick, step_clocked, run_clocked, devices_in, last_boundary}
use Rattle.clocked.specs.Cut.{Groups, Active, CutClocked}
use Rattle.clocked.proofs.Kept.{step_keeps}
use Rattle.clocked.proofs.Erase.{with_active, bare, none, erased}

-- ---- what is active

abbrev active_of : Clocked → Values
active_of c = (registers_of c).active

load-active : (c : Command) (bs : List Bool) (r : Registers) → (load c bs r).active ≡ r.active
unfolding load
load-active Individual bs r = refl
load-active Calibration bs r = refl
load-active Global bs r = refl
load-active Configuration bs r = refl

-- no line state changes it
step-active : (c : Clocked) (l : State) → active_of (step_clocked c l).0 ≡ active_of c
step-active c l = step_keeps (λ r. r.active) load-active c l

tick-active : (c : Clocked) → active_of (tick c) ≡ cond (eqb (next c) 0) (registers_of c).waiting (active_of c)
unfolding tick activated
tick-active c = by (eqb (next c) 0)
  where
    by : (b : Bool) → (cond b (activated (registers_of c)) (registers_of c)).active ≡ cond b (registers_of c).waiting (active_of c)
    by true = refl
    by false = refl

clock-active : (cs : List Clocked) (l : State) → map active_of (clock step_clocked tick cs l).0 ≡ map (λ c. active_of (tick c)) cs
unfolding clock
clock-active cs l = chain-keeps step_clocked active_of step-active (map tick cs) (l ∷ []) ∙ map-map active_of tick cs

-- the device at place i, from 0, after so many of the states
abbrev device_after : List Clocked → List State → ℕ → Clocked → ℕ → Clocked
device_after cs ls i z k = get_or (run_clocked cs (take k ls)).0 i z

module _ (cs : List Clocked) (ls : List State) (i : ℕ) (z : Clocked) (h : i < length cs) where
  abbrev after : ℕ → Clocked
  after k = device_after cs ls i z k

  active-suc : (k : ℕ) → k < length ls → active_of (after (suc k)) ≡ cond (eqb (next (after k)) 0) (registers_of (after k)).waiting (active_of (after k))
  active-suc k l =
      let ts : List Clocked = (run_clocked cs (take k ls)).0 in
      let x : State = get_or ls k (low false) in
      let us : List Clocked = (clock step_clocked tick ts x).0 in
      let e : (run_clocked cs (take (suc k) ls)).0 ≡ us =
      rw (take-suc ls k (low false) l, run-append (clock step_clocked tick) cs (take k ls) (x ∷ []), run-one (clock step_clocked tick) ts x) in
      let n : i < length ts = rw (length-clocks step_clocked tick cs (take k ls)) h in
      ap (λ (t : List Clocked). active_of (get_or t i z)) e ∙ sym (ListN.get_or-map active_of us i z)
      ∙ ap (λ (vs : List Values). get_or vs i (active_of z)) (clock-active ts x)
      ∙ get_d_map (λ (c : Clocked). active_of (tick c)) ts i z (active_of z) n ∙ tick-active (after k)

  -- what stands active by the last boundary
  abbrev standing : ℕ → Values
  standing zero = active_of (after 0)
  standing (suc n) = (registers_of (after n)).waiting

  active-last : (k : ℕ) → k ≤ length ls → active_of (after k) ≡ standing (last_boundary after k)
  unfolding last_boundary
  active-last zero l = refl
  active-last (suc k) l = active-suc k (omega arith) ∙ by (eqb (next (after k)) 0) (active-last k (omega arith))
    where
      by : (b : Bool) → active_of (after k) ≡ standing (last_boundary after k) → cond b (registers_of (after k)).waiting (active_of (after k)) ≡ standing (cond b (suc k) (last_boundary after k))
      by true e = refl
      by false e = e

-- ---- what waits

-- but for active values the device is the model's
erased-at : (v : Values) (cs : List Clocked) (ls : List State) (i : ℕ) (z : Clocked) (k : ℕ)
    → with_active v (registers_of (device_after cs ls i z k)) ≡ with_active v (get_or (registers_in (run_chain (devices_in cs) (take k ls)).0) i (registers_of z))
erased-at v cs ls i z k =
    let ts : List Clocked = (run_clocked cs (take k ls)).0 in
    let ds : List Device = (run_chain (devices_in cs) (take k ls)).0 in
    let d : Device = z.device in
    let a : get_or (map (bare v) (devices_in ts)) i (bare v d) ≡ bare v (get_or ts i z).device =
    ListN.get_or-map (bare v) (devices_in ts) i d ∙ ap (bare v) (ListN.get_or-map (λ (c : Clocked). c.device) ts i z) in
    let b : get_or (map (bare v) ds) i (bare v d) ≡ bare v (get_or ds i d) = ListN.get_or-map (bare v) ds i d in
    ap (λ (x : Device). x.registers) (sym a ∙ ap (λ (es : List Device). get_or es i (bare v d)) (erased v cs (take k ls)) ∙ b)
    ∙ ap (with_active v) (sym (ListN.get_or-map (λ (x : Device). x.registers) ds i d))

-- ---- the cut

-- devices of a row, in any phases and with any registers; os is each device's own; the device at place i, from 0
module _ (w : Part) (os : List Own) (edge : Command → Edge) (gap tail : Command → List Bool) (last : List Bool) (cs : List Clocked)
    (ready : Pairwise (Ready w) os (registers_in (devices_in cs))) (i : ℕ) (o : Own) (z : Clocked) (h : i < length os) where
  -- the frames, and low clocks after them
  abbrev given : List State
  given = pieces_states w os edge gap tail ++ lows last

  -- the device after so many states
  abbrev pub cut_at : ℕ → Clocked
  cut_at k = device_after cs given i z k

  -- its slice of a command has arrived within so many states
  abbrev pub arrived : Command → ℕ → Bool
  arrived c k = leb (states_until w os gap tail c (suc i)) k

  abbrev model : ℕ → Registers
  model k = get_or (registers_in (run_chain (devices_in cs) (take k given)).0) i (registers_of z)

  place : i < length cs
  place =
      let n : length (registers_in (devices_in cs)) ≡ length os = pairwise-length (Ready w) os (registers_in (devices_in cs)) ready in
      let m : length (registers_in (devices_in cs)) ≡ length (devices_in cs) = length-map (devices_in cs) (λ (d : Device). d.registers) in
      let q : length (devices_in cs) ≡ length cs = length-map cs (λ (c : Clocked). c.device) in
      omega arith

  first-at : get_or (registers_in (devices_in cs)) i (registers_of z) ≡ registers_of (get_or cs i z)
  first-at =
      ListN.get_or-map (λ (d : Device). d.registers) (devices_in cs) i z.device
      ∙ ap (λ (d : Device). d.registers) (ListN.get_or-map (λ (c : Clocked). c.device) cs i z)

  cut-model : (k : ℕ) → CutFields (λ c. arrived c k) (get_or os i o) (registers_of (get_or cs i z)) (model k)
  cut-model k = rw first-at at (cut-sent w os edge gap tail (devices_in cs) ready last k i o (registers_of z) h)

  same : (k : ℕ) → with_active none (registers_of (cut_at k)) ≡ with_active none (model k)
  same k = erased-at none cs given i z k

  cut-waiting : (k : ℕ) → Groups (λ c. arrived c k) (get_or os i o) (registers_of (get_or cs i z)).waiting (registers_of (cut_at k)).waiting
  cut-waiting k =
      let c = cut-model k in
      let e : (registers_of (cut_at k)).waiting ≡ (model k).waiting = ap (λ (r : Registers). r.waiting) (same k) in
      record { global = ap (λ (v : Values). v.global) e ∙ c.global; mux0 = ap (λ (v : Values). v.mux0) e ∙ c.mux0; mux1 = ap (λ (v : Values). v.mux1) e ∙ c.mux1 }

  cut-active : (k : ℕ) → k ≤ length given → Active arrived (last_boundary cut_at k) (get_or os i o) (registers_of (get_or cs i z)) (registers_of (cut_at k)).active
  unfolding run
  cut-active k l = by (last_boundary cut_at k) (active-last cs given i z place k l)
    where
      by : (n : ℕ) → (registers_of (cut_at k)).active ≡ standing cs given i z place n → Active arrived n (get_or os i o) (registers_of (get_or cs i z)) (registers_of (cut_at k)).active
      by zero e = e
      by (suc n) e = rw e (cut-waiting n)

  -- Cut: after k states
  pub cut : (k : ℕ) → k ≤ length (pieces_states w os edge gap tail ++ lows last) → CutClocked arrived k (last_boundary cut_at k) (get_or os i o) (registers_of (get_or cs i z)) (registers_of (cut_at k))
  cut k l =
      let c = cut-model k in
      record {
        part = ap (λ (r : Registers). r.part) (same k) ∙ c.part;
        configuration = ap (λ (r : Registers). r.configuration) (same k) ∙ c.configuration;
        calibration = ap (λ (r : Registers). r.calibration) (same k) ∙ c.calibration;
        waiting = cut-waiting k;
        active = cut-active k l;
      }
