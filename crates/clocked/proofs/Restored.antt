-- A restore of a chain with clocks. What waits after the four frames is the model's, by erasure; then every device ages at low load until its
-- position has returned to 0, and what waited is active. Low clocks may come in pieces, with fault settings between them: `DueIn` goes from
-- each to the next. Assumes nothing.
use mathlib.Core.Path.{◌≡◌, refl, ap, ◌∙◌}
use mathlib.Core.Bool.{Bool, true, false, cond}
use mathlib.Core.List.{List, [], ◌∷◌, ◌++◌, map}
use mathlib.Core.Logic.{◌⊎◌, inl, inr, ⊎_elim}
use Prim.Native.Nat.{ℕ, ◌+◌, ◌-◌, ◌%◌, ◌≤◌, ◌<◌}
use native.Mathlib.Nat.{mod-lt, mod-eq_of_lt}
use native.Mathlib.Omega.{arith}
use lib.Dec.{ltb}
use lib.ListN.{length, length-map}
use borrow.Author.Tests.{ltb-true}
use Rattle.parts.specs.Parts.{Part, part_of}
use Rattle.parts.specs.Wire.{State, Edge, lows}
use Rattle.parts.specs.declared.command.Command.{Command}
use Rattle.machine.specs.Machine.{All, clock}
use Rattle.machine.proofs.Machine.{run-append}
use Rattle.model.specs.Lists.{Pairwise}
use Rattle.model.specs.Device.{Values, Registers, Device, at, activated, faulted, run_chain, registers_in}
use Rattle.model.specs.Set.{Own}
use Rattle.model.specs.Restore.{pieces_of, pieces_states, RegistersHold}
use Rattle.model.proofs.Lists.{pairwise_map, pairwise-unmap, pairwise-second}
use Rattle.model.proofs.Restore.{Ready, AllWaiting, pieces-run, sent-four, stage4, registers-passings, to-holds}
use Rattle.clocked.specs.Clock.{Clocked, registers_of, length_in, length_of, Placed, Running, ReturnsWithin, tick, aged, step_clocked, run_clocked, devices_in}
use Rattle.clocked.proofs.Erase.{with_active, bare, none, erased}
use Rattle.clocked.proofs.Lengths.{running-row, short_row}
use Rattle.clocked.proofs.Aged.{activated-length}
use Rattle.clocked.proofs.Placed.{PlacedOf, run_in}
use Rattle.clocked.proofs.Low.{unphased, low-aged}

-- ---- low clocks in pieces

-- what waits in a device is its own, and is active already or becomes so within m clocks
pub record DueIn (m : ℕ) (o : Own) (c : Clocked) : Type 0 where
  pub waits : RegistersHold o (activated (registers_of c))
  pub placed : Placed c
  pub soon : ((registers_of c).active ≡ (registers_of c).waiting) ⊎ ReturnsWithin m c

due-aged : (n m : ℕ) (o : Own) (c : Clocked) → DueIn m o c → DueIn (m - n) o (aged n c)
unfolding aged activated
due-aged n m o c h = by (ltb (c.position + n) (length_of c)) refl
  where
    some : 0 < length_of c
    some = omega (arith, h.placed)

    by : (b : Bool) → ltb (c.position + n) (length_of c) ≡ b
        → DueIn (m - n) o (record { device = at (cond b (registers_of c) (activated (registers_of c))) c.device.phase; position = (c.position + n) % length_of c })
    by true e =
        let l : c.position + n < length_of c = ltb-true (c.position + n) (length_of c) e in
        let p : (c.position + n) % length_of c ≡ c.position + n = mod-eq_of_lt l in
        record { waits = h.waits; placed = mod-lt (c.position + n) some; soon = ⊎_elim inl (λ r. inr (rw p (omega (arith, r)))) h.soon }
    by false e = record { waits = h.waits; placed = rw (activated-length (registers_of c)) (mod-lt (c.position + n) some); soon = inl refl }

-- Low clocks
pub due-low : (m : ℕ) (bs : List Bool) (os : List Own) (cs : List Clocked) → Pairwise (DueIn m) os cs → Pairwise (DueIn (m - length bs)) os (run_clocked cs (lows bs)).0
due-low m bs os cs h =
    let n : ℕ = length bs in
    let p : All Placed cs = pairwise-second (DueIn m) Placed (λ o c d. d.placed) os cs h in
    let a : Pairwise (DueIn (m - n)) os (map (aged n) cs) = pairwise_map (DueIn m) (DueIn (m - n)) (aged n) (due-aged n m) os cs h in
    let b : Pairwise (DueIn (m - n)) os (map unphased (map (aged n) cs)) =
    pairwise_map (DueIn (m - n)) (DueIn (m - n)) unphased (λ o c d. record { waits = d.waits; placed = d.placed; soon = d.soon }) os (map (aged n) cs) a in
    pairwise-unmap (DueIn (m - n)) (DueIn (m - n)) unphased (λ o c d. record { waits = d.waits; placed = d.placed; soon = d.soon }) os _ (rw (low-aged bs cs p) b)

-- a fault setting in a device
pub due-faulted : (m kind : ℕ) (flag : Bool) (o : Own) (c : Clocked) → DueIn m o c → DueIn m o (record { device = faulted kind flag c.device; position = c.position })
unfolding activated length_in
due-faulted m kind flag o c h = record {
  waits = record { configuration = h.waits.configuration; calibration = h.waits.calibration; global = h.waits.global; individual = h.waits.individual };
  placed = h.placed;
  soon = h.soon;
}

-- no clock more is needed
due-now : (o : Own) (c : Clocked) → DueIn 0 o c → RegistersHold o (registers_of c)
unfolding activated
due-now o c h = ⊎_elim held (λ r. absurd (omega (arith, r, h.placed))) h.soon
  where
    held : (registers_of c).active ≡ (registers_of c).waiting → RegistersHold o (registers_of c)
    held e = record {
      configuration = h.waits.configuration;
      calibration = h.waits.calibration;
      global = ap (λ (v : Values). v.global) e ∙ h.waits.global;
      individual = rw e h.waits.individual;
    }

-- Settled: after the clocks that were due, the registers in use hold each device's own
pub settled : (os : List Own) (cs : List Clocked) → Pairwise (DueIn 0) os cs → Pairwise RegistersHold os (registers_in (devices_in cs))
settled os cs h =
    pairwise_map (λ o d. RegistersHold o d.registers) RegistersHold (λ (d : Device). d.registers) (λ o d r. r) os (devices_in cs)
    (pairwise_map (DueIn 0) (λ o d. RegistersHold o d.registers) (λ (c : Clocked). c.device) due-now os cs h)

-- ---- the four frames

-- what reads no active value goes over from devices to devices that are alike but for these
module _ (v : Values) (R : Own → Registers → Type 0) (to : (o : Own) (r : Registers) → R o r → R o (with_active v r)) (from : (o : Own) (r : Registers) → R o (with_active v r) → R o r) where
  abbrev OfDevice : Own → Device → Type 0
  OfDevice o d = R o d.registers

  carried : (os : List Own) (ds es : List Device) → map (bare v) ds ≡ map (bare v) es → Pairwise R os (registers_in es) → Pairwise R os (registers_in ds)
  carried os ds es e b =
      let b1 : Pairwise OfDevice os es = pairwise-unmap OfDevice R (λ (d : Device). d.registers) (λ o d h. h) os es b in
      let b2 : Pairwise OfDevice os (map (bare v) es) = pairwise_map OfDevice OfDevice (bare v) (λ o d h. to o d.registers h) os es b1 in
      let b3 : Pairwise OfDevice os (map (bare v) ds) = rw e b2 in
      let b4 : Pairwise OfDevice os ds = pairwise-unmap OfDevice OfDevice (bare v) (λ o d h. from o d.registers h) os ds b3 in
      pairwise_map OfDevice R (λ (d : Device). d.registers) (λ o d h. h) os ds b4

-- devices of the row, by what is their own
pub placed-ready : (w : Part) (os : List Own) (cs : List Clocked) → Pairwise (Ready w) os (registers_in (devices_in cs)) → All Placed cs → All (PlacedOf w) cs
placed-ready w [] [] b h = tt
placed-ready w [] (c ∷ cs) b h = absurd b
placed-ready w (o ∷ os) [] b h = absurd b
placed-ready w (o ∷ os) (c ∷ cs) b h = ((h.0, b.0.1), placed-ready w os cs b.1 h.1)

due_all : (w : Part) (m : ℕ) (os : List Own) (cs : List Clocked) → Pairwise (AllWaiting w) os (registers_in (devices_in cs)) → All (PlacedOf w) cs → All (ReturnsWithin m) cs
    → Pairwise (DueIn m) os cs
due_all w m [] [] b h l = tt
due_all w m [] (c ∷ cs) b h l = absurd b
due_all w m (o ∷ os) [] b h l = absurd b
due_all w m (o ∷ os) (c ∷ cs) b h l =
    (record { waits = to-holds w o (registers_of c) b.0; placed = h.0.0; soon = inr l.0 }, due_all w m os cs b.1 h.1 l.1)

-- a chain of devices of a row, in any phases and with any registers, their positions in range; os is each device's own
module _ (w : Part) (os : List Own) (edge : Command → Edge) (gap tail : Command → List Bool) (cs : List Clocked)
    (some : 0 < length cs) (few : length cs < 1024) (running : Running w) (ready : Pairwise (Ready w) os (registers_in (devices_in cs))) (placed : All Placed cs) where
  abbrev frames : List State
  frames = pieces_states w os edge gap tail

  -- the chain after the last frame
  abbrev sent : List Clocked
  sent = (run_clocked cs frames).0

  -- all waits, and configuration and calibration stand, as in the model
  all-waiting : Pairwise (AllWaiting w) os (registers_in (devices_in sent))
  all-waiting =
      let ds : List Device = devices_in cs in
      let n : length ds ≡ length cs = length-map cs (λ (c : Clocked). c.device) in
      let m : length (registers_in ds) ≡ length ds = length-map ds (λ (d : Device). d.registers) in
      let base : Pairwise (AllWaiting w) os (registers_in (run_chain ds frames).0) =
      rw (← pieces-run ds (pieces_of w os edge gap tail), sent-four w os edge gap tail ds (omega arith) (omega arith) ready, registers-passings) (stage4 w os (registers_in ds) ready) in
      carried none (AllWaiting w) (λ o r x. x) (λ o r x. x) os (devices_in sent) (run_chain ds frames).0 (erased none cs frames) base

  pub sent-in : All (PlacedOf w) sent
  sent-in = run_in w running cs frames (placed-ready w os cs ready placed)

  -- after the last frame, by the clocks until each position next returns to 0
  pub restored-due : (m : ℕ) → All (ReturnsWithin m) sent → Pairwise (DueIn m) os sent
  restored-due m l = due_all w m os sent all-waiting sent-in l

  -- Restored: after the last frame, clocks at low load until each position has next returned to 0
  pub restored : (last : List Bool) → All (ReturnsWithin (length last)) sent → Pairwise RegistersHold os (registers_in (devices_in (run_clocked cs (frames ++ lows last)).0))
  restored last l =
      let z : length last - length last ≡ 0 = omega arith in
      let d : Pairwise (DueIn 0) os (run_clocked sent (lows last)).0 = rw z at (due-low (length last) last os sent (restored-due (length last) l)) in
      rw (run-append (clock step_clocked tick) cs frames (lows last)) (settled os (run_clocked sent (lows last)).0 d)

-- ---- how many clocks are enough

length-short : (n : ℕ) (r : Registers) → r.part ≡ part_of n → length_in r ≤ 524288
unfolding length_in
length-short n r e = rw e (short_row n r.configuration)

-- every position of a part's devices returns within 524,288 clocks
pub returns-all : (n : ℕ) (cs : List Clocked) → All (PlacedOf (part_of n)) cs → All (ReturnsWithin 524288) cs
returns-all n [] h = tt
returns-all n (c ∷ cs) h = let l = length-short n (registers_of c) h.0.1 in (omega arith, returns-all n cs h.1)

-- Restorable: 524,288 clocks at low load after the last frame are enough, whatever the part and the positions
pub restorable : (n : ℕ) (os : List Own) (edge : Command → Edge) (gap tail : Command → List Bool) (cs : List Clocked) → 0 < length cs → length cs < 1024
    → Pairwise (Ready (part_of n)) os (registers_in (devices_in cs)) → All Placed cs → (last : List Bool) → length last ≡ 524288
    → Pairwise RegistersHold os (registers_in (devices_in (run_clocked cs (pieces_states (part_of n) os edge gap tail ++ lows last)).0))
restorable n os edge gap tail cs some few ready placed last e =
    restored (part_of n) os edge gap tail cs some few (running-row n) ready placed last
    (rw e (returns-all n (run_clocked cs (pieces_states (part_of n) os edge gap tail)).0 (sent-in (part_of n) os edge gap tail cs some few (running-row n) ready placed)))
