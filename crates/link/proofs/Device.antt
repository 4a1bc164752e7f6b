-- The law of the link, `agree`: the single step of a record that fits is that of the model's device, and `keep`: it still fits. By cases on
-- the phase; the position by the lengths of the two frames, which are the same in both. A clock, `clock-agree`, is `agree-tick`, the steps of all
-- that is sent, and what the watchdog then leaves. Chains of records follow by `relays-view`. Assumes nothing.
use mathlib.Core.Path.{◌≡◌, refl, sym, ap, ◌∙◌}
use mathlib.Core.Bool.{Bool, true, false, cond}
use mathlib.Core.List.{List, [], ◌∷◌, map}
use Prim.Native.Nat.{ℕ, zero, suc, ◌+◌, ◌*◌, ◌/◌, ◌%◌, ◌≤◌, ◌<◌}
use native.Mathlib.Nat.{mod-lt}
use native.Mathlib.Omega.{arith}
use lib.Dec.{eqb, ltb, leb, lit<}
use lib.ListN.{length, get_or, drop}
use borrow.Author.Tests.{leb-true, ltb-true, ltb-false, le-ltb}
use Rattle.parts.proofs.Laws.{usable}
use Rattle.parts.proofs.Rows.{outputs-le}
use Rattle.parts.specs.Parts.{part_of, outputs, multiplex, field_width, field_limit}
use Rattle.parts.specs.Wire.{State, low, high, state_at, state_code, header, clocked, states_of}
use Rattle.parts.specs.declared.command.Command.{Command}
use Rattle.parts.specs.declared.command.Command.TheVariants.{Individual, Calibration, Global, Configuration}
use Rattle.phases.specs.Phases.{phase_of, window_of, heard, rising, opening, counting}
use Rattle.registers.specs.Held.{holding, took, activated, cleared, with_watch}
use Rattle.positions.specs.Positions.{length_in, placed_at, next, ticked, refit}
use Rattle.storing.specs.Stored.{stored, copies}
use Rattle.device.specs.Step.{moved, sent_states, slice_length, step, step_high, single_step, ticked_device}
use Rattle.device.specs.Judgement.{place_fits}
use Rattle.phases.specs.declared.phase.Phase.{Phase}
use Rattle.phases.specs.declared.phase.Phase.TheVariants.{Hunting, Opening, Counting, Slice, Passing, Lost}
use Rattle.phases.specs.declared.phase.Sent.TheVariants.{Nothing, One}
use Rattle.registers.specs.declared.registers.Registers.{Registers}
use Rattle.device.specs.declared.device.Device.{Device}
use Rattle.device.specs.declared.device.Stepped.{Stepped}
use Rattle.phases.proofs.Rising.{rising-small, opening-small, counting-small}
use Rattle.tables.proofs.Booleans.{and_both, cond_both}
use Rattle.device.proofs.Kept.{bounded, Good, phase-good, parts-of, kept, kept-ticked, kept-clock}
use Rattle.device.proofs.Position.{step-position}
use Rattle.widths.proofs.Below.{Below, below_of}
use Rattle.model.specs.Lists.{All}
use Rattle.calls.specs.Calls.{run_devices, returned}
use Rattle.model.specs.Device.{slice, step_device}
use Rattle.model.specs.Device as model
use Rattle.machine.specs.Machine as machine
use Rattle.machine.proofs.Machine.{run-view, run-sends, relays-view, relays-hold, relays-keep, relays-send}
use Rattle.machine.proofs.Machine.{run-keeps as machine-keeps}
use Rattle.clocked.specs.Clock.{Clocked, length_of, tick, step_clocked}
use Rattle.clocked.specs.Clock as clock
use Rattle.watchdog.specs.Watched.{Watched, cleared as model-cleared, cleared_if, clock_device, watch_after, clock_watched, step_watched, run_watched}
use Rattle.model.proofs.Lists.{all-below, take-replicate}
use Rattle.model.proofs.Wire.{codes-below, map-state_code-state_at, map-state_at-state_code}
use Rattle.link.proofs.Numbers.{digit-bit}
use Rattle.watch.specs.Watch.{watching, expired}
use Rattle.watch.specs.declared.watch.Watch.{Watch}
use Rattle.device.specs.Run.{step_record, run, under_watch, watched, clock_record}
use Rattle.link.specs.View.{registers_of, phase_in, viewed, device_of, clocked_of, watched_of}
use Rattle.link.proofs.View.{Sound, seen, seen-sending, showing-phase, watch-phase, cleared-phase, configuration-same, device-placed}
use Rattle.link.proofs.Arrays.{step-arrays, tick-arrays, clock-arrays}
use Rattle.link.proofs.Header.{rising-same, opening-same, counting-same}
use Rattle.link.proofs.Slice.{slice-same}

state_at-high : (s : ℕ) → 2 ≤ s → state_at s ≡ high (eqb (s % 2) 1)
state_at-high s h = rw (le-ltb s 2 h)

state_at-low : (s : ℕ) → s < 2 → state_at s ≡ low (eqb s 1)
state_at-low zero h = refl
state_at-low (suc zero) h = refl
state_at-low (suc (suc s)) h = absurd (omega arith)

pub window_same : (r : Registers) (p : Phase) → model.window (phase_in r p) ≡ window_of p
window_same r (Hunting w) = refl
window_same r (Opening read) = refl
window_same r (Counting c read) = refl
window_same r (Slice c n t) = refl
window_same r Passing = refl
window_same r Lost = refl

low_same : (r : Registers) (p : Phase) (s : ℕ) → s < 2 → seen (moved r (heard p s)) ≡ step_device (viewed r p) (low (eqb s 1))
unfolding step_device
low_same r p s h = seen-sending r (heard p s) Nothing (mod-lt (window_of p * 2 + s) (lit< tt)) ∙ rw (window_same r p, digit-bit s h)

lost-same : (r : Registers) (b : Bool) → (viewed r Lost, []) ≡ step_device (viewed r Lost) (high b)
unfolding step_device
lost-same r b = refl

passing-same : (r : Registers) (b : Bool) → (viewed r Passing, high b ∷ []) ≡ step_device (viewed r Passing) (high b)
unfolding step_device
passing-same r b = refl

high_same : (r : Registers) (p : Phase) (s : ℕ) → 2 ≤ s → length r.slice ≡ 48 → Below r → Good r p → seen (step_high r p s) ≡ step_device (viewed r p) (high (eqb (s % 2) 1))
high_same r (Hunting w) s h e b g = seen-sending r (rising w (s % 2)) Nothing (rising-small w (s % 2)) ∙ rising-same r w (s % 2) (mod-lt s (lit< tt))
high_same r (Opening read) s h e b g =
    let f = and_both (leb 1 read) (ltb read 64) g.1 in
    seen-sending r (opening read (s % 2)) Nothing (opening-small read (s % 2))
    ∙ opening-same r read (s % 2) (leb-true 1 read f.0) (ltb-true read 64 f.1) (mod-lt s (lit< tt))
high_same r (Counting c read) s h e b g =
    let f = and_both (leb 1 read) (ltb read 1024) g.1 in
    seen-sending r (counting c read (s % 2)) Nothing (counting-small c read (s % 2))
    ∙ counting-same r c read (s % 2) (leb-true 1 read f.0) (ltb-true read 1024 f.1) (mod-lt s (lit< tt))
high_same r (Slice c n t) s h e b g =
    let f = and_both (ltb n 1024) (ltb t (slice_length r c)) g.1 in
    slice-same r c n t (s % 2) (record { small = mod-lt s (lit< tt); room = ltb-true t (slice_length r c) f.1; slots = e; below = b })
high_same r Passing s h e b g = seen-sending r Passing (One s) (lit< tt) ∙ rw (state_at-high s h) (passing-same r (eqb (s % 2) 1))
high_same r Lost s h e b g = seen-sending r Lost Nothing (lit< tt) ∙ lost-same r (eqb (s % 2) 1)

-- a line state, but for the position
step_same : (d : Device) (s : ℕ) → Sound d → seen (step d s) ≡ step_device (device_of d) (state_at s)
unfolding device_of
step_same d s o = go (ltb s 2) refl
  where
    go : (b : Bool) → ltb s 2 ≡ b
        → seen (cond b (moved d.registers (heard (phase_of d.place) s)) (step_high d.registers (phase_of d.place) s))
        ≡ step_device (viewed d.registers (phase_of d.place)) (state_at s)
    go true e = rw (state_at-low s (ltb-true s 2 e)) (low_same d.registers (phase_of d.place) s (ltb-true s 2 e))
    go false e =
        let l = ltb-false s 2 e in
        let t = and_both (place_fits d.place d.registers) _ (parts-of d o.fit).0 in
        rw (state_at-high s l)
        (high_same d.registers (phase_of d.place) s l o.arrays.slice (below_of d.registers t.1) (phase-good d.place d.registers t.0))

device-agree : (d : Device) (s : ℕ) → Sound d → (device_of (step_record d s).0, map state_at (step_record d s).1) ≡ step_device (device_of d) (state_at s)
unfolding step_record seen
device-agree d s o = rw (device-placed (step d s).device (single_step d s).device.registers.position) (step_same d s o)

-- the frame's length is that of the model's device
length-same : (d : Device) → length_of (clocked_of d) ≡ length_in d.registers
unfolding device_of clock.length_in
length-same d = refl

-- the position of a single step
position-agree : (d : Device) (s : ℕ) → Sound d
    → (step_record d s).0.registers.position ≡ refit (length_of (clocked_of d)) (clock.length_in (step_device (device_of d) (state_at s)).0.registers) d.registers.position
unfolding step_record seen
position-agree d s o =
    let e : device_of (step d s).device ≡ (step_device (device_of d) (state_at s)).0 = ap (λ (x : model.Device × List State). x.0) (step_same d s o) in
    rw (← e, length-same d, length-same (step d s).device, step-position d s)

-- The law of the link
pub agree : (d : Device) (s : ℕ) → Sound d → (clocked_of (step_record d s).0, map state_at (step_record d s).1) ≡ step_clocked (clocked_of d) (state_at s)
unfolding step_clocked
agree d s o = rw (position-agree d s o, ← device-agree d s o)

-- one clock
pub agree-tick : (d : Device) → clocked_of (ticked_device d) ≡ tick (clocked_of d)
unfolding tick ticked device_of clock.length_in model.activated
agree-tick d = go (eqb (next d.registers) 0)
  where
    r : Registers
    r = d.registers

    go : (b : Bool) → clocked_of (record { registers = placed_at (cond b (activated r) r) (next r); place = d.place })
        ≡ record { device = model.at (cond b (model.activated (registers_of r)) (registers_of r)) (device_of d).phase; position = next r }
    go true = rw (device-placed (bounded d) (next r), showing-phase r r.overtemperature r.openled r.waiting r.waiting0 r.waiting1 (phase_of d.place))
    go false = rw (device-placed d (next r))

-- ---- a record that fits still does

pub keep : (d : Device) (s : ℕ) → Sound d → Sound (step_record d s).0
unfolding step_record
keep d s o = record { fit = kept d s o.fit; arrays = step-arrays d s o.arrays }

keep-tick : (d : Device) → Sound d → Sound (ticked_device d)
keep-tick d o = record { fit = kept-ticked d o.fit; arrays = tick-arrays d o.arrays }

-- ---- what no slice touches and no boundary, no line state changes

module _ {A : Type 0} (f : Registers → A)
    (untouched : (r : Registers) (configuration : ℕ) (calibration : List ℕ) (waiting : ℕ) (waiting0 waiting1 slots : List ℕ)
    → f (holding r configuration calibration waiting waiting0 waiting1 slots) ≡ f r)
    (anywhere : (r : Registers) (position : ℕ) → f (placed_at r position) ≡ f r) (bounded-same : (r : Registers) → f (activated r) ≡ f r) where
  abbrev Same : Registers → Registers → Type 0
  Same r q = f q ≡ f r

  stored-keeps : (r : Registers) (c : Command) → Same r (stored r c)
  stored-keeps r Individual = cond_both (Same r) (eqb (multiplex r.configuration) 0) _ _ (λ _. untouched r _ _ _ _ _ _) (λ _. untouched r _ _ _ _ _ _)
  stored-keeps r Calibration = untouched r _ _ _ _ _ _
  stored-keeps r Global = cond_both (Same r) (copies r) _ _ (λ _. untouched r _ _ _ _ _ _) (λ _. refl)
  stored-keeps r Configuration = cond_both (Same r) (copies r) _ _ (λ _. untouched r _ _ _ _ _ _) (λ _. refl)

  high-keeps : (r : Registers) (p : Phase) (s : ℕ) → Same r (step_high r p s).device.registers
  high-keeps r (Hunting w) s = refl
  high-keeps r (Opening read) s = refl
  high-keeps r (Counting c read) s = refl
  high-keeps r (Slice c n t) s =
      let q : Registers = took r (t / field_width (part_of r.part) c) (s % 2) (field_limit (part_of r.part) c) in
      let k : Same r q = untouched r _ _ _ _ _ _ in
      cond_both (λ (x : Stepped). Same r x.device.registers) (ltb (t + 1) (slice_length r c)) _ _ (λ _. k) (λ _. stored-keeps q c ∙ k)
  high-keeps r Passing s = refl
  high-keeps r Lost s = refl

  step_keeps : (d : Device) (s : ℕ) → f (step_record d s).0.registers ≡ f d.registers
  unfolding step_record
  step_keeps d s =
      anywhere (step d s).device.registers _
      ∙ cond_both (λ (x : Stepped). Same d.registers x.device.registers) (ltb s 2) _ _ (λ _. refl) (λ _. high-keeps d.registers (phase_of d.place) s)

  tick-keeps : (d : Device) → f (ticked_device d).registers ≡ f d.registers
  unfolding ticked
  tick-keeps d =
      anywhere _ (next d.registers)
      ∙ cond_both (Same d.registers) (eqb (next d.registers) 0) _ _ (λ _. bounded-same d.registers) (λ _. refl)

  -- a clock but for its end
  pub acted-keeps : (d : Device) (sent : List ℕ) → f (run (ticked_device d) sent).0.registers ≡ f d.registers
  acted-keeps d sent = machine-keeps step_record (λ (e : Device). f e.registers) step_keeps (ticked_device d) sent ∙ tick-keeps d

  -- and if neither another watchdog nor an expiry changes it, no clock does
  module _ (watch-same : (r : Registers) (w : Watch) → f (with_watch r w) ≡ f r) (expiry-same : (r : Registers) → f (cleared r) ≡ f r) where
    clock-keeps : (d : Device) (sent : List ℕ) → f (clock_record d sent).0.registers ≡ f d.registers
    unfolding clock_record watched
    clock-keeps d sent =
        let r : Registers = (run (ticked_device d) sent).0.registers in
        let w : Watch = watching r.configuration sent r.watch in
        cond_both (Same r) (expired w) _ _ (λ _. expiry-same (with_watch r w) ∙ watch-same r w) (λ _. watch-same r w) ∙ acted-keeps d sent

    pub run-keeps : (ds : List Device) (ss : List ℕ) → map (λ d. f d.registers) (run_devices ds ss) ≡ map (λ d. f d.registers) ds
    run-keeps ds ss = relays-keep clock_record (λ d. f d.registers) clock-keeps ds ss

-- the single step leaves the watchdog alone
pub agree-watched : (d : Device) (s : ℕ) → Sound d → (watched_of (step_record d s).0, map state_at (step_record d s).1) ≡ step_watched (watched_of d) (state_at s)
unfolding step_watched
agree-watched d s o =
    let k : (step_record d s).0.registers.watch ≡ d.registers.watch =
    step_keeps (λ r. r.watch) (λ r configuration calibration waiting waiting0 waiting1 slots. refl) (λ r position. refl) (λ r. refl) d s in
    let whole : Watch → Clocked × List State → Watched × List State = λ w y. (record { clocked = y.0; watch = w }, y.1) in
    ap (λ (w : Watch). whole w (clocked_of (step_record d s).0, map state_at (step_record d s).1)) k ∙ ap (whole d.registers.watch) (agree d s o)

-- every record stays of its part
pub through-part : (p : ℕ) (ds : List Device) (ss : List ℕ) → All (λ d. d.registers.part ≡ p) ds → All (λ d. d.registers.part ≡ p) (run_devices ds ss)
through-part p ds ss h = all_of (run_devices ds ss) ds (run-keeps (λ r. r.part) (λ r configuration calibration waiting waiting0 waiting1 slots. refl) (λ r position. refl) (λ r. refl) (λ r w. refl) (λ r. refl) ds ss) h
  where
    all_of : (es fs : List Device) → map (λ d. d.registers.part) es ≡ map (λ d. d.registers.part) fs → All (λ d. d.registers.part ≡ p) fs → All (λ d. d.registers.part ≡ p) es
    all_of [] fs e a = tt
    all_of (x ∷ es) [] e a = absurd (omega (arith, ap (λ (l : List ℕ). length l) e))
    all_of (x ∷ es) (y ∷ fs) e a =
        (ap (λ (l : List ℕ). get_or l 0 0) e ∙ a.0, all_of es fs (ap (λ (l : List ℕ). drop 1 l) e) a.1)

-- ---- what is sent

-- states below 4, as they are given, are sent on as such
sent-below : (d : Device) (s : ℕ) → s < 4 → All (λ x. x < 4) (step_record d s).1
unfolding step_record
sent-below d s h = cond_both Sends (ltb s 2) _ _ (λ _. tt) (λ _. high-sends d.registers (phase_of d.place))
  where
    Sends : Stepped → Type 0
    Sends x = All (λ y. y < 4) (sent_states x.sent)

    high-sends : (r : Registers) (p : Phase) → Sends (step_high r p s)
    high-sends r (Hunting w) = tt
    high-sends r (Opening read) = tt
    high-sends r (Counting c read) = tt
    high-sends r (Slice c n t) =
        cond_both Sends (ltb (t + 1) (slice_length r c)) _ _ (λ _. tt) (λ _. all-below 4 (states_of (header c _)) (codes-below (clocked (header c _))))
    high-sends r Passing = (h, tt)
    high-sends r Lost = tt

clock-sends : (d : Device) (sent : List ℕ) → All (λ x. x < 4) sent → All (λ x. x < 4) (clock_record d sent).1
unfolding clock_record
clock-sends d sent a = run-sends step_record (λ x. x < 4) sent-below (ticked_device d) sent a

-- ---- a clock

clock-keep : (d : Device) (sent : List ℕ) → Sound d → All (λ s. s < 4) sent → Sound (clock_record d sent).0
clock-keep d sent o a = record { fit = kept-clock d sent a o.fit; arrays = clock-arrays d sent o.arrays }

under-watch : (r : Registers) (w : Watch) → (under_watch r w).watch ≡ w
under-watch r w = cond_both (λ (q : Registers). q.watch ≡ w) (expired w) _ _ (λ _. refl) (λ _. refl)

-- its bit and its limit stay as they were told
abbrev pub told_in : Device → ℕ × ℕ
told_in d = (d.registers.watch.bit, d.registers.watch.limit)

clock-told : (d : Device) (sent : List ℕ) → told_in (clock_record d sent).0 ≡ told_in d
unfolding clock_record watched watching
clock-told d sent =
    let r : Registers = (run (ticked_device d) sent).0.registers in
    let w : Watch = watching r.configuration sent r.watch in
    let k : r.watch ≡ d.registers.watch =
    acted-keeps (λ q. q.watch) (λ q configuration calibration waiting waiting0 waiting1 slots. refl) (λ q position. refl) (λ q. refl) d sent in
    ap (λ (v : Watch). (v.bit, v.limit)) (under-watch r w) ∙ ap (λ (v : Watch). (v.bit, v.limit)) k

pub through-told : (ds : List Device) (ss : List ℕ) → map told_in (run_devices ds ss) ≡ map told_in ds
through-told ds ss = relays-keep clock_record told_in clock-told ds ss

-- the end of a clock, by the watchdog then
under_same : (d : Device) (w : Watch) → clocked_of (record { registers = under_watch d.registers w; place = d.place }) ≡ cleared_if (expired w) (clocked_of d)
unfolding device_of model-cleared
under_same d w = go (expired w)
  where
    r : Registers
    r = d.registers

    go : (b : Bool) → clocked_of (record { registers = cond b (cleared (with_watch r w)) (with_watch r w); place = d.place }) ≡ cleared_if b (clocked_of d)
    go true = rw (cleared-phase r w (phase_of d.place), take-replicate (outputs (part_of r.part)) 24 0 (outputs-le (part_of r.part) (usable r.part)))
    go false = rw (watch-phase r w (phase_of d.place))

-- A clock of a record is that of the model's device
clock-agree : (d : Device) (sent : List ℕ) → Sound d → All (λ s. s < 4) sent
    → (watched_of (clock_record d sent).0, map state_at (clock_record d sent).1) ≡ clock_watched (watched_of d) (map state_at sent)
unfolding clock_record watched clock_watched
clock-agree d sent o a =
    let r : Device × List ℕ = run (ticked_device d) sent in
    let x : Watch = watching r.0.registers.configuration sent r.0.registers.watch in
    let e : (clocked_of r.0, map state_at r.1) ≡ clock_device (clocked_of d) (map state_at sent) =
    run-view step_clocked step_record clocked_of state_at Sound keep agree (ticked_device d) sent (keep-tick d o) ∙ ap (λ (c : Clocked). machine.run step_clocked c (map state_at sent)) (agree-tick d) in
    let k : r.0.registers.watch ≡ d.registers.watch =
    acted-keeps (λ q. q.watch) (λ q configuration calibration waiting waiting0 waiting1 slots. refl) (λ q position. refl) (λ q. refl) d sent in
    let ends : Clocked → Watch → List State → Watched × List State = λ c w l. (record { clocked = cleared_if (expired w) c; watch = w }, l) in
    let acted : Watch → Clocked × List State → Watched × List State = λ w y. ends y.0 (watch_after y.0 (map state_at sent) w) y.1 in
    let q : x ≡ watch_after (clocked_of r.0) (map state_at sent) d.registers.watch =
    ap (λ (w : Watch). watching r.0.registers.configuration sent w) k
    ∙ ap (λ (ss : List ℕ). watching r.0.registers.configuration ss d.registers.watch) (sym (map-state_code-state_at sent a))
    ∙ ap (λ (n : ℕ). watching n (map state_code (map state_at sent)) d.registers.watch) (sym (configuration-same r.0)) in
    let l : (watched_of (clock_record d sent).0, map state_at (clock_record d sent).1) ≡ ends (clocked_of r.0) x (map state_at r.1) =
    rw (under_same r.0 x, under-watch r.0.registers x) in
    l ∙ ap (λ (w : Watch). ends (clocked_of r.0) w (map state_at r.1)) q ∙ ap (acted d.registers.watch) e

-- ---- one record, and chains of records

pub run_agree : (d : Device) (ss : List ℕ) → Sound d → (device_of (run d ss).0, map state_at (run d ss).1) ≡ model.run_device (device_of d) (map state_at ss)
run_agree d ss o = run-view step_device step_record device_of state_at Sound keep device-agree d ss o

-- its states are those of the model's device, number for number
pub run-sent : (d : Device) (ls : List State) → Sound d → (run d (map state_code ls)).1 ≡ map state_code (model.run_device (device_of d) ls).1
run-sent d ls o =
    let ss : List ℕ = map state_code ls in
    let a = run-sends step_record (λ x. x < 4) sent-below d ss (all-below 4 ss (codes-below ls)) in
    sym (map-state_code-state_at (run d ss).1 a)
    ∙ ap (λ (x : model.Device × List State). map state_code x.1) (rw map-state_at-state_code at (run_agree d ss o))

pub through-agree : (ds : List Device) (ss : List ℕ) → All Sound ds → All (λ s. s < 4) ss
    → (map watched_of (run_devices ds ss), map state_at (returned ds ss)) ≡ run_watched (map watched_of ds) (map state_at ss)
through-agree ds ss o b =
    relays-view clock_watched clock_record watched_of state_at Sound (λ s. s < 4) clock-keep (λ d sent k a. clock-sends d sent a) clock-agree ds ss o b

pub through-sent : (ds : List Device) (ls : List State) → All Sound ds → returned ds (map state_code ls) ≡ map state_code (run_watched (map watched_of ds) ls).1
through-sent ds ls o =
    let ss : List ℕ = map state_code ls in
    let a = relays-send clock_record (λ x. x < 4) clock-sends ds ss (all-below 4 ss (codes-below ls)) in
    sym (map-state_code-state_at (returned ds ss) a)
    ∙ ap (λ (x : List Watched × List State). map state_code x.1) (rw map-state_at-state_code at (through-agree ds ss o (all-below 4 ss (codes-below ls))))

pub through-keep : (ds : List Device) (ss : List ℕ) → All Sound ds → All (λ s. s < 4) ss → All Sound (run_devices ds ss)
through-keep ds ss o b = relays-hold clock_record Sound (λ s. s < 4) clock-keep (λ d sent k a. clock-sends d sent a) ds ss o b
