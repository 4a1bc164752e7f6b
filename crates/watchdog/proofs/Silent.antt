-- A stretch of clocks with one state each in which a device takes no last bit of a slice: it ages, its phase moves as the model's does, and its
-- watchdog sees the states under one configuration; it is cleared where that watchdog has expired in one of the clocks. So it is of states of which
-- a device sends nothing on, as while it collects a slice. One clock by cases, then by induction on the states. Assumes nothing.
use mathlib.Core.Path.{◌≡◌, refl, ap, ◌∙◌}
use mathlib.Core.Bool.{Bool, true, false, cond, ◌||◌}
use mathlib.Core.List.{List, [], ◌∷◌, map}
use Prim.Native.Nat.{ℕ, zero, suc}
use native.Mathlib.Omega.{arith}
use lib.Dec.{eqb}
use lib.ListN.{length, replicate}
use borrow.Author.Tests.{le-ltb}
use Rattle.parts.specs.Wire.{State, low, high, state_code}
use Rattle.machine.specs.Machine.{run}
use Rattle.machine.proofs.Machine.{run-one}
use Rattle.watch.specs.declared.watch.Watch.{Watch}
use Rattle.watch.specs.Watch.{watching, expired}
use Rattle.model.specs.Device.{Registers, Phase, hunting, lost, taking, passing, command, count, slice, at, slice_length, fault, counted, activated, step_device, run_device}
use Rattle.model.proofs.Lists.{append-nil-left, append-nil-right}
use Rattle.model.proofs.Wire.{length-header_states}
use Rattle.clocked.specs.Clock.{Clocked, registers_of, length_of, Placed, next, tick, aged, refit, step_clocked}
use Rattle.clocked.proofs.Aged.{ticks-aged, aged-tick, tick-placed}
use Rattle.watchdog.specs.Watched.{Watched, cleared, cleared_if, clock_device, clock_watched}
use Rattle.watchdog.specs.Still.{clocks_watched}
use Rattle.watchdog.specs.Stretch.{configuration_of, sends_over, singly, watch_over, ever_over}
use Rattle.watchdog.proofs.Clear.{cleared-twice}
use Rattle.watchdog.proofs.Idle.{aged-cleared, cleared-placed}

-- ---- one state

-- the last bit of a slice comes
abbrev pub stores : Phase → State → Bool
stores p (low b) = false
stores (hunting w) (high b) = false
stores lost (high b) = false
stores (taking command zero got) (high b) = false
stores (taking (count c) zero got) (high b) = false
stores (taking (slice c n) zero got) (high b) = true
stores (taking f (suc n) got) (high b) = false
stores passing (high b) = false

-- registers by which slices have the same lengths
abbrev pub Like : Registers → Registers → Type 0
Like q r = (q.part ≡ r.part) × (q.configuration ≡ r.configuration)

-- the next phase
abbrev pub phase_of : Registers → Phase → State → Phase
phase_of r p l = (step_device (at r p) l).0.phase

step-plain : (q r : Registers) (p : Phase) (l : State) → Like q r → stores p l ≡ false → step_device (at q p) l ≡ (at q (phase_of r p l), (step_device (at r p) l).1)
unfolding step_device slice_length
step-plain q r p (low b) e h = refl
step-plain q r (hunting w) (high b) e h = refl
step-plain q r lost (high b) e h = refl
step-plain q r (taking command zero got) (high b) e h = refl
step-plain q r (taking (count c) zero got) (high b) e h = rw (e.0, e.1)
step-plain q r (taking (slice c n) zero got) (high b) e h = absurd (let z : ◌≡◌ {A = ℕ} 0 1 = cc in omega arith)
step-plain q r (taking f (suc n) got) (high b) e h = refl
step-plain q r passing (high b) e h = refl

-- ---- one clock

-- a device in a phase
abbrev pub in_phase : Phase → Clocked → Clocked
in_phase p c = record { device = at (registers_of c) p; position = c.position }

refit-same : (n position : ℕ) → refit n n position ≡ position
refit-same n position = rw (le-ltb n n (omega arith))

like-tick : (c : Clocked) (r : Registers) → Like (registers_of c) r → Like (registers_of (tick c)) r
unfolding tick activated
like-tick c r e = by (eqb (next c) 0)
  where
    by : (t : Bool) → Like (cond t (activated (registers_of c)) (registers_of c)) r
    by true = e
    by false = e

like-cleared : (b : Bool) (c : Clocked) (r : Registers) → Like (registers_of c) r → Like (registers_of (cleared_if b c)) r
unfolding cleared
like-cleared true c r e = e
like-cleared false c r e = e

clock-plain : (r : Registers) (c : Clocked) (l : State) → Like (registers_of c) r → stores c.device.phase l ≡ false
    → clock_device c (l ∷ []) ≡ (in_phase (phase_of r c.device.phase l) (tick c), (step_device (at r c.device.phase) l).1)
unfolding step_clocked tick
clock-plain r c l e h =
    let t : Clocked = tick c in
    run-one step_clocked t l ∙ rw (step-plain (registers_of t) r c.device.phase l (like-tick c r e) h, refit-same (length_of t) t.position)

-- a watchdog's clock
abbrev seen : Registers → State → Watch → Watch
seen r l s = watching r.configuration (state_code l ∷ []) s

-- a device after a clock
abbrev after : Registers → State → Watched → Watched
after r l w = record {
  clocked = cleared_if (expired (seen r l w.watch)) (in_phase (phase_of r w.clocked.device.phase l) (tick w.clocked));
  watch = seen r l w.watch;
}

watched-plain : (r : Registers) (w : Watched) (l : State) → Like (registers_of w.clocked) r → stores w.clocked.device.phase l ≡ false
    → clock_watched w (l ∷ []) ≡ (after r l w, (step_device (at r w.clocked.device.phase) l).1)
unfolding clock_watched
watched-plain r w l e h = rw (clock-plain r w.clocked l e h, (like-tick w.clocked r e).1)

-- ---- many

-- no last bit of a slice comes
abbrev pub Plain : Registers → Phase → List State → Type 0
Plain r p [] = Unit {0}
Plain r p (l ∷ ls) = (stores p l ≡ false) × Plain r (phase_of r p l) ls

-- the phase after them
abbrev pub phase_after : Registers → Phase → List State → Phase
phase_after r p [] = p
phase_after r p (l ∷ ls) = phase_after r (phase_of r p l) ls

-- what is sent in each clock
abbrev pub sent_after : Registers → Phase → List State → List (List State)
sent_after r p [] = []
sent_after r p (l ∷ ls) = (step_device (at r p) l).1 ∷ sent_after r (phase_of r p l) ls

cleared-phase : (b : Bool) (c : Clocked) → (cleared_if b c).device.phase ≡ c.device.phase
cleared-phase true c = refl
cleared-phase false c = refl

-- clearing and phases are kept apart from ageing
aged-phase : (n : ℕ) (p : Phase) (c : Clocked) → aged n (in_phase p c) ≡ in_phase p (aged n c)
unfolding aged
aged-phase n p c = refl

cleared-in : (b : Bool) (p q : Phase) (c : Clocked) → in_phase p (cleared_if b (in_phase q c)) ≡ cleared_if b (in_phase p c)
cleared-in true p q c = refl
cleared-in false p q c = refl

aged-in : (n : ℕ) (b : Bool) (p q : Phase) (c : Clocked) → in_phase p (aged n (cleared_if b (in_phase q c))) ≡ cleared_if b (in_phase p (aged n c))
aged-in n b p q c = rw (aged-cleared n b (in_phase q c), aged-phase n q c) (cleared-in b p q (aged n c))

or_swap : (a b : Bool) → (a || b) ≡ (b || a)
or_swap true true = refl
or_swap true false = refl
or_swap false true = refl
or_swap false false = refl

-- a device after these
abbrev after_all : Registers → List State → Watched → Watched
after_all r ls w = record {
  clocked = cleared_if (ever_over r.configuration (map state_code ls) w.watch) (in_phase (phase_after r w.clocked.device.phase ls) (aged (length ls) w.clocked));
  watch = watch_over r.configuration (map state_code ls) w.watch;
}

after_none : (r : Registers) (w : Watched) → Placed w.clocked → w ≡ after_all r [] w
unfolding watch_over ever_over
after_none r w h = ap (λ (c : Clocked). record { clocked = in_phase w.clocked.device.phase c; watch = w.watch }) (ticks-aged 0 w.clocked h)

after_more : (r : Registers) (l : State) (ls : List State) (w : Watched) → Placed w.clocked → after_all r ls (after r l w) ≡ after_all r (l ∷ ls) w
unfolding watch_over ever_over
after_more r l ls w h =
    let b : Bool = expired (seen r l w.watch) in
    let d : Bool = ever_over r.configuration (map state_code ls) (seen r l w.watch) in
    let q : Phase = phase_of r w.clocked.device.phase l in
    let p : Phase = phase_after r q ls in
    let t : Clocked = tick w.clocked in
    let c : Clocked = in_phase p (aged (suc (length ls)) w.clocked) in
    rw (cleared-phase b (in_phase q t), aged-in (length ls) b p q t, aged-tick (length ls) w.clocked h, cleared-twice d b c, or_swap d b)

placed-after : (r : Registers) (l : State) (w : Watched) → Placed w.clocked → Placed (after r l w).clocked
placed-after r l w h =
    cleared-placed (expired (seen r l w.watch)) (in_phase (phase_of r w.clocked.device.phase l) (tick w.clocked)) (tick-placed w.clocked h)

like-after : (r : Registers) (l : State) (w : Watched) → Like (registers_of w.clocked) r → Like (registers_of (after r l w).clocked) r
like-after r l w e = like-cleared (expired (seen r l w.watch)) (in_phase (phase_of r w.clocked.device.phase l) (tick w.clocked)) r (like-tick w.clocked r e)

plain-after : (r : Registers) (l : State) (ls : List State) (w : Watched) → Plain r (phase_of r w.clocked.device.phase l) ls → Plain r (after r l w).clocked.device.phase ls
plain-after r l ls w h = rw (cleared-phase (expired (seen r l w.watch)) (in_phase (phase_of r w.clocked.device.phase l) (tick w.clocked))) h

-- Plain: a stretch in which no last bit of a slice comes
pub plain-watched : (r : Registers) (ls : List State) (w : Watched) → Like (registers_of w.clocked) r → Placed w.clocked → Plain r w.clocked.device.phase ls
    → clocks_watched w (singly ls) ≡ after_all r ls w
unfolding clocks_watched
plain-watched r [] w e h p = after_none r w h
plain-watched r (l ∷ ls) w e h p =
    ap (λ (x : Watched × List State). clocks_watched x.0 (singly ls)) (watched-plain r w l e p.0)
    ∙ plain-watched r ls (after r l w) (like-after r l w e) (placed-after r l w h) (plain-after r l ls w p.1) ∙ after_more r l ls w h

-- and what it sends in it
pub plain-sends : (r : Registers) (ls : List State) (w : Watched) → Like (registers_of w.clocked) r → Plain r w.clocked.device.phase ls
    → sends_over w (singly ls) ≡ sent_after r w.clocked.device.phase ls
unfolding sends_over
plain-sends r [] w e p = refl
plain-sends r (l ∷ ls) w e p =
    let q : Phase = phase_of r w.clocked.device.phase l in
    let f : (after r l w).clocked.device.phase ≡ q = cleared-phase (expired (seen r l w.watch)) (in_phase q (tick w.clocked)) in
    let a = plain-sends r ls (after r l w) (like-after r l w e) (plain-after r l ls w p.1) in
    rw (watched-plain r w l e p.0, a, f)

-- ---- states of which nothing is sent on

silent-step : (r : Registers) (p : Phase) (l : State) → (step_device (at r p) l).1 ≡ [] → stores p l ≡ false
unfolding step_device
silent-step r p (low b) e = refl
silent-step r (hunting w) (high b) e = refl
silent-step r lost (high b) e = refl
silent-step r (taking command zero got) (high b) e = refl
silent-step r (taking (count c) zero got) (high b) e = refl
silent-step r (taking (slice c n) zero got) (high b) e =
    let z = length-header_states c (counted n (fault c r)) in let y = ap (λ (ls : List State). length ls) e in absurd (omega arith)
silent-step r (taking f (suc n) got) (high b) e = refl
silent-step r passing (high b) e = refl

-- the model's run by phases
abbrev ByPhases : Registers → Phase → List State → Type 0
ByPhases r p ls = Plain r p ls × ((phase_after r p ls ≡ (run_device (at r p) ls).0.phase) × (sent_after r p ls ≡ replicate (length ls) []))

silent-phases : (ls : List State) (r : Registers) (p : Phase) → (run_device (at r p) ls).1 ≡ [] → ByPhases r p ls
unfolding run
silent-phases [] r p e = (tt, (refl, refl))
silent-phases (l ∷ ls) r p e =
    let n : (step_device (at r p) l).1 ≡ [] = append-nil-left _ _ e in
    let s : stores p l ≡ false = silent-step r p l n in
    let d : (step_device (at r p) l).0 ≡ at r (phase_of r p l) = ap (λ x. x.0) (step-plain r r p l (refl, refl) s) in
    let a : ByPhases r (phase_of r p l) ls = silent-phases ls r (phase_of r p l) (rw d at (append-nil-right (step_device (at r p) l).1 _ e)) in
    ((s, a.0), (rw d a.1.0, rw (n, a.1.1)))

-- Silent: a stretch of states of which a device sends nothing on
pub silent-watched : (ls : List State) (w : Watched) → Placed w.clocked → (run_device w.clocked.device ls).1 ≡ []
    → clocks_watched w (singly ls)
    ≡ record {
      clocked = cleared_if (ever_over (configuration_of w) (map state_code ls) w.watch) (in_phase (run_device w.clocked.device ls).0.phase (aged (length ls) w.clocked));
      watch = watch_over (configuration_of w) (map state_code ls) w.watch;
    }
silent-watched ls w h e =
    let r : Registers = registers_of w.clocked in
    let a : ByPhases r w.clocked.device.phase ls = silent-phases ls r w.clocked.device.phase e in
    rw a.1.0 at (plain-watched r ls w (refl, refl) h a.0)

-- and it sends nothing
pub silent-sends : (ls : List State) (w : Watched) → (run_device w.clocked.device ls).1 ≡ [] → sends_over w (singly ls) ≡ replicate (length ls) []
silent-sends ls w e =
    let r : Registers = registers_of w.clocked in
    let a : ByPhases r w.clocked.device.phase ls = silent-phases ls r w.clocked.device.phase e in
    plain-sends r ls w (refl, refl) a.0 ∙ a.1.1
