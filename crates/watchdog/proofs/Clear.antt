-- Clearing before a clock or after it. A clock in which a device stores no individual slice commutes with clearing; one in which it does leaves
-- waiting MUX0 values that do not depend on individual values before it. One step by cases, one clock by induction on what is sent. Assumes
-- nothing.
use mathlib.Core.Path.{◌≡◌, refl, sym, ap, ◌∙◌}
use mathlib.Core.Bool.{Bool, true, false, ◌||◌}
use mathlib.Core.List.{List, [], ◌∷◌, ◌++◌}
use mathlib.Core.Logic.{◌⊎◌, inl, inr}
use Prim.Native.Nat.{ℕ, zero, suc}
use Rattle.parts.specs.Wire.{State, low, high}
use Rattle.parts.specs.declared.command.Command.{Command}
use Rattle.parts.specs.declared.command.Command.TheVariants.{Individual, Calibration, Global, Configuration}
use Rattle.machine.specs.Machine.{run}
use Rattle.model.specs.Device.{Registers, Device, Phase, hunting, lost, taking, passing, command, count, slice, at, slice_length, load, fault, multiplexed, values_in, step_device}
use Rattle.model.proofs.CutSet.{mux0-own}
use Rattle.clocked.specs.Clock.{Clocked, registers_of, length_in, tick, step_clocked}
use Rattle.watchdog.specs.Watched.{cleared, cleared_if, clock_device}
use Rattle.watchdog.specs.Faded.{faded, faint}
use Rattle.watchdog.proofs.Faint.{step-faint, tick-faint}

-- waiting MUX0 values
abbrev pub first : Clocked → List ℕ
first c = (registers_of c).waiting.mux0

-- ---- what a store does to them, in registers that are alike but for individual values

individual-first : (bs : List Bool) (q r : Registers) → faded true q ≡ faded true r → (load Individual bs q).waiting.mux0 ≡ (load Individual bs r).waiting.mux0
unfolding load
individual-first bs q r e =
    let p : q.part ≡ r.part = ap (λ (x : Registers). x.part) e in
    let c : q.configuration ≡ r.configuration = ap (λ (x : Registers). x.configuration) e in
    rw (mux0-own (multiplexed q.configuration) (values_in bs q) q.waiting, mux0-own (multiplexed r.configuration) (values_in bs r) r.waiting, p, c)

load-first : (c : Command) (bs : List Bool) (q r : Registers) → faded true q ≡ faded true r → q.waiting.mux0 ≡ r.waiting.mux0
    → (load c bs q).waiting.mux0 ≡ (load c bs r).waiting.mux0
unfolding load
load-first Individual bs q r e f = individual-first bs q r e
load-first Calibration bs q r e f = f
load-first Global bs q r e f = f
load-first Configuration bs q r e f = f

-- those that are equal stay equal
from_first : (q r : Registers) (p : Phase) (l : State) → faded true q ≡ faded true r → q.waiting.mux0 ≡ r.waiting.mux0
    → (step_device (at q p) l).0.registers.waiting.mux0 ≡ (step_device (at r p) l).0.registers.waiting.mux0
unfolding step_device
from_first q r p (low b) e f = f
from_first q r (hunting w) (high b) e f = f
from_first q r lost (high b) e f = f
from_first q r (taking command zero got) (high b) e f = f
from_first q r (taking (count c) zero got) (high b) e f = f
from_first q r (taking (slice c n) zero got) (high b) e f = load-first c (got ++ b ∷ []) q r e f
from_first q r (taking field (suc n) got) (high b) e f = f
from_first q r passing (high b) e f = f

faint-registers : (c d : Clocked) → faint c ≡ faint d → faded true (registers_of c) ≡ faded true (registers_of d)
faint-registers c d e = ap registers_of e

step-first : (c d : Clocked) (l : State) → faint c ≡ faint d → first c ≡ first d → first (step_clocked c l).0 ≡ first (step_clocked d l).0
unfolding step_clocked
step-first c d l e f =
    let p : c.device.phase ≡ d.device.phase = ap (λ (x : Clocked). x.device.phase) e in
    rw p (from_first (registers_of c) (registers_of d) d.device.phase l (faint-registers c d e) f)

-- steps of devices that are alike
step-alike : (c d : Clocked) (l : State) → faint c ≡ faint d → faint (step_clocked c l).0 ≡ faint (step_clocked d l).0
step-alike c d l e =
    ap (λ r. r.0) (step-faint c l) ∙ ap (λ (x : Clocked). faint (step_clocked x l).0) e ∙ sym (ap (λ r. r.0) (step-faint d l))

run-first : (ls : List State) (c d : Clocked) → faint c ≡ faint d → first c ≡ first d → first (run step_clocked c ls).0 ≡ first (run step_clocked d ls).0
unfolding run
run-first [] c d e f = f
run-first (l ∷ ls) c d e f = run-first ls (step_clocked c l).0 (step_clocked d l).0 (step-alike c d l e) (step-first c d l e f)

-- ---- one step: it commutes with clearing, or it stores an individual slice

fault-cleared : (c : Command) (r : Registers) → fault c (cleared r) ≡ fault c r
unfolding fault cleared
fault-cleared Individual r = refl
fault-cleared Calibration r = refl
fault-cleared Global r = refl
fault-cleared Configuration r = refl

abbrev cleared_device : Device → Device
cleared_device d = at (cleared d.registers) d.phase

abbrev StepCommutes : Registers → Phase → State → Type 0
StepCommutes r p l = step_device (at (cleared r) p) l ≡ (cleared_device (step_device (at r p) l).0, (step_device (at r p) l).1)

-- what waits in MUX0 is the same for all registers that are alike but for individual values
abbrev StepStores : Registers → Phase → State → Type 0
StepStores r p l = (q : Registers) → faded true q ≡ faded true r → (step_device (at q p) l).0.registers.waiting.mux0 ≡ (step_device (at r p) l).0.registers.waiting.mux0

from_either : (r : Registers) (p : Phase) (l : State) → StepCommutes r p l ⊎ StepStores r p l
unfolding step_device slice_length load cleared
from_either r p (low b) = inl refl
from_either r (hunting w) (high b) = inl refl
from_either r lost (high b) = inl refl
from_either r (taking command zero got) (high b) = inl refl
from_either r (taking (count c) zero got) (high b) = inl refl
from_either r (taking (slice Individual n) zero got) (high b) = inr (λ q e. individual-first (got ++ b ∷ []) q r e)
from_either r (taking (slice Calibration n) zero got) (high b) = inl (rw (fault-cleared Calibration r))
from_either r (taking (slice Global n) zero got) (high b) = inl (rw (fault-cleared Global r))
from_either r (taking (slice Configuration n) zero got) (high b) = inl (rw (fault-cleared Configuration r))
from_either r (taking f (suc n) got) (high b) = inl refl
from_either r passing (high b) = inl refl

length-cleared : (r : Registers) → length_in (cleared r) ≡ length_in r
unfolding cleared length_in
length-cleared r = refl

abbrev clear : Clocked → Clocked
clear c = cleared_if true c

step-either : (c : Clocked) (l : State)
    → (step_clocked (clear c) l ≡ (clear (step_clocked c l).0, (step_clocked c l).1)) ⊎ ((d : Clocked) → faint d ≡ faint c → first (step_clocked d l).0 ≡ first (step_clocked c l).0)
unfolding step_clocked
step-either c l = by (from_either (registers_of c) c.device.phase l)
  where
    by : StepCommutes (registers_of c) c.device.phase l ⊎ StepStores (registers_of c) c.device.phase l
        → (step_clocked (clear c) l ≡ (clear (step_clocked c l).0, (step_clocked c l).1)) ⊎ ((d : Clocked) → faint d ≡ faint c → first (step_clocked d l).0 ≡ first (step_clocked c l).0)
    by (inl e) = inl (rw (e, length-cleared (registers_of c), length-cleared (step_device c.device l).0.registers))
    by (inr s) =
        inr (λ d e.
        let p : d.device.phase ≡ c.device.phase = ap (λ (x : Clocked). x.device.phase) e in
        rw p (s (registers_of d) (faint-registers d c e)))

-- ---- one clock

-- it commutes with clearing
abbrev pub Commutes : Clocked → List State → Type 0
Commutes c sent = clock_device (cleared_if true c) sent ≡ (cleared_if true (clock_device c sent).0, (clock_device c sent).1)

-- it stores an individual slice: waiting MUX0 values are the same after it, whatever the individual values before it
abbrev pub Stores : Clocked → List State → Type 0
Stores c sent = (d : Clocked) → faint d ≡ faint c → first (clock_device d sent).0 ≡ first (clock_device c sent).0

abbrev RunCommutes : Clocked → List State → Type 0
RunCommutes c ls = run step_clocked (clear c) ls ≡ (clear (run step_clocked c ls).0, (run step_clocked c ls).1)

abbrev RunStores : Clocked → List State → Type 0
RunStores c ls = (d : Clocked) → faint d ≡ faint c → first (run step_clocked d ls).0 ≡ first (run step_clocked c ls).0

run-either : (ls : List State) (c : Clocked) → RunCommutes c ls ⊎ RunStores c ls
unfolding run
run-either [] c = inl refl
run-either (l ∷ ls) c = by (step-either c l) (run-either ls (step_clocked c l).0)
  where
    by : (step_clocked (clear c) l ≡ (clear (step_clocked c l).0, (step_clocked c l).1)) ⊎ ((d : Clocked) → faint d ≡ faint c → first (step_clocked d l).0 ≡ first (step_clocked c l).0)
        → RunCommutes (step_clocked c l).0 ls ⊎ RunStores (step_clocked c l).0 ls → RunCommutes c (l ∷ ls) ⊎ RunStores c (l ∷ ls)
    by (inl e) (inl f) = inl (rw (e, f))
    by (inl e) (inr t) = inr (λ d q. t (step_clocked d l).0 (step-alike d c l q))
    by (inr s) r = inr (λ d q. run-first ls (step_clocked d l).0 (step_clocked c l).0 (step-alike d c l q) (s d q))

tick-clear : (c : Clocked) → tick (clear c) ≡ clear (tick c)
unfolding cleared
tick-clear c = sym (tick-faint c)

pub clock-either : (c : Clocked) (sent : List State) → Commutes c sent ⊎ Stores c sent
clock-either c sent = by (run-either sent (tick c))
  where
    by : RunCommutes (tick c) sent ⊎ RunStores (tick c) sent → Commutes c sent ⊎ Stores c sent
    by (inl e) = inl (rw (tick-clear c, e))
    by (inr s) = inr (λ d q. s (tick d) (tick-faint d ∙ ap tick q ∙ sym (tick-faint c)))

-- clearing or not, by a test
pub clock-cleared : (b : Bool) (c : Clocked) (sent : List State) → Commutes c sent → (clock_device (cleared_if b c) sent).0 ≡ cleared_if b (clock_device c sent).0
clock-cleared true c sent h = ap (λ r. r.0) h
clock-cleared false c sent h = refl

pub cleared-twice : (a b : Bool) (c : Clocked) → cleared_if a (cleared_if b c) ≡ cleared_if (a || b) c
unfolding cleared
cleared-twice true true c = refl
cleared-twice true false c = refl
cleared-twice false b c = refl
