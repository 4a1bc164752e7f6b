-- What no expiry changes. Individual values decide no phase, no state sent on, no position and no other register, so a chain with watchdogs runs
-- as one without does, but for individual values, whether or not a watchdog expires. Both are seen through `faint` as one machine: one step by
-- cases, then runs and chains. Assumes nothing.
use mathlib.Core.Path.{◌≡◌, refl, sym, ap, ◌∙◌}
use mathlib.Core.Bool.{Bool, true, false, cond}
use mathlib.Core.List.{List, [], ◌∷◌, ◌++◌, map, map-map}
use Prim.Native.Nat.{zero, suc}
use lib.Dec.{eqb}
use Rattle.parts.specs.Wire.{State, low, high}
use Rattle.parts.specs.declared.command.Command.{Command}
use Rattle.parts.specs.declared.command.Command.TheVariants.{Individual, Calibration, Global, Configuration}
use Rattle.machine.specs.Machine.{run, relays}
use Rattle.machine.proofs.Machine.{relays-clocks}
use Rattle.watch.specs.Watch.{expired}
use Rattle.model.specs.Device.{Registers, Device, Phase, hunting, lost, taking, passing, command, count, slice, at, slice_length, load, fault, multiplexed, values_in, activated, step_device}
use Rattle.model.proofs.Restore.{global-own}
use Rattle.clocked.specs.Clock.{Clocked, registers_of, length_in, length_of, next, tick, refit, step_clocked, run_clocked}
use Rattle.watchdog.specs.Watched.{Watched, clocks_in, cleared, cleared_if, clock_device, clock_watched, run_watched}
use Rattle.watchdog.specs.Faded.{faded, faint}
use Rattle.watchdog.proofs.Places.{run-through, relays-through}

-- ---- one step and one clock

load-faint : (c : Command) (bs : List Bool) (r : Registers) → faded true (load c bs r) ≡ faded true (load c bs (faded true r))
unfolding load
load-faint Individual bs r =
    rw (global-own (multiplexed r.configuration) (values_in bs r) r.waiting, global-own (multiplexed r.configuration) (values_in bs r) (faded true r).waiting)
load-faint Calibration bs r = refl
load-faint Global bs r = refl
load-faint Configuration bs r = refl

fault-faint : (c : Command) (r : Registers) → fault c (faded true r) ≡ fault c r
unfolding fault
fault-faint Individual r = refl
fault-faint Calibration r = refl
fault-faint Global r = refl
fault-faint Configuration r = refl

-- a device without its clock
abbrev faint_device : Device → Device
faint_device d = at (faded true d.registers) d.phase

from-faint : (r : Registers) (p : Phase) (l : State)
    → ◌≡◌ {A = Device × List State} (faint_device (step_device (at r p) l).0, (step_device (at r p) l).1)
    (faint_device (step_device (at (faded true r) p) l).0, (step_device (at (faded true r) p) l).1)
unfolding step_device slice_length
from-faint r p (low b) = refl
from-faint r (hunting w) (high b) = refl
from-faint r lost (high b) = refl
from-faint r (taking command zero got) (high b) = refl
from-faint r (taking (count c) zero got) (high b) = refl
from-faint r (taking (slice c n) zero got) (high b) = rw (load-faint c (got ++ b ∷ []) r, fault-faint c r)
from-faint r (taking f (suc n) got) (high b) = refl
from-faint r passing (high b) = refl

-- a step that forgets individual values
abbrev pub faint_step : Clocked → State → Clocked × List State
faint_step c l = (faint (step_clocked c l).0, (step_clocked c l).1)

pub step-faint : (c : Clocked) (l : State) → (faint (step_clocked c l).0, (step_clocked c l).1) ≡ faint_step (faint c) l
unfolding step_clocked length_in
step-faint c l =
    ap (λ (r : Device × List State). (record { device = r.0; position = refit (length_of c) (length_in r.0.registers) c.position }, r.1))
    (from-faint (registers_of c) c.device.phase l)

pub tick-faint : (c : Clocked) → faint (tick c) ≡ tick (faint c)
unfolding tick activated length_in
tick-faint c = by (eqb (next c) 0)
  where
    by : (b : Bool)
        → ◌≡◌ {A = Clocked} (faint (record { device = at (cond b (activated (registers_of c)) (registers_of c)) c.device.phase; position = next c }))
        (record { device = at (cond b (activated (faded true (registers_of c))) (faded true (registers_of c))) c.device.phase; position = next c })
    by true = refl
    by false = refl

-- a clock that forgets individual values
abbrev pub faint_clock : Clocked → List State → Clocked × List State
faint_clock c sent = (faint (clock_device c sent).0, (clock_device c sent).1)

pub clock-faint : (c : Clocked) (sent : List State) → (faint (clock_device c sent).0, (clock_device c sent).1) ≡ faint_clock (faint c) sent
clock-faint c sent =
    run-through faint_step step_clocked faint step-faint (tick c) sent ∙ ap (λ (d : Clocked). run faint_step d sent) (tick-faint c ∙ sym (tick-faint (faint c)))
    ∙ sym (run-through faint_step step_clocked faint step-faint (tick (faint c)) sent)

-- ---- with a watchdog

pub cleared-faint : (b : Bool) (c : Clocked) → faint (cleared_if b c) ≡ faint c
unfolding cleared
cleared-faint true c = refl
cleared-faint false c = refl

abbrev pub faint_watched : Watched → Clocked
faint_watched w = faint w.clocked

pub watched-faint : (w : Watched) (sent : List State) → (faint_watched (clock_watched w sent).0, (clock_watched w sent).1) ≡ faint_clock (faint_watched w) sent
unfolding clock_watched
watched-faint w sent =
    let c : Clocked = (clock_device w.clocked sent).0 in
    rw (cleared-faint (expired (clock_watched w sent).0.watch) c) (clock-faint w.clocked sent)

-- ---- a chain

pub relays-clocked : (cs : List Clocked) (ls : List State) → relays clock_device cs ls ≡ run_clocked cs ls
relays-clocked cs ls = relays-clocks step_clocked tick cs ls

pub clocked-faint : (cs : List Clocked) (ls : List State) → (map faint (run_clocked cs ls).0, (run_clocked cs ls).1) ≡ relays faint_clock (map faint cs) ls
clocked-faint cs ls = rw (relays-clocked cs ls) at (relays-through faint_clock clock_device faint clock-faint cs ls)

pub faint-clocks : (ws : List Watched) → map faint_watched ws ≡ map faint (clocks_in ws)
faint-clocks ws = sym (map-map faint (λ (w : Watched). w.clocked) ws)

both-faint : (ws : List Watched) (ls : List State)
    → ◌≡◌ {A = List Clocked × List State} (map faint (clocks_in (run_watched ws ls).0), (run_watched ws ls).1)
    (map faint (run_clocked (clocks_in ws) ls).0, (run_clocked (clocks_in ws) ls).1)
both-faint ws ls =
    rw (clocked-faint (clocks_in ws) ls, ← faint-clocks (run_watched ws ls).0, ← faint-clocks ws)
    (relays-through faint_clock clock_watched faint_watched watched-faint ws ls)

-- Erased: but for individual values the devices are those of a chain without watchdogs, whether or not one expires
pub erased : (ws : List Watched) (ls : List State) → map faint (clocks_in (run_watched ws ls).0) ≡ map faint (run_clocked (clocks_in ws) ls).0
erased ws ls = ap (λ r. r.0) (both-faint ws ls)

-- Returned: and so is what the chain returns
pub returned : (ws : List Watched) (ls : List State) → (run_watched ws ls).1 ≡ (run_clocked (clocks_in ws) ls).1
returned ws ls = ap (λ r. r.1) (both-faint ws ls)
