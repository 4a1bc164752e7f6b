-- Erasure: a step reads no active value, so a chain that keeps its own clocks and takes its waiting values at its own boundaries runs as the
-- model's chain does, but for active values and positions. One step by cases; runs by `clocks-view`, the model's devices with a clock that
-- changes nothing. Assumes nothing.
use mathlib.Core.Path.{◌≡◌, refl, sym, ap}
use mathlib.Core.Bool.{Bool, true, false, cond}
use mathlib.Core.List.{List, [], ◌∷◌, ◌++◌, map, map-id, map-map}
use Prim.Native.Nat.{zero, suc}
use lib.Dec.{eqb}
use Rattle.parts.specs.Wire.{State, low, high}
use Rattle.parts.specs.declared.command.Command.{Command}
use Rattle.parts.specs.declared.command.Command.TheVariants.{Individual, Calibration, Global, Configuration}
use Rattle.machine.specs.Machine.{All}
use Rattle.machine.proofs.Machine.{chain-view, clocks-view, clocks-still}
use Rattle.model.specs.Device.{Values, Registers, Device, Phase, hunting, lost, taking, passing, command, count, slice, at, slice_length, load, fault, activated, step_device, run_chain}
use Rattle.clocked.specs.Clock.{Clocked, registers_of, next, tick, step_clocked, run_clocked, devices_in}

-- the registers with other active values
abbrev pub with_active : Values → Registers → Registers
with_active v r = record {
  part = r.part;
  configuration = r.configuration;
  calibration = r.calibration;
  waiting = r.waiting;
  active = v;
  overtemperature = r.overtemperature;
  openled = r.openled;
}

-- a device with these
abbrev pub bare : Values → Device → Device
bare v d = at (with_active v d.registers) d.phase

-- a device with these and without its clock
abbrev forget : Values → Clocked → Device
forget v c = bare v c.device

-- no values
abbrev pub none : Values
none = record { global = 0; mux0 = []; mux1 = [] }

-- ---- one step and one clock

load-bare : (v : Values) (c : Command) (bs : List Bool) (r : Registers) → load c bs (with_active v r) ≡ with_active v (load c bs r)
unfolding load
load-bare v Individual bs r = refl
load-bare v Calibration bs r = refl
load-bare v Global bs r = refl
load-bare v Configuration bs r = refl

fault-bare : (v : Values) (c : Command) (r : Registers) → fault c (with_active v r) ≡ fault c r
unfolding fault
fault-bare v Individual r = refl
fault-bare v Calibration r = refl
fault-bare v Global r = refl
fault-bare v Configuration r = refl

from-bare : (v : Values) (r : Registers) (p : Phase) (l : State) → (bare v (step_device (at r p) l).0, (step_device (at r p) l).1) ≡ step_device (at (with_active v r) p) l
unfolding step_device slice_length
from-bare v r p (low b) = refl
from-bare v r (hunting w) (high b) = refl
from-bare v r lost (high b) = refl
from-bare v r (taking command zero got) (high b) = refl
from-bare v r (taking (count c) zero got) (high b) = refl
from-bare v r (taking (slice c n) zero got) (high b) = rw (load-bare v c (got ++ b ∷ []) r, fault-bare v c r)
from-bare v r (taking f (suc n) got) (high b) = refl
from-bare v r passing (high b) = refl

step-bare : (v : Values) (d : Device) (l : State) → (bare v (step_device d l).0, (step_device d l).1) ≡ step_device (bare v d) l
step-bare v d l = from-bare v d.registers d.phase l

step-forget : (v : Values) (c : Clocked) (l : State) → (forget v (step_clocked c l).0, (step_clocked c l).1) ≡ step_device (forget v c) l
unfolding step_clocked
step-forget v c l = step-bare v c.device l

tick-forget : (v : Values) (c : Clocked) → forget v (tick c) ≡ forget v c
unfolding tick activated
tick-forget v c = by (eqb (next c) 0)
  where
    by : (b : Bool) → ◌≡◌ {A = Device} (bare v (at (cond b (activated (registers_of c)) (registers_of c)) c.device.phase)) (forget v c)
    by true = refl
    by false = refl

-- ---- a chain

-- every state fits
abbrev any : {S : Type 0} → S → Type 0
any s = Unit {0}

all_any : {S : Type 0} (ss : List S) → All any ss
all_any [] = tt
all_any (s ∷ ss) = (tt, all_any ss)

module _ (v : Values) where
  -- the model's chain
  chain-bare : (ds : List Device) (ls : List State) → (map (bare v) (run_chain ds ls).0, (run_chain ds ls).1) ≡ run_chain (map (bare v) ds) ls
  chain-bare ds ls =
      rw (map-id (run_chain ds ls).1, map-id ls)
      at (chain-view step_device step_device (bare v) (λ l. l) any (λ d l p. tt) (λ d l p. rw (map-id (step_device d l).1) (step-bare v d l)) ds ls (all_any ds))

  -- the chain with clocks
  run-forget : (cs : List Clocked) (ls : List State) → (map (forget v) (run_clocked cs ls).0, (run_clocked cs ls).1) ≡ run_chain (map (forget v) cs) ls
  run-forget cs ls =
      rw (map-id (run_clocked cs ls).1, map-id ls, clocks-still step_device (map (forget v) cs) ls)
      at (clocks-view step_device step_clocked (λ d. d) tick (forget v) (λ l. l) any (λ c l p. tt) (λ c l p. rw (map-id (step_clocked c l).1) (step-forget v c l))
      (λ c p. tt) (λ c p. tick-forget v c) cs ls (all_any cs))

  bare-devices : (cs : List Clocked) → map (forget v) cs ≡ map (bare v) (devices_in cs)
  bare-devices cs = sym (map-map (bare v) (λ (c : Clocked). c.device) cs)

  both-erased : (cs : List Clocked) (ls : List State)
      → ◌≡◌ {A = List Device × List State} (map (bare v) (devices_in (run_clocked cs ls).0), (run_clocked cs ls).1)
      (map (bare v) (run_chain (devices_in cs) ls).0, (run_chain (devices_in cs) ls).1)
  both-erased cs ls = rw (← bare-devices (run_clocked cs ls).0, chain-bare (devices_in cs) ls, ← bare-devices cs) (run-forget cs ls)

  -- Erased: but for active values, the devices are the model's
  pub erased : (cs : List Clocked) (ls : List State) → map (bare v) (devices_in (run_clocked cs ls).0) ≡ map (bare v) (run_chain (devices_in cs) ls).0
  erased cs ls = ap (λ r. r.0) (both-erased cs ls)

-- Returned: what is sent is what the model's chain sends
pub returned : (cs : List Clocked) (ls : List State) → (run_clocked cs ls).1 ≡ (run_chain (devices_in cs) ls).1
returned cs ls = ap (λ r. r.1) (both-erased none cs ls)
