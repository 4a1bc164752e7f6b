-- What no clock and no line state changes: part and fault flags. A step changes registers by a store alone, by cases on the phase; a run goes
-- by `clocks-keep`. Assumes nothing.
use mathlib.Core.Path.{◌≡◌, refl}
use mathlib.Core.Bool.{Bool, true, false, cond}
use mathlib.Core.List.{List, [], ◌∷◌, ◌++◌, map}
use Prim.Native.Nat.{zero, suc}
use lib.Dec.{eqb}
use Rattle.parts.specs.Wire.{State, low, high}
use Rattle.parts.specs.declared.command.Command.{Command}
use Rattle.parts.specs.declared.command.Command.TheVariants.{Individual, Calibration, Global, Configuration}
use Rattle.machine.proofs.Machine.{clocks-keep}
use Rattle.model.specs.Device.{Registers, Phase, hunting, lost, taking, passing, command, count, slice, load, activated, step_from, step_device}
use Rattle.model.proofs.Restore.{overtemperature-kept, openled-kept}
use Rattle.clocked.specs.Clock.{Clocked, registers_of, next, tick, step_clocked, run_clocked}

-- what no store changes, no step changes
module _ {B : Type 0} (f : Registers → B) (store : (c : Command) (bs : List Bool) (r : Registers) → f (load c bs r) ≡ f r) where
  from-keeps : (r : Registers) (p : Phase) (l : State) → f (step_from r p l).0.registers ≡ f r
  from-keeps r p (low b) = refl
  from-keeps r (hunting w) (high b) = refl
  from-keeps r lost (high b) = refl
  from-keeps r (taking command zero got) (high b) = refl
  from-keeps r (taking (count c) zero got) (high b) = refl
  from-keeps r (taking (slice c n) zero got) (high b) = store c (got ++ b ∷ []) r
  from-keeps r (taking field (suc n) got) (high b) = refl
  from-keeps r passing (high b) = refl

  pub step_keeps : (c : Clocked) (l : State) → f (registers_of (step_clocked c l).0) ≡ f (registers_of c)
  unfolding step_clocked step_device
  step_keeps c l = from-keeps (registers_of c) c.device.phase l

  -- and what no boundary changes either, no run changes
  module _ (boundary : (r : Registers) → f (activated r) ≡ f r) where
    pub tick-keeps : (c : Clocked) → f (registers_of (tick c)) ≡ f (registers_of c)
    unfolding tick
    tick-keeps c = by (eqb (next c) 0)
      where
        by : (b : Bool) → f (cond b (activated (registers_of c)) (registers_of c)) ≡ f (registers_of c)
        by true = boundary (registers_of c)
        by false = refl

    pub registers-keep : (cs : List Clocked) (ls : List State) → map (λ c. f (registers_of c)) (run_clocked cs ls).0 ≡ map (λ c. f (registers_of c)) cs
    registers-keep cs ls = clocks-keep step_clocked tick (λ c. f (registers_of c)) step_keeps tick-keeps cs ls

-- ---- the part

load_part : (c : Command) (bs : List Bool) (r : Registers) → (load c bs r).part ≡ r.part
unfolding load
load_part Individual bs r = refl
load_part Calibration bs r = refl
load_part Global bs r = refl
load_part Configuration bs r = refl

activated-part : (r : Registers) → (activated r).part ≡ r.part
unfolding activated
activated-part r = refl

pub step_part : (c : Clocked) (l : State) → (registers_of (step_clocked c l).0).part ≡ (registers_of c).part
step_part c l = step_keeps (λ r. r.part) load_part c l

pub tick-part : (c : Clocked) → (registers_of (tick c)).part ≡ (registers_of c).part
tick-part c = tick-keeps (λ r. r.part) load_part activated-part c

pub run-part : (cs : List Clocked) (ls : List State) → map (λ c. (registers_of c).part) (run_clocked cs ls).0 ≡ map (λ c. (registers_of c).part) cs
run-part cs ls = registers-keep (λ r. r.part) load_part activated-part cs ls

-- ---- fault flags

activated-overtemperature : (r : Registers) → (activated r).overtemperature ≡ r.overtemperature
unfolding activated
activated-overtemperature r = refl

activated-openled : (r : Registers) → (activated r).openled ≡ r.openled
unfolding activated
activated-openled r = refl

pub run-overtemperature : (cs : List Clocked) (ls : List State)
    → map (λ c. (registers_of c).overtemperature) (run_clocked cs ls).0 ≡ map (λ c. (registers_of c).overtemperature) cs
run-overtemperature cs ls = registers-keep (λ r. r.overtemperature) overtemperature-kept activated-overtemperature cs ls

pub run-openled : (cs : List Clocked) (ls : List State) → map (λ c. (registers_of c).openled) (run_clocked cs ls).0 ≡ map (λ c. (registers_of c).openled) cs
run-openled cs ls = registers-keep (λ r. r.openled) openled-kept activated-openled cs ls
