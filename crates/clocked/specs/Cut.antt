-- What a cut leaves in one device of a chain with clocks: configuration, calibration and what waits are new where their slices had fully
-- arrived, else old. What is active is what waited at the device's last boundary in the restore, or the old active values where none fell.
use Rattle.std.specs.Prelude.{ℕ, zero, suc, ◌≡◌, Bool, ◌&&◌, cond}
use Rattle.parts.specs.declared.command.Command.{Command}
use Rattle.parts.specs.declared.command.Command.TheVariants.{Individual, Calibration, Global, Configuration}
use Rattle.model.specs.Device.{Values, Registers, multiplexed, evens, odds}
use Rattle.model.specs.Set.{Own}

-- the global byte and the individual values: each group new where its slice had arrived, else old
pub record Groups (arrived : Command → Bool) (o : Own) (old new : Values) : Type 0 where
  pub global : new.global ≡ cond (arrived Global) o.global old.global
  pub mux0 : new.mux0 ≡ cond (arrived Individual) (cond (multiplexed o.configuration) (evens o.individual) o.individual) old.mux0
  pub mux1 : new.mux1 ≡ cond (arrived Individual && multiplexed o.configuration) (odds o.individual) old.mux1

-- what is active, by the clock b of the last boundary: what had arrived within b - 1 states was waiting then; 0: none fell
abbrev pub Active : (Command → ℕ → Bool) → ℕ → Own → Registers → Values → Type 0
Active arrived zero o old active = active ≡ old.active
Active arrived (suc n) o old active = Groups (λ c. arrived c n) o old.waiting active

-- a device after k states of a restore, its last boundary at clock b, where arrived c j says that its slice arrives within j states
pub record CutClocked (arrived : Command → ℕ → Bool) (k b : ℕ) (o : Own) (old new : Registers) : Type 0 where
  pub part : new.part ≡ old.part
  pub configuration : new.configuration ≡ cond (arrived Configuration k) o.configuration old.configuration
  pub calibration : new.calibration ≡ cond (arrived Calibration k) o.calibration old.calibration
  pub waiting : Groups (λ c. arrived c k) o old.waiting new.waiting
  pub active : Active arrived b o old new.active
