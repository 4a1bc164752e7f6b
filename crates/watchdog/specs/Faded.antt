-- What stands for a device's old registers once its watchdog has expired in the restore: individual values are wholly 0 in place of old. And
-- a device without its individual values, to say what an expiry leaves alone.
use Rattle.std.specs.Prelude.{Bool, true, cond, List, ℕ, replicate}
use Rattle.parts.specs.Parts.{Part, outputs}
use Rattle.model.specs.Device.{Values, Registers, at}
use Rattle.clocked.specs.Clock.{Clocked, registers_of}

-- a value of 0 for every output, or the old values
abbrev faded_list : Bool → Part → List ℕ → List ℕ
faded_list has p vs = cond has (replicate (outputs p) 0) vs

-- the individual values, MUX0 and MUX1
abbrev faded_values : Bool → Part → Values → Values
faded_values has p v = record { global = v.global; mux0 = faded_list has p v.mux0; mux1 = faded_list has p v.mux1 }

-- old registers, or with every individual value 0 in their place once the device has expired
abbrev pub faded : Bool → Registers → Registers
faded has r = record {
  part = r.part;
  configuration = r.configuration;
  calibration = r.calibration;
  waiting = faded_values has r.part r.waiting;
  active = faded_values has r.part r.active;
  overtemperature = r.overtemperature;
  openled = r.openled;
}

-- a device but for its individual values: 0 in their place
abbrev pub faint : Clocked → Clocked
faint c = record { device = at (faded true (registers_of c)) c.device.phase; position = c.position }
