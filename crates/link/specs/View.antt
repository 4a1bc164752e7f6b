-- A record seen as a device of the model: what its part uses of its registers, field by field, its phase with the bits that have come as a list,
-- its position, and its watchdog. A record keeps the command bits and the count bits as a number after a leading one, and the bits of a slice in the slice's
-- fields.
use Rattle.std.specs.Prelude.{◌≡◌, Bool, cond, List, [], ◌∷◌, ◌++◌, map, ℕ, zero, suc, ◌-◌, ◌/◌, ◌%◌, eqb, ltb, length, get_or}
use Rattle.bits.specs.Bits.{is_one, bits}
use Rattle.parts.specs.Parts.{part_of, field_width}
use Rattle.phases.specs.Phases.{phase_of}
use Rattle.device.specs.Step.{slice_length}
use Rattle.phases.specs.declared.phase.Phase.{Phase}
use Rattle.phases.specs.declared.phase.Phase.TheVariants.{Hunting, Opening, Counting, Slice, Passing, Lost}
use Rattle.registers.specs.Held.{bank_bytes, output_values}
use Rattle.registers.specs.declared.registers.Registers.{Registers}
use Rattle.device.specs.declared.device.Device.{Device}
use Rattle.calls.specs.Chain.{blank}
use Rattle.model.specs.Device.{hunting, lost, taking, passing, command, count, slice}
use Rattle.model.specs.Device as model
use Rattle.model.specs.Set.{Own}
use Rattle.model.specs.Restore.{RegistersHold}
use Rattle.clocked.specs.Clock.{Clocked}
use Rattle.watchdog.specs.Watched.{Watched}

-- ---- bits as a record keeps them

-- the bits after a number's leading one, at most k of them
unfoldable pub rest : ℕ → ℕ → List Bool
rest zero n = []
rest (suc k) n = cond (ltb n 2) [] (rest k (n / 2) ++ eqb (n % 2) 1 ∷ [])

-- the t bits that have come of a slice with fields of w bits: those of the last field are its low bits
unfoldable pub gotten : ℕ → List ℕ → ℕ → List Bool
gotten w [] t = []
gotten w (v ∷ vs) t = cond (ltb t w) (bits t v) (bits w v ++ gotten w vs (t - w))

-- ---- a record

-- its registers in use; a flag is up where it is not 0
abbrev pub registers_of : Registers → model.Registers
registers_of r = record {
  part = part_of r.part;
  configuration = r.configuration;
  calibration = bank_bytes r;
  waiting = record { global = r.waiting; mux0 = output_values r r.waiting0; mux1 = output_values r r.waiting1 };
  active = record { global = r.active; mux0 = output_values r r.active0; mux1 = output_values r r.active1 };
  overtemperature = is_one r.overtemperature;
  openled = is_one r.openled;
}

-- its phase: the bits that have come, and how many more come after the next
abbrev pub phase_in : Registers → Phase → model.Phase
phase_in r (Hunting window) = hunting window
phase_in r (Opening read) = taking command (5 - length (rest 10 read)) (rest 10 read)
phase_in r (Counting c read) = taking (count c) (9 - length (rest 10 read)) (rest 10 read)
phase_in r (Slice c n t) = taking (slice c n) (slice_length r c - suc t) (gotten (field_width (part_of r.part) c) r.slice t)
phase_in r Passing = passing
phase_in r Lost = lost

-- registers and a phase
abbrev pub viewed : Registers → Phase → model.Device
viewed r p = model.at (registers_of r) (phase_in r p)

-- the whole record but for its position and its watchdog
unfoldable pub device_of : Device → model.Device
device_of d = viewed d.registers (phase_of d.place)

-- the whole record but for its watchdog
abbrev pub clocked_of : Device → Clocked
clocked_of d = record { device = device_of d; position = d.registers.position }

-- the whole record
abbrev pub watched_of : Device → Watched
watched_of d = record { clocked = clocked_of d; watch = d.registers.watch }

-- arrays with the lengths that their types say
pub record Sizes (r : Registers) : Type 0 where
  pub calibration : length r.calibration ≡ 3
  pub waiting0 : length r.waiting0 ≡ 24
  pub waiting1 : length r.waiting1 ≡ 24
  pub active0 : length r.active0 ≡ 24
  pub active1 : length r.active1 ≡ 24
  pub slice : length r.slice ≡ 48

-- the record's arrays have them, as those of every record that is lent do
abbrev pub Arrays : Device → Type 0
Arrays d = Sizes d.registers

-- ---- a lent chain

-- the registers of device n, counted from 1
abbrev pub registers_at : List Device → ℕ → model.Registers
registers_at ds n = registers_of (get_or ds (n - 1) blank).registers

-- the registers of every device
abbrev pub registers_all : List Device → List model.Registers
registers_all ds = map (λ d. registers_of d.registers) ds

-- the registers in use hold the values of the device's own slices
abbrev pub Holds : Own → Device → Type 0
Holds o d = RegistersHold o (registers_of d.registers)
