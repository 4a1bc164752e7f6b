-- One device, clock by clock, and a chain of them. docs/RULES.md, "One device, clock by clock": registers and a phase, for any part's row.
use Rattle.std.specs.Prelude.{ℕ, zero, suc, pred, ◌+◌, ◌-◌, ◌*◌, ◌/◌, ◌%◌, Bool, true, false, ◌&&◌, not, cond, eqb, length, replicate}
use mathlib.Core.List.{List, [], ◌∷◌, ◌++◌, map, flatten}
use Rattle.tables.specs.Lists.{all_same}
use Rattle.bits.specs.Bits.{digit, number, split}
use Rattle.parts.specs.Parts.{Part, outputs, multiplex, slice_fields, slice_bits}
use Rattle.parts.specs.Wire.{State, low, high, Edge, header, frame, clocked, clocked_at}
use Rattle.parts.specs.declared.command.Command.{Command}
use Rattle.parts.specs.declared.command.Command.TheVariants.{Individual, Calibration, Global, Configuration}
use Rattle.model.specs.Lists.{how_many}
use Rattle.machine.specs.Machine.{run, chain}

-- what waits for a frame boundary and becomes active there
pub record Values : Type 0 where
  pub global : ℕ
  pub mux0 : List ℕ
  pub mux1 : List ℕ

-- what a device holds: its part's row, its registers, its two fault flags
pub record Registers : Type 0 where
  pub part : Part
  pub configuration : ℕ
  pub calibration : List ℕ
  pub waiting : Values
  pub active : Values
  pub overtemperature : Bool
  pub openled : Bool

-- what is being collected: the six command bits, the ten count bits, or a slice of a frame whose command and count are known
pub data Field : Type 0 where
  command : Field
  count : Command → Field
  slice : Command → ℕ → Field

-- hunting: the last nine bits seen at low load since the last high clock, as a number
-- taking f n got: the bits got so far, and n more after the next
pub data Phase : Type 0 where
  hunting : ℕ → Phase
  lost : Phase
  taking : Field → ℕ → List Bool → Phase
  passing : Phase

-- a device: registers and phase
pub record Device : Type 0 where
  pub registers : Registers
  pub phase : Phase

-- a device by its registers and its phase
abbrev pub at : Registers → Phase → Device
at r p = record { registers = r; phase = p }

-- configuration bit D0 is 1
abbrev pub multiplexed : ℕ → Bool
multiplexed configuration = eqb (multiplex configuration) 1

-- bits in a device's slice of a frame
unfoldable pub slice_length : Registers → Command → ℕ
slice_length r c = slice_bits r.part c (multiplex r.configuration)

-- ---- storing

-- every other one, from the first, and from the second
abbrev pub evens : List ℕ → List ℕ
evens [] = []
evens (x ∷ []) = x ∷ []
evens (x ∷ y ∷ r) = x ∷ evens r

-- every second value, from the second on
abbrev pub odds : List ℕ → List ℕ
odds [] = []
odds (x ∷ []) = []
odds (x ∷ y ∷ r) = y ∷ odds r

-- copies of one byte, or the old one where they differ
abbrev pub agreed : List ℕ → ℕ → ℕ
agreed [] old = old
agreed (a ∷ bs) old = cond (all_same bs a) a old

-- the registers with another configuration
abbrev pub with_configuration : ℕ → Registers → Registers
with_configuration v r = record {
  part = r.part;
  configuration = v;
  calibration = r.calibration;
  waiting = r.waiting;
  active = r.active;
  overtemperature = r.overtemperature;
  openled = r.openled;
}

-- with another calibration
abbrev pub with_calibration : List ℕ → Registers → Registers
with_calibration v r = record {
  part = r.part;
  configuration = r.configuration;
  calibration = v;
  waiting = r.waiting;
  active = r.active;
  overtemperature = r.overtemperature;
  openled = r.openled;
}

-- with other waiting values
abbrev pub with_waiting : Values → Registers → Registers
with_waiting v r = record {
  part = r.part;
  configuration = r.configuration;
  calibration = r.calibration;
  waiting = v;
  active = r.active;
  overtemperature = r.overtemperature;
  openled = r.openled;
}

-- values with another global byte
abbrev pub with_global : ℕ → Values → Values
with_global g v = record { global = g; mux0 = v.mux0; mux1 = v.mux1 }

-- individual values, in wire order: a nonmultiplexed load leaves MUX1 as it was
abbrev pub with_individual : Bool → List ℕ → Values → Values
with_individual true vs v = record { global = v.global; mux0 = evens vs; mux1 = odds vs }
with_individual false vs v = record { global = v.global; mux0 = vs; mux1 = v.mux1 }

-- the bytes of a slice of bytes
abbrev pub bytes_in : List Bool → Registers → List ℕ
bytes_in bs r = split 8 r.part.banks bs

-- the values of a slice of individual values
abbrev pub values_in : List Bool → Registers → List ℕ
values_in bs r = split r.part.width (slice_fields r.part Individual (multiplex r.configuration)) bs

-- a slice, stored
unfoldable pub load : Command → List Bool → Registers → Registers
load Individual bs r = with_waiting (with_individual (multiplexed r.configuration) (values_in bs r) r.waiting) r
load Calibration bs r = with_calibration (bytes_in bs r) r
load Global bs r = with_waiting (with_global (agreed (bytes_in bs r) r.waiting.global) r.waiting) r
load Configuration bs r = with_configuration (agreed (bytes_in bs r) r.configuration) r

-- a frame boundary
unfoldable pub activated : Registers → Registers
activated r = record {
  part = r.part;
  configuration = r.configuration;
  calibration = r.calibration;
  waiting = r.waiting;
  active = r.waiting;
  overtemperature = r.overtemperature;
  openled = r.openled;
}

-- with one fault flag set: of kind 0 overtemperature, of any other open LED
abbrev pub flagged : ℕ → Bool → Registers → Registers
flagged kind flag r = record {
  part = r.part;
  configuration = r.configuration;
  calibration = r.calibration;
  waiting = r.waiting;
  active = r.active;
  overtemperature = cond (eqb kind 0) flag r.overtemperature;
  openled = cond (eqb kind 0) r.openled flag;
}

-- a value of 0 for every output, in both phases
abbrev pub dark : Part → Values
dark p = record { global = 0; mux0 = replicate (outputs p) 0; mux1 = replicate (outputs p) 0 }

-- zeros and no faults
abbrev pub zeros : Part → Registers
zeros p = record {
  part = p;
  configuration = 0;
  calibration = replicate p.banks 0;
  waiting = dark p;
  active = dark p;
  overtemperature = false;
  openled = false;
}

-- ---- one clock

-- the fault of a frame's kind
unfoldable pub fault : Command → Registers → Bool
fault Individual r = r.overtemperature
fault Calibration r = r.openled
fault Global r = r.overtemperature
fault Configuration r = r.openled

-- the count that is sent on
abbrev pub counted : ℕ → Bool → ℕ
counted n f = (n + digit f) % 1024

-- the window: empty after a high clock
abbrev pub window : Phase → ℕ
window (hunting w) = w
window lost = 0
window (taking f n got) = 0
window passing = 0

-- in the header, with these command bits so far: none, one or two at the edge
abbrev pub begun : List Bool → Phase
begun got = taking command (5 - length got) got

-- load rises, by the window and the first high bit: that is SYNC's last bit, a 0, after the seven others (early); the first command bit
-- after all eight (exact); or the second, after SYNC and the first (late). SYNC begins with a one, so no shorter run of low clocks fits
abbrev pub rising : ℕ → Bool → Phase
rising w first =
    cond (eqb (w % 128) 0x74 && not first) (begun [])
    (cond (eqb (w % 256) 0xE8) (begun (first ∷ []))
    (cond (eqb (w / 2) 0xE8) (begun (eqb (w % 2) 1 ∷ first ∷ [])) lost))

-- after the sixth command bit: three equal pairs name the command, and the device is lost otherwise
abbrev pub named : ℕ → Phase
named n =
    cond (eqb n 0) (taking (count Individual) 9 [])
    (cond (eqb n 21) (taking (count Calibration) 9 [])
    (cond (eqb n 42) (taking (count Global) 9 [])
    (cond (eqb n 63) (taking (count Configuration) 9 []) lost)))

-- the states of a header that a device sends: always with the exact edge
unfoldable pub header_states : Command → ℕ → List State
header_states c n = clocked (header c n)

-- the line states of a frame with these slices, sent with an edge
unfoldable pub frame_states : Edge → Command → ℕ → List (List Bool) → List Bool → List State
frame_states e c n slices tail = clocked_at e (frame c n (flatten slices) tail)

-- the last bit of a field has come
abbrev pub finish : Registers → Field → List Bool → Device × List State
finish r command bs = (at r (named (number bs)), [])
finish r (count c) bs = (at r (taking (slice c (number bs)) (pred (slice_length r c)) []), [])
finish r (slice c n) bs = (at (load c bs r) passing, header_states c (counted n (fault c r)))

-- one line state
abbrev pub step_from : Registers → Phase → State → Device × List State
step_from r p (low b) = (at r (hunting ((window p * 2 + digit b) % 512)), [])
step_from r (hunting w) (high b) = (at r (rising w b), [])
step_from r lost (high b) = (at r lost, [])
step_from r (taking f zero got) (high b) = finish r f (got ++ b ∷ [])
step_from r (taking f (suc n) got) (high b) = (at r (taking f n (got ++ b ∷ [])), [])
step_from r passing (high b) = (at r passing, high b ∷ [])

-- one line state: the next device, and the states that it sends on
unfoldable pub step_device : Device → State → Device × List State
step_device d l = step_from d.registers d.phase l

-- ---- a device and a chain

-- a device after line states, and all that it sent
abbrev pub run_device : Device → List State → Device × List State
run_device d ls = run step_device d ls

-- a chain after line states, and all that its last device sent
abbrev pub run_chain : List Device → List State → List Device × List State
run_chain ds ls = chain step_device ds ls

-- a device whose flag of a kind is set, 0 overtemperature and else open LED
abbrev pub faulted : ℕ → Bool → Device → Device
faulted kind flag d = at (flagged kind flag d.registers) d.phase

-- a fresh device of a part: zeros, no faults, hunting
abbrev pub fresh_device : Part → Device
fresh_device p = at (zeros p) (hunting 0)

-- the registers of each device
abbrev pub registers_in : List Device → List Registers
registers_in ds = map (λ d. d.registers) ds

-- how many have the flag of a frame's kind up
abbrev pub faults : Command → List Registers → ℕ
faults c rs = how_many (fault c) rs
