-- A device that keeps its own clock, and a chain of them. Every line state that is given to the chain first advances each device by one clock;
-- where a position so returns to 0, the waiting values become active; then the state acts. States that are sent on advance no device.
use Rattle.std.specs.Prelude.{ℕ, zero, suc, ◌+◌, ◌-◌, ◌%◌, ◌≤◌, ◌<◌, cond, List, map, eqb, ltb}
use Rattle.parts.specs.Parts.{Part, frame_clocks}
use Rattle.parts.specs.Wire.{State}
use Rattle.machine.specs.Machine.{clocks}
use Rattle.model.specs.Device.{Registers, Device, at, activated, step_device}

-- a device, and its position in the frame, 0 when fresh
pub record Clocked : Type 0 where
  pub device : Device
  pub position : ℕ

-- its registers
abbrev pub registers_of : Clocked → Registers
registers_of c = c.device.registers

-- clocks of the frame that registers say
unfoldable pub length_in : Registers → ℕ
length_in r = frame_clocks r.part r.configuration

-- clocks of a device's frame
abbrev pub length_of : Clocked → ℕ
length_of c = length_in (registers_of c)

-- a position in range
abbrev pub Placed : Clocked → Type 0
Placed c = c.position < length_of c

-- a row whose frames have clocks
abbrev pub Running : Part → Type 0
Running p = (configuration : ℕ) → 0 < frame_clocks p configuration

-- ---- one clock

-- the next position
abbrev pub next : Clocked → ℕ
next c = suc c.position % length_of c

-- one clock: where the position returns to 0 the waiting values become active
unfoldable pub tick : Clocked → Clocked
tick c = record {
  device = at (cond (eqb (next c) 0) (activated (registers_of c)) (registers_of c)) c.device.phase;
  position = next c;
}

-- n clocks at once: the waiting values become active if the position comes to the end of the frame
unfoldable pub aged : ℕ → Clocked → Clocked
aged n c = record {
  device = at (cond (ltb (c.position + n) (length_of c)) (registers_of c) (activated (registers_of c))) c.device.phase;
  position = (c.position + n) % length_of c;
}

-- the position next returns to 0 within n clocks
abbrev pub ReturnsWithin : ℕ → Clocked → Type 0
ReturnsWithin n c = length_of c - c.position ≤ n

-- ---- a line state

-- a position where the frame had the length old and has the length new: a shorter one takes it modulo its length
abbrev pub refit : ℕ → ℕ → ℕ → ℕ
refit old new position = cond (ltb new old) (position % new) position

-- the single step: no clock advances, and a position that the modulo brings to 0 is no boundary
unfoldable pub step_clocked : Clocked → State → Clocked × List State
step_clocked c l = (
  record {
    device = (step_device c.device l).0;
    position = refit (length_of c) (length_in (step_device c.device l).0.registers) c.position;
  },
  (step_device c.device l).1,
)

-- a chain after line states that are given to it, and all that its last device sent
abbrev pub run_clocked : List Clocked → List State → List Clocked × List State
run_clocked cs ls = clocks step_clocked tick cs ls

-- the devices without their clocks
abbrev pub devices_in : List Clocked → List Device
devices_in cs = map (λ c. c.device) cs

-- ---- boundaries

-- the last of k clocks, counted from 1, in which a position returned to 0, and 0 where there was none; after j is the device after j clocks
unfoldable pub last_boundary : (ℕ → Clocked) → ℕ → ℕ
last_boundary after zero = 0
last_boundary after (suc k) = cond (eqb (next (after k)) 0) (suc k) (last_boundary after k)
