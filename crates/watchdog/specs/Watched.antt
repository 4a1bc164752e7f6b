-- A device that keeps its own clock and watches its data and load lines, and a chain of them. A clock of a device: it advances by one, what it
-- is sent in that clock acts, be it nothing, one state or a burst, and then it watches. Where its watchdog expires, its individual values
-- become 0. docs/RULES.md, "The watchdog".
use Rattle.std.specs.Prelude.{ℕ, zero, suc, ◌-◌, ◌≤◌, ◌≡◌, Bool, true, false, ◌||◌, List, map, length, take, get_or, replicate}
use Rattle.parts.specs.Parts.{Part, outputs}
use Rattle.parts.specs.Wire.{State, state_code}
use Rattle.machine.specs.Machine.{run, relays}
use Rattle.watch.specs.declared.watch.Watch.{Watch}
use Rattle.watch.specs.Watch.{enabled, watching, expired}
use Rattle.model.specs.Device.{Values, Registers, at}
use Rattle.clocked.specs.Clock.{Clocked, registers_of, tick, step_clocked}

-- a device with a clock and a watchdog
pub record Watched : Type 0 where
  pub clocked : Clocked
  pub watch : Watch

-- the devices without their watchdogs
abbrev pub clocks_in : List Watched → List Clocked
clocks_in ws = map (λ w. w.clocked) ws

-- ---- an expiry

-- values with 0 for every output, MUX0 and MUX1, and the global byte as it was
abbrev pub unlit : Part → Values → Values
unlit p v = record { global = v.global; mux0 = replicate (outputs p) 0; mux1 = replicate (outputs p) 0 }

-- an expiry: the individual values that wait and those that are active become 0, and nothing else changes
unfoldable pub cleared : Registers → Registers
cleared r = record {
  part = r.part;
  configuration = r.configuration;
  calibration = r.calibration;
  waiting = unlit r.part r.waiting;
  active = unlit r.part r.active;
  overtemperature = r.overtemperature;
  openled = r.openled;
}

-- a device whose watchdog has expired, or has not
abbrev pub cleared_if : Bool → Clocked → Clocked
cleared_if true c = record { device = at (cleared (registers_of c)) c.device.phase; position = c.position }
cleared_if false c = c

-- ---- one clock

-- a clock of a device without its watchdog: it advances by one, and what it is sent acts; what it sends on
abbrev pub clock_device : Clocked → List State → Clocked × List State
clock_device c sent = run step_clocked (tick c) sent

-- the watchdog at the end of a clock in which a device was sent these states, by the configuration that it then holds
abbrev pub watch_after : Clocked → List State → Watch → Watch
watch_after c sent s = watching (registers_of c).configuration (map state_code sent) s

-- a clock of a device: it advances by one, what it is sent acts, and then it watches
unfoldable pub clock_watched : Watched → List State → Watched × List State
clock_watched w sent =
    let c : Clocked = (clock_device w.clocked sent).0 in
    let s : Watch = watch_after c sent w.watch in
    (record { clocked = cleared_if (expired s) c; watch = s }, (clock_device w.clocked sent).1)

-- the single step: no clock ends, so levels and counts stay
unfoldable pub step_watched : Watched → State → Watched × List State
step_watched w l = (record { clocked = (step_clocked w.clocked l).0; watch = w.watch }, (step_clocked w.clocked l).1)

-- a chain after line states that are given to it, one to a clock, and all that its last device sent
abbrev pub run_watched : List Watched → List State → List Watched × List State
run_watched ws ls = relays clock_watched ws ls

-- ---- when a watchdog expires

-- device 1, 2, .. of the chain expires in that clock, counted from 1: its counts stay, so it is read off the device at the end of the clock
abbrev pub expires : List Watched → List State → ℕ → ℕ → Bool
expires ws ls clock device = get_or (map (λ w. expired w.watch) (run_watched ws (take clock ls)).0) (device - 1) false

-- it expires in one of the first k clocks
unfoldable pub expired_within : List Watched → List State → ℕ → ℕ → Bool
expired_within ws ls zero device = false
expired_within ws ls (suc k) device = expires ws ls (suc k) device || expired_within ws ls k device

-- each device expires in no clock from a clock of its own to the last
abbrev pub CalmFrom : (ℕ → ℕ) → List Watched → List State → Type 0
CalmFrom from ws ls = (device clock : ℕ) → 1 ≤ device → device ≤ length ws → from device ≤ clock → clock ≤ length ls → expires ws ls clock device ≡ false

-- no device expires in any clock
abbrev pub Calm : List Watched → List State → Type 0
Calm ws ls = CalmFrom (λ device. 1) ws ls

-- the enabling bit is clear in the configuration that a device holds
abbrev pub Disabled : Watched → Type 0
Disabled w = enabled w.watch (registers_of w.clocked).configuration ≡ false
