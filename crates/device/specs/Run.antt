-- A record as a machine: its step with the states that it sends on, a run over a list of states, and one clock: it advances, all that it is sent
-- in that clock acts, and then it watches its lines.
use Rattle.std.specs.Prelude.{ℕ, cond, List}
use Rattle.machine.specs.Machine as machine
use Rattle.watch.specs.Watch.{watching, expired}
use Rattle.watch.specs.declared.watch.Watch.{Watch}
use Rattle.registers.specs.Held.{cleared, with_watch}
use Rattle.registers.specs.declared.registers.Registers.{Registers}
use Rattle.device.specs.Step.{single_step, ticked_device, sent_states}
use Rattle.device.specs.declared.device.Device.{Device}

-- the single step: the next device, and the states that it sends on
unfoldable pub step_record : Device → ℕ → Device × List ℕ
step_record d s = ((single_step d s).device, sent_states (single_step d s).sent)

-- the device after a list of states, and all that it sent
abbrev pub run : Device → List ℕ → Device × List ℕ
run d ss = machine.run step_record d ss

-- registers whose watchdog is w by now: where it has expired, every individual value is 0
abbrev pub under_watch : Registers → Watch → Registers
under_watch r w = cond (expired w) (cleared (with_watch r w)) (with_watch r w)

-- registers at the end of a clock in which the device was sent these states
unfoldable pub watched : List ℕ → Registers → Registers
watched sent r = under_watch r (watching r.configuration sent r.watch)

-- one clock of a device that is sent these states in it: no state, one, or the 24 of a header; and the states that it sends on
unfoldable pub clock_record : Device → List ℕ → Device × List ℕ
clock_record d sent =
    let r : Device × List ℕ = run (ticked_device d) sent in
    (record { registers = watched sent r.0.registers; place = r.0.place }, r.1)
