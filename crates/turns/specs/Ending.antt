-- Inside: how a run ends, by its refusal, and what each device is then by the last clock. Where it begins is in cursor/specs/Entry.
use Rattle.std.specs.Prelude.{ℕ, Bool, cond, List, eqb, length}
use Rattle.watch.specs.Watch.{line, with_lines}
use Rattle.watch.specs.declared.watch.Watch.{Watch}
use Rattle.registers.specs.Held.{with_watch, activated}
use Rattle.registers.specs.declared.registers.Registers.{Registers}
use Rattle.positions.specs.Running.{by_clock}
use Rattle.device.specs.declared.device.Device.{Device}
use Rattle.calls.specs.Calls.{run_refusal}
use Rattle.cursor.specs.Cursor.{halted}
use Rattle.turns.specs.Watching.{cleared_if, watched_by}
use Rattle.turns.specs.Front.{Running, now_at, front_run}

-- a run under a refusal, or none
unfoldable pub run_under : ℕ → List Device → List ℕ → List ℕ → Running
run_under refusal ds ss os = cond (eqb refusal 0) (front_run ds ss os) (now_at ds halted os)

-- how the turns of a run end
abbrev pub run_end : List Device → List ℕ → List ℕ → Running
run_end ds ss os = run_under (run_refusal ds ss (length os)) ds ss os

-- registers that show what waited, if a frame has ended, and have no value, if their watchdog has expired
abbrev pub shown_if : Bool → Bool → Registers → Registers
shown_if ended expired r = cleared_if expired (cond ended (activated r) r)

-- a device as it is shown by clock t, with the counts of a watchdog
abbrev pub shown_with : Device → Watch → ℕ → Device
shown_with d w t =
    let v : Watch = d.registers.watch in
    record { registers = with_watch (by_clock t d.registers) (with_lines v (line w.din.still v.din.level) (line w.loadi.still v.loadi.level)); place = d.place }

-- a device by clock t of the run
abbrev pub by_clock_device : ℕ → Device → Device
by_clock_device t d = record { registers = watched_by t d.registers; place = d.place }
