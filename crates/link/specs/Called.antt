-- The three calls on a chain of the model's devices, each with its clock and its watchdog: what an accepted one makes of them, and what the last
-- device sends.
use Rattle.std.specs.Prelude.{ℕ, ◌-◌, Bool, List, [], map, length, get_or, set, replicate}
use Rattle.parts.specs.Parts.{part_of}
use Rattle.parts.specs.Wire.{State, state_at}
use Rattle.watch.specs.Watch.{fresh_watch}
use Rattle.calls.specs.Chain.{blank}
use Rattle.calls.specs.History.{Call, fresh, run, fault}
use Rattle.model.specs.Device.{fresh_device, faulted}
use Rattle.clocked.specs.Clock.{Clocked}
use Rattle.watchdog.specs.Watched.{Watched, run_watched}
use Rattle.link.specs.View.{watched_of}

-- a fresh device of the part told, at position 0, with a watchdog that was told its bit and its limit
abbrev pub fresh_watched : ℕ → ℕ → ℕ → Watched
fresh_watched part bit limit = record { clocked = record { device = fresh_device (part_of part); position = 0 }; watch = fresh_watch bit limit }

-- a device whose flag of a kind is set, at its position
abbrev pub flag_set : ℕ → Bool → Clocked → Clocked
flag_set kind flag c = record { device = faulted kind flag c.device; position = c.position }

-- and with its watchdog
abbrev pub flag_watched : ℕ → Bool → Watched → Watched
flag_watched kind flag w = record { clocked = flag_set kind flag w.clocked; watch = w.watch }

-- fresh devices; a run of the states; the flag of one device, counted from 1
abbrev pub called : List Watched → Call → List Watched × List State
called ws (fresh part bit limit) = (replicate (length ws) (fresh_watched part bit limit), [])
called ws (run ss out) = run_watched ws (map state_at ss)
called ws (fault device kind flag) = (set ws (device - 1) (flag_watched kind flag (get_or ws (device - 1) (watched_of blank))), [])
