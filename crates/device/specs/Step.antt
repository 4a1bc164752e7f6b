-- One device, clock by clock: the step by one line state, and what it sends. That section of docs/RULES.md. Every record has a step: one
-- that does not fit (see Judgement) too. Then the single step with its position, a clock, a fault setting, and a fresh device.
use Rattle.std.specs.Prelude.{ℕ, ◌+◌, ◌/◌, ◌%◌, cond, List, [], ◌∷◌, ltb}
use Rattle.parts.specs.Parts.{part_of, multiplex, field_width, field_limit, slice_bits}
use Rattle.parts.specs.Wire.{header, states_of}
use Rattle.parts.specs.declared.command.Command.{Command}
use Rattle.phases.specs.Phases.{place_of, phase_of, heard, rising, opening, counting}
use Rattle.watch.specs.Watch.{fresh_watch}
use Rattle.registers.specs.Held.{took, fault, raised, flagged, zeros}
use Rattle.positions.specs.Positions.{ticked, refitted}
use Rattle.storing.specs.Stored.{stored}
use Rattle.phases.specs.declared.phase.Phase.{Phase}
use Rattle.phases.specs.declared.phase.Phase.TheVariants.{Hunting, Opening, Counting, Slice, Passing, Lost}
use Rattle.phases.specs.declared.phase.Sent.{Sent}
use Rattle.phases.specs.declared.phase.Sent.TheVariants.{Nothing, One, Header}
use Rattle.registers.specs.declared.registers.Registers.{Registers}
use Rattle.device.specs.declared.device.Device.{Device}
use Rattle.device.specs.declared.device.Stepped.{Stepped}

-- the states that a clock sends on
abbrev pub sent_states : Sent → List ℕ
sent_states Nothing = []
sent_states (One s) = s ∷ []
sent_states (Header c count) = states_of (header c count)

-- a device by its registers and its phase
abbrev pub at : Registers → Phase → Device
at r p = record { registers = r; place = place_of p }

-- the next device, and what it sends
abbrev pub sending : Registers → Phase → Sent → Stepped
sending r p s = record { device = at r p; sent = s }

-- the phase changes, and nothing is sent
abbrev pub moved : Registers → Phase → Stepped
moved r p = sending r p Nothing

-- bits of a slice for this device: by its part and its own D0
abbrev pub slice_length : Registers → Command → ℕ
slice_length r c = slice_bits (part_of r.part) c (multiplex r.configuration)

-- after a bit: the last one stores the slice and sends the header on
abbrev pub last_or_more : Registers → Command → ℕ → ℕ → ℕ → Stepped
last_or_more r c count taken long =
    cond (ltb (taken + 1) long) (moved r (Slice c count (taken + 1)))
    (sending (stored r c) Passing (Header c (raised count (fault r c))))

-- a bit of a slice goes into the field that it is of
abbrev pub collected : Registers → Command → ℕ → ℕ → ℕ → Stepped
collected r c count taken bit =
    last_or_more (took r (taken / field_width (part_of r.part) c) bit (field_limit (part_of r.part) c)) c count taken (slice_length r c)

-- high load
abbrev pub step_high : Registers → Phase → ℕ → Stepped
step_high r (Hunting window) s = moved r (rising window (s % 2))
step_high r (Opening read) s = moved r (opening read (s % 2))
step_high r (Counting c read) s = moved r (counting c read (s % 2))
step_high r (Slice c count taken) s = collected r c count taken (s % 2)
step_high r Passing s = sending r Passing (One s)
step_high r Lost s = moved r Lost

-- what one line state does, the data bit plus twice the load bit; the position stays
abbrev pub step : Device → ℕ → Stepped
step d s =
    cond (ltb s 2) (moved d.registers (heard (phase_of d.place) s)) (step_high d.registers (phase_of d.place) s)

-- the same device at its position in the frame that its registers say now, those before being r
abbrev pub refit_device : Registers → Device → Device
refit_device r d = record { registers = refitted r d.registers; place = d.place }

-- the single step: a line state, and the position modulo the length of a frame that it shortens
abbrev pub single_step : Device → ℕ → Stepped
single_step d s = record { device = refit_device d.registers (step d s).device; sent = (step d s).sent }

-- ---- a clock

-- a device one clock later
abbrev pub ticked_device : Device → Device
ticked_device d = record { registers = ticked d.registers; place = d.place }

-- ---- what no line state changes

-- a device with a fault flag set
abbrev pub faulted : Device → ℕ → ℕ → Device
faulted d kind flag = record { registers = flagged d.registers kind flag; place = d.place }

-- hunting, with no bit seen; told its part, and its watchdog's bit and limit
abbrev pub fresh_device : ℕ → ℕ → ℕ → Device
fresh_device part bit limit = at (zeros part (fresh_watch bit limit)) (Hunting 0)
