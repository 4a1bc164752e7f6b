-- The judgement of a record: what the table of docs/RULES.md says of one under numbers 1 and 13, and the judged step.
use Rattle.std.specs.Prelude.{ℕ, Bool, true, ◌&&◌, not, List, [], ◌∷◌, ltb, leb, Result, Ok, Err}
use Rattle.parts.specs.Parts.{known}
use Rattle.tables.specs.Refusals.{Row, ◌when◌, first, answer, number_of}
use Rattle.tables.specs.declared.refusal.Refusal.{Refusal}
use Rattle.phases.specs.Phases.{place_of, phase_of, same_place}
use Rattle.watch.specs.Watch.{watch_fits}
use Rattle.positions.specs.Positions.{position_fits}
use Rattle.widths.specs.Widths.{flags_fit, values_fit}
use Rattle.device.specs.Step.{single_step, slice_length}
use Rattle.phases.specs.declared.phase.Place.{Place}
use Rattle.phases.specs.declared.phase.Phase.{Phase}
use Rattle.phases.specs.declared.phase.Phase.TheVariants.{Hunting, Opening, Counting, Slice, Passing, Lost}
use Rattle.phases.specs.declared.phase.Sent.{Sent}
use Rattle.phases.specs.declared.phase.Sent.TheVariants.{Nothing}
use Rattle.registers.specs.declared.registers.Registers.{Registers}
use Rattle.device.specs.declared.device.Device.{Device}
use Rattle.device.specs.declared.device.Stepped.{Stepped}

-- a phase's numbers are ones that a device can come to
abbrev pub phase_fits : Phase → Registers → Bool
phase_fits (Hunting window) r = true
phase_fits (Opening read) r = leb 1 read && ltb read 64
phase_fits (Counting c read) r = leb 1 read && ltb read 1024
phase_fits (Slice c count taken) r = ltb count 1024 && ltb taken (slice_length r c)
phase_fits Passing r = true
phase_fits Lost r = true

-- the numbers are those of a phase, and of one that a device can come to
abbrev pub place_fits : Place → Registers → Bool
place_fits q r = same_place (place_of (phase_of q)) q && phase_fits (phase_of q) r

-- place, flags and values are ones that a device can come to
abbrev pub contents_fit : Device → Bool
contents_fit d = place_fits d.place d.registers && (flags_fit d.registers && values_fit d.registers)

-- number 13 does not apply to the record: its contents fit, its position is below the frame's length, and its watchdog's numbers are in range
abbrev pub fits : Device → Bool
fits d = contents_fit d && (position_fits d.registers && watch_fits d.registers.watch)

-- a record's own rows
abbrev pub judgement : Device → List Row
judgement d = (1 when not (known d.registers.part)) ∷ (13 when not (fits d)) ∷ []

-- a step's rows
abbrev pub step_refusals : Device → ℕ → List Row
step_refusals d s = (1 when not (known d.registers.part)) ∷ (13 when not (fits d && ltb s 4)) ∷ []

-- what a judged step leaves: the refusal's number, 0 where the step was taken, the device, and what was sent
pub record Answer : Type 0 where
  pub refusal : ℕ
  pub device : Device
  pub sent : Sent

-- a step that is taken
abbrev pub accepted_step : Stepped → Answer
accepted_step s = record { refusal = 0; device = s.device; sent = s.sent }

-- a refused device comes back as it came in, and nothing is sent
abbrev pub refused_with : Device → ℕ → Answer
refused_with d n = record { refusal = n; device = d; sent = Nothing }

-- what the answer of a step leaves of the device
abbrev pub answered : Device → Result Stepped Refusal → Answer
answered d (Ok s) = accepted_step s
answered d (Err r) = refused_with d (number_of r)

-- what a judged step answers
abbrev pub step_answer : Device → ℕ → Answer
step_answer d s = answer (first (step_refusals d s)) (refused_with d) (accepted_step (single_step d s))
