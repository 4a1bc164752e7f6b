-- Is an output of a device record lit, and at which clocks, by its active global byte and active values: the answer for any record
-- and position.
use Rattle.std.specs.Prelude.{ℕ, Bool, not, ◌||◌, cond, List, [], ◌∷◌, eqb, get_or, Result, Ok, Err}
use Rattle.tables.specs.Refusals.{Row, ◌when◌, first, answer}
use Rattle.parts.specs.Parts.{known, part_of}
use Rattle.device.specs.declared.device.Device.{Device}
use Rattle.registers.specs.declared.registers.Registers.{Registers}
use Rattle.device.specs.Judgement.{fits}
use Rattle.schedule.specs.Light.{is_lit}
use Rattle.schedule.specs.Answers.{position_over, lit_run}
use Rattle.schedule.specs.declared.output.Clocks.{Clocks}
use Rattle.schedule.specs.declared.output.Output.{Output}

-- the active value of an output in a phase
abbrev pub active_value : Registers → ℕ → ℕ → ℕ
active_value r output phase = cond (eqb phase 0) (get_or r.active0 output 0) (get_or r.active1 output 0)

-- an output in a phase, with what drives it
abbrev pub shown_output : Registers → ℕ → ℕ → Output
shown_output r output phase =
    record { intensity = record { part = r.part; configuration = r.configuration; global = r.active }; value = active_value r output phase; number = output }

-- an output of a device with these registers is lit
abbrev pub is_shown : Registers → ℕ → ℕ → ℕ → ℕ → Bool
is_shown r output subframe clock phase =
    is_lit (part_of r.part) r.configuration r.active (active_value r output phase) output subframe clock

-- the clocks at which it is lit in a subframe
abbrev pub shown_run : Registers → ℕ → ℕ → ℕ → Clocks
shown_run r output subframe phase =
    lit_run (part_of r.part) r.configuration r.active (active_value r output phase) output subframe

-- when a question about a device is refused: its part, its record or a position
abbrev pub device_rows : Device → ℕ → ℕ → ℕ → ℕ → List Row
device_rows d output subframe clock phase =
    (1 when not (known d.registers.part))
    ∷ (13 when not (fits d) || position_over (part_of d.registers.part) d.registers.configuration output subframe clock phase)
    ∷ []

-- is an output of a device lit
unfoldable pub device_answer : Device → ℕ → ℕ → ℕ → ℕ → Result Bool ℕ
device_answer d output subframe clock phase =
    answer (first (device_rows d output subframe clock phase)) Err (Ok (is_shown d.registers output subframe clock phase))

-- at which clocks of a subframe is an output of a device lit: refused as the question about clock 0
unfoldable pub device_clocks_answer : Device → ℕ → ℕ → ℕ → Result Clocks ℕ
device_clocks_answer d output subframe phase =
    answer (first (device_rows d output subframe 0 phase)) Err (Ok (shown_run d.registers output subframe phase))
