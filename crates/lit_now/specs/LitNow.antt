-- Is an output of one device of a lent chain lit now, and in which phase: the answer for any records. It is the light of the schedule
-- (device_light/specs/OfDevice) at the moment at which the device's position stands (schedule/specs/Moments).
use Rattle.std.specs.Prelude.{ℕ, ◌-◌, Bool, not, ◌&&◌, List, [], ◌∷◌, ◌++◌, leb, ltb, length, get_or}
use Rattle.tables.specs.Refusals.{Row, ◌when◌, first, answer}
use Rattle.bits.specs.Bits.{digit}
use Rattle.parts.specs.Parts.{part_of, outputs}
use Rattle.schedule.specs.Moments.{moment_at}
use Rattle.schedule.specs.declared.moments.Moment.{Moment}
use Rattle.registers.specs.declared.registers.Registers.{Registers}
use Rattle.device.specs.declared.device.Device.{Device}
use Rattle.device_light.specs.OfDevice.{is_shown}
use Rattle.calls.specs.Chain.{all_fit, blank}
use Rattle.calls.specs.Calls.{chain_rows}
use Rattle.lit_now.specs.declared.now.LitNow.{LitNow}

-- the moment at which a device stands
abbrev pub moment_of : Registers → Moment
moment_of r = moment_at (part_of r.part) r.configuration r.position

-- an output is lit at that moment
abbrev pub is_lit_now : Registers → ℕ → Bool
is_lit_now r output = let m : Moment = moment_of r in is_shown r output m.subframe m.clock m.phase

-- an answer: the refusal's number alone
abbrev pub refused : ℕ → LitNow
refused number = record { lit = 0; phase = 0; refusal = number }

-- or lit and phase
abbrev pub shown_now : Registers → ℕ → LitNow
shown_now r output = record { lit = digit (is_lit_now r output); phase = (moment_of r).phase; refusal = 0 }

-- the part of a lent chain, which is its first record's
abbrev pub chain_part : List Device → ℕ
chain_part ds = (get_or ds 0 blank).registers.part

-- device 1 is the first of a lent chain
abbrev pub device_at : List Device → ℕ → Device
device_at ds device = get_or ds (device - 1) blank

-- when it is refused: the records, the device, the output
abbrev pub lit_now_table : List Device → ℕ → ℕ → List Row
lit_now_table ds device output =
    chain_rows ds
    ++ (13 when not (leb 1 device && (leb device (length ds) && (ltb output (outputs (part_of (chain_part ds))) && all_fit ds)))) ∷ []

-- the number, or 0
unfoldable pub lit_now_refusal : List Device → ℕ → ℕ → ℕ
lit_now_refusal ds device output = first (lit_now_table ds device output)

-- what is answered
unfoldable pub lit_now : List Device → ℕ → ℕ → LitNow
lit_now ds device output = answer (lit_now_refusal ds device output) refused (shown_now (device_at ds device).registers output)
