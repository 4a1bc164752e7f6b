-- An answer of "lit now" is the schedule's: what a claim says of an accepted call.
use Rattle.std.specs.Prelude.{ℕ, ◌≡◌, Bool, Result, Ok}
use Rattle.bits.specs.Bits.{digit}
use Rattle.parts.specs.Parts.{part_of}
use Rattle.schedule.specs.Answers.{lit_answer}
use Rattle.schedule.specs.Moments.{InSchedule}
use Rattle.schedule.specs.declared.moments.Moment.{Moment}
use Rattle.registers.specs.declared.registers.Registers.{Registers}
use Rattle.device_light.specs.OfDevice.{active_value}
use Rattle.lit_now.specs.LitNow.{moment_of}
use Rattle.lit_now.specs.declared.now.LitNow.{LitNow}

-- what the schedule answers for an output with a device's configuration, active global byte and active value, at a moment
abbrev pub scheduled : Registers → ℕ → Moment → Result Bool ℕ
scheduled r output m =
    lit_answer r.part r.configuration r.active (active_value r output m.phase) output m.subframe m.clock m.phase

-- an answer is what the schedule says at the moment at which the device stands: that moment is one of the schedule, and the question is answered
pub record BySchedule (r : Registers) (output : ℕ) (a : LitNow) : Type 0 where
  pub within : InSchedule (part_of r.part) r.configuration (moment_of r)
  pub holds : Bool
  pub asked : scheduled r output (moment_of r) ≡ Ok holds
  pub told : a ≡ record { lit = digit holds; phase = (moment_of r).phase; refusal = 0 }
