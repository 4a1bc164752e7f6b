-- Inside: the answer as the code comes to it, by the question about a device record, which is judged anew. That an accepted call's question is
-- answered is in proofs/Answered.
use Rattle.std.specs.Prelude.{ℕ, Bool, Result, Ok, Err}
use Rattle.bits.specs.Bits.{digit}
use Rattle.schedule.specs.declared.moments.Moment.{Moment}
use Rattle.device.specs.declared.device.Device.{Device}
use Rattle.device_light.specs.OfDevice.{device_answer}
use Rattle.lit_now.specs.LitNow.{moment_of, refused}
use Rattle.lit_now.specs.declared.now.LitNow.{LitNow}

-- a question's answer, and the phase in which it was asked
abbrev pub answered : Result Bool ℕ → ℕ → LitNow
answered (Ok lit) phase = record { lit = digit lit; phase = phase; refusal = 0 }
answered (Err number) phase = refused number

-- the question about the moment at which a device stands
abbrev pub asked_now : Device → ℕ → LitNow
asked_now d output =
    let m : Moment = moment_of d.registers in
    answered (device_answer d output m.subframe m.clock m.phase) m.phase
