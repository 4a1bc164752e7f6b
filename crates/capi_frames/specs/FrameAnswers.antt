-- What is told of a frame by numbers, and what the operations on frames answer in numbers.
use Rattle.std.specs.Prelude.{ℕ, Result, Ok, Err}
use Rattle.parts.specs.Parts.{command_at}
use Rattle.frames.specs.Frames.{told_of}
use Rattle.frames.specs.declared.told.Told.{Told}
use Rattle.frame_reader.specs.declared.answer.Read.{Read}
use Rattle.frame_reader.specs.declared.answer.Read.TheVariants as R
use Rattle.answers.specs.Answers.{accepted, refused}
use Rattle.answers.specs.declared.answer.Answer.{Answer}

-- what is told of a frame: a command by its bits C1 C0
abbrev pub told_by : ℕ → ℕ → ℕ → ℕ → Told
told_by part devices command configuration = told_of part devices (command_at command) configuration

-- how many bytes or values stand in the lent list
abbrev pub listed : Read → ℕ
listed (R.Byte byte) = 0
listed (R.Bytes n) = n
listed (R.Values n) = n

-- what an accepted frame gives: its byte, or how many bytes or values stand in the lent list
abbrev pub value_given : Read → ℕ
value_given (R.Byte byte) = byte
value_given (R.Bytes n) = n
value_given (R.Values n) = n

-- a frame read
abbrev pub of_read : Result Read ℕ → Answer
of_read (Ok read) = accepted (value_given read)
of_read (Err number) = refused number
