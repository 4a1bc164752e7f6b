-- The whole report: what the bench program writes for what its arguments ask and for its standard input, which is four frames without
-- tails back to back in restore order. Each frame is what stands at the front of the input, at the length that it should have, and is
-- read by the frame reader. docs/RULES.md, "The bench program".
use Rattle.std.specs.Prelude.{ℕ, ◌+◌, Bool, true, false, cond, List, [], ◌∷◌, ◌++◌, Option, Some, None, Result, Ok, Err, eqb, length, take, drop}
use Rattle.bits.specs.Bits.{bytes_for}
use Rattle.parts.specs.Parts.{multiplex, restore_order}
use Rattle.parts.specs.declared.command.Command.{Command}
use Rattle.parts.specs.declared.command.Command.TheVariants.{Configuration}
use Rattle.frames.specs.Frames.{told_of, no_tail, slices_bits}
use Rattle.frame_reader.specs.Reading.{read}
use Rattle.frames.specs.declared.told.Told.{Told}
use Rattle.frame_reader.specs.declared.answer.Read.{Read}
use Rattle.frame_reader.specs.declared.answer.Read.TheVariants as R
use Rattle.arguments.specs.declared.judging.Chain.{Chain}
use Rattle.report.specs.Lines.{refused_line, trailing_line, part_line, frame_line}

-- the bits that a frame should have: header and slices
abbrev pub frame_size : Told → ℕ
frame_size t = 24 + slices_bits t

-- the frame at the front of the input
abbrev pub front_of : Told → List ℕ → List ℕ
front_of t input = take (bytes_for (frame_size t)) input

-- the input behind it
abbrev pub behind : Told → List ℕ → List ℕ
behind t input = drop (bytes_for (frame_size t)) input

-- what the reader answers for it, with room for the bytes and the values of 512 devices of any part
unfoldable pub answer_of : Told → List ℕ → Result Read ℕ
answer_of t input = read t no_tail (front_of t input) 1536 24576

-- the reader refused the frame
abbrev pub is_refused : Result Read ℕ → Bool
is_refused (Err number) = true
is_refused (Ok read) = false

-- the byte of a global or a configuration frame
abbrev pub byte_in : Result Read ℕ → Option ℕ
byte_in (Ok (R.Byte b)) = Some b
byte_in (Ok (R.Bytes n)) = None
byte_in (Ok (R.Values n)) = None
byte_in (Err number) = None

-- its line
abbrev pub line_of : Told → Result Read ℕ → List ℕ
line_of t answer = frame_line t.command (frame_size t) answer

-- the frames behind the configuration frame, in restore order
abbrev pub later_commands : List Command
later_commands = drop 1 restore_order

-- their lines: a refused frame's line is last; input behind the last frame is refused too
unfoldable pub lines_of : ℕ → ℕ → ℕ → List Command → List ℕ → List ℕ
lines_of part devices configuration [] input = cond (eqb (length input) 0) [] trailing_line
lines_of part devices configuration (c ∷ cs) input =
    line_of (told_of part devices c configuration) (answer_of (told_of part devices c configuration) input)
    ++ cond (is_refused (answer_of (told_of part devices c configuration) input))
    []
    (lines_of part devices configuration cs (behind (told_of part devices c configuration) input))

-- what the configuration frame is read with: its told configuration is ignored
abbrev pub configuration_of : ℕ → ℕ → Told
configuration_of part devices = told_of part devices Configuration 0

-- the lines of all four frames, by what the reader answers for the configuration frame: its byte says what the others should be
unfoldable pub all_lines : ℕ → ℕ → List ℕ → Result Read ℕ → List ℕ
all_lines part devices input (Ok (R.Byte b)) =
    part_line part devices (multiplex b)
    ++ (line_of (configuration_of part devices) (Ok (R.Byte b))
    ++ lines_of part devices b later_commands (behind (configuration_of part devices) input))
all_lines part devices input (Ok (R.Bytes n)) = line_of (configuration_of part devices) (Ok (R.Bytes n))
all_lines part devices input (Ok (R.Values n)) = line_of (configuration_of part devices) (Ok (R.Values n))
all_lines part devices input (Err number) = line_of (configuration_of part devices) (Err number)

-- the report
unfoldable pub report_of : Result Chain ℕ → List ℕ → List ℕ
report_of (Err number) input = refused_line number
report_of (Ok chain) input = all_lines chain.part chain.devices input (answer_of (configuration_of chain.part chain.devices) input)
