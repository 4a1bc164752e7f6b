-- What the frame writer answers, and what it leaves in the lent output, for any input.
use Rattle.std.specs.Prelude.{ℕ, ◌+◌, ◌*◌, Bool, false, not, ◌||◌, List, [], ◌∷◌, ◌++◌, eqb, ltb, length, replicate, Result, Ok, Err}
use Rattle.bits.specs.Bits.{fields, bytes_of, over}
use Rattle.tables.specs.Lists.{all_below}
use Rattle.tables.specs.Refusals.{Row, ◌when◌, first, answer, content}
use Rattle.parts.specs.Parts.{part_of, limit, subframes, code, field_width}
use Rattle.parts.specs.declared.command.Command.{Command}
use Rattle.parts.specs.declared.command.Command.TheVariants.{Individual, Calibration, Global, Configuration}
use Rattle.frames.specs.Frames.{field_count, frame_of, frame_length, tail_high, told_rows}
use Rattle.frames.specs.declared.told.Told.{Told}
use Rattle.frames.specs.declared.told.Tail.{Tail}

-- the fields that a command is given: its list, or one byte again and again
abbrev pub settings_of : Told → Command → ℕ → List ℕ → List ℕ → List ℕ
settings_of t Individual byte bytes values = values
settings_of t Calibration byte bytes values = bytes
settings_of t Global byte bytes values = replicate (field_count t) byte
settings_of t Configuration byte bytes values = replicate (field_count t) byte

-- those of the told command
abbrev pub settings : Told → ℕ → List ℕ → List ℕ → List ℕ
settings t byte bytes values = settings_of t t.command byte bytes values

-- the bytes of its slices
unfoldable pub slices_of : Told → Command → ℕ → List ℕ → List ℕ → List ℕ
slices_of t c byte bytes values = bytes_of (fields (field_width (part_of t.part) c) (settings_of t c byte bytes values))

-- the header that a host sends, as a number
abbrev pub header_number : Command → ℕ
header_number c = 0xE80000 + 21 * code c * 1024

-- 4: the settings list has another length than its rule says
abbrev pub list_wrong : Command → ℕ → ℕ → ℕ → Bool
list_wrong Individual n bytes values = not (eqb values n)
list_wrong Calibration n bytes values = not (eqb bytes n)
list_wrong Global n bytes values = false
list_wrong Configuration n bytes values = false

-- 6: an individual value, or the global byte, is out of range
abbrev pub value_high : Told → Command → ℕ → List ℕ → Bool
value_high t Individual byte values = not (all_below values (limit (part_of t.part)))
value_high t Calibration byte values = false
value_high t Global byte values = not (ltb byte (subframes (part_of t.part) t.configuration))
value_high t Configuration byte values = false

-- 4 to 6
abbrev pub write_rows : Told → Tail → ℕ → List ℕ → List ℕ → ℕ → List Row
write_rows t tail byte bytes values room =
    (4 when list_wrong t.command (field_count t) (length bytes) (length values))
    ∷ (5 when ltb room (frame_length t tail))
    ∷ (6 when (value_high t t.command byte values || tail_high tail))
    ∷ []

-- the refusals of a writer whose output has `room` bytes
abbrev pub write_table : Told → Tail → ℕ → List ℕ → List ℕ → ℕ → List Row
write_table t tail byte bytes values room = told_rows t.part t.devices tail ++ write_rows t tail byte bytes values room

-- the number under which settings are refused, or 0
unfoldable pub write_refusal : Told → Tail → ℕ → List ℕ → List ℕ → ℕ → ℕ
write_refusal t tail byte bytes values room = first (write_table t tail byte bytes values room)

-- what the writer answers
unfoldable pub written : Told → Tail → ℕ → List ℕ → List ℕ → ℕ → Result ℕ ℕ
written t tail byte bytes values room =
    answer (write_refusal t tail byte bytes values room) Err (Ok (length (frame_of t tail (settings t byte bytes values))))

-- what it leaves in the output
unfoldable pub written_out : Told → Tail → ℕ → List ℕ → List ℕ → List ℕ → List ℕ
written_out t tail byte bytes values out =
    content (write_refusal t tail byte bytes values (length out)) out (over (frame_of t tail (settings t byte bytes values)) out)
