-- What the frame reader answers, and what it leaves in the two lent lists, for any input. A row's test is a total function: fields past
-- the end of a frame that is too short read as 0.
use Rattle.std.specs.Prelude.{ℕ, ◌+◌, Bool, false, not, ◌||◌, List, [], ◌∷◌, ◌++◌, eqb, ltb, length, get_or, drop, Result, Ok, Err}
use Rattle.bits.specs.Bits.{fields, split, over}
use Rattle.tables.specs.Lists.{all_below, all_same}
use Rattle.tables.specs.Refusals.{Row, ◌when◌, first, answer, content}
use Rattle.parts.specs.Parts.{part_of, subframes}
use Rattle.parts.specs.declared.command.Command.{Command}
use Rattle.parts.specs.declared.command.Command.TheVariants.{Individual, Calibration, Global, Configuration}
use Rattle.frames.specs.Frames.{field_count, field_bits, slices_bits, frame_length, field, tail_high, told_rows, head_rows, end_rows}
use Rattle.frames.specs.declared.told.Told.{Told}
use Rattle.frames.specs.declared.told.Tail.{Tail}
use Rattle.frame_reader.specs.declared.answer.Read.{Read}
use Rattle.frame_reader.specs.declared.answer.Read.TheVariants as R

-- the fields that a frame holds
unfoldable pub held_fields : Told → List ℕ → List ℕ
held_fields t frame = split (field_bits t) (field_count t) (drop 24 (fields 8 frame))

-- 5: the lent list of the command is too short
abbrev pub room_short : Command → ℕ → ℕ → ℕ → Bool
room_short Individual n bytes values = ltb values n
room_short Calibration n bytes values = ltb bytes n
room_short Global n bytes values = false
room_short Configuration n bytes values = false

-- 6: a copy of a global byte is out of range
abbrev pub copy_high : Told → Command → List ℕ → Bool
copy_high t Individual vs = false
copy_high t Calibration vs = false
copy_high t Global vs = not (all_below vs (subframes (part_of t.part) t.configuration))
copy_high t Configuration vs = false

-- 10: copies within a slice, or bytes of two devices, differ
abbrev pub copies_differ : Command → List ℕ → Bool
copies_differ Individual vs = false
copies_differ Calibration vs = false
copies_differ Global vs = not (all_same vs (get_or vs 0 0))
copies_differ Configuration vs = not (all_same vs (get_or vs 0 0))

-- 4 and 5
abbrev pub length_rows : Told → Tail → ℕ → ℕ → ℕ → List Row
length_rows t tail long bytes values =
    (4 when not (eqb long (frame_length t tail))) ∷ (5 when room_short t.command (field_count t) bytes values) ∷ []

-- 6
abbrev pub range_rows : Told → Tail → List ℕ → List Row
range_rows t tail frame = (6 when (copy_high t t.command (held_fields t frame) || tail_high tail)) ∷ []

-- 9 and 10
abbrev pub slice_rows : Told → List ℕ → List Row
slice_rows t frame =
    (9 when not (eqb (field 14 10 (fields 8 frame)) 0)) ∷ (10 when copies_differ t.command (held_fields t frame)) ∷ []

-- 6 to 8
abbrev pub opening_rows : Told → Tail → List ℕ → List Row
opening_rows t tail frame = range_rows t tail frame ++ head_rows t.command (fields 8 frame)

-- 6 to 12
abbrev pub body_rows : Told → Tail → List ℕ → List Row
body_rows t tail frame = opening_rows t tail frame ++ (slice_rows t frame ++ end_rows (24 + slices_bits t) tail (fields 8 frame))

-- the refusals of a reader that is lent lists of so many bytes and values
abbrev pub read_table : Told → Tail → List ℕ → ℕ → ℕ → List Row
read_table t tail frame bytes values =
    told_rows t.part t.devices tail ++ (length_rows t tail (length frame) bytes values ++ body_rows t tail frame)

-- the number under which a frame is refused, or 0
unfoldable pub read_refusal : Told → Tail → List ℕ → ℕ → ℕ → ℕ
read_refusal t tail frame bytes values = first (read_table t tail frame bytes values)

-- what is answered for the fields vs: the byte, or how many went to the lent list
abbrev pub found : Told → Command → List ℕ → Read
found t Individual vs = R.Values (field_count t)
found t Calibration vs = R.Bytes (field_count t)
found t Global vs = R.Byte (get_or vs 0 0)
found t Configuration vs = R.Byte (get_or vs 0 0)

-- the lent bytes and the lent values with the fields vs
abbrev pub bytes_found : Command → List ℕ → List ℕ → List ℕ
bytes_found Individual vs bytes = bytes
bytes_found Calibration vs bytes = over vs bytes
bytes_found Global vs bytes = bytes
bytes_found Configuration vs bytes = bytes

-- the lent values with the fields vs
abbrev pub values_found : Command → List ℕ → List ℕ → List ℕ
values_found Individual vs values = over vs values
values_found Calibration vs values = values
values_found Global vs values = values
values_found Configuration vs values = values

-- what the reader answers
unfoldable pub read : Told → Tail → List ℕ → ℕ → ℕ → Result Read ℕ
read t tail frame bytes values =
    answer (read_refusal t tail frame bytes values) Err (Ok (found t t.command (held_fields t frame)))

-- what it leaves in the lent bytes
unfoldable pub read_bytes : Told → Tail → List ℕ → List ℕ → ℕ → List ℕ
read_bytes t tail frame bytes values =
    content (read_refusal t tail frame (length bytes) values) bytes (bytes_found t.command (held_fields t frame) bytes)

-- and in the lent values
unfoldable pub read_values : Told → Tail → List ℕ → ℕ → List ℕ → List ℕ
read_values t tail frame bytes values =
    content (read_refusal t tail frame bytes (length values)) values (values_found t.command (held_fields t frame) values)
