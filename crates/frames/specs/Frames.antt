-- A frame by what is told of it: one list of bits for all four commands, header, slices, tail. Every command's slices are fields of
-- one width with no gap: values, or bytes. Then the tests and the rows of refusals that more than one operation has.
-- What each operation answers is in frame_reader/specs/Reading, return_reader/specs/Returns and frame_writer/specs/Writing. docs/RULES.md, "The set and the wire" and "Refusal numbers".
use Rattle.std.specs.Prelude.{ℕ, ◌+◌, ◌*◌, ◌^◌, Bool, not, ◌&&◌, cond, List, [], ◌∷◌, eqb, ltb, leb, length, take, drop}
use Rattle.bits.specs.Bits.{bits, number, fields, bytes_of, bytes_for}
use Rattle.tables.specs.Refusals.{Row, ◌when◌}
use Rattle.parts.specs.Parts.{known, is_count, most_devices, part_of, multiplex, code, field_width, slice_fields}
use Rattle.parts.specs.Wire.{frame}
use Rattle.parts.specs.declared.command.Command.{Command}
use Rattle.frames.specs.declared.told.Told.{Told}
use Rattle.frames.specs.declared.told.Tail.{Tail}

-- ---- what is told

-- of a frame
abbrev pub told_of : ℕ → ℕ → Command → ℕ → Told
told_of part devices c configuration =
    record { part = part; devices = devices; command = c; configuration = configuration }

-- a tail of a number and a length
abbrev pub tail_of : ℕ → ℕ → Tail
tail_of number long = record { number = number; length = long }

-- no tail
abbrev pub no_tail : Tail
no_tail = tail_of 0 0

-- ---- the frame

-- the fields of all slices, device 1 first
abbrev pub field_count : Told → ℕ
field_count t = t.devices * slice_fields (part_of t.part) t.command (multiplex t.configuration)

-- bits of one field
abbrev pub field_bits : Told → ℕ
field_bits t = field_width (part_of t.part) t.command

-- bits of all slices
abbrev pub slices_bits : Told → ℕ
slices_bits t = field_count t * field_bits t

-- the tail as bits
abbrev pub tail_bits : Tail → List Bool
tail_bits tail = bits tail.length tail.number

-- the frame whose slices have the fields vs: the host sends count 0
unfoldable pub frame_bits : Told → Tail → List ℕ → List Bool
frame_bits t tail vs = frame t.command 0 (fields (field_bits t) vs) (tail_bits tail)

-- the same as bytes
unfoldable pub frame_of : Told → Tail → List ℕ → List ℕ
frame_of t tail vs = bytes_of (frame_bits t tail vs)

-- the bytes that a frame has
abbrev pub frame_length : Told → Tail → ℕ
frame_length t tail = bytes_for (24 + slices_bits t + tail.length)

-- ---- its sizes, for any N and any tail

-- the fields of all slices: 0 where N is over its limit
unfoldable pub told_fields : Told → ℕ
told_fields t = cond (leb t.devices most_devices) (field_count t) 0

-- bits of all slices: 0 where N is over its limit
unfoldable pub told_bits : Told → ℕ
told_bits t = cond (leb t.devices most_devices) (slices_bits t) 0

-- the bytes that a frame has: 0 where N is over its limit, or the tail has over 64 bits
unfoldable pub told_length : Told → Tail → ℕ
told_length t tail = cond (leb t.devices most_devices && leb tail.length 64) (frame_length t tail) 0

-- ---- tests

-- tail bits stand above its length
abbrev pub tail_high : Tail → Bool
tail_high tail = not (ltb tail.number (2 ^ tail.length))

-- n bits from the bit `at` on, as a number
abbrev pub field : ℕ → ℕ → List Bool → ℕ
field at n bs = number (take n (drop at bs))

-- the same of a frame's bytes: 0 where n is over 64, or the frame has not so many bits
unfoldable pub field_at : ℕ → ℕ → List ℕ → ℕ
field_at at n frame = cond (leb n 64 && leb (at + n) (8 * length frame)) (field at n (fields 8 frame)) 0

-- ---- rows that more than one operation has

-- 1 to 3: the part, N, the tail's length
abbrev pub told_rows : ℕ → ℕ → Tail → List Row
told_rows part devices tail =
    (1 when not (known part))
    ∷ (2 when not (is_count devices))
    ∷ (3 when ltb 64 tail.length)
    ∷ []

-- 7 and 8: SYNC, and the six command bits
abbrev pub head_rows : Command → List Bool → List Row
head_rows c bs = (7 when not (eqb (field 0 8 bs) 0xE8)) ∷ (8 when not (eqb (field 8 6 bs) (21 * code c))) ∷ []

-- 11 and 12: the tail from the bit `at` on, and zeros behind it
abbrev pub end_rows : ℕ → Tail → List Bool → List Row
end_rows at tail bs =
    (11 when not (eqb (number (drop (at + tail.length) bs)) 0))
    ∷ (12 when not (eqb (field at tail.length bs) tail.number))
    ∷ []

-- ---- the same of any bytes and any tail

-- 4, 7 and 8: the frame is shorter than a header, and the rows of the header
unfoldable pub head_table : Command → List ℕ → List Row
head_table c frame = (4 when ltb (length frame) 3) ∷ head_rows c (fields 8 frame)

-- 3, 4, 11 and 12: the tail has over 64 bits, the frame does not end with it, and the rows of the end
unfoldable pub end_table : ℕ → Tail → List ℕ → List Row
end_table at tail frame =
    (3 when ltb 64 tail.length)
    ∷ (4 when not (eqb (length frame) (bytes_for (at + tail.length))))
    ∷ end_rows at tail (fields 8 frame)
