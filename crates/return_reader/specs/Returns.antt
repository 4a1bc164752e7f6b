-- What the return reader answers, for any input. A return, packed as a frame is, has 24 bits and the tail.
use Rattle.std.specs.Prelude.{ℕ, ◌+◌, Bool, not, List, ◌∷◌, ◌++◌, eqb, ltb, length, Result, Ok, Err}
use Rattle.bits.specs.Bits.{fields, bytes_for}
use Rattle.tables.specs.Refusals.{Row, ◌when◌, first, answer}
use Rattle.parts.specs.declared.command.Command.{Command}
use Rattle.frames.specs.Frames.{field, tail_high, told_rows, head_rows, end_rows}
use Rattle.frames.specs.declared.told.Tail.{Tail}

-- the count that a return carries
abbrev pub count_of : List Bool → ℕ
count_of bs = field 14 10 bs

-- 9, 11 and 12
abbrev pub count_rows : ℕ → Tail → List Bool → List Row
count_rows devices tail bs = (9 when ltb devices (count_of bs)) ∷ end_rows 24 tail bs

-- 4 to 12
abbrev pub return_rows : ℕ → Command → Tail → List ℕ → List Row
return_rows devices c tail frame =
    (4 when not (eqb (length frame) (bytes_for (24 + tail.length))))
    ∷ (6 when tail_high tail)
    ∷ (head_rows c (fields 8 frame) ++ count_rows devices tail (fields 8 frame))

-- the refusals of a return reader
abbrev pub return_table : ℕ → ℕ → Command → Tail → List ℕ → List Row
return_table part devices c tail frame = told_rows part devices tail ++ return_rows devices c tail frame

-- the number under which a return is refused, or 0
unfoldable pub return_refusal : ℕ → ℕ → Command → Tail → List ℕ → ℕ
return_refusal part devices c tail frame = first (return_table part devices c tail frame)

-- what the return reader answers
unfoldable pub return_read : ℕ → ℕ → Command → Tail → List ℕ → Result ℕ ℕ
return_read part devices c tail frame =
    answer (return_refusal part devices c tail frame) Err (Ok (count_of (fields 8 frame)))
