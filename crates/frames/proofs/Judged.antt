-- What is judged of any bytes, where their length is that of the frame: the field that was asked for, and the rows without those that
-- refuse another length. Assumes nothing.
use mathlib.Core.Path.{◌≡◌}
use mathlib.Core.List.{List}
use Prim.Native.Nat.{ℕ, ◌+◌, ◌*◌, ◌^◌, ◌<◌, ◌≤◌}
use lib.ListN.{length, drop}
use lib.Pow.{pow_pos}
use lib.Dec.{leb}
use mathlib.Core.Bool.{Bool, true, false, ◌&&◌, cond}
use Rattle.bits.proofs.Laws.{number-take-lt}
use borrow.Author.Tests.{le-leb, le-ltb, eq-eqb}
use Rattle.bits.specs.Bits.{fields, bytes_for}
use Rattle.tables.specs.Refusals.{first}
use Rattle.parts.specs.declared.command.Command.{Command}
use Rattle.frames.specs.Frames.{field, field_at, head_rows, end_rows, head_table, end_table}
use Rattle.frames.specs.declared.told.Tail.{Tail}

pub field_within : (at n : ℕ) (frame : List ℕ) → n ≤ 64 → at + n ≤ 8 * length frame → field_at at n frame ≡ field at n (fields 8 frame)
unfolding field_at
field_within at n frame narrow room = rw (le-leb n 64 narrow, le-leb (at + n) (8 * length frame) room)

pub head_rows_lem : (c : Command) (frame : List ℕ) → 3 ≤ length frame → first (head_table c frame) ≡ first (head_rows c (fields 8 frame))
unfolding head_table
head_rows_lem c frame long = rw (le-ltb (length frame) 3 long)

pub end_rows_lem : (at : ℕ) (tail : Tail) (frame : List ℕ) → tail.length ≤ 64 → length frame ≡ bytes_for (at + tail.length)
    → first (end_table at tail frame) ≡ first (end_rows at tail (fields 8 frame))
unfolding end_table
end_rows_lem at tail frame short long = rw (le-ltb 64 tail.length short, eq-eqb (length frame) (bytes_for (at + tail.length)) long)

-- a field has no more bits than were asked for, also where the frame has not so many
pub field_at_small : (at n : ℕ) (frame : List ℕ) → field_at at n frame < 2 ^ n
unfolding field_at
field_at_small at n frame = by (leb n 64 && leb (at + n) (8 * length frame)) where
  by : (held : Bool) → cond held (field at n (fields 8 frame)) 0 < 2 ^ n
  by true = number-take-lt n (drop at (fields 8 frame))
  by false = pow_pos n
