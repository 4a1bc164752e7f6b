-- What the operations of this crate answer, for any input, and what they leave in the lent bytes.
-- A width over the widest value, or too few bytes from the place on, is refused: nothing is then changed.
use Rattle.std.specs.Prelude.{ℕ, ◌*◌, cond, List, length, Option, Some, None}
use Rattle.bits.specs.Bits.{fields, bytes_of, bytes_for, over_at, room_fits}

-- what packing n fields of w bits at the byte `at` answers
unfoldable pub packed : ℕ → ℕ → ℕ → ℕ → ℕ → Option ℕ
packed widest w n at room = cond (room_fits widest w n at room) (Some (bytes_for (n * w))) None

-- what it leaves in the lent bytes
unfoldable pub packed_out : ℕ → ℕ → List ℕ → ℕ → List ℕ → List ℕ
packed_out widest w vs at out = cond (room_fits widest w (length vs) at (length out)) (over_at at (bytes_of (fields w vs)) out) out
