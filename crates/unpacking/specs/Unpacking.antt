-- What the operations of this crate answer, for any input, and what they leave in the lent values.
-- A width over the widest value, or too few bits from the place on, is refused: nothing is then changed.
use Rattle.std.specs.Prelude.{ℕ, ◌+◌, ◌*◌, Bool, ◌&&◌, cond, List, leb, length, take, drop, Option, Some, None}
use Rattle.bits.specs.Bits.{number, fields, split, room_fits}

-- what unpacking n fields of w bits from the byte `at` on answers: whether there are so many
abbrev pub unpacked : ℕ → ℕ → ℕ → ℕ → Bool
unpacked w n at long = room_fits 16 w n at long

-- what it leaves in the lent values
unfoldable pub unpacked_out : ℕ → List ℕ → ℕ → List ℕ → List ℕ
unpacked_out w src at values =
    cond (unpacked w (length values) at (length src)) (split w (length values) (fields 8 (drop at src))) values

-- the number of the w bits of src from the bit `at` on
unfoldable pub number_at : ℕ → ℕ → List ℕ → Option ℕ
number_at at w src =
    cond (leb w 64 && leb (at + w) (8 * length src)) (Some (number (take w (drop at (fields 8 src))))) None
