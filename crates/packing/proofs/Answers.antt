-- The laws of specs/Packing: what each answer is where the fields fit, and where they do not. Assumes nothing.
use mathlib.Core.Path.{◌≡◌}
use mathlib.Core.Bool.{true, false}
use mathlib.Core.List.{List}
use Prim.Native.Nat.{ℕ, ◌*◌}
use lib.ListN.{length}
use Rattle.bits.specs.Bits.{fields, bytes_of, bytes_for, over_at, room_fits}
use Rattle.packing.specs.Packing.{packed, packed_out}
use Rattle.std.specs.Prelude.{Some, None}

pub packed-room_fits : (widest w n at room : ℕ) → room_fits widest w n at room ≡ true → packed widest w n at room ≡ Some (bytes_for (n * w))
unfolding packed
packed-room_fits widest w n at room e = rw e

pub packed-refused : (widest w n at room : ℕ) → room_fits widest w n at room ≡ false → packed widest w n at room ≡ None
unfolding packed
packed-refused widest w n at room e = rw e

pub packed_out-room_fits : (widest w : ℕ) (vs : List ℕ) (at : ℕ) (out : List ℕ) → room_fits widest w (length vs) at (length out) ≡ true
    → packed_out widest w vs at out ≡ over_at at (bytes_of (fields w vs)) out
unfolding packed_out
packed_out-room_fits widest w vs at out e = rw e

pub packed_out-refused : (widest w : ℕ) (vs : List ℕ) (at : ℕ) (out : List ℕ) → room_fits widest w (length vs) at (length out) ≡ false → packed_out widest w vs at out ≡ out
unfolding packed_out
packed_out-refused widest w vs at out e = rw e
