-- What the reader knows of a call that it accepts: no row applies, so what is told is right, the frame has its length, the lent list has
-- room, and the rest of the rows is clear. Assumes nothing.
use mathlib.Core.Path.{◌≡◌, refl}
use mathlib.Core.Bool.{false}
use mathlib.Core.List.{List, ◌++◌}
use Prim.Native.Nat.{ℕ}
use lib.ListN.{length}
use borrow.Author.Tests.{eqb-true, not-false}
use Rattle.tables.proofs.Rows as rows
use Rattle.frames.specs.Frames.{field_count, frame_length, told_rows}
use Rattle.frames.specs.declared.told.Told.{Told}
use Rattle.frames.specs.declared.told.Tail.{Tail}
use Rattle.frames.proofs.Accepted.{ToldAccepted, told_accepted}
use Rattle.frame_reader.specs.Reading.{room_short, length_rows, body_rows, read_refusal}

pub record Readable (t : Told) (tail : Tail) (frame : List ℕ) (bytes values : ℕ) : Type 0 where
  pub told : ToldAccepted t.part t.devices tail
  pub long : length frame ≡ frame_length t tail
  pub room : room_short t.command (field_count t) bytes values ≡ false
  pub body : rows.Clear (body_rows t tail frame)

pub readable : (t : Told) (tail : Tail) (frame : List ℕ) (bytes values : ℕ) → read_refusal t tail frame bytes values ≡ 0 → Readable t tail frame bytes values
unfolding read_refusal
readable t tail frame bytes values e =
    let c = rows.clear (told_rows t.part t.devices tail ++ (length_rows t tail (length frame) bytes values ++ body_rows t tail frame)) refl e in
    let d = c.1.1.1 in
    record {
      told = told_accepted t.part t.devices tail (c.0, (c.1.0, (c.1.1.0, tt)));
      long = eqb-true (length frame) (frame_length t tail) (not-false _ d.0);
      room = d.1.0;
      body = d.1.1;
    }
