-- Where there are so many bits, the values are those that blocks and then the reader find; else nothing is done. Assumes nothing.
use mathlib.Core.Path.{sym, ap, ◌∙◌}
use Prim.Native.Nat.{ℕ}
use native.Mathlib.Omega.{arith}
use lib.ListN.{length, drop}
use Rattle.bits.specs.Bits.{fields, split}
use Rattle.bits.proofs.Fits as fits
use Rattle.unpacking.proofs.Answers as answers
use Rattle.unpacking.proofs.Reading as reading
use Rattle.unpacking.proofs.unpacking.unpack.Goals as goal

pub returns-then-not-has_room : goal.returns-then-not-has_room
returns-then-not-has_room c = let a = c.args in
    let e = sym c.has_room.ensures ∙ c.if-not-has_room.true in
    record { value = sym e; values_after = sym (answers.unpacked_out-refused a.width a.src.now a.at a.values.now e) }

pub take_blocks-done-requires : goal.take_blocks-done-requires
take_blocks-done-requires c = let a = c.args in
    let e = sym c.has_room.ensures ∙ c.if-not-has_room.false in (
      fits.room_fits-width 16 a.width (length a.values.now) a.at (length a.src.now) e,
      fits.room_fits-room 16 a.width (length a.values.now) a.at (length a.src.now) e,
    )

pub pull_all-requires : goal.pull_all-requires
pull_all-requires c = let a = c.args in
    let e = sym c.has_room.ensures ∙ c.if-not-has_room.false in
    let w = fits.room_fits-width 16 a.width (length a.values.now) a.at (length a.src.now) e in
    let r = fits.room_fits-room 16 a.width (length a.values.now) a.at (length a.src.now) e in
    let f = c.take_blocks-done in
    let room = reading.behind-room f.result _ f.ensures.0 {n = length a.values.now} (omega arith) f.ensures.1 (omega arith) in
    (w, f.ensures.0.within, omega (arith, room))

pub returns : goal.returns
returns c = let a = c.args in
    let done = c.take_blocks-done in
    let e = sym c.has_room.ensures ∙ c.if-not-has_room.false in
    let all = fields 8 (drop a.at a.src.now) in
    let read = reading.pulled-behind done.result _ done.ensures.0 c.pull_all.ensures in record {
      value = sym e;
      values_after = reading.pulled-split all read (reading.from_start a.src.now a.at 0) ∙ ap (λ (k : ℕ). split a.width k all) (omega arith)
          ∙ sym (answers.unpacked_out-room_fits a.width a.src.now a.at a.values.now e);
    }
