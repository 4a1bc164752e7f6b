-- Where there is room, blocks are laid, a writer stores the other bytes of the fields behind them, and zeros; else nothing is done. Assumes
-- nothing.
use mathlib.Core.Path.{sym, ◌∙◌}
use Prim.Native.Nat.{◌+◌, ◌-◌, ◌*◌, ◌/◌, ◌≤◌}
use native.Mathlib.Omega.{arith}
use lib.ListN.{length, take, drop}
use Rattle.bits.proofs.Fits as fits
use Rattle.packing.proofs.Whole as whole
use borrow.Author.Rules.{rules}
use Rattle.packing.proofs.packing.pack.Goals as goal
use Rattle.packing.proofs.packing.pack.Goals.{After-put_blocks-done}

-- the values behind the blocks have room behind the blocks' bytes
rest-room : (c : After-put_blocks-done) → let k = c.put_blocks-done.result in
    8 * (c.args.at + k / 8 * c.args.width) + length (take (length c.args.values.now - k) (drop k c.args.values.now)) * c.args.width ≤ 8 * length c.args.out.now
rest-room c = let a = c.args in
    let done = c.put_blocks-done in
    omega (
      arith,
      fits.room_fits-room 16 a.width (length a.values.now) a.at (length a.out.now) (sym c.has_room.ensures ∙ c.if-not-has_room.false),
      whole.rest-bits a.width a.values.now done.result done.ensures.1 done.ensures.2,
    )

pub returns-then-not-has_room : goal.returns-then-not-has_room
returns-then-not-has_room c = let a = c.args in
    let none = whole.packed_none 16 a.width a.values.now a.at a.out.now (sym c.has_room.ensures ∙ c.if-not-has_room.true) in
    record { value = none.0; out_after = none.1 }

pub overflow_mul-done : goal.overflow_mul-done
overflow_mul-done c = omega (arith, rest-room (goal.at.overflow_mul-done c).After-put_blocks-done)

pub overflow_add-at : goal.overflow_add-at
overflow_add-at c = omega (arith, rest-room (goal.at.overflow_add-at c).After-put_blocks-done)

pub push_all-last-requires : goal.push_all-last-requires
push_all-last-requires c = let a = c.args in (
  fits.room_fits-width 16 a.width (length a.values.now) a.at (length a.out.now) (sym c.has_room.ensures ∙ c.if-not-has_room.false),
  omega (arith, rest-room (goal.at.push_all-last-requires c).After-put_blocks-done),
)

pub finish-end-requires : goal.finish-end-requires
finish-end-requires c = omega (arith, rest-room (goal.at.finish-end-requires c).After-put_blocks-done)

pub returns : goal.returns
returns c = let a = c.args in
    let done = c.put_blocks-done in
    let run = whole.packed-run 16 a.width a.values.now a.at (sym c.has_room.ensures ∙ c.if-not-has_room.false) (omega arith) (omega arith)
    (whole.rest-bits a.width a.values.now done.result done.ensures.1 done.ensures.2) (whole.rest-fields a.width a.values.now done.result)
    done.ensures.0 c.push_all-last.ensures c.finish-end.ensures.0 (omega arith) c.finish-end.ensures.1 (omega arith)
    (λ i. search rules) (λ i. (c.type_inv.out i).fits) in
    record { value = run.0; out_after = run.1 }
