-- Where there is room, the writer stores the bytes of the fields and zeros; else nothing is done. Assumes nothing.
use mathlib.Core.Path.{refl, sym, ◌∙◌}
use mathlib.Core.List.{◌∷◌, []}
use Prim.Native.Nat.{◌+◌, ◌*◌}
use native.Mathlib.Omega.{arith}
use Rattle.bits.specs.Bits.{bytes_for}
use Rattle.packing.proofs.Laid as laid
use Rattle.packing.proofs.Whole as whole
use Rattle.packing.proofs.Writing as writing
use borrow.Author.Rules.{rules}
use Rattle.packing.proofs.packing.pack_number.Goals as goal

pub returns-then-not-has_room : goal.returns-then-not-has_room
returns-then-not-has_room c = let a = c.args in
    let none = whole.packed_none 64 a.width (a.value ∷ []) a.at a.out.now (sym c.has_room.ensures ∙ c.if-not-has_room.true) in
    record { value = none.0; out_after = none.1 }

pub returns : goal.returns
returns c = let a = c.args in
    let run = whole.packed-run 64 a.width (a.value ∷ []) a.at (sym c.has_room.ensures ∙ c.if-not-has_room.false) (omega arith) (omega arith) (omega arith) refl
    (laid.laid_none a.out.now a.at (a.at + bytes_for (1 * a.width)))
    (writing.pushed-one a.width a.value c.push_wide-last.ensures) c.finish-end.ensures.0 (omega arith) c.finish-end.ensures.1 (omega arith)
    (λ i. search rules) (λ i. (c.type_inv.out i).fits) in
    record { value = run.0; out_after = run.1 }
