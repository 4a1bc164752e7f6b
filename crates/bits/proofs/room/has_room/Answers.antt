-- The bytes are counted by eights of fields; each answer is the test of the definition. Assumes nothing.
use mathlib.Core.Path.{◌≡◌, sym, ap, ◌∙◌}
use mathlib.Core.Bool.{Bool, ◌&&◌}
use Prim.Native.Nat.{ℕ, ◌+◌, ◌*◌, ◌/◌, ◌%◌, ◌-◌}
use native.Mathlib.Omega.{arith}
use borrow.Author.Tests.{le-leb}
use lib.Dec.{leb}
use Rattle.bits.specs.Bits.{bytes_for}
use Rattle.bits.proofs.Fits as fits
use Rattle.bits.proofs.room.has_room.Goals as goal

pub returns-then-rest-wide : goal.returns-then-rest-wide
returns-then-rest-wide c = let a = c.args in
    sym (fits.room_fits-short a.widest a.width a.count a.at a.room
    (omega (arith, fits.eights-over a.count a.width (a.room - a.at) (omega arith) c.if-rest-wide.true)))

pub returns : goal.returns
returns c = let a = c.args in
    let rest : ℕ = a.room - a.at in
    let eights : ℕ = a.count / 8 * a.width in
    let behind : ℕ = a.at + bytes_for (a.count * a.width) in
    let few : c.div_ceil.result ≡ (a.count % 8 * a.width + 7) / 8 = omega (arith, c.div_ceil.ensures) in
    ap (λ (x : ℕ). leb x (rest - eights)) few
    ∙ fits.leb-behind ((a.count % 8 * a.width + 7) / 8) eights rest (fits.eights-within a.count a.width rest (omega arith) (omega arith))
    ∙ ap (λ (x : ℕ). leb x rest) (sym (fits.bytes_for-eights a.count a.width))
    ∙ fits.leb-behind (bytes_for (a.count * a.width)) a.at a.room c.if-room-at.false
    ∙ ap (λ (b : Bool). b && leb behind a.room) (sym (le-leb a.width a.widest (omega arith)))
