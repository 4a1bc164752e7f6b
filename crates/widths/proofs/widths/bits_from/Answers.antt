use mathlib.Core.Path.{◌≡◌}
use Prim.Native.Nat.{◌*◌}
use lib.ListN.{length}
use Rattle.widths.proofs.Together.{take_rest}
use borrow.Author.Rules.{rules}
use Rattle.widths.proofs.widths.bits_from.Goals as goal

pub returns : goal.returns
returns c = let a = c.args in
    let r = a.registers in
    let long0 : length r.waiting0 ≡ 24 = search rules in
    let long1 : length r.waiting1 ≡ 24 = search rules in
    let long2 : length r.active0 ≡ 24 = search rules in
    let long3 : length r.active1 ≡ 24 = search rules in
    let long4 : length r.slice ≡ 48 = search rules in
    rw (
      c.or_all.ensures,
      c.or_all-bits-4.ensures,
      c.or_all-bits-3.ensures,
      c.or_all-bits-2.ensures,
      c.or_all-bits.ensures,
      take_rest 24 a.first r.waiting0 long0,
      take_rest 24 a.first r.waiting1 long1,
      take_rest 24 a.first r.active0 long2,
      take_rest 24 a.first r.active1 long3,
      take_rest 48 (2 * a.first) r.slice long4,
    )
