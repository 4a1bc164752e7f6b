-- The whole fours, and then what is left. Assumes nothing.
use mathlib.Core.Path.{◌≡◌, ap, ◌∙◌}
use Prim.Native.Nat.{ℕ, ◌+◌, ◌*◌, ◌/◌}
use native.Mathlib.Nat.{zero-mul, add-mul}
use native.Mathlib.Omega.{arith}
use lib.ListN.{length}
use Rattle.bits.specs.Bits.{bits, split}
use Rattle.bits.specs.Words.{side_by_side}
use Rattle.bits.proofs.Fits.{room-more}
use Rattle.unpacking.proofs.Reading as reading
use Rattle.unpacking.proofs.Words as law
use Rattle.unpacking.proofs.groups.pull_fours.Goals as goal

pub loop-k-init : goal.loop-k-init
loop-k-init g c = (reading.pulled-none _ (omega arith), omega (arith, zero-mul g.row.WIDTH))

pub load_four-requires : goal.load_four-requires
load_four-requires g c =
    (omega arith, omega arith, omega arith, omega (arith, room-more g.row.WIDTH 4 (4 * c.loop-k.k) (length c.args.values.now) (omega arith)))

pub four_of-requires : goal.four_of-requires
four_of-requires g c = rw c.new-lanes.ensures (c.load_four.ensures.below 0)

pub loop-k-preserved : goal.loop-k-preserved
loop-k-preserved g c = let w = g.row.WIDTH in
    let l = c.loop-k in
    let x = c.load_four.result in
    let four_is = c.four_of.ensures ∙ ap (λ (n : ℕ). side_by_side (split n 4 (bits (4 * n) x))) c.new-lanes.ensures in
    let next : 4 * (l.k + 1) ≡ 4 * l.k + 4 = omega arith in (
      rw next (law.four-read w (4 * l.k) x l.values (omega arith) (omega arith) l.invariant.0 c.load_four.ensures four_is c.set_four.ensures),
      omega (arith, ap (λ (n : ℕ). n * w) next, add-mul (4 * l.k) 4 w),
    )

pub pull_each-requires-clause-room : goal.pull_each-requires-clause-room
pull_each-requires-clause-room g c = let l = c.loop-k in
    let n = length c.args.values.now in
    let all : l.k ≡ n / 4 = omega arith in
    rw c.new.ensures (reading.behind-room (4 * (n / 4)) l.values (rw all at l.invariant.0) {n = n} (omega arith) (omega arith) (omega arith))

pub returns : goal.returns
returns g c = let l = c.loop-k in
    let n = length c.args.values.now in
    let all : l.k ≡ n / 4 = omega arith in
    reading.pulled-behind (4 * (n / 4)) l.values (rw all at l.invariant.0) (rw c.new.ensures at c.pull_each.ensures)
