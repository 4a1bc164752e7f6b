use Rattle.std.proofs.Common.{◌≡◌, ℕ, suc, ◌+◌, ◌-◌, ◌*◌, ◌<◌, ◌^◌, Bool, List, length, take, drop, sym, ap, ◌∙◌, arith}
use Rattle.std.proofs.lemmas.List.{length-map}
use lib.Pow.{pow_mono}
use native.Mathlib.Nat.{lt_of_lt_of_le}
use Rattle.bits.specs.Bits.{number, padded, bytes_for}
use Rattle.bits.proofs.Laws.{number-take-lt}
use Rattle.serial.specs.States.{data_bits}
use Rattle.serial.proofs.Laws.{number-next, get_d-bytes_of, length-padded-eights}
use Rattle.serial.proofs.packing.byte_at.Goals as goal

-- before the last bit, fewer than eight are taken
small : (k : ℕ) (bs : List Bool) → k < 8 → number (take k bs) < 2 ^ 7
small k bs h = lt_of_lt_of_le (number-take-lt k bs) (pow_mono {j = 7} (omega arith))

pub loop-at-init : goal.loop-at-init
unfolding number
loop-at-init c = let e : c.args.place * 8 - c.args.place * 8 ≡ 0 = omega arith in rw e

pub overflow_mul-byte : goal.overflow_mul-byte
overflow_mul-byte c = omega (arith, c.loop-at.invariant, small (c.loop-at.at - c.args.place * 8) (drop (c.args.place * 8) (padded (data_bits c.args.states.now))) (omega arith))

pub overflow_add-byte : goal.overflow_add-byte
overflow_add-byte c = omega (arith, c.bit_at.ensures, c.loop-at.invariant, small (c.loop-at.at - c.args.place * 8) (drop (c.args.place * 8) (padded (data_bits c.args.states.now))) (omega arith))

pub loop-at-preserved : goal.loop-at-preserved
loop-at-preserved c =
    let start : ℕ = c.args.place * 8 in
    let k : ℕ = c.loop-at.at - start in
    let states : List ℕ = c.args.states.now in
    let long : length (padded (data_bits states)) ≡ 8 * bytes_for (length states)
    = length-padded-eights (data_bits states) ∙ ap (λ (n : ℕ). 8 * bytes_for n) (length-map states _) in
    let here : start + k ≡ c.loop-at.at = omega arith in
    let more : c.loop-at.at + 1 - start ≡ suc k = omega arith in
    let next = rw here at (number-next states start k (omega arith)) in
    rw (more, c.loop-at.invariant, c.bit_at.ensures) (sym next)

pub returns : goal.returns
returns c =
    let eight : c.loop-at.at - c.args.place * 8 ≡ 8 = omega arith in
    rw (c.loop-at.invariant, eight) (sym (get_d-bytes_of (data_bits c.args.states.now) c.args.place (rw length-map c.requires)))
