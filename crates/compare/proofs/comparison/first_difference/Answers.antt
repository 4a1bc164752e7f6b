-- The next device is answered for, or its bytes and values are taken off what is left. Assumes nothing.
use Rattle.std.proofs.Common.{◌≡◌, ◌∙◌, ◌+◌, ◌-◌, ◌*◌, ℕ, suc, sym, ap, arith, length, rules}
use native.Mathlib.Nat.{suc-mul}
use Rattle.parts.specs.Parts.{part_of}
use Rattle.model.specs.Set.{owned}
use Rattle.differences.specs.declared.compared.Compared.{Compared}
use Rattle.compare.proofs.Found.{from-start, from-end, goes-on, ends-here}
use Rattle.compare.proofs.comparison.first_difference.Goals as goal

-- of one device less there are so many less
one-off : (t k n m : ℕ) → suc t * k ≡ n → m + k ≡ n → t * k ≡ m
one-off t k n m e f = omega (arith, suc-mul t k)

pub loop-place-init : goal.loop-place-init
unfolding owned
loop-place-init c =
    let a = c.args in
    let all : a.given.numbers.devices ≡ length a.chain.now - 0 = omega (arith, c.requires.devices) in
    record {
      so_far = from-start (part_of a.given.numbers.part) a.given.numbers.configuration a.given.numbers.global a.given.numbers.devices a.given.calibration.now a.given.individual.now a.chain.now c.requires.devices;
      bytes_in = rw (sym all) c.requires.bytes_in;
      values_in = rw (sym all) c.requires.values_in;
    }

pub returns-then-differs : goal.returns-then-differs
returns-then-differs c =
    let a = c.args in
    let l = c.loop-place in
    let some : c.device_differs-answer.result.group ≡ 0 → ⊥ = search rules in
    let answer = rw (c.split_at.ensures.front, c.split_at-in-loop-place.ensures.front, c.slice_fields-banks.ensures, c.slice_fields-fields.ensures) at c.device_differs-answer.ensures in
    answer
    ∙ sym (l.invariant.so_far
    ∙ ends-here (part_of a.given.numbers.part) a.given.numbers.configuration a.given.numbers.global l.place l.bytes.now l.values.now a.chain.now _ c.loop-place-test.true
    (λ e. some (ap (λ (r : Compared). r.group) answer ∙ e)))

pub loop-place-preserved : goal.loop-place-preserved
loop-place-preserved c =
    let a = c.args in
    let l = c.loop-place in
    let none : c.device_differs-answer.result.group ≡ 0 = search rules in
    let answer = rw (c.split_at.ensures.front, c.split_at-in-loop-place.ensures.front, c.slice_fields-banks.ensures, c.slice_fields-fields.ensures) at c.device_differs-answer.ensures in
    let next = goes-on (part_of a.given.numbers.part) a.given.numbers.configuration a.given.numbers.global l.place l.bytes.now l.values.now a.chain.now _ c.loop-place-test.true
    (sym (ap (λ (r : Compared). r.group) answer) ∙ none) in
    let left : length a.chain.now - l.place ≡ suc (length a.chain.now - (l.place + 1)) = omega arith in
    record {
      so_far = rw (c.split_at.ensures.back, c.split_at-in-loop-place.ensures.back, c.slice_fields-banks.ensures, c.slice_fields-fields.ensures) (l.invariant.so_far ∙ next);
      bytes_in = one-off _ _ _ _ (rw left at l.invariant.bytes_in) (rw c.slice_fields-banks.ensures at c.split_at.ensures.back_len);
      values_in = one-off _ _ _ _ (rw left at l.invariant.values_in) (rw c.slice_fields-fields.ensures at c.split_at-in-loop-place.ensures.back_len);
    }

pub returns : goal.returns
returns c =
    let a = c.args in
    let l = c.loop-place in
    sym (l.invariant.so_far ∙ from-end (part_of a.given.numbers.part) a.given.numbers.configuration a.given.numbers.global l.place l.bytes.now l.values.now a.chain.now c.loop-place-test.false)
