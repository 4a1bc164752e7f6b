use Rattle.std.proofs.Common.{◌≡◌, suc, ◌+◌, ◌-◌, drop, arith}
use mathlib.Core.Bool.{and-true, and-false}
use borrow.Author.Tests.{eq-eqb, ne_eqb}
use Rattle.differences.specs.Groups.{in_turns}
use Rattle.differences.proofs.Differs.{Turn, differs-end, turns_same}
use Rattle.differences.proofs.own.bank_same.Goals as goal
use Rattle.differences.proofs.own.bank_same.Goals.{then-values-even, else-values-even, then-values-odd, else-values-odd}

pub loop-output-preserved : goal.loop-output-preserved
loop-output-preserved c =
    let a = c.args in
    let i = c.loop-output.output in
    let so_far = c.loop-output.invariant in
    let left : 16 - (i + i) ≡ suc (suc (16 - ((i + 1) + (i + 1)))) = omega arith in
    let turn : Turn a.values.now a.mux0.now a.mux1.now i = record { value = omega arith; mux0 = omega arith; mux1 = omega arith } in
    let two = turns_same turn (omega arith) (16 - ((i + 1) + (i + 1))) in
    elim c.if-values-even.branch [
      | then-values-even v ↦ elim c.if-values-odd.branch [
        | then-values-odd w ↦ rw (so_far, left, two, ne_eqb _ _ v.if-values-even.true, and-false, w.same-is)
        | else-values-odd w ↦ rw (so_far, left, two, ne_eqb _ _ v.if-values-even.true, and-false, w.same-is, v.same-is)
      ]
      | else-values-even v ↦ elim c.if-values-odd.branch [
        | then-values-odd w ↦ rw (so_far, left, two, eq-eqb _ _ v.if-values-even.false, ne_eqb _ _ w.if-values-odd.true, and-false, w.same-is)
        | else-values-odd w ↦ rw (so_far, left, two, eq-eqb _ _ v.if-values-even.false, eq-eqb _ _ w.if-values-odd.false, w.same-is, v.same-is)
      ]
    ]

pub returns : goal.returns
returns c =
    let a = c.args in
    let i = c.loop-output.output in
    let none : 16 - (i + i) ≡ 0 = omega arith in
    rw (c.loop-output.invariant, none, differs-end a.values.now (in_turns (drop i a.mux0.now) (drop i a.mux1.now)) (i + i) (omega arith), and-true)
