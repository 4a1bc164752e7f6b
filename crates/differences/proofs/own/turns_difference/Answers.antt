use Rattle.std.proofs.Common.{◌∙◌, ◌<◌, length, drop, sym, arith, rules}
use borrow.Author.Tests.{eqb-true}
use Rattle.differences.specs.Groups.{in_turns}
use Rattle.differences.proofs.Differs.{differs-here, differs_next, differs-end}
use Rattle.differences.proofs.Lists.{length-in_turns}
use Rattle.differences.proofs.own.turns_difference.Goals as goal

pub returns-then-turns_same : goal.returns-then-turns_same
returns-then-turns_same c = (sym (eqb-true _ _ (sym c.turns_same.ensures ∙ c.if-turns_same.true)), search rules)

pub returns-then-value-held_at : goal.returns-then-value-held_at
returns-then-value-held_at c =
    let a = c.args in
    let held = in_turns a.mux0.now a.mux1.now in
    let near : c.loop-place.place < length held = omega (arith, length-in_turns a.mux0.now a.mux1.now (search rules)) in
    let here = differs-here a.values.now held c.loop-place.place c.loop-place-test.true near (λ e. c.if-value-held_at.true (e ∙ sym c.held_at.ensures)) in
    (omega (arith, c.loop-place.invariant, here), search rules)

pub loop-place-preserved : goal.loop-place-preserved
loop-place-preserved c =
    let a = c.args in
    let held = in_turns a.mux0.now a.mux1.now in
    let near : c.loop-place.place < length held = omega (arith, length-in_turns a.mux0.now a.mux1.now (search rules)) in
    let next = differs_next a.values.now held c.loop-place.place c.loop-place-test.true near (c.if-value-held_at.false ∙ c.held_at.ensures) in
    omega (arith, c.loop-place.invariant, next)

pub returns : goal.returns
returns c =
    let a = c.args in
    let l = c.loop-place in
    (omega (arith, l.invariant, differs-end a.values.now (drop l.place (in_turns a.mux0.now a.mux1.now)) l.place c.loop-place-test.false), search rules)
