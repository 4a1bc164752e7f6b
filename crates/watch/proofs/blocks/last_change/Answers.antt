use Rattle.std.proofs.Common.{◌≡◌, ◌+◌, ◌-◌, sym, ap, ◌∙◌, arith}
use Rattle.watch.specs.Ear.{last_change}
use Rattle.watch.proofs.ByBlock.{change_of, change-whole, change-back, change-here}
use Rattle.watch.proofs.blocks.last_change.Goals as goal

pub loop-i-init : goal.loop-i-init
loop-i-init c = let a = c.args in
    change-whole a.level a.din a.states.now a.clock _ (omega arith)

pub returns-then-level_of-level_behind : goal.returns-then-level_of-level_behind
returns-then-level_of-level_behind c = let a = c.args in
    let i = c.loop-i.i in
    let one : i ≡ i - 1 + 1 = omega arith in
    sym (c.loop-i.invariant ∙ ap (change_of a.level a.din a.states.now a.clock) one
    ∙ change-here a.level a.din a.states.now a.clock (i - 1) (omega arith) (rw (c.level_of.ensures, c.level_behind.ensures) at c.if-level_of-level_behind.true))

pub loop-i-preserved : goal.loop-i-preserved
loop-i-preserved c = let a = c.args in
    let i = c.loop-i.i in
    let one : i ≡ i - 1 + 1 = omega arith in
    c.loop-i.invariant ∙ ap (change_of a.level a.din a.states.now a.clock) one
    ∙ change-back a.level a.din a.states.now a.clock (i - 1) (omega arith) (rw (c.level_of.ensures, c.level_behind.ensures) at c.if-level_of-level_behind.false)

pub returns : goal.returns
unfolding last_change
returns c = let a = c.args in
    let none : c.loop-i.i ≡ 0 = omega arith in
    sym (c.loop-i.invariant ∙ ap (change_of a.level a.din a.states.now a.clock) none)
