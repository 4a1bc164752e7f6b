use mathlib.Core.Path.{◌≡◌, refl, ◌∙◌}
use Rattle.turns.specs.Watching.{cleared_if}
use Rattle.turns.proofs.Cases.{watched_turn-is}
use Rattle.turns.proofs.watching.watched_take.Goals as goal
use Rattle.turns.proofs.watching.watched_take.Goals.{then-ahead, else-ahead}

pub returns : goal.returns
returns c =
    let a = c.args in
    let registers : c.if-ahead.registers ≡ cleared_if c.hear_on-ahead.result.heard.expired c.settle-settled.result = elim c.if-ahead.branch [
      | then-ahead w ↦ rw w.if-ahead.true (w.registers-is ∙ w.clear-registers.ensures)
      | else-ahead w ↦ rw w.if-ahead.false w.registers-is
    ] in
    watched_turn-is a.device a.pending a.progress a.ear a.states.now a.at a.end
    c.is_on-before.ensures c.overhear-heard.ensures c.configuration_after.ensures c.is_enabled-on.ensures c.hear_on-ahead.ensures c.with_heard-listened.ensures c.settle-settled.ensures
    refl registers
