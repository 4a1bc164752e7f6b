-- One copy of the device gets its position and its counts; the rest is done to it, or has nothing to do. Assumes nothing.
use mathlib.Core.Path.{ap, sym, ◌∙◌}
use mathlib.Core.Bool.{false}
use Rattle.registers.specs.declared.registers.Registers.{Registers}
use Rattle.turns.proofs.Cases.{brought-counted}
use Rattle.turns.proofs.turning.bring.Goals as goal

pub returns-then-ended : goal.returns-then-ended
returns-then-ended c =
    ap (λ (q : Registers). record { registers = q; place = c.args.device.place }) c.shown-registers.ensures
    ∙ brought-counted c.args.clock c.args.device c.is_on-on.ensures c.bring-watch.ensures c.has_expired-expired.ensures c.position_by-position.ensures c.has_ended-ended.ensures

pub returns : goal.returns
returns c =
    brought-counted c.args.clock c.args.device {x = false} {ended = false} c.is_on-on.ensures c.bring-watch.ensures (sym c.if-expired.false ∙ c.has_expired-expired.ensures)
    c.position_by-position.ensures (sym c.if-ended.false ∙ c.has_ended-ended.ensures)
