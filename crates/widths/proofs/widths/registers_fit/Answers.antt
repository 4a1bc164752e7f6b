use mathlib.Core.Path.{sym, ◌∙◌}
use Rattle.widths.proofs.widths.registers_fit.Goals as goal

pub returns-then-flags_fit : goal.returns-then-flags_fit
returns-then-flags_fit c = rw (sym c.flags_fit.ensures ∙ c.if-flags_fit.true) c.values_fit.ensures

pub returns-else-flags_fit : goal.returns-else-flags_fit
returns-else-flags_fit c = rw (sym c.flags_fit.ensures ∙ c.if-flags_fit.false) c.if-flags_fit.false
