use borrow.Author.Tests.{lt-ltb, le-ltb}
use Rattle.widths.proofs.widths.flags_fit.Goals as goal

pub returns-then-registers-lt2 : goal.returns-then-registers-lt2
returns-then-registers-lt2 c = rw (lt-ltb _ _ c.if-registers-lt2.true)

pub returns-else-registers-lt2 : goal.returns-else-registers-lt2
returns-else-registers-lt2 c = rw (le-ltb _ _ c.if-registers-lt2.false)
