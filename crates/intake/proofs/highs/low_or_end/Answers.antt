use Rattle.intake.proofs.Clauses.{highs_first}
use Rattle.intake.proofs.highs.low_or_end.Goals as goal

pub returns : goal.returns
returns c = rw (c.unwrap_or.ensures, c.first_low.ensures, c.ahead-rest.ensures) (highs_first _ c.args.from)
