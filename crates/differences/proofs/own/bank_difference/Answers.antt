-- The banks' bytes are as many as the part's constants say. Assumes nothing.
use Rattle.std.proofs.Common.{rules}
use Rattle.differences.proofs.Differs.{differs-by}
use Rattle.differences.proofs.own.bank_difference.Goals as goal

pub returns : goal.returns
returns c = (rw (c.first_difference.ensures.value, differs-by, c.constants_of-banks.ensures), search rules)
