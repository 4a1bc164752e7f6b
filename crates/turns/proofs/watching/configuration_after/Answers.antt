use Rattle.positions.specs.Running.{dated}
use Rattle.turns.proofs.watching.configuration_after.Goals as goal

pub returns-in-Header : goal.returns-in-Header
unfolding dated
returns-in-Header c = rw c.in-Header.is c.configuration_after.ensures
