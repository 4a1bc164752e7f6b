use Rattle.std.proofs.Common.{length}
use Rattle.turns.specs.Front.{now_at}
use Rattle.turns.proofs.Turns.{measure}
use Rattle.chain.proofs.Standing.{Standing}
use Rattle.chain.proofs.run.Given as goal

abbrev pub invariant-loop-cursor : goal.invariant-loop-cursor
invariant-loop-cursor l = Standing l.fn.chain l.states l.fn.returned (now_at l.chain l.cursor l.returned)

abbrev pub decreases-loop-cursor : goal.decreases-loop-cursor
decreases-loop-cursor l = measure (length l.states) (length l.fn.chain) l.cursor
