-- What is added up is the sum over the values so far.
use Rattle.std.proofs.Common.{◌≡◌, ◌*◌, ◌≤◌}
use Rattle.current.specs.Closed.{bank_clocks}
use Rattle.current.proofs.clocks.bank_clocks.Given as goal

abbrev pub invariant-loop-value : goal.invariant-loop-value
invariant-loop-value l = record { so_far : l.sum ≡ bank_clocks l.edge l.end l.values l.from l.value-index; few : l.sum ≤ l.value-index * 65535 }
