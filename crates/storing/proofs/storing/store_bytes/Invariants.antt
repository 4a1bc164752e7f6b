use Rattle.storing.specs.Stored.{bytes_of}
use Rattle.storing.proofs.Lists.{Written}
use Rattle.storing.proofs.storing.store_bytes.Given as goal

abbrev pub invariant-loop-i : goal.invariant-loop-i
invariant-loop-i l = Written (bytes_of l.slice l.banks) l.initial.held l.i l.held
