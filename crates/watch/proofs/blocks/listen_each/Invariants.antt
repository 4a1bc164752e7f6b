use Rattle.std.proofs.Common.{◌≡◌, take}
use Rattle.watch.specs.Blocks.{heard_on}
use Rattle.watch.proofs.Clocks.{told}
use Rattle.watch.proofs.blocks.listen_each.Given as goal

abbrev pub invariant-loop-i : goal.invariant-loop-i
invariant-loop-i l = heard_on (told l.initial.watch l.initial.expired) l.clock (take l.i l.states) ≡ told l.watch l.expired
