use Rattle.std.proofs.Common.{◌≡◌}
use Rattle.watch.specs.Blocks.{change_in}
use Rattle.watch.proofs.ByBlock.{change_of}
use Rattle.watch.proofs.blocks.last_change.Given as goal

abbrev pub invariant-loop-i : goal.invariant-loop-i
invariant-loop-i l = change_in l.level l.din l.states l.clock ≡ change_of l.level l.din l.states l.clock l.i
