use Rattle.std.proofs.Common.{◌≡◌, ◌+◌, length}
use Rattle.watch.specs.Blocks.{heard_on}
use Rattle.watch.proofs.blocks.listen_on.Given as goal

abbrev pub invariant-loop-block : goal.invariant-loop-block
invariant-loop-block l = record {
  heard : heard_on l.initial.heard l.clock l.states ≡ heard_on l.heard l.over l.rest;
  clocks : l.over + length l.rest ≡ l.clock + length l.states;
}

abbrev pub decreases-loop-block : goal.decreases-loop-block
decreases-loop-block l = length l.rest
