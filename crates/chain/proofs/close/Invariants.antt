-- The records so far are brought up, and the others are as they were.
use Rattle.std.proofs.Common.{◌≡◌, map, take, drop}
use Rattle.turns.specs.Ending.{by_clock_device}
use Rattle.chain.proofs.close.Given as goal

abbrev pub invariant-loop-device : goal.invariant-loop-device
invariant-loop-device l =
    record {
      brought : take l.device-index l.chain ≡ map (by_clock_device l.clock) (take l.device-index l.initial.chain);
      left : drop l.device-index l.chain ≡ drop l.device-index l.initial.chain;
    }
