-- The byte so far is the number of the bits taken. Assumes nothing.
use Rattle.std.proofs.Common.{◌≡◌, ◌*◌, ◌-◌, take, drop}
use Rattle.bits.specs.Bits.{number, padded}
use Rattle.serial.specs.States.{data_bits}
use Rattle.serial.proofs.packing.byte_at.Given as goal

abbrev pub invariant-loop-at : goal.invariant-loop-at
invariant-loop-at l = l.byte ≡ number (take (l.at - l.place * 8) (drop (l.place * 8) (padded (data_bits l.states))))
