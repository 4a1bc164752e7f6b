-- The bytes so far are the first bytes of the packed data bits. Assumes nothing.
use Rattle.std.proofs.Common.{◌≡◌, ℕ, ◌<◌, get_or}
use Rattle.bits.specs.Bits.{bytes_of}
use Rattle.serial.specs.States.{data_bits}
use Rattle.serial.proofs.packing.put_bytes.Given as goal

abbrev pub invariant-loop-place : goal.invariant-loop-place
invariant-loop-place l = (k : ℕ) → k < l.place → get_or l.byte-items k 0 ≡ get_or (bytes_of (data_bits l.states)) k 0
