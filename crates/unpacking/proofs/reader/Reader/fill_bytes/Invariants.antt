-- Each turn takes a byte in, which leaves what is ahead as it was. Assumes nothing.
use mathlib.Core.Path.{◌≡◌}
use Prim.Native.Nat.{◌+◌, ◌*◌}
use Rattle.unpacking.specs.Reading.{ahead}
use Rattle.unpacking.proofs.reader.Reader.fill_bytes.Given as goal

abbrev pub invariant-loop-byte : goal.invariant-loop-byte
invariant-loop-byte l = ahead l.fn.src (l.self.at + l.byte-index) (l.self.have + 8 * l.byte-index) l.acc ≡ ahead l.fn.src l.self.at l.self.have l.self.acc
