-- Each byte stands behind those before it. Assumes nothing.
use mathlib.Core.Path.{◌≡◌}
use Prim.Native.Nat.{◌+◌, ◌*◌}
use native.Mathlib.Omega.{arith}
use lib.ListN.{get_or}
use Rattle.unpacking.proofs.Reading as reading
use Rattle.unpacking.proofs.load.load_word.Goals as goal

pub returns : goal.returns
returns c = let src = c.args.src.now in
    let at = c.args.at in
    let fits = c.type_inv.src in
    let bytes_are : c.from_be_bytes.result ≡ ((get_or src at 0 * 256 + get_or src (at + 1) 0) * 256 + get_or src (at + 2) 0) * 256 + get_or src (at + 3) 0
    = omega (arith, c.from_be_bytes.ensures) in
    rw bytes_are (reading.loaded-byte (omega arith) (fits (at + 3)).fits (reading.loaded-byte (omega arith) (fits (at + 2)).fits
    (reading.loaded-byte (omega arith) (fits (at + 1)).fits (reading.loaded-one src at (omega arith)))))
