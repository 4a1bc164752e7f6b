-- The eight bytes of a number say its 64 bits. Assumes nothing.
use mathlib.Core.Path.{◌≡◌, ap, ◌∙◌}
use mathlib.Core.List.{[], ◌∷◌}
use Prim.Native.Nat.{◌+◌, ◌-◌, ◌/◌, ◌%◌, ◌^◌}
use native.Mathlib.Omega.{arith}
use lib.ListN.{length}
use Rattle.bits.specs.Bits.{fields}
use Rattle.packing.proofs.Writing as writing
use Rattle.packing.proofs.store.store_long.Goals as goal

-- the bytes are stated here once, so whatever list the code hands over is compared with them by value
pub returns : goal.returns
returns c = let a = c.args in
    let bytes_are : c.copy_from_slice.new.self ≡ a.x / 2 ^ 56 % 256 ∷ a.x / 2 ^ 48 % 256 ∷ a.x / 2 ^ 40 % 256 ∷ a.x / 2 ^ 32 % 256
    ∷ a.x / 2 ^ 24 % 256 ∷ a.x / 2 ^ 16 % 256 ∷ a.x / 2 ^ 8 % 256 ∷ a.x % 256 ∷ []
    = grind (arith, c.copy_from_slice.ensures, c.to_be_bytes.ensures) in
    writing.stored-bytes a.out.now a.at (a.at + 8 - a.at) 8 _ (omega arith) (ap length bytes_are) (omega arith)
    (ap (fields 8) bytes_are ∙ writing.fields-long a.x)
