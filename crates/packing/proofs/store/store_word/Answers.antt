-- The four bytes of a word say its 32 bits. Assumes nothing.
use mathlib.Core.Path.{◌≡◌, ap, ◌∙◌}
use mathlib.Core.List.{[], ◌∷◌}
use Prim.Native.Nat.{ℕ, ◌+◌, ◌-◌, ◌/◌, ◌%◌, ◌^◌}
use native.Mathlib.Omega.{arith}
use lib.ListN.{length}
use lib.Bits.{bit_and, mask_lt}
use Rattle.bits.specs.Bits.{fields}
use Rattle.packing.proofs.Writing as writing
use Rattle.packing.proofs.store.store_word.Goals as goal

pub overflow_cast-low : goal.overflow_cast-low
overflow_cast-low c = record { fits = mask_lt c.args.x 32 }

-- the bytes are stated here once, so whatever list the code hands over is compared with them by value
pub returns : goal.returns
returns c = let a = c.args in
    let y : ℕ = bit_and a.x 0xffff_ffff in
    let bytes_are : c.copy_from_slice.new.self ≡ y / 2 ^ 24 % 256 ∷ y / 2 ^ 16 % 256 ∷ y / 2 ^ 8 % 256 ∷ y % 256 ∷ []
    = grind (arith, c.copy_from_slice.ensures, c.to_be_bytes.ensures) in
    writing.stored-bytes a.out.now a.at (a.at + 4 - a.at) 4 _ (omega arith) (ap length bytes_are) (omega arith)
    (ap (fields 8) bytes_are ∙ writing.fields-word y ∙ writing.bits-word a.x)
