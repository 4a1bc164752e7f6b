-- The test of five lists by the bits of all their values, as the code makes it: from a first value on. Assumes nothing.
use mathlib.Core.Path.{◌≡◌, ap, sym, ◌∙◌}
use mathlib.Core.List.{List}
use Prim.Native.Nat.{ℕ, ◌-◌, ◌*◌, ◌^◌}
use lib.Dec.{ltb}
use lib.ListN.{length, take, drop, length-drop}
use lib.Seq.{take-length}
use lib.Pow.{pow_pos}
use borrow.Author.Tests.{lt-ltb}
use Rattle.tables.specs.Lists.{or_all}
use Rattle.tables.proofs.Booleans.{and_assoc}
use Rattle.tables.proofs.Tests.{or_all-below}
use Rattle.widths.specs.Widths.{values_below}
use Rattle.registers.specs.declared.registers.Registers.{Registers}

-- an array from a place on
pub take_rest : (n k : ℕ) (l : List ℕ) → length l ≡ n → take (n - k) (drop k l) ≡ drop k l
take_rest n k l e = ap (λ (i : ℕ). take i (drop k l)) (ap (λ (i : ℕ). i - k) (sym e) ∙ sym (length-drop k l)) ∙ take-length (drop k l)

-- the bits of all values
abbrev pub all_bits : Registers → ℕ → ℕ
all_bits r n =
    or_all (drop (2 * n) r.slice)
    (or_all (drop n r.active1) (or_all (drop n r.active0) (or_all (drop n r.waiting1) (or_all (drop n r.waiting0) 0))))

pub fit-by-bits : (r : Registers) (n w : ℕ) → ltb (all_bits r n) (2 ^ w) ≡ values_below r n (2 ^ w)
fit-by-bits r n w = simp (or_all-below, lt-ltb 0 (2 ^ w) (pow_pos w), and_assoc)
