-- The laws of the test that each byte of a list is the same. Assumes nothing.
use mathlib.Core.Path.{◌≡◌, refl, sym, ap₂}
use mathlib.Core.Bool.{true}
use mathlib.Core.List.{List, [], ◌∷◌}
use Prim.Native.Nat.{ℕ}
use lib.Dec.{eqb}
use lib.ListN.{length, replicate}
use borrow.Author.Tests.{eqb-true}
use Rattle.tables.proofs.Booleans.{and_left, and_right}
use Rattle.tables.specs.Lists.{all_same}

-- a list of one byte is that byte again and again
pub replicate-same : (l : List ℕ) (b : ℕ) → all_same l b ≡ true → replicate (length l) b ≡ l
replicate-same [] b e = refl
replicate-same (x ∷ l) b e =
    ap₂ (λ (y : ℕ) (r : List ℕ). y ∷ r) (sym (eqb-true x b (and_left (eqb x b) (all_same l b) e))) (replicate-same l b (and_right (eqb x b) (all_same l b) e))
