-- The laws of tests: of one number, of each number of a list, and of a tail's bits. Assumes nothing.
use mathlib.Core.Path.{◌≡◌, refl, ap, ◌∙◌}
use mathlib.Core.Bool.{Bool, true, false, not, ◌&&◌}
use mathlib.Core.List.{List, [], ◌∷◌}
use Prim.Native.Nat.{ℕ, zero, suc, ◌%◌, ◌^◌, ◌<◌, ◌≤◌}
use native.Mathlib.Nat.{mod-lt, mod-eq_of_lt}
use native.Mathlib.Omega.{arith}
use lib.Dec.{eqb, ltb}
use lib.Pow.{pow_pos}
use lib.ListN.{length, get_or, replicate, length-replicate, get_or-replicate}
use borrow.Author.Tests.{lt-ltb, eq-eqb, ne_eqb, ltb-true, ltb-false}
use Rattle.tables.specs.Lists.{all_below}
use Rattle.tables.proofs.Booleans.{and_left, and_right}

-- ---- a test of each number

-- past the end stands 0
pub get_d_past : (s : List ℕ) (i : ℕ) → length s ≤ i → get_or s i 0 ≡ 0
get_d_past [] i h = refl
get_d_past (x ∷ s) zero h = absurd (omega arith)
get_d_past (x ∷ s) (suc i) h = get_d_past s i (omega arith)

-- the test says that each number, in place or past the end, is below
pub below_all : (s : List ℕ) (m : ℕ) → 0 < m → all_below s m ≡ true → (i : ℕ) → get_or s i 0 < m
below_all [] m z e i = z
below_all (x ∷ s) m z e zero = ltb-true x m (and_left (ltb x m) (all_below s m) e)
below_all (x ∷ s) m z e (suc i) = below_all s m z (and_right (ltb x m) (all_below s m) e) i

pub all-below : (s : List ℕ) (m : ℕ) → ((i : ℕ) → get_or s i 0 < m) → all_below s m ≡ true
all-below [] m h = refl
all-below (x ∷ s) m h = ap (λ (d : Bool). d && all_below s m) (lt-ltb x m (h 0)) ∙ all-below s m (λ i. h (suc i))

pub below-replicate : (n b m : ℕ) → 0 < m → b < m → (i : ℕ) → get_or (replicate n b) i 0 < m
below-replicate n b m z h i = at (ltb i n) refl where
  at : (d : Bool) → ltb i n ≡ d → get_or (replicate n b) i 0 < m
  at true l = omega (arith, get_or-replicate n i b 0 (ltb-true i n l))
  at false l = omega (arith, get_d_past (replicate n b) i (omega (arith, length-replicate n b, ltb-false i n l)))

-- ---- a tail

-- the low bits are another number exactly when bits stand above the length
pub above_length : (v w : ℕ) → not (eqb (v % 2 ^ w) v) ≡ not (ltb v (2 ^ w))
above_length v w = at (ltb v (2 ^ w)) refl where
  at : (d : Bool) → ltb v (2 ^ w) ≡ d → not (eqb (v % 2 ^ w) v) ≡ not (ltb v (2 ^ w))
  at true e = rw (e, mod-eq_of_lt (ltb-true v (2 ^ w) e), eq-eqb v v refl)
  at false e = rw (e, ne_eqb (v % 2 ^ w) v (λ q. omega (arith, q, ltb-false v (2 ^ w) e, mod-lt v (pow_pos w))))
