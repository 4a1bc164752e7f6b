-- Laws of sums over the numbers from 0 on, for any functions: of equal and of bounded terms, of sums and products, two nested sums in either
-- order, a sum over rows of equal length, and one that counts. By induction on the number of terms. Assumes nothing.
use mathlib.Core.Path.{◌≡◌, refl, sym, ap, ap₂, ◌∙◌}
use mathlib.Core.Bool.{Bool, true, false, cond}
use Prim.Native.Nat.{ℕ, zero, suc, ◌+◌, ◌*◌, ◌<◌, ◌≤◌}
use native.Mathlib.Nat.{add-zero, zero-add, add-suc, add_assoc, zero-mul, mul-zero, one-mul, suc-mul, add-mul, mul-le-mul_right}
use native.Mathlib.Numerals.{add-one}
use native.Mathlib.Omega.{arith}
use Rattle.bits.specs.Bits.{digit}
use Rattle.subframes.specs.Subframes.{how_many_from}
use Rattle.schedule.specs.Light.{total}

-- ---- term by term

pub total-none : (f : ℕ → ℕ) → total f 0 ≡ 0
unfolding total
total-none f = refl

pub total-next : (f : ℕ → ℕ) (n : ℕ) → total f (n + 1) ≡ total f n + f n
unfolding total
total-next f n = ap (total f) (add-one n)

pub total-same : (f g : ℕ → ℕ) (n : ℕ) → ((i : ℕ) → i < n → f i ≡ g i) → total f n ≡ total g n
unfolding total
total-same f g zero h = refl
total-same f g (suc n) h = ap₂ (λ (j k : ℕ). j + k) (total-same f g n (λ i l. h i (omega arith))) (h n (omega arith))

pub total-le : (f : ℕ → ℕ) (k n : ℕ) → ((i : ℕ) → i < n → f i ≤ k) → total f n ≤ n * k
unfolding total
total-le f k zero h = omega arith
total-le f k (suc n) h = omega (arith, total-le f k n (λ i l. h i (omega arith)), h n (omega arith), suc-mul n k)

pub total-const : (k n : ℕ) → total (λ i. k) n ≡ n * k
unfolding total
total-const k zero = sym (zero-mul k)
total-const k (suc n) = omega (arith, total-const k n, suc-mul n k)

total-add : (f g : ℕ → ℕ) (n : ℕ) → total (λ i. f i + g i) n ≡ total f n + total g n
unfolding total
total-add f g zero = refl
total-add f g (suc n) = omega (arith, total-add f g n)

pub total-scale : (f : ℕ → ℕ) (k n : ℕ) → total (λ i. f i * k) n ≡ total f n * k
unfolding total
total-scale f k zero = sym (zero-mul k)
total-scale f k (suc n) = omega (arith, total-scale f k n, add-mul (total f n) (f n) k)

-- ---- nested sums

-- two, in either order
pub total-swap : (f : ℕ → ℕ → ℕ) (m n : ℕ) → total (λ i. total (λ j. f i j) n) m ≡ total (λ j. total (λ i. f i j) m) n
unfolding total
total-swap f zero n = sym (total-const 0 n ∙ mul-zero n)
total-swap f (suc m) n =
    ap (λ (k : ℕ). k + total (λ j. f m j) n) (total-swap f m n) ∙ sym (total-add (λ j. total (λ i. f i j) m) (λ j. f m j) n)

-- the innermost of four as the outermost
pub total-out :
    (f : ℕ → ℕ → ℕ → ℕ → ℕ) (a b c n : ℕ)
    → total (λ i. total (λ j. total (λ k. total (λ x. f i j k x) n) c) b) a ≡ total (λ x. total (λ i. total (λ j. total (λ k. f i j k x) c) b) a) n
total-out f a b c n =
    total-same (λ i. total (λ j. total (λ k. total (λ x. f i j k x) n) c) b) (λ i. total (λ x. total (λ j. total (λ k. f i j k x) c) b) n) a
    (λ i _.
    total-same (λ j. total (λ k. total (λ x. f i j k x) n) c) (λ j. total (λ x. total (λ k. f i j k x) c) n) b (λ j _. total-swap (f i j) c n)
    ∙ total-swap (λ j x. total (λ k. f i j k x) c) b n)
    ∙ total-swap (λ i x. total (λ j. total (λ k. f i j k x) c) b) a n

total-append : (f : ℕ → ℕ) (m n : ℕ) → total f (m + n) ≡ total f m + total (λ j. f (m + j)) n
unfolding total
total-append f m zero = ap (total f) (add-zero m) ∙ sym (add-zero (total f m))
total-append f m (suc n) =
    ap (total f) (add-suc m n) ∙ ap (λ (k : ℕ). k + f (m + n)) (total-append f m n) ∙ add_assoc (total f m) (total (λ j. f (m + j)) n) (f (m + n))

-- m rows of n terms
pub total-split : (f : ℕ → ℕ) (m n : ℕ) → total f (m * n) ≡ total (λ i. total (λ j. f (i * n + j)) n) m
unfolding total
total-split f zero n = ap (total f) (zero-mul n)
total-split f (suc m) n =
    ap (total f) (suc-mul m n) ∙ total-append f (m * n) n ∙ ap (λ (k : ℕ). k + total (λ j. f (m * n + j)) n) (total-split f m n)

-- a place of one of them is below m * n
pub row-place : (m n i j : ℕ) → i < m → j < n → 0 + i * n + j < m * n
row-place m n i j h k =
    let s : suc i ≤ m = h in
    omega (arith, mul-le-mul_right n s, suc-mul i n)

-- ---- counting

digit-times : (t : Bool) (k : ℕ) → cond t k 0 ≡ digit t * k
digit-times true k = sym (one-mul k)
digit-times false k = sym (zero-mul k)

-- k for each number that passes a test
pub total-count : (t : ℕ → Bool) (k n : ℕ) → total (λ c. cond (t c) k 0) n ≡ how_many_from t 0 n * k
unfolding total how_many_from
total-count t k zero = sym (zero-mul k)
total-count t k (suc n) =
    ap₂ (λ (i j : ℕ). i + j) (total-count t k n) (digit-times (t n) k ∙ ap (λ (c : ℕ). digit (t c) * k) (sym (zero-add n)))
    ∙ sym (add-mul (how_many_from t 0 n) (digit (t (0 + n))) k)
