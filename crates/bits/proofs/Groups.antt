-- The laws of specs/Groups and of specs/Words, each once and for any number of values, any width and any list: the fields of the groups' numbers
-- are the values' fields, and where a group is whole bytes, the groups' bytes are the values' bytes. Assumes nothing.
use mathlib.Core.Path.{◌≡◌, refl, sym, ap, ap₂, ◌∙◌}
use mathlib.Core.Bool.{Bool, true, false, cond}
use mathlib.Core.List.{List, [], ◌∷◌, ◌++◌, map-append}
use Prim.Native.Nat.{ℕ, zero, suc, ◌+◌, ◌-◌, ◌*◌, ◌/◌, ◌%◌, ◌^◌, ◌≤◌, ◌<◌}
use native.Mathlib.Nat.{zero-mul, suc-mul, add_comm}
use native.Mathlib.Omega.{arith}
use borrow.Author.Tests.{eqb-true}
use lib.Dec.{eqb}
use lib.ListN.{length, get_or, take, drop, length-drop, length-map}
use lib.Seq.{drop-drop, length-take-le, take-length}
use Rattle.bits.specs.Bits.{bits, number, fields, split, padded, bytes_of}
use Rattle.bits.specs.Groups.{group_size, groups, in_groups, group_bytes}
use Rattle.bits.specs.Words.{group_numbers, high_bits}
use Rattle.bits.proofs.Laws.{length_fields, fields-more, bits-number, bytes_of-append, length-bytes_of}

-- a group's number has the bits of its fields
pub group-bits : (n w : ℕ) (g : List ℕ) → length g ≡ n → bits (n * w) (number (fields w g)) ≡ fields w g
group-bits n w g e = ap (λ (k : ℕ). bits k (number (fields w g))) (sym (length_fields w g ∙ ap (λ (k : ℕ). k * w) e)) ∙ bits-number (fields w g)

-- what k + 1 groups leave of a list
rest-long : (n k : ℕ) (vs : List ℕ) → suc k * n ≤ length vs → (n ≤ length vs) × (k * n ≤ length (drop n vs))
rest-long n k vs h = (omega (arith, suc-mul k n), omega (arith, suc-mul k n, length-drop n vs))

-- the first group's fields, and then those of the others
first-fields : (n w k : ℕ) (vs : List ℕ) → fields w (take n vs) ++ fields w (take (k * n) (drop n vs)) ≡ fields w (take (suc k * n) vs)
first-fields n w k vs =
    let e : n + k * n ≡ suc k * n = omega (arith, suc-mul k n) in
    fields-more w n (k * n) vs ∙ ap (λ (m : ℕ). fields w (take m vs)) e

-- the fields of the groups' numbers are the values' fields
pub fields-groups : (n w k : ℕ) (vs : List ℕ) → k * n ≤ length vs → fields (n * w) (group_numbers w (groups n k vs)) ≡ fields w (take (k * n) vs)
unfolding groups group_numbers fields
fields-groups n w zero vs h = ap (λ (m : ℕ). fields w (take m vs)) (sym (zero-mul n))
fields-groups n w (suc k) vs h =
    let l = rest-long n k vs h in
    ap₂ (λ (x y : List Bool). x ++ y) (group-bits n w (take n vs) (length-take-le n vs l.0)) (fields-groups n w k (drop n vs) l.1)
    ∙ first-fields n w k vs

-- the groups' bytes are the values' bytes, where a group is whole bytes
pub bytes-groups : (n w k : ℕ) (vs : List ℕ) → n * w % 8 ≡ 0 → k * n ≤ length vs → group_bytes w (groups n k vs) ≡ bytes_of (fields w (take (k * n) vs))
unfolding groups group_bytes fields bytes_of split padded mathlib.Core.List.flatten
bytes-groups n w zero vs e h = ap (λ (m : ℕ). bytes_of (fields w (take m vs))) (sym (zero-mul n))
bytes-groups n w (suc k) vs e h =
    let l = rest-long n k vs h in
    let long : length (fields w (take n vs)) ≡ n * w = length_fields w (take n vs) ∙ ap (λ (m : ℕ). m * w) (length-take-le n vs l.0) in
    ap (λ (x : List ℕ). bytes_of (fields w (take n vs)) ++ x) (bytes-groups n w k (drop n vs) e l.1)
    ∙ sym (bytes_of-append (fields w (take n vs)) (fields w (take (k * n) (drop n vs))) (ap (λ (m : ℕ). m % 8) long ∙ e))
    ∙ ap bytes_of (first-fields n w k vs)

-- ---- one of the groups

pub length-groups : (n w k : ℕ) (vs : List ℕ) → length (group_numbers w (groups n k vs)) ≡ k
unfolding groups group_numbers
length-groups n w zero vs = refl
length-groups n w (suc k) vs = ap suc (length-groups n w k (drop n vs))

pub get_d-groups : (n w k j : ℕ) (vs : List ℕ) → j < k → get_or (group_numbers w (groups n k vs)) j 0 ≡ number (fields w (take n (drop (j * n) vs)))
unfolding groups group_numbers
get_d-groups n w zero j vs l = absurd (omega arith)
get_d-groups n w (suc k) zero vs l = ap (λ (m : ℕ). number (fields w (take n (drop m vs)))) (sym (zero-mul n))
get_d-groups n w (suc k) (suc j) vs l =
    let e : j * n + n ≡ suc j * n = sym (suc-mul j n) in
    get_d-groups n w k j (drop n vs) (omega arith) ∙ ap (λ (z : List ℕ). number (fields w (take n z))) (drop-drop (j * n) n vs ∙ ap (λ (m : ℕ). drop m vs) (add_comm n (j * n) ∙ e))

-- ---- numbers in the high bits of words

pub length-high_bits : (n : ℕ) (xs : List ℕ) → length (high_bits n xs) ≡ length xs
unfolding high_bits
length-high_bits n xs = length-map xs (λ x. x / 2 ^ (64 - n))

pub high_bits-append : (n : ℕ) (xs ys : List ℕ) → high_bits n (xs ++ ys) ≡ high_bits n xs ++ high_bits n ys
unfolding high_bits
high_bits-append n xs ys = map-append (λ x. x / 2 ^ (64 - n)) xs ys

pub high_bits-one : (n x : ℕ) → high_bits n (x ∷ []) ≡ x / 2 ^ (64 - n) ∷ []
unfolding high_bits
high_bits-one n x = refl

-- ---- how many values are whole bytes

-- one of four answers, by three tests
size-cases : (P : ℕ → Type 0) (a b c : Bool) → (a ≡ true → P 1) → (b ≡ true → P 2) → (c ≡ true → P 4) → P 8 → P (cond a 1 (cond b 2 (cond c 4 8)))
size-cases P true b c f g h x = f refl
size-cases P false true c f g h x = g refl
size-cases P false false true f g h x = h refl
size-cases P false false false f g h x = x

pub group-whole : (w : ℕ) → group_size w * w % 8 ≡ 0
group-whole w =
    size-cases (λ n. n * w % 8 ≡ 0) (eqb (w % 8) 0) (eqb (2 * w % 8) 0) (eqb (4 * w % 8) 0)
    (λ e. omega (arith, eqb-true (w % 8) 0 e)) (λ e. eqb-true (2 * w % 8) 0 e) (λ e. eqb-true (4 * w % 8) 0 e) (omega arith)

-- eights of values are whole groups
group-eights : (w n : ℕ) → n % 8 ≡ 0 → n / group_size w * group_size w ≡ n
group-eights w n h =
    size-cases (λ k. n / k * k ≡ n) (eqb (w % 8) 0) (eqb (2 * w % 8) 0) (eqb (4 * w % 8) 0)
    (λ e. omega arith) (λ e. omega arith) (λ e. omega arith) (omega arith)

-- the bytes of eights of values are those of their groups
pub bytes-in_groups : (w : ℕ) (vs : List ℕ) → length vs % 8 ≡ 0 → group_bytes w (in_groups w vs) ≡ bytes_of (fields w vs)
bytes-in_groups w vs h =
    let n : length vs / group_size w * group_size w ≡ length vs = group-eights w (length vs) h in
    bytes-groups (group_size w) w (length vs / group_size w) vs (group-whole w) (omega (arith, n))
    ∙ ap (λ (m : ℕ). bytes_of (fields w (take m vs))) n ∙ ap (λ (z : List ℕ). bytes_of (fields w z)) (take-length vs)

-- a group's bytes
pub group-bytes : (w : ℕ) (g : List ℕ) → length g ≡ group_size w → 8 * length (bytes_of (fields w g)) ≡ group_size w * w
group-bytes w g e =
    omega (arith, length-bytes_of (fields w g), length_fields w g, ap (λ (n : ℕ). n * w) e, group-whole w)
