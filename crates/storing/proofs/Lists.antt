-- The length and the elements of `strided`, by induction on the number of values; values that stand one after another are a `take`, by
-- their elements. The same of a slice's bytes, and of a list over the front of another. Assumes nothing.
use mathlib.Core.Path.{◌≡◌, refl, ap, sym, ◌∙◌}
use mathlib.Core.List.{List, [], ◌∷◌, ◌++◌, map}
use mathlib.Core.Bool.{Bool, ◌&&◌}
use Rattle.std.specs.Bool.{◌==◌}
use Rattle.std.specs.List.{list_all}
use Rattle.tables.specs.Lists.{all_same}
use Prim.Native.Nat.{ℕ, zero, suc, ◌+◌, ◌-◌, ◌*◌, ◌<◌, ◌≤◌}
use native.Mathlib.Nat.{mul-suc, mul-zero, add-zero, le_of_suc-le-suc, ne_of_lt, not-suc-le-zero}
use native.Mathlib.Omega.{arith}
use lib.ListN.{length, get_or, set, take, drop, length-drop, length-map, length-set, get_or-map, get_or-append}
use lib.Seq.{ext_get_or, get_or-take, get_or-drop, get_or-append-add, get_or-set_same, get_or-set_other, length-take-le}
use borrow.Author.Count.{below_more}
use Rattle.bits.specs.Bits.{over}
use Rattle.bits.proofs.Laws.{length_over}
use Rattle.storing.specs.Stored.{strided, byte_of, bytes_of}

pub length-strided : (s : List ℕ) (a k n : ℕ) → length (strided s a k n) ≡ n
unfolding strided
length-strided s a k zero = refl
length-strided s a k (suc n) = ap suc (length-strided s (a + k) k n)

pub get_d-strided : (s : List ℕ) (a k n j : ℕ) → j < n → get_or (strided s a k n) j 0 ≡ get_or s (a + k * j) 0
unfolding strided
get_d-strided s a k zero j h = absurd (not-suc-le-zero h)
get_d-strided s a k (suc n) zero h = simp (mul-zero, add-zero)
get_d-strided s a k (suc n) (suc j) h =
    get_d-strided s (a + k) k n j (le_of_suc-le-suc h)
    ∙ ap (λ (m : ℕ). get_or s m 0) (simp mul-suc (omega arith))

pub strided-take : (s : List ℕ) (a n : ℕ) → a + n ≤ length s → strided s a 1 n ≡ take n (drop a s)
strided-take s a n h =
    let room : n ≤ length (drop a s) = omega (arith, h, length-drop a s) in
    ext_get_or 0 (strided s a 1 n) (take n (drop a s)) (length-strided s a 1 n ∙ sym (length-take-le n (drop a s) room))
    (λ j l. let k : j < n = omega (arith, l, length-strided s a 1 n) in
    let one : a + 1 * j ≡ a + j = omega arith in
    get_d-strided s a 1 n j k ∙ ap (λ (m : ℕ). get_or s m 0) one ∙ sym (get_or-take n (drop a s) j 0 k ∙ get_or-drop a s j 0))

-- ---- a list over the front of another

pub get_d_front : (ys l : List ℕ) (i : ℕ) → i < length ys → get_or (over ys l) i 0 ≡ get_or ys i 0
unfolding over
get_d_front ys l i h = get_or-append ys (drop (length ys) l) 0 i h

pub get_d-behind : (ys l : List ℕ) (i : ℕ) → length ys ≤ i → get_or (over ys l) i 0 ≡ get_or l i 0
unfolding over
get_d-behind ys l i h =
    let n : ℕ = i - length ys in
    let e : length ys + n ≡ i = omega arith in
    ap (λ (k : ℕ). get_or (ys ++ drop (length ys) l) k 0) (sym e) ∙ get_or-append-add ys (drop (length ys) l) n 0
    ∙ get_or-drop (length ys) l n 0 ∙ ap (λ (k : ℕ). get_or l k 0) e

-- values of a slice over the front of a register: a place before n has its own, and a later one stays
pub strided-front : (s l : List ℕ) (a k n i : ℕ) → i < n → get_or (over (strided s a k n) l) i 0 ≡ get_or s (a + k * i) 0
strided-front s l a k n i h =
    get_d_front (strided s a k n) l i (omega (arith, h, length-strided s a k n)) ∙ get_d-strided s a k n i h

pub strided-behind : (s l : List ℕ) (a k n i : ℕ) → n ≤ i → get_or (over (strided s a k n) l) i 0 ≡ get_or l i 0
strided-behind s l a k n i h = get_d-behind (strided s a k n) l i (omega (arith, h, length-strided s a k n))

-- a loop that goes over a list and writes ys over its front, come to place i: before it the list is written, and from it on it stays
pub record Written (ys old : List ℕ) (i : ℕ) (xs : List ℕ) : Type 0 where
  pub same_length : length xs ≡ length old
  pub front : (j : ℕ) → j < i → get_or xs j 0 ≡ get_or (over ys old) j 0
  pub rest : (j : ℕ) → i ≤ j → get_or xs j 0 ≡ get_or old j 0

pub written-start : (ys old : List ℕ) → Written ys old 0 old
written-start ys old = record { same_length = refl; front = λ j h. absurd (not-suc-le-zero h); rest = λ j h. refl }

pub written-next : (ys old : List ℕ) (i : ℕ) (xs : List ℕ) (v : ℕ) → i < length old → Written ys old i xs → v ≡ get_or (over ys old) i 0
    → Written ys old (i + 1) (set xs i v)
written-next ys old i xs v h w same =
    record {
      same_length = length-set xs i v ∙ w.same_length;
      front = below_more (λ (j : ℕ). get_or (set xs i v) j 0 ≡ get_or (over ys old) j 0) i
          (λ j l. get_or-set_other xs i j v 0 (λ e. ne_of_lt l e) ∙ w.front j l) (get_or-set_same xs i v 0 (omega (arith, h, w.same_length)) ∙ same);
      rest = λ j l. get_or-set_other xs i j v 0 (λ e. absurd (omega (arith, l, e))) ∙ w.rest j (omega (arith, l));
    }

pub written-all : (ys old : List ℕ) (i : ℕ) (xs : List ℕ) → length ys ≤ length old → length old ≤ i → Written ys old i xs → xs ≡ over ys old
written-all ys old i xs few end w =
    ext_get_or 0 xs (over ys old) (w.same_length ∙ sym (length_over ys old few)) (λ j h. w.front j (omega (arith, h, end, w.same_length)))

-- ---- the low bytes of the first fields

pub length-bytes : (s : List ℕ) (n : ℕ) → length (bytes_of s n) ≡ n
length-bytes s n = length-map (strided s 0 1 n) byte_of ∙ length-strided s 0 1 n

pub get_d-bytes : (s : List ℕ) (n i : ℕ) → i < n → get_or (bytes_of s n) i 0 ≡ byte_of (get_or s i 0)
get_d-bytes s n i h =
    let one : 0 + 1 * i ≡ i = omega arith in
    get_or-map byte_of (strided s 0 1 n) i 0 ∙ ap byte_of (get_d-strided s 0 1 n i h ∙ ap (λ (m : ℕ). get_or s m 0) one)

pub bytes-front : (s l : List ℕ) (n i : ℕ) → i < n → get_or (over (bytes_of s n) l) i 0 ≡ byte_of (get_or s i 0)
bytes-front s l n i h = get_d_front (bytes_of s n) l i (omega (arith, h, length-bytes s n)) ∙ get_d-bytes s n i h

pub bytes-behind : (s l : List ℕ) (n i : ℕ) → n ≤ i → get_or (over (bytes_of s n) l) i 0 ≡ get_or l i 0
bytes-behind s l n i h = get_d-behind (bytes_of s n) l i (omega (arith, h, length-bytes s n))

-- the bytes are all one where each field has that low byte
all_same-map : (f : ℕ → ℕ) (xs : List ℕ) (b : ℕ) → all_same (map f xs) b ≡ list_all (λ v. f v == b) xs
all_same-map f [] b = refl
all_same-map f (x ∷ xs) b = ap (λ (t : Bool). (f x == b) && t) (all_same-map f xs b)

pub all_same-bytes : (s : List ℕ) (n b : ℕ) → n ≤ length s → all_same (bytes_of s n) b ≡ list_all (λ v. byte_of v == b) (take n s)
all_same-bytes s n b h =
    ap (λ (xs : List ℕ). all_same (map byte_of xs) b) (strided-take s 0 n (omega (arith, h))) ∙ all_same-map byte_of (take n s) b
