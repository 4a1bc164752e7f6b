-- The laws of the definitions of specs/Bits, each once and for any width: a number's bits, bits as a number, fields, bytes, and lists
-- with a part replaced. "Each value is below 2 ^ w" is written `(i : ℕ) → get_or vs i 0 < 2 ^ w`, the form in which a lent slice gives it.
-- The laws of what fits into bytes are in Fits. Assumes nothing.
use mathlib.Core.Path.{◌≡◌, refl, sym, ap, ap₂, ◌∙◌, subst}
use mathlib.Core.Bool.{Bool, true, false}
use mathlib.Core.List.{List, [], ◌∷◌, ◌++◌, append_assoc, append-nil}
use Prim.Native.Nat.{ℕ, zero, suc, ◌+◌, ◌-◌, ◌*◌, ◌/◌, ◌%◌, ◌^◌, ◌≤◌, ◌<◌}
use native.Mathlib.Nat.{zero-add, add-zero, mul-mod_left, suc-add, add_comm, add_assoc, add-mul, mul_assoc, mod-lt, mod-eq_of_lt}
use native.Mathlib.Nat.{suc-mul, zero-mul, pow-suc, zero-div, mul_comm, mod-one, lt_of_lt_of_le}
use native.Mathlib.Numerals.{one-add, add-one}
use native.Mathlib.Omega.{arith}
use lib.ListN.{length, get_or, set, take, drop, replicate, length-append, length-replicate, length-take, length-drop, take-append-drop}
use lib.Seq.{take_at, drop_at, take-add, take-append-add, drop-append-add, take-append-le, drop-append-le, length-take-le, take-length, drop-drop, drop-cons}
use lib.Seq.{take-append_seam, drop-append_seam, set_split, paste, paste-suc}
use lib.Arith.{digits_lt}
use lib.Bits.{bit_or, or_shifted}
use lib.Pow.{pow-add, pow_pos, pow_mono, shr-shr, shl-shr, high, low, field, mod-mod-pow, mod-pow-add, ones_lt, ones_split}
use Rattle.bits.specs.Bits.{is_one, digit, bits, number, fields, split, padded, bytes_of, bytes_for, over, over_at}

-- ---- a number's bits

pub length-bits : (w v : ℕ) → length (bits w v) ≡ w
unfolding bits
length-bits zero v = refl
length-bits (suc w) v = ap suc (length-bits w _)

-- the high part, then the low part: a shift right
pub bits-add : (a b v : ℕ) → bits (a + b) v ≡ bits a (v / 2 ^ b) ++ bits b v
unfolding bits
bits-add zero b v = ap (λ (n : ℕ). bits n v) (zero-add b)
bits-add (suc a) b v =
    ap (λ (n : ℕ). bits n v) (suc-add a b)
    ∙ ap₂ (λ (x : ℕ) (r : List Bool). is_one (x % 2) ∷ r) (ap (λ (n : ℕ). v / 2 ^ n) (add_comm a b) ∙ sym (shr-shr v b a)) (bits-add a b v)

-- bits above the w low ones do not matter: a mask, or a shift left that drops bits
pub bits-mod : (w j v : ℕ) → bits w (v % 2 ^ (j + w)) ≡ bits w v
unfolding bits
bits-mod zero j v = refl
bits-mod (suc w) j v =
    let e : j + suc w ≡ j + 1 + w = omega arith in
    ap (λ (n : ℕ). bits (suc w) (v % 2 ^ n)) e
    ∙ ap₂ (λ (x : ℕ) (r : List Bool). is_one x ∷ r)
    (ap (λ (x : ℕ). x % 2) (field v (j + 1) w) ∙ mod-mod-pow (v / 2 ^ w) j 1)
    (bits-mod w (j + 1) v)

pub bits-mod-self : (w v : ℕ) → bits w (v % 2 ^ w) ≡ bits w v
bits-mod-self w v = ap (λ (n : ℕ). bits w (v % 2 ^ n)) (sym (zero-add w)) ∙ bits-mod w 0 v

pub bits-low : (w hi : ℕ) {lo : ℕ} → lo < 2 ^ w → bits w (hi * 2 ^ w + lo) ≡ bits w lo
bits-low w hi {lo} h =
    sym (bits-mod-self w (hi * 2 ^ w + lo)) ∙ ap (bits w) (low hi w h)

pub bits-append : (a b x y : ℕ) → y < 2 ^ b → bits (a + b) (x * 2 ^ b + y) ≡ bits a x ++ bits b y
bits-append a b x y h = bits-add a b (x * 2 ^ b + y) ∙ ap₂ (λ (n : ℕ) (r : List Bool). bits a n ++ r) (high x b h) (bits-low b x h)

pub bits-zero : (w : ℕ) → bits w 0 ≡ replicate w false
unfolding bits
bits-zero zero = refl
bits-zero (suc w) = ap₂ (λ (x : ℕ) (r : List Bool). is_one (x % 2) ∷ r) (zero-div (2 ^ w)) (bits-zero w)

-- a push into an accumulator, `(a << k) | v`, at a word of m + h + k bits, of whose low bits h matter
pub bits-push : (m h k a v : ℕ) → v < 2 ^ k → bits (h + k) (bit_or ((a * 2 ^ k) % 2 ^ (m + h + k)) v) ≡ bits h a ++ bits k v
bits-push m h k a v l =
    ap (λ (x : ℕ). bits (h + k) (bit_or x v)) shifted
    ∙ ap (bits (h + k)) (or_shifted (a % 2 ^ (m + h)) k v l)
    ∙ bits-append h k (a % 2 ^ (m + h)) v l
    ∙ ap (λ (r : List Bool). r ++ bits k v) (bits-mod h m a)
  where
    shifted : (a * 2 ^ k) % 2 ^ (m + h + k) ≡ (a % 2 ^ (m + h)) * 2 ^ k
    shifted =
        mod-pow-add (a * 2 ^ k) (m + h) k
        ∙ ap₂ (λ (x y : ℕ). (x % 2 ^ (m + h)) * 2 ^ k + y) (shl-shr a k) (mul-mod_left a (2 ^ k))
        ∙ add-zero ((a % 2 ^ (m + h)) * 2 ^ k)

-- the low bits of a mask of n ones
pub ones_low : (n w : ℕ) → w ≤ n → (2 ^ n - 1) % 2 ^ w ≡ 2 ^ w - 1
ones_low n w h =
    let e : n ≡ n - w + w = omega arith in
    ap (λ (k : ℕ). (2 ^ k - 1) % 2 ^ w) e ∙ ap (λ (k : ℕ). k % 2 ^ w) (ones_split (n - w) w) ∙ low (2 ^ (n - w) - 1) w (ones_lt w)

-- ---- bits as a number

pub digit-is_one : (n : ℕ) → n < 2 → digit (is_one n) ≡ n
digit-is_one zero h = refl
digit-is_one (suc zero) h = refl
digit-is_one (suc (suc n)) h = absurd (omega arith)

pub digit_lt : (b : Bool) → digit b < 2
digit_lt false = omega arith
digit_lt true = omega arith

is_one-digit : (b : Bool) → is_one (digit b % 2) ≡ b
is_one-digit false = refl
is_one-digit true = refl

pub number_lt : (bs : List Bool) → number bs < 2 ^ length bs
unfolding number
number_lt [] = omega arith
number_lt (b ∷ bs) =
    subst (λ (n : ℕ). number (b ∷ bs) < n) (mul_comm 2 (2 ^ length bs) ∙ sym (pow-suc 2 (length bs)))
    (digits_lt (digit_lt b) (number_lt bs))

pub number-take-lt : (k : ℕ) (bs : List Bool) → number (take k bs) < 2 ^ k
number-take-lt k bs =
    let h : length (take k bs) ≤ k = omega (arith, length-take k bs) in
    lt_of_lt_of_le (number_lt (take k bs)) (pow_mono h)

pub number-bits : (w v : ℕ) → number (bits w v) ≡ v % 2 ^ w
unfolding number bits
number-bits zero v = sym (mod-one v)
number-bits (suc w) v =
    ap₂ (λ (x y : ℕ). x + y)
    (ap₂ (λ (x n : ℕ). x * 2 ^ n) (digit-is_one (v / 2 ^ w % 2) (mod-lt (v / 2 ^ w) (omega arith))) (length-bits w v))
    (number-bits w v)
    ∙ sym (mod-pow-add v 1 w) ∙ ap (λ (n : ℕ). v % 2 ^ n) (one-add w)

pub bits-number : (bs : List Bool) → bits (length bs) (number bs) ≡ bs
unfolding number bits
bits-number [] = refl
bits-number (b ∷ bs) =
    ap₂ (λ (x : Bool) (r : List Bool). x ∷ r)
    (ap (λ (x : ℕ). is_one (x % 2)) (high (digit b) (length bs) (number_lt bs)) ∙ is_one-digit b)
    (bits-low (length bs) (digit b) (number_lt bs) ∙ bits-number bs)

pub number_append : (xs bs : List Bool) → number (xs ++ bs) ≡ number xs * 2 ^ length bs + number bs
unfolding number
number_append [] bs = sym (zero-add (number bs)) ∙ ap (λ (n : ℕ). n + number bs) (sym (zero-mul (2 ^ length bs)))
number_append (a ∷ xs) bs =
    ap₂ (λ (x y : ℕ). digit a * x + y) (ap (λ (n : ℕ). 2 ^ n) (length-append xs bs) ∙ pow-add 2 (length xs) (length bs)) (number_append xs bs)
    ∙ ap (λ (x : ℕ). x + (number xs * 2 ^ length bs + number bs)) (sym (mul_assoc (digit a) (2 ^ length xs) (2 ^ length bs)))
    ∙ sym (add_assoc (digit a * 2 ^ length xs * 2 ^ length bs) (number xs * 2 ^ length bs) (number bs))
    ∙ ap (λ (x : ℕ). x + number bs) (sym (add-mul (digit a * 2 ^ length xs) (number xs) (2 ^ length bs)))

-- ---- numbers one after another

pub fields-append : (w : ℕ) (xs ys : List ℕ) → fields w (xs ++ ys) ≡ fields w xs ++ fields w ys
unfolding fields
fields-append w [] ys = refl
fields-append w (x ∷ xs) ys =
    ap (λ (r : List Bool). bits w x ++ r) (fields-append w xs ys) ∙ sym (append_assoc (bits w x) (fields w xs) (fields w ys))

pub fields-one : (w v : ℕ) → fields w (v ∷ []) ≡ bits w v
unfolding fields
fields-one w v = append-nil (bits w v)

pub length_fields : (w : ℕ) (vs : List ℕ) → length (fields w vs) ≡ length vs * w
unfolding fields
length_fields w [] = sym (zero-mul w)
length_fields w (v ∷ vs) =
    length-append (bits w v) (fields w vs) ∙ ap₂ (λ (x y : ℕ). x + y) (length-bits w v) (length_fields w vs)
    ∙ add_comm w (length vs * w) ∙ sym (suc-mul (length vs) w)

pub take-fields : (w k : ℕ) (vs : List ℕ) → k ≤ length vs → take (k * w) (fields w vs) ≡ fields w (take k vs)
take-fields w k vs h =
    ap (λ (z : List ℕ). take (k * w) (fields w z)) (sym (take-append-drop k vs)) ∙ ap (take (k * w)) (fields-append w (take k vs) (drop k vs))
    ∙ take_at (fields w (take k vs)) (fields w (drop k vs)) (k * w) (length_fields w (take k vs) ∙ ap (λ (n : ℕ). n * w) (length-take-le k vs h))

pub drop-fields : (w k : ℕ) (vs : List ℕ) → k ≤ length vs → drop (k * w) (fields w vs) ≡ fields w (drop k vs)
drop-fields w k vs h =
    ap (λ (z : List ℕ). drop (k * w) (fields w z)) (sym (take-append-drop k vs)) ∙ ap (drop (k * w)) (fields-append w (take k vs) (drop k vs))
    ∙ drop_at (fields w (take k vs)) (fields w (drop k vs)) (k * w) (length_fields w (take k vs) ∙ ap (λ (n : ℕ). n * w) (length-take-le k vs h))

-- those up to i, and n more
pub fields-more : (w i n : ℕ) (vs : List ℕ) → fields w (take i vs) ++ fields w (take n (drop i vs)) ≡ fields w (take (i + n) vs)
fields-more w i n vs = sym (ap (fields w) (take-add i n vs) ∙ fields-append w (take i vs) (take n (drop i vs)))

-- one of them
pub fields_at : (w i : ℕ) (vs : List ℕ) → i < length vs → fields w (take 1 (drop i vs)) ≡ bits w (get_or vs i 0)
fields_at w i vs l = ap (λ (z : List ℕ). fields w (take 1 z)) (drop-cons vs i 0 l) ∙ fields-one w (get_or vs i 0)

pub length-split : (w n : ℕ) (bs : List Bool) → length (split w n bs) ≡ n
unfolding split
length-split w zero bs = refl
length-split w (suc n) bs = ap suc (length-split w n (drop w bs))

pub split-lt : (w n : ℕ) (bs : List Bool) (i : ℕ) → get_or (split w n bs) i 0 < 2 ^ w
unfolding split
split-lt w zero bs i = pow_pos w
split-lt w (suc n) bs zero = number-take-lt w bs
split-lt w (suc n) bs (suc i) = split-lt w n (drop w bs) i

-- values cut from bits of which some stand behind the others
pub split-append : (w m n : ℕ) (xs ys : List Bool) → length xs ≡ m * w → split w (m + n) (xs ++ ys) ≡ split w m xs ++ split w n ys
unfolding split
split-append w zero n [] ys e = ap (λ (k : ℕ). split w k ys) (zero-add n)
split-append w zero n (x ∷ xs) ys e = absurd (omega (arith, zero-mul w))
split-append w (suc m) n xs ys e =
    let l : w ≤ length xs = omega (arith, suc-mul m w) in
    let r : length (drop w xs) ≡ m * w = omega (arith, suc-mul m w, length-drop w xs) in
    ap (λ (k : ℕ). split w k (xs ++ ys)) (suc-add m n)
    ∙ ap₂ (λ (x : ℕ) (z : List ℕ). x ∷ z) (ap number (take-append-le w xs ys l))
    (ap (split w (m + n)) (drop-append-le w xs ys l) ∙ split-append w m n (drop w xs) ys r)

-- what was written is read back, with anything after it
pub split-fields : (w : ℕ) (vs : List ℕ) (rest : List Bool) → ((i : ℕ) → get_or vs i 0 < 2 ^ w) → split w (length vs) (fields w vs ++ rest) ≡ vs
unfolding split fields
split-fields w [] rest h = refl
split-fields w (v ∷ vs) rest h =
    ap (split w (suc (length vs))) (append_assoc (bits w v) (fields w vs) rest)
    ∙ ap₂ (λ (x : ℕ) (r : List ℕ). x ∷ r)
    (ap number (take_at (bits w v) (fields w vs ++ rest) w (length-bits w v)) ∙ number-bits w v ∙ mod-eq_of_lt (h 0))
    (ap (split w (length vs)) (drop_at (bits w v) (fields w vs ++ rest) w (length-bits w v)) ∙ split-fields w vs rest (λ i. h (suc i)))

-- what was read is written back
pub fields_split : (w n : ℕ) (bs : List Bool) → n * w ≤ length bs → fields w (split w n bs) ≡ take (n * w) bs
unfolding split fields
fields_split w zero bs h = ap (λ (n : ℕ). take n bs) (sym (zero-mul w))
fields_split w (suc n) bs h =
    let e : suc n * w ≡ w + n * w = omega (arith, suc-mul n w) in
    let l : n * w ≤ length (drop w bs) = omega (arith, length-drop w bs) in
    let m : length (take w bs) ≡ w = length-take-le w bs (omega arith) in
    ap₂ (λ (x y : List Bool). x ++ y)
    (ap (λ (k : ℕ). bits k (number (take w bs))) (sym m) ∙ bits-number (take w bs))
    (fields_split w n (drop w bs) l)
    ∙ sym (take-add w (n * w) bs) ∙ ap (λ (k : ℕ). take k bs) (sym e)

-- ---- each value below a bound, in parts of a list

pub below-nil : (w i : ℕ) → get_or [] i 0 < 2 ^ w
below-nil w i = pow_pos w

pub below-append : (m : ℕ) (xs ys : List ℕ) → ((i : ℕ) → get_or xs i 0 < m) → ((i : ℕ) → get_or ys i 0 < m) → (i : ℕ) → get_or (xs ++ ys) i 0 < m
below-append m [] ys h g i = g i
below-append m (x ∷ xs) ys h g zero = h 0
below-append m (x ∷ xs) ys h g (suc i) = below-append m xs ys (λ j. h (suc j)) g i

pub below-take : (m n : ℕ) (l : List ℕ) → 0 < m → ((i : ℕ) → get_or l i 0 < m) → (i : ℕ) → get_or (take n l) i 0 < m
below-take m zero l z h i = z
below-take m (suc n) [] z h i = z
below-take m (suc n) (x ∷ xs) z h zero = h 0
below-take m (suc n) (x ∷ xs) z h (suc i) = below-take m n xs z (λ j. h (suc j)) i

-- ---- bits as bytes

pub length-padded : (bs : List Bool) → length (padded bs) ≡ length bs + (8 - length bs % 8) % 8
unfolding padded
length-padded bs =
    length-append bs (replicate ((8 - length bs % 8) % 8) false)
    ∙ ap (λ (n : ℕ). length bs + n) (length-replicate ((8 - length bs % 8) % 8) false)

pub length-bytes_of : (bs : List Bool) → length (bytes_of bs) ≡ bytes_for (length bs)
unfolding bytes_of
length-bytes_of bs = length-split 8 (length (padded bs) / 8) (padded bs) ∙ omega (arith, length-padded bs)

pub bytes_of_lt : (bs : List Bool) (i : ℕ) → get_or (bytes_of bs) i 0 < 256
unfolding bytes_of
bytes_of_lt bs i = split-lt 8 (length (padded bs) / 8) (padded bs) i

-- bytes back to bits: the bits, and zeros up to the byte's end
pub bits_of_bytes : (bs : List Bool) → fields 8 (bytes_of bs) ≡ padded bs
unfolding bytes_of
bits_of_bytes bs =
    let e : length (padded bs) / 8 * 8 ≡ length (padded bs) = omega (arith, length-padded bs) in
    fields_split 8 (length (padded bs) / 8) (padded bs) (omega arith) ∙ ap (λ (n : ℕ). take n (padded bs)) e ∙ take-length (padded bs)

-- bytes that say these bits and fewer than eight zeros are the bytes of these bits
pub bytes-unique : (ys : List ℕ) (bs : List Bool) (p : ℕ) → p < 8 → ((i : ℕ) → get_or ys i 0 < 256) → fields 8 ys ≡ bs ++ replicate p false → ys ≡ bytes_of bs
unfolding bytes_of padded
bytes-unique ys bs p h b e =
    let l : length ys * 8 ≡ length bs + p
    = sym (length_fields 8 ys) ∙ ap length e ∙ length-append bs (replicate p false) ∙ ap (λ (n : ℕ). length bs + n) (length-replicate p false) in
    let q : p ≡ (8 - length bs % 8) % 8 = omega arith in
    let s : fields 8 ys ≡ padded bs = e ∙ ap (λ (n : ℕ). bs ++ replicate n false) q in
    let n : length (padded bs) / 8 ≡ length ys = omega (arith, ap length s, length_fields 8 ys) in
    sym (ap₂ (split 8) n (sym s ∙ sym (append-nil (fields 8 ys))) ∙ split-fields 8 ys [] b)

pub bytes-of-bits : (ys : List ℕ) → ((i : ℕ) → get_or ys i 0 < 256) → bytes_of (fields 8 ys) ≡ ys
bytes-of-bits ys b = sym (bytes-unique ys (fields 8 ys) 0 (omega arith) b (sym (append-nil (fields 8 ys))))

-- bits behind whole bytes
pub bytes_of-append : (xs ys : List Bool) → length xs % 8 ≡ 0 → bytes_of (xs ++ ys) ≡ bytes_of xs ++ bytes_of ys
unfolding padded
bytes_of-append xs ys h =
    let p : ℕ = (8 - length ys % 8) % 8 in
    let none : (8 - length xs % 8) % 8 ≡ 0 = omega arith in
    let whole : padded xs ≡ xs = ap (λ (n : ℕ). xs ++ replicate n false) none ∙ append-nil xs in
    let said : fields 8 (bytes_of xs ++ bytes_of ys) ≡ (xs ++ ys) ++ replicate p false
    = fields-append 8 (bytes_of xs) (bytes_of ys) ∙ ap₂ (λ (x y : List Bool). x ++ y) (bits_of_bytes xs ∙ whole) (bits_of_bytes ys)
    ∙ sym (append_assoc xs ys (replicate p false)) in
    sym (bytes-unique (bytes_of xs ++ bytes_of ys) (xs ++ ys) p (omega arith) (below-append 256 (bytes_of xs) (bytes_of ys) (bytes_of_lt xs) (bytes_of_lt ys)) said)

-- whole bytes read at 8 bits each are themselves
pub split-bytes : (n : ℕ) (ys : List ℕ) → n ≤ length ys → ((i : ℕ) → get_or ys i 0 < 256) → split 8 n (fields 8 ys) ≡ take n ys
split-bytes n ys h b =
    let e : length (take n ys) ≡ n = length-take-le n ys h in
    ap (λ (l : List ℕ). split 8 n (fields 8 l)) (sym (take-append-drop n ys))
    ∙ ap (split 8 n) (fields-append 8 (take n ys) (drop n ys))
    ∙ ap (λ (k : ℕ). split 8 k (fields 8 (take n ys) ++ fields 8 (drop n ys))) (sym e)
    ∙ split-fields 8 (take n ys) (fields 8 (drop n ys)) (below-take 256 n ys (omega arith) b)

-- ---- a list with a part replaced

pub length_over : (ys l : List ℕ) → length ys ≤ length l → length (over ys l) ≡ length l
unfolding over
length_over ys l h = omega (arith, length-append ys (drop (length ys) l), length-drop (length ys) l)

pub over_at-zero : (ys l : List ℕ) → over_at 0 ys l ≡ over ys l
unfolding over_at
over_at-zero ys l = refl

pub take-over : (ys l : List ℕ) → take (length ys) (over ys l) ≡ ys
unfolding over
take-over ys l = take-append_seam ys (drop (length ys) l)

pub drop-over : (ys l : List ℕ) → drop (length ys) (over ys l) ≡ drop (length ys) l
unfolding over
drop-over ys l = drop-append_seam ys (drop (length ys) l)

pub take-over_at : (at : ℕ) (ys l : List ℕ) → at ≤ length l → take (at + length ys) (over_at at ys l) ≡ take at l ++ ys
unfolding over_at
take-over_at at ys l h =
    let n : length (take at l) ≡ at = length-take-le at l h in
    ap (λ (k : ℕ). take (k + length ys) (over_at at ys l)) (sym n) ∙ take-append-add (take at l) (over ys (drop at l)) (length ys)
    ∙ ap (λ (z : List ℕ). take at l ++ z) (take-over ys (drop at l))

pub drop-over_at : (at : ℕ) (ys l : List ℕ) → at ≤ length l → drop (at + length ys) (over_at at ys l) ≡ drop (at + length ys) l
unfolding over_at
drop-over_at at ys l h =
    let n : length (take at l) ≡ at = length-take-le at l h in
    ap (λ (k : ℕ). drop (k + length ys) (over_at at ys l)) (sym n) ∙ drop-append-add (take at l) (over ys (drop at l)) (length ys)
    ∙ drop-over ys (drop at l) ∙ drop-drop (length ys) at l

-- a part replaced, and then the part right behind it
pub over_at-append : (at : ℕ) (ys zs l : List ℕ) → at ≤ length l → over_at (at + length ys) zs (over_at at ys l) ≡ over_at at (ys ++ zs) l
unfolding over_at over
over_at-append at ys zs l h =
    let n : at + length ys + length zs ≡ at + length (ys ++ zs) = omega (arith, length-append ys zs) in
    ap₂ (λ (x y : List ℕ). x ++ (zs ++ drop (length zs) y)) (take-over_at at ys l h) (drop-over_at at ys l h)
    ∙ ap (λ (z : List ℕ). (take at l ++ ys) ++ (zs ++ z)) (drop-drop (length zs) (at + length ys) l ∙ ap (λ (k : ℕ). drop k l) n ∙ sym (drop-drop (length (ys ++ zs)) at l))
    ∙ append_assoc (take at l) ys (zs ++ drop (length (ys ++ zs)) (drop at l))
    ∙ ap (λ (z : List ℕ). take at l ++ z) (sym (append_assoc ys zs (drop (length (ys ++ zs)) (drop at l))))

pub over-append : (ys zs l : List ℕ) → over_at (length ys) zs (over ys l) ≡ over (ys ++ zs) l
over-append ys zs l =
    let n : 0 + length ys ≡ length ys = zero-add (length ys) in
    sym (ap₂ (λ (k : ℕ) (z : List ℕ). over_at k zs z) n (over_at-zero ys l)) ∙ over_at-append 0 ys zs l (omega arith) ∙ over_at-zero (ys ++ zs) l

length-over_at : (at : ℕ) (ys l : List ℕ) → at + length ys ≤ length l → length (over_at at ys l) ≡ length l
unfolding over_at
length-over_at at ys l h =
    length-append (take at l) (over ys (drop at l))
    ∙ ap₂ (λ (m n : ℕ). m + n) (length-take-le at l (omega arith)) (length_over ys (drop at l) (omega (arith, length-drop at l)) ∙ length-drop at l)
    ∙ omega arith

-- one element is a part of one
pub set-over_at : (at : ℕ) (l : List ℕ) (v : ℕ) → at < length l → set l at v ≡ over_at at (v ∷ []) l
unfolding over_at over
set-over_at at l v h =
    set_split l at v h ∙ ap (λ (z : List ℕ). take at l ++ v ∷ z) (ap (λ (k : ℕ). drop k l) (sym (add-one at)) ∙ sym (drop-drop 1 at l))

-- a part replaced, and then the element right behind it
pub over_at-next : (at : ℕ) (ys l : List ℕ) (v : ℕ) → at + length ys < length l → set (over_at at ys l) (at + length ys) v ≡ over_at at (ys ++ v ∷ []) l
over_at-next at ys l v h =
    set-over_at (at + length ys) (over_at at ys l) v (omega (arith, length-over_at at ys l (omega arith))) ∙ over_at-append at ys (v ∷ []) l (omega arith)

-- ---- loops that write from the front

-- a turn: the next element at its place
pub paste-next : (ys l out : List ℕ) (i v : ℕ) → out ≡ paste l 0 ys i → i < length ys → i < length l → v ≡ get_or ys i 0 → set out i v ≡ paste l 0 ys (i + 1)
paste-next ys l out i v e h k q =
    ap₂ (λ (xs : List ℕ) (x : ℕ). set xs i x) e q
    ∙ ap (λ (j : ℕ). set (paste l 0 ys i) j (get_or ys i 0)) (sym (zero-add i))
    ∙ paste-suc l 0 ys i 0 (rw zero-add k) h
    ∙ ap (λ (j : ℕ). paste l 0 ys j) (sym (add-one i))
