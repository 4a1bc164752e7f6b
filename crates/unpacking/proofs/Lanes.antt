-- Four values moved together. The masks and shifts that part a number of four values leave its values side by side, and the stores take
-- them from there. Assumes nothing.
use mathlib.Core.Path.{◌≡◌, refl, sym, ap, ap₂, ◌∙◌}
use mathlib.Core.Bool.{Bool}
use mathlib.Core.List.{List, [], ◌∷◌, ◌++◌}
use Prim.Native.Nat.{ℕ, suc, ◌+◌, ◌-◌, ◌*◌, ◌/◌, ◌%◌, ◌^◌, ◌≤◌, ◌<◌}
use native.Mathlib.Nat.{lt_of_lt_of_le, mod-lt, add_comm}
use native.Mathlib.Omega.{arith}
use lib.Bits.{bit_and, bit_or, and_block, or_block, and_mask, mask_lt, or_shifted_r}
use lib.ListN.{length, get_or, set}
use lib.Pow as pow
use lib.Pow.{pow_pos, pow_mono, ones_lt, shl_exact, shr_lt, shr-shr, high, low, field, mod-mod-pow}
use lib.Seq.{take_all}
use Rattle.bits.specs.Bits.{bits, number, split, over_at}
use Rattle.bits.specs.Words.{side_by_side}
use Rattle.bits.proofs.Laws.{length-bits, bits-add, bits-mod-self, number-bits, length-split, split-append, split-lt, set-over_at, over_at-next}
use Rattle.unpacking.specs.Blocks.{two_masks, apart}

-- ---- the values of a number

-- the values of a number: those of its high part, and then those of its b low bits
split-bits : (w m n a b x : ℕ) → a ≡ m * w → split w (m + n) (bits (a + b) x) ≡ split w m (bits a (x / 2 ^ b)) ++ split w n (bits b x)
split-bits w m n a b x e =
    ap (split w (m + n)) (bits-add a b x) ∙ split-append w m n (bits a (x / 2 ^ b)) (bits b x) (length-bits a (x / 2 ^ b) ∙ e)

split_one : (w x : ℕ) → split w 1 (bits w x) ≡ x % 2 ^ w ∷ []
unfolding split
split_one w x = ap (λ (y : ℕ). y ∷ []) (ap number (take_all w (bits w x) (omega (arith, length-bits w x))) ∙ number-bits w x)

split-two : (w x : ℕ) → split w 2 (bits (2 * w) x) ≡ x / 2 ^ w % 2 ^ w ∷ x % 2 ^ w ∷ []
split-two w x =
    let e : 2 * w ≡ w + w = omega arith in
    ap (λ (k : ℕ). split w 2 (bits k x)) e ∙ split-bits w 1 1 w w x (omega arith) ∙ ap₂ (λ (y z : List ℕ). y ++ z) (split_one w (x / 2 ^ w)) (split_one w x)

split-four : (w x : ℕ)
    → split w 4 (bits (4 * w) x)
    ≡ x / 2 ^ (2 * w) / 2 ^ w % 2 ^ w ∷ x / 2 ^ (2 * w) % 2 ^ w ∷ x % 2 ^ (2 * w) / 2 ^ w % 2 ^ w ∷ x % 2 ^ (2 * w) % 2 ^ w ∷ []
split-four w x =
    let e : 4 * w ≡ 2 * w + 2 * w = omega arith in
    ap (λ (k : ℕ). split w 4 (bits k x)) e ∙ split-bits w 2 2 (2 * w) (2 * w) x refl
    ∙ ap₂ (λ (y z : List ℕ). y ++ z) (split-two w (x / 2 ^ (2 * w))) (ap (split w 2) (sym (bits-mod-self (2 * w) x)) ∙ split-two w (x % 2 ^ (2 * w)))

-- ---- the values side by side

-- the masks keep w bits of each of two numbers, 32 bits apart
two-masked : (w y : ℕ) → w ≤ 32 → bit_and y (two_masks w) ≡ (y / 2 ^ 32 % 2 ^ w) * 2 ^ 32 + y % 2 ^ w
two-masked w y l =
    let m : ℕ = 2 ^ w - 1 in
    let e : m * (2 ^ 32 + 1) ≡ m * 2 ^ 32 + m = omega arith in
    let n : 32 ≡ 32 - w + w = omega arith in
    ap₂ bit_and (sym (pow.split y 32)) e
    ∙ and_block 32 (y / 2 ^ 32) m (y % 2 ^ 32) m (mod-lt y (pow_pos 32)) (lt_of_lt_of_le (ones_lt w) (pow_mono l))
    ∙ ap₂ (λ (a b : ℕ). a * 2 ^ 32 + b) (and_mask (y / 2 ^ 32) w)
    (and_mask (y % 2 ^ 32) w ∙ ap (λ (k : ℕ). y % 2 ^ k % 2 ^ w) n ∙ mod-mod-pow y (32 - w) w)

-- four values, two and two of them 32 bits apart, as the code joins them
joined : {a b c d : ℕ} → a < 2 ^ 16 → b < 2 ^ 16 → c < 2 ^ 16 → d < 2 ^ 16
    → bit_or (c * 2 ^ 32 + a) (((d * 2 ^ 32 + b) * 2 ^ 16) % 2 ^ 64) ≡ side_by_side (a ∷ b ∷ c ∷ d ∷ [])
joined {a} {b} {c} {d} fa fb fc fd =
    let f : d * 2 ^ 32 + b < 2 ^ 48 = omega arith in
    let e : (d * 2 ^ 32 + b) * 2 ^ 16 ≡ d * 2 ^ 16 * 2 ^ 32 + b * 2 ^ 16 = omega arith in
    ap (bit_or (c * 2 ^ 32 + a)) (shl_exact 48 16 64 f (omega arith) ∙ e)
    ∙ or_block 32 c (d * 2 ^ 16) a (b * 2 ^ 16) (omega arith) (omega arith)
    ∙ ap₂ (λ (x y : ℕ). x * 2 ^ 32 + y) (or_shifted_r d 16 c fc) (or_shifted_r b 16 a fa) ∙ omega arith

-- the low bits of two numbers 32 bits apart are those of the lower one
low-pair : (k hi lo : ℕ) → k ≤ 32 → hi < 2 ^ 32 → (lo * 2 ^ 32 + hi) % 2 ^ k ≡ hi % 2 ^ k
low-pair k hi lo l f =
    let n : 32 ≡ 32 - k + k = omega arith in
    sym (ap (λ (j : ℕ). (lo * 2 ^ 32 + hi) % 2 ^ j % 2 ^ k) n ∙ mod-mod-pow (lo * 2 ^ 32 + hi) (32 - k) k) ∙ ap (λ (y : ℕ). y % 2 ^ k) (low lo 32 f)

-- two numbers of two values each, 32 bits apart, parted into one and one
parted : (w hi lo : ℕ) → w ≤ 16 → hi < 2 ^ 32
    → bit_or (bit_and ((lo * 2 ^ 32 + hi) / 2 ^ w) (two_masks w)) ((bit_and (lo * 2 ^ 32 + hi) (two_masks w) * 2 ^ 16) % 2 ^ 64)
    ≡ side_by_side (hi / 2 ^ w % 2 ^ w ∷ hi % 2 ^ w ∷ lo / 2 ^ w % 2 ^ w ∷ lo % 2 ^ w ∷ [])
parted w hi lo l f =
    let p : ℕ = lo * 2 ^ 32 + hi in
    let up : p / 2 ^ w / 2 ^ 32 ≡ lo / 2 ^ w
    = shr-shr p w 32 ∙ ap (λ (k : ℕ). p / 2 ^ k) (add_comm w 32) ∙ sym (shr-shr p 32 w) ∙ ap (λ (y : ℕ). y / 2 ^ w) (high lo 32 f) in
    let down : p / 2 ^ w % 2 ^ w ≡ hi / 2 ^ w % 2 ^ w
    = sym (field p w w) ∙ ap (λ (y : ℕ). y / 2 ^ w) (low-pair (w + w) hi lo (omega arith) f) ∙ field hi w w in
    let fits : (y : ℕ) → y % 2 ^ w < 2 ^ 16 = λ y. lt_of_lt_of_le (mod-lt y (pow_pos w)) (pow_mono l) in
    ap₂ (λ (y z : ℕ). bit_or y ((z * 2 ^ 16) % 2 ^ 64))
    (two-masked w (p / 2 ^ w) (omega arith) ∙ ap₂ (λ (y z : ℕ). (y % 2 ^ w) * 2 ^ 32 + z) up down)
    (two-masked w p (omega arith) ∙ ap₂ (λ (y z : ℕ). (y % 2 ^ w) * 2 ^ 32 + z) (high lo 32 f) (low-pair w hi lo (omega arith) f))
    ∙ joined (fits (hi / 2 ^ w)) (fits hi) (fits (lo / 2 ^ w)) (fits lo)

-- `four_of`
pub four-parted : (w x kept : ℕ) {pairs mask : ℕ} → w ≤ 16 → x < 2 ^ (4 * w) → kept ≡ x % 2 ^ (2 * w) → mask ≡ two_masks w
    → pairs ≡ bit_or (x / 2 ^ (2 * w)) ((kept * 2 ^ 32) % 2 ^ 64)
    → bit_or (bit_and (pairs / 2 ^ w) mask) ((bit_and pairs mask * 2 ^ 16) % 2 ^ 64) ≡ side_by_side (split w 4 (bits (4 * w) x))
four-parted w x kept {pairs} {mask} l f q m p =
    let hi : ℕ = x / 2 ^ (2 * w) in
    let lo : ℕ = x % 2 ^ (2 * w) in
    let e : 4 * w ≡ 2 * w + 2 * w = omega arith in
    let two : 2 ^ (2 * w) ≤ 2 ^ 32 = pow_mono {j = 32} (omega arith) in
    let fhi : hi < 2 ^ 32 = lt_of_lt_of_le (shr_lt (2 * w) (2 * w) (rw e at f)) two in
    let flo : lo < 2 ^ 32 = lt_of_lt_of_le (mod-lt x (pow_pos (2 * w))) two in
    let paired : pairs ≡ lo * 2 ^ 32 + hi
    = p ∙ ap (λ (y : ℕ). bit_or hi ((y * 2 ^ 32) % 2 ^ 64)) q ∙ ap (bit_or hi) (shl_exact 32 32 64 flo (omega arith)) ∙ or_shifted_r lo 32 hi fhi in
    ap₂ (λ (y z : ℕ). bit_or (bit_and (y / 2 ^ w) z) ((bit_and y z * 2 ^ 16) % 2 ^ 64)) paired m ∙ parted w hi lo l fhi ∙ ap side_by_side (sym (split-four w x))

-- values that stand side by side, taken apart
apart-side : (vs : List ℕ) → ((i : ℕ) → get_or vs i 0 < 2 ^ 16) → apart (length vs) (side_by_side vs) ≡ vs
unfolding apart
apart-side [] h = refl
apart-side (v ∷ vs) h =
    ap₂ (λ (x : ℕ) (z : List ℕ). x ∷ z) (low (side_by_side vs) 16 (h 0))
    (ap (apart (length vs)) (high (side_by_side vs) 16 (h 0)) ∙ apart-side vs (λ i. h (suc i)))

pub apart-split : (w n : ℕ) (bs : List Bool) → w ≤ 16 → apart n (side_by_side (split w n bs)) ≡ split w n bs
apart-split w n bs l =
    ap (λ (k : ℕ). apart k (side_by_side (split w n bs))) (sym (length-split w n bs))
    ∙ apart-side (split w n bs) (λ i. lt_of_lt_of_le (split-lt w n bs i) (pow_mono l))

-- ---- the stores

-- `x & 0xffff`
pub masked-lt : (x : ℕ) → bit_and x 65535 < 65536
masked-lt x = mask_lt x 16

-- `set_four`
pub four-set : (l : List ℕ) (i x : ℕ) → i + 4 ≤ length l
    → set (set (set (set l i (bit_and x 65535)) (i + 1) (bit_and (x / 2 ^ 16) 65535)) (i + 2) (bit_and (x / 2 ^ 32) 65535)) (i + 3) (bit_and (x / 2 ^ 48) 65535)
    ≡ over_at i (apart 4 x) l
unfolding apart
four-set l i x h =
    let m : (y : ℕ) → bit_and y 65535 ≡ y % 2 ^ 16 = λ y. and_mask y 16 in
    let a : ℕ = x % 2 ^ 16 in
    let b : ℕ = x / 2 ^ 16 % 2 ^ 16 in
    let c : ℕ = x / 2 ^ 16 / 2 ^ 16 % 2 ^ 16 in
    let d : ℕ = x / 2 ^ 16 / 2 ^ 16 / 2 ^ 16 % 2 ^ 16 in
    let ec : x / 2 ^ 32 ≡ x / 2 ^ 16 / 2 ^ 16 = sym (shr-shr x 16 16) in
    let ed : x / 2 ^ 48 ≡ x / 2 ^ 16 / 2 ^ 16 / 2 ^ 16 = sym (ap (λ (y : ℕ). y / 2 ^ 16) (shr-shr x 16 16) ∙ shr-shr x 32 16) in
    ap₂ (λ (y z : ℕ). set (set (set (set l i y) (i + 1) z) (i + 2) (bit_and (x / 2 ^ 32) 65535)) (i + 3) (bit_and (x / 2 ^ 48) 65535)) (m x) (m (x / 2 ^ 16))
    ∙ ap₂ (λ (y z : ℕ). set (set (set (set l i a) (i + 1) b) (i + 2) y) (i + 3) z) (m (x / 2 ^ 32) ∙ ap (λ (y : ℕ). y % 2 ^ 16) ec)
    (m (x / 2 ^ 48) ∙ ap (λ (y : ℕ). y % 2 ^ 16) ed)
    ∙ ap (λ (z : List ℕ). set (set (set z (i + 1) b) (i + 2) c) (i + 3) d) (set-over_at i l a (omega arith))
    ∙ ap (λ (z : List ℕ). set (set z (i + 2) c) (i + 3) d) (over_at-next i (a ∷ []) l b (omega arith))
    ∙ ap (λ (z : List ℕ). set z (i + 3) d) (over_at-next i (a ∷ b ∷ []) l c (omega arith)) ∙ over_at-next i (a ∷ b ∷ c ∷ []) l d (omega arith)
