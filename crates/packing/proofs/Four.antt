-- Four values moved together, at any width up to 16: side by side under a mask, then two and two, then all four. The number is that of
-- their fields. Assumes nothing.
use mathlib.Core.Path.{◌≡◌, refl, sym, ap, ap₂, ◌∙◌, subst}
use mathlib.Core.Bool.{Bool}
use mathlib.Core.List.{List, [], ◌∷◌, ◌++◌}
use Prim.Native.Nat.{ℕ, ◌+◌, ◌-◌, ◌*◌, ◌/◌, ◌%◌, ◌^◌, ◌≤◌, ◌<◌}
use native.Mathlib.Nat.{mod-lt, mod-eq_of_lt, lt_of_lt_of_le, add-mul, mul_comm, mul_assoc}
use native.Mathlib.Omega.{arith}
use lib.Arith.{digits_lt}
use lib.ListN.{length, get_or}
use lib.Bits.{bit_or, bit_and, and_mask, and_block, or_block, or_shifted, or_shifted_r}
use lib.Pow.{pow-add, pow_pos, pow_mono, shl_exact, high, low, ones_lt}
use Rattle.bits.specs.Bits.{bits, number, fields}
use Rattle.packing.specs.Blocks.{four_masks}
use Rattle.bits.proofs.Laws.{length-bits, length_fields, fields-append, fields-one, number_append, number-bits, ones_low}

-- ---- the masks

-- `m * 0x1_0001_0001_0001`
pub masks-four : (w m : ℕ) → w ≤ 16 → m ≡ 65535 % 2 ^ w → m * 0x1_0001_0001_0001 ≡ four_masks w
unfolding four_masks
masks-four w m h e =
    let o : m ≡ 2 ^ w - 1 = e ∙ ones_low 16 w h in
    omega arith

-- ---- two parts of a word

-- `l | (h << k)` at 64 bits
beside : (j k : ℕ) {l h : ℕ} → l < 2 ^ k → h < 2 ^ j → j + k ≤ 64 → bit_or l ((h * 2 ^ k) % 2 ^ 64) ≡ h * 2 ^ k + l
beside j k {l} {h} a b c = ap (bit_or l) (shl_exact j k 64 b c) ∙ or_shifted_r h k l a

-- `(h << k) | l` at 64 bits
before : (j k : ℕ) {l h : ℕ} → l < 2 ^ k → h < 2 ^ j → j + k ≤ 64 → bit_or ((h * 2 ^ k) % 2 ^ 64) l ≡ h * 2 ^ k + l
before j k {l} {h} a b c = ap (λ (x : ℕ). bit_or x l) (shl_exact j k 64 b c) ∙ or_shifted h k l a

-- both parts under a mask of w bits
masked : (w a b : ℕ) → w ≤ 16 → a < 2 ^ 16 → bit_and (b * 2 ^ 16 + a) ((2 ^ w - 1) * 2 ^ 16 + (2 ^ w - 1)) ≡ b % 2 ^ w * 2 ^ 16 + a % 2 ^ w
masked w a b h l =
    and_block 16 b (2 ^ w - 1) a (2 ^ w - 1) l (lt_of_lt_of_le (ones_lt w) (pow_mono h))
    ∙ ap₂ (λ (x y : ℕ). x * 2 ^ 16 + y) (and_mask b w) (and_mask a w)

-- the lower of two parts of 16 bits
lower : (x y : ℕ) → y < 2 ^ 16 → bit_and (x * 2 ^ 16 + y) 0xffff ≡ y
lower x y l = and_mask (x * 2 ^ 16 + y) 16 ∙ low x 16 l

-- ---- four values below 2 ^ w side by side, moved together

-- two and two
abbrev twos : ℕ → ℕ → ℕ
twos w x = bit_or ((bit_and x 0xffff_0000_ffff * 2 ^ w) % 2 ^ 64) (bit_and (x / 2 ^ 16) 0xffff_0000_ffff)

-- all four
abbrev moved : ℕ → ℕ → ℕ
moved w x = bit_or ((bit_and (twos w x) 0xffff_ffff * 2 ^ (2 * w)) % 2 ^ 64) (twos w x / 2 ^ 32)

module _ (w : ℕ) {a b c d : ℕ} (h : w ≤ 16) (la : a < 2 ^ w) (lb : b < 2 ^ w) (lc : c < 2 ^ w) (ld : d < 2 ^ w) where
  wide : {x : ℕ} → x < 2 ^ w → x < 2 ^ 16
  wide l = lt_of_lt_of_le l (pow_mono h)

  -- two values together are 2 w bits
  two-lt : {x y : ℕ} → x < 2 ^ w → y < 2 ^ w → x * 2 ^ w + y < 2 ^ (2 * w)
  two-lt {x} {y} l m =
      let e : w + w ≡ 2 * w = omega arith in
      subst (λ (n : ℕ). x * 2 ^ w + y < n) (sym (pow-add 2 w w) ∙ ap (λ (n : ℕ). 2 ^ n) e) (digits_lt l m)

  two_fits : {x y : ℕ} → x < 2 ^ w → y < 2 ^ w → x * 2 ^ w + y < 2 ^ 32
  two_fits l m =
      let e : 2 * w ≤ 32 = omega arith in
      lt_of_lt_of_le (two-lt l m) (pow_mono e)

  abbrev side : ℕ
  side = (d * 2 ^ 16 + c) * 2 ^ 32 + (b * 2 ^ 16 + a)

  evens : bit_and side 0xffff_0000_ffff ≡ c * 2 ^ 32 + a
  evens =
      let lo : b * 2 ^ 16 + a < 2 ^ 32 = omega (arith, wide la, wide lb) in
      and_block 32 (d * 2 ^ 16 + c) 0xffff (b * 2 ^ 16 + a) 0xffff lo (omega arith)
      ∙ ap₂ (λ (x y : ℕ). x * 2 ^ 32 + y) (lower d c (wide lc)) (lower b a (wide la))

  odds : bit_and (side / 2 ^ 16) 0xffff_0000_ffff ≡ d * 2 ^ 32 + b
  odds =
      let e : side ≡ ((d * 2 ^ 16 + c) * 2 ^ 16 + b) * 2 ^ 16 + a = omega arith in
      let f : (d * 2 ^ 16 + c) * 2 ^ 16 + b ≡ d * 2 ^ 32 + (c * 2 ^ 16 + b) = omega arith in
      let lo : c * 2 ^ 16 + b < 2 ^ 32 = omega (arith, wide lc, wide lb) in
      ap (λ (x : ℕ). bit_and x 0xffff_0000_ffff) (ap (λ (x : ℕ). x / 2 ^ 16) e ∙ high ((d * 2 ^ 16 + c) * 2 ^ 16 + b) 16 (wide la) ∙ f)
      ∙ and_block 32 d 0xffff (c * 2 ^ 16 + b) 0xffff lo (omega arith)
      ∙ ap₂ (λ (x y : ℕ). x * 2 ^ 32 + y) (and_mask d 16 ∙ mod-eq_of_lt (wide ld)) (lower c b (wide lb))

  pairs : twos w side ≡ (c * 2 ^ w + d) * 2 ^ 32 + (a * 2 ^ w + b)
  pairs =
      let e : (c * 2 ^ 32 + a) * 2 ^ w ≡ c * 2 ^ w * 2 ^ 32 + a * 2 ^ w
      = add-mul (c * 2 ^ 32) a (2 ^ w)
      ∙ ap (λ (x : ℕ). x + a * 2 ^ w) (mul_assoc c (2 ^ 32) (2 ^ w) ∙ ap (λ (x : ℕ). c * x) (mul_comm (2 ^ 32) (2 ^ w)) ∙ sym (mul_assoc c (2 ^ w) (2 ^ 32))) in
      let x : c * 2 ^ w < 2 ^ 32 = omega (arith, two_fits lc ld) in
      let y : a * 2 ^ w < 2 ^ 32 = omega (arith, two_fits la lb) in
      let fits : (c * 2 ^ 32 + a) * 2 ^ w < 2 ^ 64 = omega arith in
      let hi : b < 2 ^ 32 = omega (arith, wide lb) in
      ap₂ bit_or (ap (λ (x : ℕ). (x * 2 ^ w) % 2 ^ 64) evens ∙ mod-eq_of_lt fits ∙ e) odds
      ∙ or_block 32 (c * 2 ^ w) d (a * 2 ^ w) b y hi
      ∙ ap₂ (λ (x y : ℕ). x * 2 ^ 32 + y) (or_shifted c w d ld) (or_shifted a w b lb)

  together : moved w side ≡ (a * 2 ^ w + b) * 2 ^ (2 * w) + (c * 2 ^ w + d)
  together =
      let p : ℕ = a * 2 ^ w + b in
      let q : ℕ = c * 2 ^ w + d in
      ap₂ (λ (x y : ℕ). bit_or ((x * 2 ^ (2 * w)) % 2 ^ 64) y)
      (and_mask (twos w side) 32 ∙ ap (λ (x : ℕ). x % 2 ^ 32) pairs ∙ low q 32 (two_fits la lb))
      (ap (λ (x : ℕ). x / 2 ^ 32) pairs ∙ high q 32 (two_fits la lb))
      ∙ before (2 * w) (2 * w) (two-lt lc ld) (two-lt la lb) (omega arith)

-- ---- the number of their fields

two-number : (w a b : ℕ) → number (fields w (a ∷ b ∷ [])) ≡ a % 2 ^ w * 2 ^ w + b % 2 ^ w
two-number w a b =
    ap number (fields-append w (a ∷ []) (b ∷ []) ∙ ap₂ (λ (x y : List Bool). x ++ y) (fields-one w a) (fields-one w b))
    ∙ number_append (bits w a) (bits w b)
    ∙ ap₂ (λ (x y : ℕ). x + y) (ap₂ (λ (x n : ℕ). x * 2 ^ n) (number-bits w a) (length-bits w b)) (number-bits w b)

four-number : (w a b c d : ℕ) → number (fields w (a ∷ b ∷ c ∷ d ∷ [])) ≡ (a % 2 ^ w * 2 ^ w + b % 2 ^ w) * 2 ^ (2 * w) + (c % 2 ^ w * 2 ^ w + d % 2 ^ w)
four-number w a b c d =
    ap number (fields-append w (a ∷ b ∷ []) (c ∷ d ∷ [])) ∙ number_append (fields w (a ∷ b ∷ [])) (fields w (c ∷ d ∷ []))
    ∙ ap₂ (λ (x y : ℕ). x + y) (ap₂ (λ (x n : ℕ). x * 2 ^ n) (two-number w a b) (length_fields w (c ∷ d ∷ []))) (two-number w c d)

-- ---- four elements of a list

-- `l | (h << 32)` of `a | (b << 16)` and `c | (d << 16)`
abbrev besides : ℕ → ℕ → ℕ → ℕ → ℕ
besides a b c d = bit_or (bit_or a ((b * 2 ^ 16) % 2 ^ 64)) ((bit_or c ((d * 2 ^ 16) % 2 ^ 64) * 2 ^ 32) % 2 ^ 64)

-- under the mask they are side by side
side-masked : (w : ℕ) {a b c d : ℕ} → w ≤ 16 → a < 2 ^ 16 → b < 2 ^ 16 → c < 2 ^ 16 → d < 2 ^ 16
    → bit_and (besides a b c d) (four_masks w) ≡ (d % 2 ^ w * 2 ^ 16 + c % 2 ^ w) * 2 ^ 32 + (b % 2 ^ w * 2 ^ 16 + a % 2 ^ w)
unfolding four_masks
side-masked w {a} {b} {c} {d} h la lb lc ld =
    let m : ℕ = 2 ^ w - 1 in
    let lo : b * 2 ^ 16 + a < 2 ^ 32 = omega arith in
    let hi : d * 2 ^ 16 + c < 2 ^ 32 = omega arith in
    let one : m < 2 ^ 16 = lt_of_lt_of_le (ones_lt w) (pow_mono h) in
    let ms : m * 2 ^ 16 + m < 2 ^ 32 = omega arith in
    let e : four_masks w ≡ (m * 2 ^ 16 + m) * 2 ^ 32 + (m * 2 ^ 16 + m) = omega arith in
    ap₂ bit_and
    (ap₂ (λ (x y : ℕ). bit_or x ((y * 2 ^ 32) % 2 ^ 64)) (beside 16 16 la lb (omega arith)) (beside 16 16 lc ld (omega arith)) ∙ beside 32 32 lo hi (omega arith))
    e
    ∙ and_block 32 (d * 2 ^ 16 + c) (m * 2 ^ 16 + m) (b * 2 ^ 16 + a) (m * 2 ^ 16 + m) lo ms
    ∙ ap₂ (λ (x y : ℕ). x * 2 ^ 32 + y) (masked w c d h lc) (masked w a b h la)

four-of : (vs : List ℕ) → length vs ≡ 4 → vs ≡ get_or vs 0 0 ∷ get_or vs 1 0 ∷ get_or vs 2 0 ∷ get_or vs 3 0 ∷ []
four-of [] l = absurd (omega arith)
four-of (a ∷ []) l = absurd (omega arith)
four-of (a ∷ b ∷ []) l = absurd (omega arith)
four-of (a ∷ b ∷ c ∷ []) l = absurd (omega arith)
four-of (a ∷ b ∷ c ∷ d ∷ []) l = refl
four-of (a ∷ b ∷ c ∷ d ∷ e ∷ vs) l = absurd (omega arith)

-- moved together
pub group-number : (w : ℕ) (vs : List ℕ) (mask : ℕ) → w ≤ 16 → mask ≡ four_masks w → length vs ≡ 4 → ((k : ℕ) → get_or vs k 0 < 2 ^ 16)
    → moved w (bit_and (besides (get_or vs 0 0) (get_or vs 1 0) (get_or vs 2 0) (get_or vs 3 0)) mask) ≡ number (fields w vs)
group-number w vs mask h m l b =
    let below : (k : ℕ) → get_or vs k 0 % 2 ^ w < 2 ^ w = λ k. mod-lt (get_or vs k 0) (pow_pos w) in
    ap (moved w) (ap (bit_and (besides (get_or vs 0 0) (get_or vs 1 0) (get_or vs 2 0) (get_or vs 3 0))) m ∙ side-masked w h (b 0) (b 1) (b 2) (b 3))
    ∙ together w h (below 0) (below 1) (below 2) (below 3)
    ∙ sym (ap (λ (z : List ℕ). number (fields w z)) (four-of vs l) ∙ four-number w (get_or vs 0 0) (get_or vs 1 0) (get_or vs 2 0) (get_or vs 3 0))
