-- Groups of four values, read one by one and by blocks. A group's number is cut into its values; the words of a block hold the next groups'
-- numbers in their high bits; and the values of the words are stored one group behind the other. Assumes nothing.
use mathlib.Core.Path.{◌≡◌, sym, ap, ap₂, ◌∙◌, subst}
use mathlib.Core.List.{List, [], ◌∷◌, ◌++◌}
use Prim.Native.Nat.{ℕ, ◌+◌, ◌-◌, ◌*◌, ◌/◌, ◌%◌, ◌^◌, ◌≤◌, ◌<◌}
use native.Mathlib.Nat.{add-zero, zero-mul, mod-le, lt_of_le_of_lt, lt_of_lt_of_le}
use native.Mathlib.Numerals.{add-one}
use native.Mathlib.Omega.{arith}
use lib.ListN.{length, get_or, set, take, length-append, length-set, take-append-drop}
use lib.Bits.{bit_or, or_lt}
use lib.Pow.{pow_mono, shl_lt, shr_lt}
use lib.Seq.{take-suc, take-suc-set, length-take-le}
use Rattle.bits.specs.Bits.{bits, fields, split, over, over_at}
use Rattle.bits.specs.Words.{high_bits, side_by_side}
use Rattle.bits.proofs.Groups.{length-high_bits, high_bits-append, high_bits-one}
use Rattle.bits.proofs.Laws.{fields-append, fields-one, length_fields, length-split, split-append, over_at-append}
use Rattle.unpacking.specs.Reading.{from, Pulled, Loaded}
use Rattle.unpacking.specs.Blocks.{apart, group_values}
use Rattle.unpacking.specs.declared.reader.Reader.{Reader}
use Rattle.unpacking.proofs.Reading.{loaded-more, loaded-front, pulled-none, pulled-append, pulled-over, pulled-parts, pulled-bytes}
use Rattle.unpacking.proofs.Lanes.{apart-split}

-- ---- one group

-- a group's number read, and its values stored behind those read before
pub four-read : (w i x : ℕ) (values : List ℕ) {src : List ℕ} {p q r : Reader} {after : List ℕ} {four : ℕ} → w ≤ 16 → i ≤ length values
    → Pulled src p q w (take i values) → Pulled src q r (4 * w) (x ∷ []) → four ≡ side_by_side (split w 4 (bits (4 * w) x))
    → after ≡ over_at i (apart 4 four) values → Pulled src p r w (take (i + 4) after)
four-read w i x values {src} {p} {q} {r} {after} {four} l h d e f s =
    let vs : List ℕ = split w 4 (bits (4 * w) x) in
    let parts : Pulled src q r w vs = rw fields-one at (pulled-parts 4 w e) in
    let stored : after ≡ over_at i vs values = s ∙ ap (λ (z : List ℕ). over_at i z values) (ap (apart 4) f ∙ apart-split w 4 (bits (4 * w) x) l) in
    rw stored (rw (length-split w 4 (bits (4 * w) x)) at (pulled-over i values h d parts))

-- a group of s bytes, of which the first four and the last four are loaded: `((a >> (64 - n)) << 32) | b`
pub ends_read : (s n : ℕ) {src : List ℕ} {at last a b : ℕ} → 4 ≤ s → s ≤ 8 → n ≡ 8 * s → at + s ≤ length src → last ≡ at + s - 4 → a < 2 ^ 32 → b < 2 ^ 32
    → Loaded src at 4 a → Loaded src last 4 b → Pulled src (from at) (from (at + s)) n (bit_or ((a / 2 ^ (64 - n) * 2 ^ 32) % 2 ^ 64) b ∷ [])
ends_read s n {src} {at} {last} {a} {b} h l e room q fa fb d f = rw e (rw (← k) (pulled-bytes s fits room whole)) where
  k : 8 * (4 - (s - 4)) ≡ 64 - 8 * s
  k = omega arith

  x : ℕ
  x = a / 2 ^ (8 * (4 - (s - 4)))

  front : Loaded src at (s - 4) x
  front = loaded-front (s - 4) (omega arith) (omega arith) d

  whole : Loaded src at s (bit_or ((x * 2 ^ 32) % 2 ^ 64) b)
  whole =
      let m : 64 - 8 * s + 8 * (s - 4) + 8 * 4 ≡ 64 = omega arith in
      let n : s - 4 + 4 ≡ s = omega arith in
      let g : last ≡ at + (s - 4) = omega arith in
      rw (n, m) at (loaded-more (64 - 8 * s) fb front (rw g at f))

  fits : bit_or ((x * 2 ^ 32) % 2 ^ 64) b < 2 ^ (8 * s)
  fits =
      let w : 32 ≡ 8 * (s - 4) + 8 * (4 - (s - 4)) = omega arith in
      let t : 8 * (s - 4) + 32 ≡ 8 * s = omega arith in
      let high : x < 2 ^ (8 * (s - 4)) = shr_lt (8 * (s - 4)) (8 * (4 - (s - 4))) (subst (λ (j : ℕ). a < 2 ^ j) w fa) in
      let up : x * 2 ^ 32 < 2 ^ (8 * s) = subst (λ (j : ℕ). x * 2 ^ 32 < 2 ^ j) t (shl_lt (8 * (s - 4)) 32 high) in
      or_lt (8 * s) ((x * 2 ^ 32) % 2 ^ 64) b (lt_of_le_of_lt (mod-le (x * 2 ^ 32) (2 ^ 64)) up) (lt_of_lt_of_le fb (pow_mono {i = 32} {j = 8 * s} (omega arith)))

-- ---- the words of a block

-- the n high bits of a word are a number of n bits
pub high_lt : (n : ℕ) {x : ℕ} → n ≤ 64 → x < 2 ^ 64 → x / 2 ^ (64 - n) < 2 ^ n
high_lt n {x} l f =
    let e : 64 ≡ n + (64 - n) = omega arith in
    shr_lt n (64 - n) (rw (← e) f)

-- the high bits of eight bytes, for n bits that are s bytes
word_read : (s n : ℕ) {src : List ℕ} {at x : ℕ} → s ≤ 8 → n ≡ 8 * s → at + 8 ≤ length src → x < 2 ^ 64 → Loaded src at 8 x
    → Pulled src (from at) (from (at + s)) n (high_bits n (x ∷ []))
word_read s n {src} {at} {x} l e room f d =
    let k : 64 - n ≡ 8 * (8 - s) = omega arith in
    let fits : x / 2 ^ (8 * (8 - s)) < 2 ^ (8 * s) = rw (k, e) at (high_lt n (omega arith) f) in
    rw (high_bits-one, k, e) (pulled-bytes s fits (omega arith) (loaded-front s l room d))

-- of k words j are loaded, s bytes apart, and their n high bits are the numbers from the byte `first` on
pub record Staged (src : List ℕ) (first s n k : ℕ) (words : List ℕ) (j : ℕ) : Type 0 where
  pub read : Pulled src (from first) (from (first + j * s)) n (high_bits n (take j words))
  pub long : length words ≡ k

pub staged-none : (first s n : ℕ) {k : ℕ} {src words : List ℕ} → first ≤ length src → length words ≡ k → Staged src first s n k words 0
unfolding high_bits
staged-none first s n l long = record { read = rw (zero-mul, add-zero) (pulled-none n l); long = long }

pub staged-more : (j : ℕ) {src words : List ℕ} {first s n k at x i : ℕ} → s ≤ 8 → n ≡ 8 * s → at ≡ first + j * s → i ≡ j + 1 → at + 8 ≤ length src
    → x < 2 ^ 64 → j < k → Loaded src at 8 x → Staged src first s n k words j → Staged src first s n k (set words j x) i
staged-more j {src} {words} {first} {s} {n} {k} {at} {x} {i} l e here q room f h d t =
    let next : first + i * s ≡ first + j * s + s = ap (λ (m : ℕ). first + m * s) q ∙ omega arith in
    let more : high_bits n (take i (set words j x)) ≡ high_bits n (take j words) ++ high_bits n (x ∷ [])
    = ap (λ (m : ℕ). high_bits n (take m (set words j x))) (q ∙ add-one j) ∙ ap (high_bits n) (take-suc-set words j x (omega arith))
    ∙ high_bits-append n (take j words) (x ∷ []) in
    let before : Pulled src (from first) (from at) n (high_bits n (take j words)) = rw here t.read in
    record { read = rw (next, more, ← here) (pulled-append before (word_read s n l e room f d)); long = length-set words j x ∙ t.long }

-- the words' values stored behind those read before
pub words-read : (w i : ℕ) (words values : List ℕ) {src : List ℕ} {p q r : Reader} {after : List ℕ} → i ≤ length values
    → Pulled src p q w (take i values) → Pulled src q r (4 * w) (high_bits (4 * w) words) → after ≡ over_at i (group_values w words) values
    → Pulled src p r w (take (i + 4 * length words) after)
words-read w i words values {src} {p} {q} {r} h d e s =
    let parts : Pulled src q r w (group_values w words) = rw length-high_bits at (pulled-parts 4 w e) in
    rw s (rw (length-split w (4 * length words) (fields (4 * w) (high_bits (4 * w) words))) at (pulled-over i values h d parts))

-- ---- their values stored

group_values-append : (w : ℕ) (xs ys : List ℕ) → group_values w (xs ++ ys) ≡ group_values w xs ++ group_values w ys
group_values-append w xs ys =
    let e : 4 * length (xs ++ ys) ≡ 4 * length xs + 4 * length ys = omega (arith, length-append xs ys) in
    let long : length (fields (4 * w) (high_bits (4 * w) xs)) ≡ 4 * length xs * w
    = length_fields (4 * w) (high_bits (4 * w) xs) ∙ ap (λ (k : ℕ). k * (4 * w)) (length-high_bits (4 * w) xs) ∙ omega arith in
    ap₂ (split w) e (ap (fields (4 * w)) (high_bits-append (4 * w) xs ys) ∙ fields-append (4 * w) (high_bits (4 * w) xs) (high_bits (4 * w) ys))
    ∙ split-append w (4 * length xs) (4 * length ys) (fields (4 * w) (high_bits (4 * w) xs)) (fields (4 * w) (high_bits (4 * w) ys)) long

group_values-one : (w x : ℕ) → group_values w (x ∷ []) ≡ split w 4 (bits (4 * w) (x / 2 ^ (64 - 4 * w)))
group_values-one w x = ap (split w 4) (ap (fields (4 * w)) (high_bits-one (4 * w) x) ∙ fields-one (4 * w) (x / 2 ^ (64 - 4 * w)))

pub spread_none : (w first : ℕ) (before : List ℕ) → before ≡ over_at first (group_values w []) before
unfolding over_at over split
spread_none w first before = sym (take-append-drop first before)

-- the next word's four values behind those of the words before
pub spread-more : (w first j : ℕ) (words before : List ℕ) {values after : List ℕ} {four : ℕ} → w ≤ 16 → first ≤ length before → j < length words
    → values ≡ over_at first (group_values w (take j words)) before
    → four ≡ side_by_side (split w 4 (bits (4 * w) (get_or words j 0 / 2 ^ (64 - 4 * w))))
    → after ≡ over_at (first + 4 * j) (apart 4 four) values → after ≡ over_at first (group_values w (take (j + 1) words)) before
spread-more w first j words before {values} {after} {four} l h t v f s =
    let x : ℕ = get_or words j 0 in
    let done : List ℕ = group_values w (take j words) in
    let long : 4 * j ≡ length done
    = ap (λ (k : ℕ). 4 * k) (sym (length-take-le j words (omega arith)))
    ∙ sym (length-split w (4 * length (take j words)) (fields (4 * w) (high_bits (4 * w) (take j words)))) in
    let new : apart 4 four ≡ group_values w (x ∷ [])
    = ap (apart 4) f ∙ apart-split w 4 (bits (4 * w) (x / 2 ^ (64 - 4 * w))) l ∙ sym (group_values-one w x) in
    let more : group_values w (take (j + 1) words) ≡ done ++ group_values w (x ∷ [])
    = ap (λ (k : ℕ). group_values w (take k words)) (add-one j) ∙ ap (group_values w) (take-suc words j 0 t) ∙ group_values-append w (take j words) (x ∷ []) in
    s ∙ ap₂ (λ (k : ℕ) (z : List ℕ). over_at (first + k) z values) long new ∙ ap (over_at (first + length done) (group_values w (x ∷ []))) v
    ∙ over_at-append first done (group_values w (x ∷ [])) before h ∙ ap (λ (z : List ℕ). over_at first z before) (sym more)
