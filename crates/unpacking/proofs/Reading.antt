-- The laws of specs/Reading. Bytes that are taken in leave what is ahead as it was; a number that is pulled is the number of the next bits;
-- so the numbers of a run are those that `split` finds ahead. Assumes nothing.
use mathlib.Core.Path.{◌≡◌, refl, sym, ap, ap₂, ◌∙◌, subst}
use mathlib.Core.Bool.{Bool}
use mathlib.Core.List.{List, [], ◌∷◌, ◌++◌, append_assoc, append-nil}
use Prim.Native.Nat.{ℕ, zero, suc, ◌+◌, ◌-◌, ◌*◌, ◌/◌, ◌%◌, ◌^◌, ◌≤◌, ◌<◌}
use native.Mathlib.Nat.{mod-lt, mod-eq_of_lt, lt_of_lt_of_le, zero-mul, one-mul, add-mul, add-sub_of_le}
use native.Mathlib.Numerals.{add-one}
use native.Mathlib.Omega.{arith}
use lib.ListN.{length, get_or, take, drop, length-append, length-drop, drop_of_length-le}
use lib.Seq.{drop-cons, drop_at, drop-drop, take_all, length-take-le}
use lib.Pow.{pow_pos, pow_mono, shl_lt}
use lib.Bits.{bit_or, or_lt}
use Rattle.bits.specs.Bits.{bits, number, fields, split, over_at}
use Rattle.unpacking.specs.Reading.{ahead, from, Pulled, Filled, Loaded}
use Rattle.unpacking.specs.declared.reader.Reader.{Reader}
use Rattle.unpacking.specs.declared.reader.Taken.{Taken}
use Rattle.bits.proofs.Laws.{length-bits, bits-add, bits-mod-self, bits-append, bits-push, below-nil, below-append, take-over_at}
use Rattle.bits.proofs.Laws.{fields-append, fields-one, length_fields, drop-fields, length-split, split-lt, split-fields, fields_split}

-- ---- bytes taken in

pub loaded-one : (src : List ℕ) (at : ℕ) → at < length src → Loaded src at 1 (get_or src at 0)
unfolding fields
loaded-one src at l =
    record { said = ap (λ (n : ℕ). bits 8 (get_or src at 0) ++ fields 8 (drop n src)) (add-one at) ∙ ap (fields 8) (sym (drop-cons src at 0 l)) }

-- `(x << 8 k) | y`, at a number of m + 8 n + 8 k bits: k bytes behind n bytes
pub loaded-more : (m : ℕ) {src : List ℕ} {at n k x y : ℕ} → y < 2 ^ (8 * k) → Loaded src at n x → Loaded src (at + n) k y
    → Loaded src at (n + k) (bit_or ((x * 2 ^ (8 * k)) % 2 ^ (m + 8 * n + 8 * k)) y)
loaded-more m {src} {at} {n} {k} {x} {y} f d e =
    let rest : List Bool = fields 8 (drop (at + n + k) src) in
    let w : 8 * (n + k) ≡ 8 * n + 8 * k = omega arith in
    let s : at + (n + k) ≡ at + n + k = omega arith in
    record {
      said =
          ap₂ (λ (i j : ℕ). bits i (bit_or ((x * 2 ^ (8 * k)) % 2 ^ (m + 8 * n + 8 * k)) y) ++ fields 8 (drop j src)) w s
          ∙ ap (λ (z : List Bool). z ++ rest) (bits-push m (8 * n) (8 * k) x y f) ∙ append_assoc (bits (8 * n) x) (bits (8 * k) y) rest
          ∙ ap (λ (z : List Bool). bits (8 * n) x ++ z) e.said ∙ d.said;
    }

-- a byte behind n bytes, as `from_be_bytes` counts it
pub loaded-byte : {src : List ℕ} {at n x : ℕ} → at + n < length src → get_or src (at + n) 0 < 256 → Loaded src at n x
    → Loaded src at (n + 1) (x * 256 + get_or src (at + n) 0)
loaded-byte {src} {at} {n} {x} l f d =
    let y : ℕ = get_or src (at + n) 0 in
    let w : 8 * (n + 1) ≡ 8 * n + 8 = omega arith in
    let s : at + (n + 1) ≡ at + n + 1 = omega arith in
    record {
      said =
          ap₂ (λ (i j : ℕ). bits i (x * 256 + y) ++ fields 8 (drop j src)) w s
          ∙ ap (λ (z : List Bool). z ++ fields 8 (drop (at + n + 1) src)) (bits-append (8 * n) 8 x y f)
          ∙ append_assoc (bits (8 * n) x) (bits 8 y) (fields 8 (drop (at + n + 1) src))
          ∙ ap (λ (z : List Bool). bits (8 * n) x ++ z) (loaded-one src (at + n) l).said ∙ d.said;
    }

-- `x >> 8 (n - s)`: the first s bytes of n
pub loaded-front : (s : ℕ) {src : List ℕ} {at n x : ℕ} → s ≤ n → at + n ≤ length src → Loaded src at n x → Loaded src at s (x / 2 ^ (8 * (n - s)))
loaded-front s {src} {at} {n} {x} l room d =
    let high : List Bool = bits (8 * s) (x / 2 ^ (8 * (n - s))) in
    let rest : List Bool = bits (8 * (n - s)) x ++ fields 8 (drop (at + n) src) in
    let e : 8 * n ≡ 8 * s + 8 * (n - s) = omega arith in
    let whole : fields 8 (drop at src) ≡ high ++ rest
    = sym d.said ∙ ap (λ (z : List Bool). z ++ fields 8 (drop (at + n) src)) (ap (λ (k : ℕ). bits k x) e ∙ bits-add (8 * s) (8 * (n - s)) x)
    ∙ append_assoc high (bits (8 * (n - s)) x) (fields 8 (drop (at + n) src)) in
    let long : length high ≡ s * 8 = omega (arith, length-bits (8 * s) (x / 2 ^ (8 * (n - s)))) in
    let behind : fields 8 (drop (at + s) src) ≡ rest
    = ap (fields 8) (sym (drop-drop s at src)) ∙ sym (drop-fields 8 s (drop at src) (omega (arith, length-drop at src))) ∙ ap (drop (s * 8)) whole
    ∙ drop_at high rest (s * 8) long in
    record { said = ap (λ (z : List Bool). high ++ z) behind ∙ sym whole }

-- `(acc << 8 n) | x` at 64 bits: n bytes behind the bits that a reader has
pub taken_in : (h acc : ℕ) {src : List ℕ} {at n x : ℕ} → h + 8 * n ≤ 64 → x < 2 ^ (8 * n) → Loaded src at n x
    → ahead src (at + n) (h + 8 * n) (bit_or ((acc * 2 ^ (8 * n)) % 2 ^ 64) x) ≡ ahead src at h acc
unfolding ahead
taken_in h acc {src} {at} {n} {x} l f d =
    let e : 64 ≡ 64 - (h + 8 * n) + h + 8 * n = omega arith in
    ap (λ (z : ℕ). bits (h + 8 * n) (bit_or ((acc * 2 ^ (8 * n)) % 2 ^ z) x) ++ fields 8 (drop (at + n) src)) e
    ∙ ap (λ (z : List Bool). z ++ fields 8 (drop (at + n) src)) (bits-push (64 - (h + 8 * n)) h (8 * n) acc x f)
    ∙ append_assoc (bits h acc) (bits (8 * n) x) (fields 8 (drop (at + n) src)) ∙ ap (λ (z : List Bool). bits h acc ++ z) d.said

-- `acc = (acc << 32) | x` at 64 bits
pub filled-word : (w : ℕ) {src : List ℕ} {p : Reader} {x : ℕ} → p.have < w → w ≤ 32 → p.at + 4 ≤ length src → x < 2 ^ 32 → Loaded src p.at 4 x
    → Filled src p (record { at = p.at + 4; acc = bit_or ((p.acc * 2 ^ 32) % 2 ^ 64) x; have = p.have + 32 }) w
filled-word w {src} {p} {x} h l room f d =
    record { said = taken_in p.have p.acc (omega arith) f d; count = omega arith; enough = omega arith; small = omega arith; within = room }

-- ---- numbers pulled

below_one : (w v : ℕ) → v < 2 ^ w → (i : ℕ) → get_or (v ∷ []) i 0 < 2 ^ w
below_one w v l zero = l
below_one w v l (suc i) = pow_pos w

-- `low_bits(acc >> h, w)` of a reader that has w + h bits
pub pulled-one : (w h : ℕ) {src : List ℕ} {p : Reader} {q : Taken} {v : ℕ} → q.have ≡ w + h → (small : h < 32) → v ≡ q.acc / 2 ^ h % 2 ^ w → Filled src p q w
    → Pulled src p (record { at = q.at; acc = q.acc; have = h; few = small }) w (v ∷ [])
unfolding ahead
pulled-one w h {src} {p} {q} {v} n small e d =
    let rest : List Bool = ahead src q.at h q.acc in
    let low : bits w v ≡ bits w (q.acc / 2 ^ h) = ap (bits w) e ∙ bits-mod-self w (q.acc / 2 ^ h) in
    record {
      said =
          sym d.said ∙ ap (λ (k : ℕ). ahead src q.at k q.acc) n
          ∙ ap (λ (z : List Bool). z ++ fields 8 (drop q.at src)) (bits-add w h q.acc)
          ∙ append_assoc (bits w (q.acc / 2 ^ h)) (bits h q.acc) (fields 8 (drop q.at src))
          ∙ ap (λ (z : List Bool). z ++ rest) (sym (fields-one w v ∙ low));
      below = below_one w v (rw e (mod-lt (q.acc / 2 ^ h) (pow_pos w)));
      count = omega (arith, d.count, one-mul w);
      within = d.within;
    }

-- the high part, and then 32 bits: `(x << 32) | y` at 64 bits
pub pulled-wide : (w : ℕ) {src : List ℕ} {p q r : Reader} {x y : ℕ} → 32 ≤ w → w ≤ 64 → Pulled src p q (w - 32) (x ∷ []) → Pulled src q r 32 (y ∷ [])
    → Pulled src p r w (bit_or ((x * 2 ^ 32) % 2 ^ 64) y ∷ [])
pulled-wide w {src} {p} {q} {r} {x} {y} l m d e =
    let v : ℕ = bit_or ((x * 2 ^ 32) % 2 ^ 64) y in
    let s : List Bool = ahead src r.at r.have r.acc in
    let n : w - 32 + 32 ≡ w = omega arith in
    let z : 64 ≡ 64 - w + (w - 32) + 32 = omega arith in
    let both : bits w v ≡ bits (w - 32) x ++ bits 32 y
    = ap₂ (λ (i j : ℕ). bits i (bit_or ((x * 2 ^ 32) % 2 ^ j) y)) (sym n) z ∙ bits-push (64 - w) (w - 32) 32 x y (e.below 0) in
    let fits : x * 2 ^ 32 < 2 ^ w = subst (λ (i : ℕ). x * 2 ^ 32 < 2 ^ i) n (shl_lt (w - 32) 32 (d.below 0)) in
    let whole : (x * 2 ^ 32) % 2 ^ 64 ≡ x * 2 ^ 32 = mod-eq_of_lt (lt_of_lt_of_le fits (pow_mono m)) in
    let small : y < 2 ^ w = lt_of_lt_of_le (e.below 0) (pow_mono l) in
    record {
      said =
          d.said ∙ ap₂ (λ (i j : List Bool). i ++ j) (fields-one (w - 32) x) (e.said ∙ ap (λ (i : List Bool). i ++ s) (fields-one 32 y))
          ∙ sym (append_assoc (bits (w - 32) x) (bits 32 y) s) ∙ ap (λ (i : List Bool). i ++ s) (sym (fields-one w v ∙ both));
      below = below_one w v (rw whole (or_lt w (x * 2 ^ 32) y fits small));
      count = omega (arith, d.count, e.count, one-mul w, one-mul (w - 32));
      within = e.within;
    }

pub pulled-none : (w : ℕ) {src : List ℕ} {p : Reader} → p.at ≤ length src → Pulled src p p w []
unfolding fields
pulled-none w l = record { said = refl; below = below-nil w; count = omega (arith, zero-mul w); within = l }

-- a run, and then one right behind it
pub pulled-append : {src : List ℕ} {p q r : Reader} {w : ℕ} {vs us : List ℕ} → Pulled src p q w vs → Pulled src q r w us → Pulled src p r w (vs ++ us)
pulled-append {src} {p} {q} {r} {w} {vs} {us} d e =
    let s : List Bool = ahead src r.at r.have r.acc in
    record {
      said =
          d.said ∙ ap (λ (z : List Bool). fields w vs ++ z) e.said ∙ sym (append_assoc (fields w vs) (fields w us) s)
          ∙ ap (λ (z : List Bool). z ++ s) (sym (fields-append w vs us));
      below = below-append (2 ^ w) vs us d.below e.below;
      count = omega (arith, d.count, e.count, ap (λ (n : ℕ). n * w) (length-append vs us), add-mul (length vs) (length us) w);
      within = e.within;
    }

-- a list whose first i numbers were read, with those read next stored behind them
pub pulled-over : (i : ℕ) (vs : List ℕ) {src : List ℕ} {p q r : Reader} {w : ℕ} {us : List ℕ} → i ≤ length vs → Pulled src p q w (take i vs) → Pulled src q r w us
    → Pulled src p r w (take (i + length us) (over_at i us vs))
pulled-over i vs {us = us} h d e = rw (take-over_at i us vs h) (pulled-append d e)

-- `&mut vs[i..]` behind the first i numbers, which were read: it has room, and what is then read into it stands behind them
module _ (i : ℕ) (vs : List ℕ) {src : List ℕ} {p q : Reader} {w : ℕ} (d : Pulled src p q w (take i vs)) where
  pub behind-room : {n : ℕ} → length vs ≡ n → i ≤ n → 8 * p.at + n * w ≤ 8 * length src + p.have
      → 8 * q.at + length (take (length vs - i) (drop i vs)) * w ≤ 8 * length src + q.have
  behind-room {n} e l room =
      let front : length (take i vs) ≡ i = length-take-le i vs (omega arith) in
      let rest : length (take (length vs - i) (drop i vs)) ≡ n - i = length-take-le (length vs - i) (drop i vs) (omega (arith, length-drop i vs)) ∙ omega arith in
      let both : n * w ≡ i * w + (n - i) * w = ap (λ (k : ℕ). k * w) (sym (add-sub_of_le l)) ∙ add-mul i (n - i) w in
      omega (arith, d.count, ap (λ (k : ℕ). k * w) front, ap (λ (k : ℕ). k * w) rest)

  pub pulled-behind : {r : Reader} {us : List ℕ} → Pulled src q r w us → Pulled src p r w (take i vs ++ (us ++ drop (length vs - i) (drop i vs)))
  pulled-behind {us = us} e =
      let none : drop (length vs - i) (drop i vs) ≡ [] = drop_of_length-le (drop i vs) {i = length vs - i} (omega (arith, length-drop i vs)) in
      rw (none, append-nil us) (pulled-append d e)

-- numbers of n w bits, cut into n numbers of w bits each
pub pulled-parts : (n w : ℕ) {src : List ℕ} {p r : Reader} {xs : List ℕ} → Pulled src p r (n * w) xs
    → Pulled src p r w (split w (n * length xs) (fields (n * w) xs))
pulled-parts n w {src} {p} {r} {xs} d =
    let all : List Bool = fields (n * w) xs in
    let e : length all ≡ n * length xs * w = length_fields (n * w) xs ∙ omega arith in
    let same : fields w (split w (n * length xs) all) ≡ all = fields_split w (n * length xs) all (omega arith) ∙ take_all (n * length xs * w) all (omega arith) in
    record {
      said = d.said ∙ ap (λ (z : List Bool). z ++ ahead src r.at r.have r.acc) (sym same);
      below = split-lt w (n * length xs) all;
      count = omega (arith, d.count, ap (λ (k : ℕ). k * w) (length-split w (n * length xs) all));
      within = d.within;
    }

-- the numbers pulled are those of the bits ahead
pub pulled-split : (all : List Bool) {src : List ℕ} {p r : Reader} {w : ℕ} {vs : List ℕ} → Pulled src p r w vs
    → ahead src p.at p.have p.acc ≡ all → vs ≡ split w (length vs) all
pulled-split all {src} {p} {r} {w} {vs} d e =
    sym (ap (split w (length vs)) (sym e ∙ d.said) ∙ split-fields w vs (ahead src r.at r.have r.acc) d.below)

pub from_start : (src : List ℕ) (at acc : ℕ) → ahead src at 0 acc ≡ fields 8 (drop at src)
unfolding ahead bits
from_start src at acc = refl

-- n bytes from `at` on are a number of 8 n bits
pub pulled-bytes : (n : ℕ) {src : List ℕ} {at x : ℕ} → x < 2 ^ (8 * n) → at + n ≤ length src → Loaded src at n x
    → Pulled src (from at) (from (at + n)) (8 * n) (x ∷ [])
pulled-bytes n {src} {at} {x} f room d =
    record {
      said =
          from_start src at 0 ∙ sym d.said
          ∙ ap₂ (λ (y z : List Bool). y ++ z) (sym (fields-one (8 * n) x)) (sym (from_start src (at + n) 0));
      below = below_one (8 * n) x f;
      count = omega (arith, one-mul (8 * n));
      within = room;
    }

-- the number pulled after k bits were pulled from the byte `at` on
pub pulled-number : (at k : ℕ) {src : List ℕ} {q r : Reader} {w u v : ℕ} → at ≤ length src
    → Pulled src (from at) q k (u ∷ []) → Pulled src q r w (v ∷ [])
    → v ≡ number (take w (drop (at * 8 + k) (fields 8 src)))
unfolding split
pulled-number at k {src} {q} {r} {w} {u} {v} l d e =
    let start : drop (at * 8) (fields 8 src) ≡ bits k u ++ ahead src q.at q.have q.acc
    = drop-fields 8 at src l ∙ sym (from_start src at 0) ∙ d.said ∙ ap (λ (z : List Bool). z ++ ahead src q.at q.have q.acc) (fields-one k u) in
    let here : ahead src q.at q.have q.acc ≡ drop (at * 8 + k) (fields 8 src)
    = sym (drop_at (bits k u) (ahead src q.at q.have q.acc) k (length-bits k u)) ∙ ap (drop k) (sym start) ∙ drop-drop k (at * 8) (fields 8 src) in
    ap (λ (z : List ℕ). get_or z 0 0) (pulled-split (drop (at * 8 + k) (fields 8 src)) e here)
