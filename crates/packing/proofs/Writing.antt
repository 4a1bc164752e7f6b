-- The laws of specs/Writing. Bits that are pushed stand behind those that were written; bytes that are stored leave what is written as it
-- was; and runs compose. Assumes nothing.
use mathlib.Core.Path.{◌≡◌, refl, sym, ap, ap₂, ◌∙◌, subst, subst₂}
use mathlib.Core.Bool.{Bool}
use mathlib.Core.List.{List, [], ◌∷◌, ◌++◌, append_assoc, append-nil}
use Prim.Native.Nat.{ℕ, suc, ◌+◌, ◌-◌, ◌*◌, ◌/◌, ◌%◌, ◌^◌, ◌≤◌, ◌<◌}
use native.Mathlib.Nat.{add-zero, mod-lt, add-mul, zero-mul, one-mul}
use native.Mathlib.Omega.{arith}
use lib.ListN.{length, get_or, take, drop, set, length-drop, take-append-drop}
use lib.Seq.{length-take-le, take-suc-set, take-append-add, take_at, drop-append-add, drop_at, drop-drop, drop-set-lt}
use lib.Pow.{pow_pos, shr-shr}
use lib.Bits.{bit_or, bit_and, and_mask}
use Rattle.bits.specs.Bits.{bits, number, fields}
use Rattle.packing.specs.Writing.{written_bits, Pushed, Stored}
use Rattle.packing.specs.declared.writer.Writer.{Writer}
use Rattle.bits.proofs.Groups.{group-bits}
use Rattle.bits.proofs.Laws.{bits-add, bits-mod-self, bits-push, fields-append, fields-one, fields-more, fields_at}

-- ---- one push

-- `acc = (acc << k) | v'` at 64 bits, v' the k low bits of v: k more bits wait
pub push : (out : List ℕ) (at h k acc v v' : ℕ) → h + k ≤ 64 → v' ≡ v % 2 ^ k
    → written_bits out at (h + k) (bit_or ((acc * 2 ^ k) % 2 ^ 64) v') ≡ written_bits out at h acc ++ bits k v
unfolding written_bits
push out at h k acc v v' l f =
    let e : 64 ≡ 64 - (h + k) + h + k = omega arith in
    let small : v' < 2 ^ k = rw f (mod-lt v (pow_pos k)) in
    ap (λ (n : ℕ). fields 8 (take at out) ++ bits (h + k) (bit_or ((acc * 2 ^ k) % 2 ^ n) v')) e
    ∙ ap (λ (r : List Bool). fields 8 (take at out) ++ r) (bits-push (64 - (h + k)) h k acc v' small)
    ∙ sym (append_assoc (fields 8 (take at out)) (bits h acc) (bits k v'))
    ∙ ap (λ (r : List Bool). (fields 8 (take at out) ++ bits h acc) ++ r) (ap (bits k) f ∙ bits-mod-self k v)

-- ---- bytes stored one after another

pub stored-none : (a : List ℕ) (at : ℕ) → Stored a a at 0 []
stored-none a at =
    record { said = ap (λ (n : ℕ). fields 8 (take n a)) (add-zero at) ∙ sym (append-nil (fields 8 (take at a))); rest = refl }

pub bits-byte : (x : ℕ) → bits 8 (bit_and x 255) ≡ bits 8 x
bits-byte x = ap (bits 8) (and_mask x 8) ∙ bits-mod-self 8 x

pub bits-word : (x : ℕ) → bits 32 (bit_and x 0xffff_ffff) ≡ bits 32 x
bits-word x = ap (bits 32) (and_mask x 32) ∙ bits-mod-self 32 x

-- one byte more, of a number whose low 8 bits are v's
pub stored_more : (v x k : ℕ) {a b : List ℕ} {at n : ℕ} {bs : List Bool} → k ≡ at + n → at + n < length b → bits 8 v ≡ bits 8 x → Stored a b at n bs
    → Stored a (set b k v) at (n + 1) (bs ++ bits 8 x)
stored_more v x k {a} {b} {at} {n} {bs} q l f d =
    rw q
    (record {
      said =
          ap (λ (m : ℕ). fields 8 (take m (set b (at + n) v))) e ∙ ap (fields 8) (take-suc-set b (at + n) v l) ∙ fields-append 8 (take (at + n) b) (v ∷ [])
          ∙ ap₂ (λ (y z : List Bool). y ++ z) d.said (fields-one 8 v ∙ f) ∙ append_assoc (fields 8 (take at a)) bs (bits 8 x);
      rest =
          drop-set-lt (at + (n + 1)) b (at + n) v (omega arith) ∙ ap (λ (m : ℕ). drop m b) s ∙ sym (drop-drop 1 (at + n) b) ∙ ap (drop 1) d.rest
          ∙ drop-drop 1 (at + n) a ∙ ap (λ (m : ℕ). drop m a) (sym s);
    })
  where
    e : at + (n + 1) ≡ suc (at + n)
    e = omega arith

    s : at + (n + 1) ≡ at + n + 1
    s = omega arith

bits-four-bytes : (y : ℕ) → bits 8 (y / 2 ^ 24) ++ bits 8 (y / 2 ^ 16) ++ bits 8 (y / 2 ^ 8) ++ bits 8 y ≡ bits 32 y
bits-four-bytes y =
    sym (bits-add 24 8 y
    ∙ ap (λ (z : List Bool). z ++ bits 8 y) (bits-add 16 8 (y / 2 ^ 8)
    ∙ ap (λ (z : List Bool). z ++ bits 8 (y / 2 ^ 8)) (ap (bits 16) (shr-shr y 8 8) ∙ bits-add 8 8 (y / 2 ^ 16)
    ∙ ap (λ (z : ℕ). bits 8 z ++ bits 8 (y / 2 ^ 16)) (shr-shr y 16 8))))

-- the four bytes of a word, as `to_be_bytes` gives them
pub fields-word : (y : ℕ) → fields 8 (y / 2 ^ 24 % 256 ∷ y / 2 ^ 16 % 256 ∷ y / 2 ^ 8 % 256 ∷ y % 256 ∷ []) ≡ bits 32 y
unfolding fields
fields-word y =
    simp append-nil (simp append_assoc at (ap₂ (λ (i j : List Bool). i ++ j)
    (ap₂ (λ (i j : List Bool). i ++ j) (ap₂ (λ (i j : List Bool). i ++ j) (bits-mod-self 8 (y / 2 ^ 24)) (bits-mod-self 8 (y / 2 ^ 16))) (bits-mod-self 8 (y / 2 ^ 8)))
    (bits-mod-self 8 y) ∙ bits-four-bytes y))

pub fields-long : (x : ℕ) → fields 8 (x / 2 ^ 56 % 256 ∷ x / 2 ^ 48 % 256 ∷ x / 2 ^ 40 % 256 ∷ x / 2 ^ 32 % 256
    ∷ x / 2 ^ 24 % 256 ∷ x / 2 ^ 16 % 256 ∷ x / 2 ^ 8 % 256 ∷ x % 256 ∷ []) ≡ bits 64 x
fields-long x =
    let low : List ℕ = x / 2 ^ 24 % 256 ∷ x / 2 ^ 16 % 256 ∷ x / 2 ^ 8 % 256 ∷ x % 256 ∷ [] in
    let a : x / 2 ^ 32 / 2 ^ 24 ≡ x / 2 ^ 56 = shr-shr x 32 24 in
    let b : x / 2 ^ 32 / 2 ^ 16 ≡ x / 2 ^ 48 = shr-shr x 32 16 in
    let c : x / 2 ^ 32 / 2 ^ 8 ≡ x / 2 ^ 40 = shr-shr x 32 8 in
    let high : fields 8 (x / 2 ^ 56 % 256 ∷ x / 2 ^ 48 % 256 ∷ x / 2 ^ 40 % 256 ∷ x / 2 ^ 32 % 256 ∷ []) ≡ bits 32 (x / 2 ^ 32)
    = rw (← a, ← b, ← c) (fields-word (x / 2 ^ 32)) in
    fields-append 8 (x / 2 ^ 56 % 256 ∷ x / 2 ^ 48 % 256 ∷ x / 2 ^ 40 % 256 ∷ x / 2 ^ 32 % 256 ∷ []) low
    ∙ ap₂ (λ (y z : List Bool). y ++ z) high (fields-word x) ∙ sym (bits-add 32 32 x)

-- n bytes copied into `&mut out[at..at + n]`
pub stored-bytes : (out : List ℕ) (at k n : ℕ) (ys : List ℕ) {bs : List Bool} → at + n ≤ length out → length ys ≡ n → k ≡ n → fields 8 ys ≡ bs
    → Stored out (take at out ++ (ys ++ drop k (drop at out))) at n bs
stored-bytes out at k n ys {bs} room long same said =
    let front : length (take at out) ≡ at = length-take-le at out (omega arith) in
    let stop : at + n ≡ length (take at out) + n = omega arith in
    let rest : List ℕ = ys ++ drop k (drop at out) in
    record {
      said =
          ap (λ (j : ℕ). fields 8 (take j (take at out ++ rest))) stop ∙ ap (fields 8) (take-append-add (take at out) rest n)
          ∙ ap (λ (z : List ℕ). fields 8 (take at out ++ z)) (take_at ys (drop k (drop at out)) n long)
          ∙ fields-append 8 (take at out) ys ∙ ap (λ (z : List Bool). fields 8 (take at out) ++ z) said;
      rest =
          ap (λ (j : ℕ). drop j (take at out ++ rest)) stop ∙ drop-append-add (take at out) rest n ∙ drop_at ys (drop k (drop at out)) n long
          ∙ ap (λ (j : ℕ). drop j (drop at out)) same ∙ drop-drop n at out;
    }

-- stored bytes that are m of the waiting bits
pub stored-written_bits : (m h acc : ℕ) {a b : List ℕ} {at n : ℕ} → Stored a b at n (bits m (acc / 2 ^ h)) → written_bits b (at + n) h acc ≡ written_bits a at (m + h) acc
unfolding written_bits
stored-written_bits m h acc {a} {b} {at} {n} d =
    ap (λ (z : List Bool). z ++ bits h acc) d.said ∙ append_assoc (fields 8 (take at a)) (bits m (acc / 2 ^ h)) (bits h acc)
    ∙ ap (λ (z : List Bool). fields 8 (take at a) ++ z) (sym (bits-add m h acc))

-- `out[at] = (acc >> h) & 255`
pub byte-written_bits : (out : List ℕ) (at h acc : ℕ) → at < length out → written_bits (set out at (bit_and (acc / 2 ^ h) 255)) (at + 1) h acc ≡ written_bits out at (8 + h) acc
byte-written_bits out at h acc l =
    let e : at ≡ at + 0 = omega arith in
    stored-written_bits 8 h acc (stored_more (bit_and (acc / 2 ^ h) 255) (acc / 2 ^ h) at e (omega arith) (bits-byte (acc / 2 ^ h)) (stored-none out at))

-- ---- one push, whole: the bits wait, or 32 of them are stored

pub pushed-kept : (v : ℕ) {a : List ℕ} {p : Writer} {k v' : ℕ} (l : p.have + k < 32) → v' ≡ v % 2 ^ k
    → Pushed a a p (record { at = p.at; acc = bit_or ((p.acc * 2 ^ k) % 2 ^ 64) v'; have = p.have + k; few = l }) k (bits k v)
pushed-kept v {a} {p} {k} {v'} l f =
    record {
      said = push a p.at p.have k p.acc v v' (omega arith) f;
      rest = refl;
      forward = omega arith;
      count = omega arith;
    }

pub pushed-stored : (v : ℕ) {a b : List ℕ} {p : Writer} {k v' : ℕ} → 32 ≤ p.have + k → (m : p.have + k - 32 < 32) → v' ≡ v % 2 ^ k
    → Stored a b p.at 4 (bits 32 (bit_or ((p.acc * 2 ^ k) % 2 ^ 64) v' / 2 ^ (p.have + k - 32)))
    → Pushed a b p (record { at = p.at + 4; acc = bit_or ((p.acc * 2 ^ k) % 2 ^ 64) v'; have = p.have + k - 32; few = m }) k (bits k v)
pushed-stored v {a} {b} {p} {k} {v'} l m f d =
    let acc : ℕ = bit_or ((p.acc * 2 ^ k) % 2 ^ 64) v' in
    let e : 32 + (p.have + k - 32) ≡ p.have + k = omega arith in
    record {
      said =
          stored-written_bits 32 (p.have + k - 32) acc d ∙ ap (λ (n : ℕ). written_bits a p.at n acc) e
          ∙ push a p.at p.have k p.acc v v' (omega arith) f;
      rest = d.rest;
      forward = omega arith;
      count = omega arith;
    }

-- ---- two runs of a writer, one after the other
module _ {a b c : List ℕ} {p q r : Writer} {m n : ℕ} {bs cs : List Bool} (d : Pushed a b p q m bs) (e : Pushed b c q r n cs) where
  pub then : Pushed a c p r (m + n) (bs ++ cs)
  then =
      let s : q.at + (r.at - q.at) ≡ r.at = omega (arith, e.forward) in
      let later : drop r.at b ≡ drop r.at a
      = ap (λ (z : ℕ). drop z b) (sym s) ∙ sym (drop-drop (r.at - q.at) q.at b) ∙ ap (drop (r.at - q.at)) d.rest
      ∙ drop-drop (r.at - q.at) q.at a ∙ ap (λ (z : ℕ). drop z a) s in
      record {
        said = e.said ∙ ap (λ (z : List Bool). z ++ cs) d.said ∙ append_assoc (written_bits a p.at p.have p.acc) bs cs;
        rest = e.rest ∙ later;
        forward = omega (arith, d.forward, e.forward);
        count = omega (arith, d.count, e.count);
      }

-- a run of no bits at the end
pub then-none : {a b c : List ℕ} {p q r : Writer} {n : ℕ} {bs : List Bool} → Pushed a b p q n bs → Pushed b c q r 0 [] → Pushed a c p r n bs
then-none {a} {b} {c} {p} {q} {r} {n} {bs} d e = subst₂ (λ (k : ℕ) (z : List Bool). Pushed a c p r k z) (add-zero n) (append-nil bs) (then d e)

-- a number in two parts, the lower of 32 bits
pub then-low : (w v : ℕ) {a b c : List ℕ} {p q r : Writer} → 32 ≤ w → Pushed a b p q (w - 32) (bits (w - 32) (v / 2 ^ 32)) → Pushed b c q r 32 (bits 32 v)
    → Pushed a c p r w (bits w v)
then-low w v {a} {b} {c} {p} {q} {r} h d e =
    let s : w - 32 + 32 ≡ w = omega arith in
    subst₂ (λ (n : ℕ) (z : List Bool). Pushed a c p r n z) s (sym (bits-add (w - 32) 32 v) ∙ ap (λ (n : ℕ). bits n v) s) (then d e)

-- ---- a run over a list of values: none of them yet, one more, all

pub pushed_none : (w : ℕ) {a : List ℕ} {p : Writer} → Pushed a a p p (0 * w) (fields w [])
unfolding fields
pushed_none w {a} {p} =
    record {
      said = sym (append-nil (written_bits a p.at p.have p.acc));
      rest = refl;
      forward = omega arith;
      count = omega (arith, zero-mul w);
    }

-- n more behind i of them
pub pushed_more : (w n : ℕ) (vs : List ℕ) (i : ℕ) {a b c : List ℕ} {p q r : Writer} → Pushed a b p q (i * w) (fields w (take i vs))
    → Pushed b c q r (n * w) (fields w (take n (drop i vs))) → Pushed a c p r ((i + n) * w) (fields w (take (i + n) vs))
pushed_more w n vs i {a} {b} {c} {p} {q} {r} d e =
    subst₂ (λ (k : ℕ) (z : List Bool). Pushed a c p r k z) (sym (add-mul i n w)) (fields-more w i n vs) (then d e)

-- the value i
pub pushed_at : (w : ℕ) (vs : List ℕ) (i : ℕ) {v : ℕ} {a b : List ℕ} {p q : Writer} → i < length vs → v ≡ get_or vs i 0 → Pushed a b p q w (bits w v)
    → Pushed a b p q (1 * w) (fields w (take 1 (drop i vs)))
pushed_at w vs i {v} {a} {b} {p} {q} l e d =
    subst₂ (λ (k : ℕ) (z : List Bool). Pushed a b p q k z) (sym (one-mul w)) (sym (fields_at w i vs l ∙ ap (bits w) (sym e))) d

-- the n values from the value i on, as one number
pub pushed-group : (w n : ℕ) (vs : List ℕ) (i : ℕ) {x : ℕ} {a b : List ℕ} {p q : Writer} → i + n ≤ length vs → x ≡ number (fields w (take n (drop i vs)))
    → Pushed a b p q (n * w) (bits (n * w) x) → Pushed a b p q (n * w) (fields w (take n (drop i vs)))
pushed-group w n vs i {x} {a} {b} {p} {q} l e d =
    let long : length (take n (drop i vs)) ≡ n = length-take-le n (drop i vs) (omega (arith, length-drop i vs)) in
    subst (λ (z : List Bool). Pushed a b p q (n * w) z) (ap (bits (n * w)) e ∙ group-bits n w (take n (drop i vs)) long) d

-- k of them, and then the others: how much room they take, and both
pub rest-room : (w : ℕ) (vs ys : List ℕ) (k : ℕ) → k ≤ length vs → ys ≡ drop k vs → k * w + length ys * w ≡ length vs * w
rest-room w vs ys k h e =
    let long : k + length ys ≡ length vs = omega (arith, ap length e, length-drop k vs) in
    sym (add-mul k (length ys) w) ∙ ap (λ (n : ℕ). n * w) long

pub pushed-rest : (w : ℕ) (vs ys : List ℕ) (k : ℕ) {a b c : List ℕ} {p q r : Writer} → k ≤ length vs → ys ≡ drop k vs → Pushed a b p q (k * w) (fields w (take k vs))
    → Pushed b c q r (length ys * w) (fields w ys) → Pushed a c p r (length vs * w) (fields w vs)
pushed-rest w vs ys k {a} {b} {c} {p} {q} {r} h e d f =
    subst₂ (λ (n : ℕ) (z : List Bool). Pushed a c p r n z) (rest-room w vs ys k h e)
    (sym (fields-append w (take k vs) ys) ∙ ap (fields w) (ap (λ (z : List ℕ). take k vs ++ z) e ∙ take-append-drop k vs)) (then d f)

pub pushed-one : (w v : ℕ) {a b : List ℕ} {p q : Writer} → Pushed a b p q w (bits w v) → Pushed a b p q (1 * w) (fields w (v ∷ []))
pushed-one w v {a} {b} {p} {q} d = subst₂ (λ (n : ℕ) (z : List Bool). Pushed a b p q n z) (sym (one-mul w)) (sym (fields-one w v)) d
