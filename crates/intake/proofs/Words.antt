-- Four states as one word. Under the mask that leaves out the lowest bit of each byte the word is that of twice the halves, so it is 0x02020202
-- exactly where all four states are 2 or 3. Their lowest bits are then brought together by one product: 16 cases, by computation. Pushed one by
-- one into a field, four bits are what they are together. Assumes nothing.
use mathlib.Core.Path.{◌≡◌, refl, sym, ap, ap₂, subst, ◌∙◌}
use mathlib.Core.Bool.{Bool, true, false, ◌&&◌, cond}
use mathlib.Core.List.{List, ◌++◌}
use Prim.Native.Nat.{ℕ, zero, suc, ◌+◌, ◌-◌, ◌*◌, ◌/◌, ◌%◌, ◌^◌, ◌<◌, ◌≤◌}
use native.Mathlib.Nat.{add-zero, mod-eq_of_lt, mod-lt}
use native.Mathlib.Omega.{arith}
use lib.Bits.{bit_and, and_block, and_high}
use lib.Dec.{lit<}
use lib.ListN.{length, get_or, drop, take}
use Rattle.std.proofs.lemmas.List.{get_or-take, length-take-le}
use Rattle.intake.proofs.Passing.{block_within, block_state}
use borrow.Author.Tests.{eqb-true, eq-eqb}
use Rattle.std.specs.Prelude.{Option, Some, None}
use Rattle.std.specs.Option.{unwrap_or}
use Rattle.std.proofs.lemmas.Option.{none-some}
use Rattle.phases.specs.Phases.{pushed}
use Rattle.tables.proofs.Booleans.{and_both}
use Rattle.intake.specs.Intake.{filled}
use Rattle.intake.specs.Words.{word_of, high_state, four_bits}
use Rattle.intake.proofs.Clauses.{filled_on}
use Rattle.intake.proofs.Slices.{pushed-mod}

-- ---- the mask

halves : (a : ℕ) → a < 256 → bit_and a 254 ≡ a / 2 * 2
halves a l = let m : a / 2 < 128 = omega arith in and_high a 7 1 ∙ ap (λ (x : ℕ). x * 2) (mod-eq_of_lt m)

-- the same word, byte by byte from the top
stacked : (a b c d : ℕ) → word_of a b c d ≡ ((d * 2 ^ 8 + c) * 2 ^ 8 + b) * 2 ^ 8 + a
stacked a b c d = omega arith

masked : (a b c d : ℕ) → a < 256 → b < 256 → c < 256 → d < 256
    → bit_and (word_of a b c d) 0xfefefefe ≡ word_of (a / 2 * 2) (b / 2 * 2) (c / 2 * 2) (d / 2 * 2)
masked a b c d la lb lc ld =
    ap (λ (x : ℕ). bit_and x 0xfefefefe) (stacked a b c d)
    ∙ and_block 8 ((d * 2 ^ 8 + c) * 2 ^ 8 + b) 0xfefefe a 254 la (lit< tt)
    ∙ ap₂ (λ (x y : ℕ). x * 2 ^ 8 + y)
    (and_block 8 (d * 2 ^ 8 + c) 0xfefe b 254 lb (lit< tt)
    ∙ ap₂ (λ (x y : ℕ). x * 2 ^ 8 + y) (and_block 8 d 254 c 254 lc (lit< tt) ∙ ap₂ (λ (x y : ℕ). x * 2 ^ 8 + y) (halves d ld) (halves c lc)) (halves b lb))
    (halves a la)
    ∙ sym (stacked (a / 2 * 2) (b / 2 * 2) (c / 2 * 2) (d / 2 * 2))

-- ---- all four at high load

-- two words that are the same have the same lowest byte, and the same rest
byte-same : (x y r s : ℕ) → r < 256 → s < 256 → x * 256 + r ≡ y * 256 + s → (x ≡ y) × (r ≡ s)
byte-same x y r s l m e = (omega arith, omega arith)

-- a byte whose half is 1
pub record Halves (a b c d : ℕ) : Type 0 where
  pub first : a / 2 ≡ 1
  pub second : b / 2 ≡ 1
  pub third : c / 2 ≡ 1
  pub fourth : d / 2 ≡ 1

module _ (a b c d : ℕ) (la : a < 256) (lb : b < 256) (lc : c < 256) (ld : d < 256) where
  pub halves-one : bit_and (word_of a b c d) 0xfefefefe ≡ 0x02020202 → Halves a b c d
  halves-one e =
      let w : word_of (a / 2 * 2) (b / 2 * 2) (c / 2 * 2) (d / 2 * 2) ≡ 0x02020202 = sym (masked a b c d la lb lc ld) ∙ e in
      let s = byte-same ((d / 2 * 2 * 256 + c / 2 * 2) * 256 + b / 2 * 2) 0x020202 (a / 2 * 2) 2 (omega arith) (lit< tt) (omega arith) in
      let t = byte-same (d / 2 * 2 * 256 + c / 2 * 2) 0x0202 (b / 2 * 2) 2 (omega arith) (lit< tt) s.0 in
      let u = byte-same (d / 2 * 2) 2 (c / 2 * 2) 2 (omega arith) (lit< tt) t.0 in
      record { first = omega (arith, s.1); second = omega (arith, t.1); third = omega (arith, u.1); fourth = omega (arith, u.0) }

  pub halves-word : Halves a b c d → bit_and (word_of a b c d) 0xfefefefe ≡ 0x02020202
  halves-word h = masked a b c d la lb lc ld ∙ rw (h.first, h.second, h.third, h.fourth) refl

-- ---- their data bits

bit-case : (P : ℕ → Type 0) → P 0 → P 1 → (n : ℕ) → n < 2 → P n
bit-case P p q zero l = p
bit-case P p q (suc zero) l = q
bit-case P p q (suc (suc n)) l = absurd (omega arith)

abbrev Together : ℕ → ℕ → ℕ → ℕ → Type 0
Together p q r s = word_of p q r s * 0x08040201 / 0x1000000 % 16 ≡ ((p * 2 + q) * 2 + r) * 2 + s

together : (p q r s : ℕ) → p < 2 → q < 2 → r < 2 → s < 2 → Together p q r s
together p q r s lp lq lr ls =
    bit-case (λ p. Together p q r s)
    (bit-case (λ q. Together 0 q r s) (bit-case (λ r. Together 0 0 r s) (bit-case (Together 0 0 0) refl refl s ls) (bit-case (Together 0 0 1) refl refl s ls) r lr)
    (bit-case (λ r. Together 0 1 r s) (bit-case (Together 0 1 0) refl refl s ls) (bit-case (Together 0 1 1) refl refl s ls) r lr) q lq)
    (bit-case (λ q. Together 1 q r s) (bit-case (λ r. Together 1 0 r s) (bit-case (Together 1 0 0) refl refl s ls) (bit-case (Together 1 0 1) refl refl s ls) r lr)
    (bit-case (λ r. Together 1 1 r s) (bit-case (Together 1 1 0) refl refl s ls) (bit-case (Together 1 1 1) refl refl s ls) r lr) q lq) p lp

pub four-high : (a b c d : ℕ) → Halves a b c d → four_bits a b c d ≡ Some ((word_of a b c d - 0x02020202) * 0x08040201 / 0x1000000 % 16)
unfolding four_bits
four-high a b c d h =
    let e : word_of a b c d - 0x02020202 ≡ word_of (a % 2) (b % 2) (c % 2) (d % 2) = omega (arith, h.first, h.second, h.third, h.fourth) in
    rw (eq-eqb (a / 2) 1 h.first, eq-eqb (b / 2) 1 h.second, eq-eqb (c / 2) 1 h.third, eq-eqb (d / 2) 1 h.fourth)
    (ap Some (sym (ap (λ (x : ℕ). x * 0x08040201 / 0x1000000 % 16) e
    ∙ together (a % 2) (b % 2) (c % 2) (d % 2) (mod-lt a (lit< tt)) (mod-lt b (lit< tt)) (mod-lt c (lit< tt)) (mod-lt d (lit< tt)))))

-- what bits say, and what none say
all-high : (a b c d : ℕ) → (high_state a && (high_state b && (high_state c && high_state d))) ≡ true → Halves a b c d
all-high a b c d e =
    let s = and_both (high_state a) (high_state b && (high_state c && high_state d)) e in
    let t = and_both (high_state b) (high_state c && high_state d) s.1 in
    let u = and_both (high_state c) (high_state d) t.1 in
    record { first = eqb-true (a / 2) 1 s.0; second = eqb-true (b / 2) 1 t.0; third = eqb-true (c / 2) 1 u.0; fourth = eqb-true (d / 2) 1 u.1 }

pub four-other : (a b c d : ℕ) → (Halves a b c d → ⊥) → four_bits a b c d ≡ None
unfolding four_bits
four-other a b c d other = go (high_state a && (high_state b && (high_state c && high_state d))) refl where
  go : (t : Bool) → (high_state a && (high_state b && (high_state c && high_state d))) ≡ t
      → cond t (Some (((a % 2 * 2 + b % 2) * 2 + c % 2) * 2 + d % 2)) None ≡ None
  go true e = absurd (other (all-high a b c d e))
  go false e = refl

pub four-told : (a b c d n : ℕ) → four_bits a b c d ≡ Some n → Halves a b c d × (n ≡ ((a % 2 * 2 + b % 2) * 2 + c % 2) * 2 + d % 2)
unfolding four_bits
four-told a b c d n = go (high_state a && (high_state b && (high_state c && high_state d))) refl where
  bits : ℕ
  bits = ((a % 2 * 2 + b % 2) * 2 + c % 2) * 2 + d % 2

  go : (t : Bool) → (high_state a && (high_state b && (high_state c && high_state d))) ≡ t → cond t (Some bits) None ≡ Some n
      → Halves a b c d × (n ≡ bits)
  go true e l = (all-high a b c d e, sym (ap (λ (o : Option ℕ). unwrap_or o 0) l))
  go false e l = absurd (none-some n l)

-- ---- a field takes four bits together

pushed-four : (v p q r s m : ℕ) → pushed (pushed (pushed (pushed v p m) q m) r m) s m ≡ (v * 16 + (((p * 2 + q) * 2 + r) * 2 + s)) % m
pushed-four v p q r s m =
    let e : (((v * 2 + p) * 2 + q) * 2 + r) * 2 + s ≡ v * 16 + (((p * 2 + q) * 2 + r) * 2 + s) = omega arith in
    ap (λ (x : ℕ). pushed (pushed x r m) s m) (pushed-mod (v * 2 + p) q m)
    ∙ ap (λ (x : ℕ). pushed x s m) (pushed-mod ((v * 2 + p) * 2 + q) r m)
    ∙ pushed-mod (((v * 2 + p) * 2 + q) * 2 + r) s m
    ∙ ap (λ (x : ℕ). x % m) e

pub filled-four : (v b : ℕ) (ss : List ℕ) (i n : ℕ) → i + 4 ≤ length ss
    → four_bits (get_or ss (i + 0) 0) (get_or ss (i + 1) 0) (get_or ss (i + 2) 0) (get_or ss (i + 3) 0) ≡ Some n
    → filled v (suc (suc (suc (suc b)))) (drop i ss) i ≡ filled ((v * 16 + n) % 65536) b (drop (i + 4) ss) (i + 4)
filled-four v b ss i n h e =
    let a : ℕ → ℕ = λ k. get_or ss k 0 in
    let t = four-told (a i) (a (i + 1)) (a (i + 2)) (a (i + 3)) n (subst (λ (k : ℕ). four_bits (a k) (a (i + 1)) (a (i + 2)) (a (i + 3)) ≡ Some n) (add-zero i) e) in
    let w = t.0 in
    let p : ℕ → ℕ = λ k. a k % 2 in
    let x : ℕ = pushed v (p i) 65536 in
    let y : ℕ = pushed x (p (i + 1)) 65536 in
    let z : ℕ = pushed y (p (i + 2)) 65536 in
    let two : i + 1 + 1 ≡ i + 2 = omega arith in
    let three : i + 2 + 1 ≡ i + 3 = omega arith in
    let four : i + 3 + 1 ≡ i + 4 = omega arith in
    filled_on v (suc (suc (suc b))) ss i (omega arith) (omega (arith, w.first))
    ∙ filled_on x (suc (suc b)) ss (i + 1) (omega arith) (omega (arith, w.second))
    ∙ ap (λ (k : ℕ). filled y (suc (suc b)) (drop k ss) k) two
    ∙ filled_on y (suc b) ss (i + 2) (omega arith) (omega (arith, w.third))
    ∙ ap (λ (k : ℕ). filled z (suc b) (drop k ss) k) three
    ∙ filled_on z b ss (i + 3) (omega arith) (omega (arith, w.fourth))
    ∙ ap (λ (k : ℕ). filled (pushed z (p (i + 3)) 65536) b (drop k ss) k) four
    ∙ ap (λ (u : ℕ). filled u b (drop (i + 4) ss) (i + 4)) (pushed-four v (p i) (p (i + 1)) (p (i + 2)) (p (i + 3)) 65536 ∙ ap (λ (u : ℕ). (v * 16 + u) % 65536) (sym t.1))

-- four states of a slice that is taken four by four
pub filled-next-four : (v end : ℕ) (ss four rest : List ℕ) (i n : ℕ) → drop i (take end ss) ≡ four ++ rest → length four ≡ 4 → i ≤ end → end ≤ length ss
    → four_bits (get_or four 0 0) (get_or four 1 0) (get_or four 2 0) (get_or four 3 0) ≡ Some n
    → (i + 4 ≤ end) × (filled v (end - i) (drop i ss) i ≡ filled ((v * 16 + n) % 65536) (end - (i + 4)) (drop (i + 4) ss) (i + 4))
filled-next-four v end ss four rest i n e l h b f = (
  within,
  ap (λ (m : ℕ). filled v m (drop i ss) i) left
      ∙ filled-four v (end - (i + 4)) ss i n (omega (arith, within, b)) (rw (at 0 (lit< tt), at 1 (lit< tt), at 2 (lit< tt), at 3 (lit< tt)) f),
)
  where
    within : i + 4 ≤ end
    within = omega (arith, block_within (take end ss) four rest i 4 e l 3 (lit< tt), length-take-le end ss b)

    left : end - i ≡ suc (suc (suc (suc (end - (i + 4)))))
    left = omega (arith, within)

    at : (j : ℕ) → j < 4 → get_or ss (i + j) 0 ≡ get_or four j 0
    at j m = sym (get_or-take end ss (i + j) 0 (omega (arith, within))) ∙ block_state (take end ss) four rest i 4 e l j m
