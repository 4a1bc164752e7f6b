-- Bits as a record keeps them: after a leading one, while the command or the count comes in, and in the fields of a slice that is coming
-- in. One more bit is pushed in at the low end. For any width. Assumes nothing.
use mathlib.Core.Path.{◌≡◌, refl, sym, ap, ◌∙◌}
use mathlib.Core.Bool.{Bool, true, false, cond}
use mathlib.Core.List.{List, [], ◌∷◌, ◌++◌, map, append-nil, append_assoc}
use Prim.Native.Nat.{ℕ, zero, suc, ◌+◌, ◌-◌, ◌*◌, ◌/◌, ◌%◌, ◌^◌, ◌≤◌, ◌<◌}
use native.Mathlib.Nat.{pow-succ', suc-mul, div-eq_of_lt, div-eq-sub-div}
use native.Mathlib.Numerals.{add-one}
use native.Mathlib.Omega.{arith}
use lib.Dec.{eqb, ltb}
use lib.Pow.{pow_mono}
use lib.ListN.{length, take, get_or, set, length-append}
use lib.Seq.{take_at, drop_at}
use borrow.Author.Tests.{ltb-true, ltb-false, lt-ltb, le-ltb}
use Rattle.bits.specs.Bits.{is_one, digit, bits, number, split}
use Rattle.bits.proofs.Laws.{length-bits, bits-add, bits-mod, number-bits, number_append}
use Rattle.phases.specs.Phases.{pushed}
use Rattle.link.specs.View.{rest, gotten}

-- ---- a bit at the low end

pub digit-bit : (m : ℕ) → m < 2 → digit (eqb m 1) ≡ m
digit-bit zero h = refl
digit-bit (suc zero) h = refl
digit-bit (suc (suc m)) h = absurd (omega arith)

one_bit : (m : ℕ) → m < 2 → is_one m ≡ eqb m 1
one_bit zero h = refl
one_bit (suc zero) h = refl
one_bit (suc (suc m)) h = absurd (omega arith)

bits-one : (n : ℕ) → bits 1 n ≡ eqb (n % 2) 1 ∷ []
unfolding bits
bits-one n =
    let e : n / 2 ^ 0 % 2 ≡ n % 2 = omega arith in
    ap (λ (m : ℕ). is_one m ∷ []) e ∙ ap (λ (b : Bool). b ∷ []) (one_bit (n % 2) (omega arith))

bits-last : (e n : ℕ) → bits (suc e) n ≡ bits e (n / 2) ++ eqb (n % 2) 1 ∷ []
bits-last e n =
    ap (λ (k : ℕ). bits k n) (sym (add-one e)) ∙ bits-add e 1 n ∙ ap (λ (r : List Bool). bits e (n / 2) ++ r) (bits-one n)

bits-push : (e w v b : ℕ) → e < w → b < 2 → bits (suc e) (pushed v b (2 ^ w)) ≡ bits e v ++ eqb b 1 ∷ []
bits-push e w v b h k =
    let j : w ≡ w - suc e + suc e = omega arith in
    let q : (v * 2 + b) / 2 ≡ v = omega arith in
    let m : (v * 2 + b) % 2 ≡ b = omega arith in
    ap (λ (n : ℕ). bits (suc e) ((v * 2 + b) % 2 ^ n)) j ∙ bits-mod (suc e) (w - suc e) (v * 2 + b) ∙ bits-last e (v * 2 + b) ∙ rw (q, m)

pub number-last : (xs : List Bool) (b : Bool) → number (xs ++ b ∷ []) ≡ number xs * 2 + digit b
unfolding number
number-last xs b = number_append xs (b ∷ []) ∙ omega arith

pub pow-back : (i j : ℕ) → 2 ^ i < 2 ^ j → i < j
pow-back i j h = go (ltb i j) refl
  where
    go : (t : Bool) → ltb i j ≡ t → i < j
    go true e = ltb-true i j e
    go false e = absurd (omega (arith, pow_mono (ltb-false i j e)))

-- ---- a one and then bits

rest-suc : (k n : ℕ) → rest (suc k) n ≡ cond (ltb n 2) [] (rest k (n / 2) ++ eqb (n % 2) 1 ∷ [])
unfolding rest
rest-suc k n = refl

rest_more : (k n : ℕ) → n < 2 ^ suc k → rest (suc k) n ≡ rest k n
unfolding rest
rest_more zero n h = rw (lt-ltb n 2 (omega arith))
rest_more (suc k) n h = rw (rest_more k (n / 2) (omega (arith, pow-succ' 2 (suc k))))

pub rest-next : (k n b : ℕ) → 1 ≤ n → n < 2 ^ suc k → b < 2 → rest (suc k) (n * 2 + b) ≡ rest (suc k) n ++ eqb b 1 ∷ []
rest-next k n b h l s =
    let q : (n * 2 + b) / 2 ≡ n = omega arith in
    let m : (n * 2 + b) % 2 ≡ b = omega arith in
    rw (rest_more k n l, rest-suc k (n * 2 + b), le-ltb (n * 2 + b) 2 (omega arith), q, m)

-- the number is its leading one and the number of its other bits
pub rest-number : (k n : ℕ) → 1 ≤ n → n < 2 ^ suc k → 2 ^ length (rest k n) + number (rest k n) ≡ n
unfolding rest number
rest-number zero n h l = omega arith
rest-number (suc k) n h l = go (ltb n 2) refl (rest-number k (n / 2))
  where
    go : (t : Bool) → ltb n 2 ≡ t → (1 ≤ n / 2 → n / 2 < 2 ^ suc k → 2 ^ length (rest k (n / 2)) + number (rest k (n / 2)) ≡ n / 2)
        → 2 ^ length (cond t [] (rest k (n / 2) ++ eqb (n % 2) 1 ∷ [])) + number (cond t [] (rest k (n / 2) ++ eqb (n % 2) 1 ∷ [])) ≡ n
    go true e i = let z = ltb-true n 2 e in omega arith
    go false e i =
        let z = ltb-false n 2 e in
        let j = i (omega arith) (omega (arith, pow-succ' 2 (suc k))) in
        let p = pow-succ' 2 (length (rest k (n / 2))) in
        rw (number-last (rest k (n / 2)) (eqb (n % 2) 1), digit-bit (n % 2) (omega arith), length-append, add-one, p) (omega arith)

-- ---- the fields of a slice, of w bits each, of which t bits have come

gotten-in : (w v : ℕ) (vs : List ℕ) (t : ℕ) → t < w → gotten w (v ∷ vs) t ≡ bits t v
unfolding gotten
gotten-in w v vs t h = rw (lt-ltb t w h)

gotten-past : (w v : ℕ) (vs : List ℕ) (t : ℕ) → w ≤ t → gotten w (v ∷ vs) t ≡ bits w v ++ gotten w vs (t - w)
unfolding gotten
gotten-past w v vs t h = rw (le-ltb t w h)

pub gotten-none : (w : ℕ) (s : List ℕ) → 0 < w → gotten w s 0 ≡ []
unfolding gotten bits
gotten-none w [] h = refl
gotten-none w (v ∷ vs) h = rw (lt-ltb 0 w h)

module _ (w b : ℕ) (p : 0 < w) (k : b < 2) where
  abbrev with_bit : List ℕ → ℕ → List ℕ
  with_bit s i = set s i (pushed (get_or s i 0) b (2 ^ w))

  gotten-first : (v : ℕ) (vs : List ℕ) (t : ℕ) → t < w → gotten w (pushed v b (2 ^ w) ∷ vs) (t + 1) ≡ bits t v ++ eqb b 1 ∷ []
  gotten-first v vs t h = go (ltb (t + 1) w) refl
    where
      go : (u : Bool) → ltb (t + 1) w ≡ u → gotten w (pushed v b (2 ^ w) ∷ vs) (t + 1) ≡ bits t v ++ eqb b 1 ∷ []
      go true e = rw (gotten-in w (pushed v b (2 ^ w)) vs (t + 1) (ltb-true (t + 1) w e), add-one t) (bits-push t w v b h k)
      go false e =
          let z = ltb-false (t + 1) w e in
          let n : t + 1 - w ≡ 0 = omega arith in
          let m : w ≡ suc t = omega arith in
          rw (gotten-past w (pushed v b (2 ^ w)) vs (t + 1) z, n, gotten-none w vs p, append-nil)
          (ap (λ (x : ℕ). bits x (pushed v b (2 ^ w))) m ∙ bits-push t w v b h k)

  -- one more bit
  pub gotten-next : (s : List ℕ) (t : ℕ) → t < length s * w → gotten w (with_bit s (t / w)) (t + 1) ≡ gotten w s t ++ eqb b 1 ∷ []
  gotten-next [] t h = absurd (omega arith)
  gotten-next (v ∷ vs) t h = go (ltb t w) refl (gotten-next vs (t - w))
    where
      go : (u : Bool) → ltb t w ≡ u → (t - w < length vs * w → gotten w (with_bit vs ((t - w) / w)) (t - w + 1) ≡ gotten w vs (t - w) ++ eqb b 1 ∷ [])
          → gotten w (with_bit (v ∷ vs) (t / w)) (t + 1) ≡ gotten w (v ∷ vs) t ++ eqb b 1 ∷ []
      go true e i =
          let z = ltb-true t w e in
          rw (div-eq_of_lt z, gotten-in w v vs t z) (gotten-first v vs t z)
      go false e i =
          let z = ltb-false t w e in
          let n : t + 1 - w ≡ t - w + 1 = omega arith in
          let l : length (v ∷ vs) * w ≡ length vs * w + w = suc-mul (length vs) w in
          let j : t - w < length vs * w = omega arith in
          rw (div-eq-sub-div p z, add-one, gotten-past w v vs t z, gotten-past w v (with_bit vs ((t - w) / w)) (t + 1) (omega arith), n, i j, append_assoc)

-- a whole number of fields
pub gotten-fields : (w k : ℕ) (s : List ℕ) → k ≤ length s → split w k (gotten w s (k * w)) ≡ map (λ v. v % 2 ^ w) (take k s)
unfolding split
gotten-fields w zero s h = refl
gotten-fields w (suc k) [] h = absurd (omega arith)
gotten-fields w (suc k) (v ∷ vs) h =
    let e : suc k * w ≡ k * w + w = suc-mul k w in
    let m : suc k * w - w ≡ k * w = omega arith in
    rw (
      gotten-past w v vs (suc k * w) (omega arith),
      m,
      take_at (bits w v) (gotten w vs (k * w)) w (length-bits w v),
      drop_at (bits w v) (gotten w vs (k * w)) w (length-bits w v),
      number-bits w v,
      gotten-fields w k vs (omega arith),
    )
