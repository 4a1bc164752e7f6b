-- A number's decimal digits are those that std writes. Assumes nothing.
use Rattle.std.proofs.Common.{◌≡◌, ℕ, zero, suc, ◌+◌, ◌/◌, ◌%◌, ◌^◌, ◌<◌, ◌≤◌, Bool, true, false, cond, List, [], ◌∷◌, ◌++◌, length, refl, sym, ap, ◌∙◌, arith, length-append, append-nil}
use native.Mathlib.Nat.{pow-suc, div-lt_iff_lt-mul}
use lib.Dec.{ltb}
use lib.Seq.{append_snoc}
use borrow.Author.Tests.{eq-eqb, ne_eqb, lt-ltb, le-ltb, ltb-true, ltb-false}
use Rattle.std.specs.Fmt.{digits, digits_onto, decimal as written}
use Rattle.report.specs.Lines.{digits_in, decimal}

-- std finds the digits from the last to the first, and puts each before those found
onto : (k n : ℕ) (found : List ℕ) → digits_onto k 10 false n found ≡ digits_in k n ++ found
unfolding digits_in
onto zero n found = refl
onto (suc k) n found = at (ltb n 10) refl (onto k (n / 10) ((48 + n % 10) ∷ found)) where
  at : (b : Bool) → ltb n 10 ≡ b → digits_onto k 10 false (n / 10) ((48 + n % 10) ∷ found) ≡ digits_in k (n / 10) ++ ((48 + n % 10) ∷ found)
      → digits_onto (suc k) 10 false n found ≡ digits_in (suc k) n ++ found
  at true e rest =
      let one : n < 10 = ltb-true n 10 e in
      let none : n / 10 ≡ 0 = omega arith in
      let last : n % 10 ≡ n = omega arith in
      rw (lt-ltb n 10 one, eq-eqb (n / 10) 0 none, last, lt-ltb n 10 one)
  at false e rest =
      let more : 10 ≤ n = ltb-false n 10 e in
      let some : n / 10 ≡ 0 → ⊥ = λ z. omega arith in
      let last : n % 10 < 10 = omega arith in
      rw (le-ltb n 10 more, ne_eqb (n / 10) 0 some, lt-ltb (n % 10) 10 last)
      (rest ∙ sym (append_snoc (digits_in k (n / 10)) (48 + n % 10) found))

-- two lengths that both hold a number's digits
same : (k j n : ℕ) → n < 10 ^ suc k → n < 10 ^ suc j → digits_in (suc k) n ≡ digits_in (suc j) n
unfolding digits_in
same zero j n h g = let one : n < 10 = omega arith in rw (lt-ltb n 10 one)
same (suc k) zero n h g = let one : n < 10 = omega arith in rw (lt-ltb n 10 one)
same (suc k) (suc j) n h g =
    ap (λ (ds : List ℕ). cond (ltb n 10) ((48 + n) ∷ []) (ds ++ ((48 + n % 10) ∷ [])))
    (same k j (n / 10) ((div-lt_iff_lt-mul (omega arith)).1 (rw (pow-suc 10 (suc k)) at h)) ((div-lt_iff_lt-mul (omega arith)).1 (rw (pow-suc 10 (suc j)) at g)))

-- the digits of a number below 2 ^ 64
pub written-decimal : (n : ℕ) → n < 18446744073709551616 → written n ≡ decimal n
unfolding digits
written-decimal n h = onto 64 n [] ∙ append-nil (digits_in 64 n) ∙ same 63 19 n (omega arith) (omega arith)

-- 20 of them at most
pub length-digits_in : (k n : ℕ) → length (digits_in k n) ≤ k
unfolding digits_in
length-digits_in zero n = omega arith
length-digits_in (suc k) n = at (ltb n 10) (length-digits_in k (n / 10)) where
  at : (b : Bool) → length (digits_in k (n / 10)) ≤ k → length (cond b ((48 + n) ∷ []) (digits_in k (n / 10) ++ ((48 + n % 10) ∷ []))) ≤ suc k
  at true h = omega arith
  at false h = omega (arith, length-append (digits_in k (n / 10)) ((48 + n % 10) ∷ []))
