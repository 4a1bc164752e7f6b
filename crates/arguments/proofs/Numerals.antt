-- Laws of decimal texts: a text read digit by digit from the front, and the number held to 65,535 on the way. Assumes nothing.
use mathlib.Core.Path.{◌≡◌, sym, ap, ap₂, ◌∙◌}
use mathlib.Core.Bool.{true, false, ◌&&◌}
use mathlib.Core.List.{List, [], ◌∷◌, ◌++◌}
use Rattle.std.proofs.Common.{Some, None}
use Prim.Native.Nat.{ℕ, suc, ◌+◌, ◌-◌, ◌*◌, ◌^◌, ◌≤◌, ◌<◌, min}
use native.Mathlib.Nat.{mul_assoc, add-mul, add_assoc, pow-suc}
use native.Mathlib.Numerals.{add-one}
use native.Mathlib.Omega.{arith}
use lib.ListN.{length, get_or, take, drop, length-append, drop_of_length-le}
use lib.Seq.{take-suc, take_all, drop-cons}
use borrow.Author.Tests.{ne_eqb, eq-eqb}
use Rattle.arguments.specs.Arguments.{is_digit, digits_only, numeral, parsed}

-- one digit more at the end
pub numeral-snoc : (bs : List ℕ) (b : ℕ) → numeral (bs ++ (b ∷ [])) ≡ numeral bs * 10 + (b - 48)
unfolding numeral
numeral-snoc [] b = omega arith
numeral-snoc (x ∷ bs) b =
    ap₂ (λ (n r : ℕ). (x - 48) * 10 ^ n + r) (length-append bs (b ∷ []) ∙ add-one (length bs)) (numeral-snoc bs b)
    ∙ shifted (x - 48) (10 ^ length bs) (numeral bs) (b - 48) (10 ^ suc (length bs)) (pow-suc 10 (length bs)) where
      shifted : (d p n e q : ℕ) → q ≡ p * 10 → d * q + (n * 10 + e) ≡ (d * p + n) * 10 + e
      shifted d p n e q h =
          ap (λ (k : ℕ). d * k + (n * 10 + e)) h
          ∙ ap (λ (k : ℕ). k + (n * 10 + e)) (sym (mul_assoc d p 10))
          ∙ sym (ap (λ (k : ℕ). k + e) (add-mul (d * p) n 10) ∙ add_assoc (d * p * 10) (n * 10) e)

-- one digit more at the end, read from a text
pub numeral-take : (text : List ℕ) (i : ℕ) → i < length text
    → numeral (take (i + 1) text) ≡ numeral (take i text) * 10 + (get_or text i 0 - 48)
numeral-take text i h =
    ap (λ (n : ℕ). numeral (take n text)) (add-one i)
    ∙ ap numeral (take-suc text i 0 h)
    ∙ numeral-snoc (take i text) (get_or text i 0)

-- the number held to 65,535 at each digit
pub min-step : (v d : ℕ) → min (min v 65535 * 10 + d) 65535 ≡ min (v * 10 + d) 65535
min-step v d = omega arith

-- the text from a place on begins with the byte there
pub digits_only-drop : (text : List ℕ) (i : ℕ) → i < length text
    → digits_only (drop i text) ≡ (is_digit (get_or text i 0) && digits_only (drop (i + 1) text))
unfolding digits_only
digits_only-drop text i h =
    ap digits_only (drop-cons text i 0 h)
    ∙ ap (λ (n : ℕ). is_digit (get_or text i 0) && digits_only (drop n text)) (sym (add-one i))

-- the same behind a digit
pub digits_only-more : (text : List ℕ) (i : ℕ) → i < length text → is_digit (get_or text i 0) ≡ true
    → digits_only (drop i text) ≡ digits_only (drop (i + 1) text)
digits_only-more text i h e = rw (digits_only-drop text i h, e)

-- what a text says, by what was found in it
pub parsed-empty : (text : List ℕ) → length text ≡ 0 → None ≡ parsed text
unfolding parsed
parsed-empty text h = rw (eq-eqb (length text) 0 h)

pub parsed-bad : (text : List ℕ) (i : ℕ) → i < length text → digits_only text ≡ digits_only (drop i text) → is_digit (get_or text i 0) ≡ false
    → None ≡ parsed text
unfolding parsed
parsed-bad text i h d e = rw (ne_eqb (length text) 0 (λ z. omega arith), d, digits_only-drop text i h, e)

pub parsed-value : (text : List ℕ) (v i : ℕ) → (length text ≡ 0 → ⊥) → length text ≤ i → digits_only text ≡ digits_only (drop i text)
    → v ≡ min (numeral (take i text)) 65535 → Some v ≡ parsed text
unfolding parsed digits_only
parsed-value text v i h g d e =
    ap Some (e ∙ ap (λ (t : List ℕ). min (numeral t) 65535) (take_all i text g))
    ∙ rw (ne_eqb (length text) 0 h, d, drop_of_length-le text {i = i} g)
