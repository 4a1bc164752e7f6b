-- A loop that tests a list from the front, with a flag for what failed so far: the list passes where the flag is 0 and the rest passes.
-- And the test of a list by the bits of all its numbers: these are below a power of two exactly where each number is. Assumes nothing.
use mathlib.Core.Path.{◌≡◌, refl, sym, ap, ◌∙◌}
use mathlib.Core.Bool.{Bool, true, false, ◌&&◌}
use mathlib.Core.List.{List, [], ◌∷◌}
use Prim.Native.Nat.{ℕ, zero, suc, ◌^◌}
use native.Mathlib.Omega.{arith}
use lib.Bits.{bit_or, or_lt, or_add_and, and_le_l, and_le_r}
use lib.Dec.{ltb}
use lib.ListN.{replicate}
use borrow.Author.Tests.{eq-eqb, ltb-true, ltb-false, lt-ltb, le-ltb}
use Rattle.tables.specs.Lists.{all_below, all_same, or_all}
use Rattle.tables.proofs.Booleans.{and-true, and_assoc}

pub same-replicate : (n b : ℕ) → all_same (replicate n b) b ≡ true
same-replicate zero b = refl
same-replicate (suc n) b = ap (λ (d : Bool). d && all_same (replicate n b) b) (eq-eqb b b refl) ∙ same-replicate n b

-- ---- the bits of all numbers

or-below : (a b w : ℕ) → ltb (bit_or a b) (2 ^ w) ≡ (ltb a (2 ^ w) && ltb b (2 ^ w))
or-below a b w = at (ltb a (2 ^ w)) (ltb b (2 ^ w)) refl refl where
  at : (s t : Bool) → ltb a (2 ^ w) ≡ s → ltb b (2 ^ w) ≡ t → ltb (bit_or a b) (2 ^ w) ≡ (s && t)
  at true true p q = lt-ltb (bit_or a b) (2 ^ w) (or_lt w a b (ltb-true a (2 ^ w) p) (ltb-true b (2 ^ w) q))
  at true false p q = le-ltb (bit_or a b) (2 ^ w) (omega (arith, ltb-false b (2 ^ w) q, or_add_and a b, and_le_l a b))
  at false t p q = le-ltb (bit_or a b) (2 ^ w) (omega (arith, ltb-false a (2 ^ w) p, or_add_and a b, and_le_r a b))

pub or_all-below : (xs : List ℕ) (bits w : ℕ) → ltb (or_all xs bits) (2 ^ w) ≡ (ltb bits (2 ^ w) && all_below xs (2 ^ w))
or_all-below [] bits w = sym (and-true (ltb bits (2 ^ w)))
or_all-below (x ∷ xs) bits w =
    or_all-below xs (bit_or bits x) w ∙ ap (λ (t : Bool). t && all_below xs (2 ^ w)) (or-below bits x w)
    ∙ and_assoc (ltb bits (2 ^ w)) (ltb x (2 ^ w)) (all_below xs (2 ^ w))
