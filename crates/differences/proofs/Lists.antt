-- Lists of one length that differ nowhere are one list; where they differ first; a part of a list; and lists in turns. By induction on the lists.
use mathlib.Core.Path.{◌≡◌, refl, ap, ap₂, sym, ◌∙◌}
use mathlib.Core.Bool.{Bool, true, false, cond}
use mathlib.Core.List.{List, [], ◌∷◌}
use Prim.Native.Nat.{ℕ, zero, suc, ◌+◌, ◌-◌, ◌<◌, ◌≤◌}
use native.Mathlib.Omega.{arith}
use lib.Dec.{eqb}
use lib.ListN.{length, take, drop, get_or}
use lib.Seq.{take-nil, drop-nil}
use borrow.Author.Tests.{eq-eqb, eqb-true, eqb-false}
use Rattle.model.specs.Device.{evens, odds}
use Rattle.differences.specs.Groups.{differs_at, in_turns}

pub differs-refl : (xs : List ℕ) → differs_at xs xs ≡ length xs
unfolding differs_at
differs-refl [] = refl
differs-refl (x ∷ xs) = ap (λ (b : Bool). cond b (suc (differs_at xs xs)) 0) (eq-eqb x x refl) ∙ ap suc (differs-refl xs)

pub differs-equal : (xs ys : List ℕ) → length ys ≡ length xs → length xs ≤ differs_at xs ys → xs ≡ ys
unfolding differs_at
differs-equal [] [] e l = refl
differs-equal [] (y ∷ ys) e l = absurd (omega (arith, e))
differs-equal (x ∷ xs) [] e l = absurd (omega (arith, e))
differs-equal (x ∷ xs) (y ∷ ys) e l = go (eqb x y) refl (differs-equal xs ys (omega (arith, e))) l
  where
    go : (b : Bool) → eqb x y ≡ b → (length xs ≤ differs_at xs ys → xs ≡ ys) → suc (length xs) ≤ cond b (suc (differs_at xs ys)) 0 → x ∷ xs ≡ y ∷ ys
    go true f ih k = ap₂ ◌∷◌ (eqb-true x y f) (ih (omega (arith, k)))
    go false f ih k = absurd (omega (arith, k))

-- two lists differ first at a place
pub record FirstAt (k : ℕ) (xs ys : List ℕ) : Type 0 where
  pub before : take k xs ≡ take k ys
  pub there : get_or xs k 0 ≡ get_or ys k 0 → ⊥

pub differs-first : (xs ys : List ℕ) → length ys ≡ length xs → differs_at xs ys < length xs → FirstAt (differs_at xs ys) xs ys
unfolding differs_at
differs-first [] ys e l = absurd (omega (arith, l))
differs-first (x ∷ xs) [] e l = absurd (omega (arith, e))
differs-first (x ∷ xs) (y ∷ ys) e l = go (eqb x y) refl (differs-first xs ys (omega (arith, e))) l
  where
    go : (b : Bool) → eqb x y ≡ b → (differs_at xs ys < length xs → FirstAt (differs_at xs ys) xs ys) → cond b (suc (differs_at xs ys)) 0 < suc (length xs)
        → FirstAt (cond b (suc (differs_at xs ys)) 0) (x ∷ xs) (y ∷ ys)
    go true f ih k =
        let r = ih (omega (arith, k)) in
        record { before = ap₂ ◌∷◌ (eqb-true x y f) r.before; there = r.there }
    go false f ih k = record { before = refl; there = eqb-false x y f }

-- ---- a part of a list, as the code takes it: from a on, up to a + n

pub part-of : (a n : ℕ) (l : List ℕ) → take (a + n - a) (drop a l) ≡ take n (drop a l)
part-of a n l = let e : a + n - a ≡ n = omega arith in ap (λ (k : ℕ). take k (drop a l)) e

-- ---- in turns

pub length-in_turns : (xs ys : List ℕ) → length xs ≡ length ys → length (in_turns xs ys) ≡ length xs + length xs
unfolding in_turns
length-in_turns [] ys e = refl
length-in_turns (x ∷ xs) [] e = absurd (omega (arith, e))
length-in_turns (x ∷ xs) (y ∷ ys) e = let h : length (in_turns xs ys) ≡ length xs + length xs = length-in_turns xs ys (omega (arith, e)) in omega (arith, h)

in_turns-none : (xs : List ℕ) → in_turns xs [] ≡ []
unfolding in_turns
in_turns-none [] = refl
in_turns-none (x ∷ xs) = refl

two-more : (n : ℕ) → suc (suc (n + n)) ≡ suc n + suc n
two-more n = omega arith

pub in_turns-take : (n : ℕ) (xs ys : List ℕ) → in_turns (take n xs) (take n ys) ≡ take (n + n) (in_turns xs ys)
unfolding in_turns
in_turns-take zero xs ys = refl
in_turns-take (suc n) [] ys = sym (take-nil (suc n + suc n))
in_turns-take (suc n) (x ∷ xs) [] = sym (take-nil (suc n + suc n))
in_turns-take (suc n) (x ∷ xs) (y ∷ ys) =
    ap (λ (r : List ℕ). x ∷ y ∷ r) (in_turns-take n xs ys) ∙ ap (λ (k : ℕ). take k (x ∷ y ∷ in_turns xs ys)) (two-more n)

pub in_turns-drop : (n : ℕ) (xs ys : List ℕ) → in_turns (drop n xs) (drop n ys) ≡ drop (n + n) (in_turns xs ys)
unfolding in_turns
in_turns-drop zero xs ys = refl
in_turns-drop (suc n) [] ys = sym (drop-nil (suc n + suc n))
in_turns-drop (suc n) (x ∷ xs) [] = in_turns-none (drop n xs) ∙ sym (drop-nil (suc n + suc n))
in_turns-drop (suc n) (x ∷ xs) (y ∷ ys) = in_turns-drop n xs ys ∙ ap (λ (k : ℕ). drop k (x ∷ y ∷ in_turns xs ys)) (two-more n)

pub turns-even : (i : ℕ) (xs ys : List ℕ) → i < length xs → i < length ys → get_or (in_turns xs ys) (i + i) 0 ≡ get_or xs i 0
unfolding in_turns
turns-even i [] ys h k = absurd (omega (arith, h))
turns-even i (x ∷ xs) [] h k = absurd (omega (arith, k))
turns-even zero (x ∷ xs) (y ∷ ys) h k = refl
turns-even (suc i) (x ∷ xs) (y ∷ ys) h k = ap (λ (n : ℕ). get_or (x ∷ y ∷ in_turns xs ys) n 0) (sym (two-more i)) ∙ turns-even i xs ys (omega (arith, h)) (omega (arith, k))

pub turns-odd : (i : ℕ) (xs ys : List ℕ) → i < length xs → i < length ys → get_or (in_turns xs ys) (i + i + 1) 0 ≡ get_or ys i 0
unfolding in_turns
turns-odd i [] ys h k = absurd (omega (arith, h))
turns-odd i (x ∷ xs) [] h k = absurd (omega (arith, k))
turns-odd zero (x ∷ xs) (y ∷ ys) h k = refl
turns-odd (suc i) (x ∷ xs) (y ∷ ys) h k =
    let more : suc i + suc i + 1 ≡ suc (suc (i + i + 1)) = omega arith in
    ap (λ (n : ℕ). get_or (x ∷ y ∷ in_turns xs ys) n 0) more ∙ turns-odd i xs ys (omega (arith, h)) (omega (arith, k))

pub evens-in_turns : (xs ys : List ℕ) → length xs ≡ length ys → evens (in_turns xs ys) ≡ xs
unfolding in_turns
evens-in_turns [] ys e = refl
evens-in_turns (x ∷ xs) [] e = absurd (omega (arith, e))
evens-in_turns (x ∷ xs) (y ∷ ys) e = ap (λ (r : List ℕ). x ∷ r) (evens-in_turns xs ys (omega (arith, e)))

pub odds-in_turns : (xs ys : List ℕ) → length xs ≡ length ys → odds (in_turns xs ys) ≡ ys
unfolding in_turns
odds-in_turns [] [] e = refl
odds-in_turns [] (y ∷ ys) e = absurd (omega (arith, e))
odds-in_turns (x ∷ xs) [] e = absurd (omega (arith, e))
odds-in_turns (x ∷ xs) (y ∷ ys) e = ap (λ (r : List ℕ). y ∷ r) (odds-in_turns xs ys (omega (arith, e)))

pub in_turns-halves : (n : ℕ) (vs : List ℕ) → length vs ≡ n + n → in_turns (evens vs) (odds vs) ≡ vs
unfolding in_turns
in_turns-halves n [] e = refl
in_turns-halves zero (x ∷ vs) e = absurd (omega (arith, e))
in_turns-halves (suc n) (x ∷ []) e = absurd (omega (arith, e))
in_turns-halves (suc n) (x ∷ y ∷ vs) e = ap (λ (r : List ℕ). x ∷ y ∷ r) (in_turns-halves n vs (omega (arith, e)))
