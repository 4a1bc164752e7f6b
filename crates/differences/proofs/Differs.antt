-- Where two lists first differ, found from the front: one of them ends at the next place, or by the numbers there they differ there or one
-- place further on is left to look at. The same of two lists in turns, two places at a time, and so many outputs at a time. Assumes nothing.
use mathlib.Core.Path.{◌≡◌, refl, ap, sym, ◌∙◌}
use mathlib.Core.Bool.{Bool, true, false, not, ◌&&◌, cond}
use mathlib.Core.List.{List, [], ◌∷◌}
use Prim.Native.Nat.{ℕ, zero, suc, min, ◌+◌, ◌*◌, ◌<◌, ◌≤◌}
use native.Mathlib.Numerals.{add-one, one-add}
use native.Mathlib.Nat.{zero-add, suc-add, le_refl}
use native.Mathlib.Omega.{arith}
use lib.Dec.{eqb, ltb, eqb-zero-suc, eqb-suc-suc}
use lib.ListN.{length, get_or, take, drop, drop_of_length-le}
use lib.Seq.{take-nil, take-take, drop-cons, drop-drop}
use borrow.Author.Tests.{eq-eqb, ne_eqb, ltb-false}
use Rattle.std.specs.Prelude.{Some, None, unwrap_or}
use Rattle.std.specs.List.{position, position_or_len}
use Rattle.differences.specs.Groups.{differs_at, differs_by, in_turns}
use Rattle.differences.proofs.Lists.{in_turns-take, in_turns-drop}

-- a place that is looked for and found, or the end
place-within : {A : Type 0} (p : A → Bool) (xs : List A) → position_or_len p xs ≤ length xs
place-within p [] = omega arith
place-within p (x ∷ xs) = simp one-add (go (p x) (place-within p xs))
  where
    go : (b : Bool) → position_or_len p xs ≤ length xs → cond (not b) (suc (position_or_len p xs)) 0 ≤ suc (length xs)
    go true h = omega arith
    go false h = omega arith

pub place-found : {A : Type 0} (p : A → Bool) (xs : List A) → unwrap_or (position p xs) (length xs) ≡ position_or_len p xs
place-found p xs = go (ltb (position_or_len p xs) (length xs)) refl
  where
    go : (b : Bool) → ltb (position_or_len p xs) (length xs) ≡ b → unwrap_or (cond b (Some (position_or_len p xs)) None) (length xs) ≡ position_or_len p xs
    go true e = refl
    go false e = omega (arith, place-within p xs, ltb-false _ _ e)

-- the first place at which two lists of numbers differ
pub differs-by : (xs ys : List ℕ) → differs_by eqb xs ys ≡ differs_at xs ys
unfolding differs_at
differs-by [] ys = refl
differs-by (x ∷ xs) [] = refl
differs-by (x ∷ xs) (y ∷ ys) = simp one-add (go (eqb x y) (differs-by xs ys))
  where
    go : (b : Bool) → differs_by eqb xs ys ≡ differs_at xs ys → cond (not (not b)) (suc (differs_by eqb xs ys)) 0 ≡ cond b (suc (differs_at xs ys)) 0
    go true e = ap suc e
    go false e = refl

pub differs-end : (xs ys : List ℕ) (i : ℕ) → length xs ≤ i → differs_at (drop i xs) ys ≡ 0
unfolding differs_at
differs-end xs ys i h = rw (drop_of_length-le xs h)

differs_none : (xs : List ℕ) → differs_at xs [] ≡ 0
unfolding differs_at
differs_none [] = refl
differs_none (x ∷ xs) = refl

-- so many of the one are as good as so many of the other
pub differs-take : (n : ℕ) (xs ys : List ℕ) → differs_at (take n xs) ys ≡ differs_at xs (take n ys)
unfolding differs_at
differs-take n [] ys = ap (λ (l : List ℕ). differs_at l ys) (take-nil n)
differs-take n (x ∷ xs) [] = differs_none (take n (x ∷ xs)) ∙ ap (differs_at (x ∷ xs)) (sym (take-nil n))
differs-take zero (x ∷ xs) (y ∷ ys) = refl
differs-take (suc n) (x ∷ xs) (y ∷ ys) = ap (λ (k : ℕ). cond (eqb x y) (suc k) 0) (differs-take n xs ys)

-- n and m more are the same: the n are, and the m are
differs-split : (n m : ℕ) (xs ys : List ℕ)
    → eqb (differs_at xs ys) (n + m) ≡ (eqb (differs_at (take n xs) ys) n && eqb (differs_at (drop n xs) (drop n ys)) m)
unfolding differs_at
differs-split zero m xs ys = ap (eqb (differs_at xs ys)) (zero-add m)
differs-split (suc n) m [] ys = rw (suc-add n m, eqb-zero-suc (n + m), eqb-zero-suc n)
differs-split (suc n) m (x ∷ xs) [] = rw (suc-add n m, eqb-zero-suc (n + m), eqb-zero-suc n)
differs-split (suc n) m (x ∷ xs) (y ∷ ys) = ap (eqb (differs_at (x ∷ xs) (y ∷ ys))) (suc-add n m) ∙ go (eqb x y) (differs-split n m xs ys)
  where
    rest : Bool
    rest = eqb (differs_at (drop n xs) (drop n ys)) m

    go : (b : Bool) → eqb (differs_at xs ys) (n + m) ≡ (eqb (differs_at (take n xs) ys) n && rest)
        → eqb (cond b (suc (differs_at xs ys)) 0) (suc (n + m)) ≡ (eqb (cond b (suc (differs_at (take n xs) ys)) 0) (suc n) && rest)
    go true ih = eqb-suc-suc (differs_at xs ys) (n + m) ∙ ih ∙ ap (λ (b : Bool). b && rest) (sym (eqb-suc-suc (differs_at (take n xs) ys) n))
    go false ih = eqb-zero-suc (n + m) ∙ ap (λ (b : Bool). b && rest) (sym (eqb-zero-suc n))

module _ (xs ys : List ℕ) (i : ℕ) (h : i < length xs) (k : i < length ys) where
  pub differs-here : (get_or xs i 0 ≡ get_or ys i 0 → ⊥) → differs_at (drop i xs) (drop i ys) ≡ 0
  unfolding differs_at
  differs-here n = rw (drop-cons xs i 0, drop-cons ys i 0, ne_eqb (get_or xs i 0) (get_or ys i 0) n)

  pub differs_next : get_or xs i 0 ≡ get_or ys i 0 → differs_at (drop i xs) (drop i ys) ≡ suc (differs_at (drop (i + 1) xs) (drop (i + 1) ys))
  unfolding differs_at
  differs_next e = rw (add-one, drop-cons xs i 0, drop-cons ys i 0, eq-eqb (get_or xs i 0) (get_or ys i 0) e)

-- ---- two lists in turns

abbrev pub turns_left : List ℕ → List ℕ → List ℕ → ℕ → ℕ
turns_left vs xs ys i = differs_at (drop (i + i) vs) (in_turns (drop i xs) (drop i ys))

-- of two lists in turns, so many of each
pub turns-take : (n : ℕ) (vs xs ys : List ℕ) → differs_at (take (2 * n) vs) (in_turns xs ys) ≡ differs_at vs (in_turns (take n xs) (take n ys))
turns-take n vs xs ys =
    let two : 2 * n ≡ n + n = omega arith in
    ap (λ (k : ℕ). differs_at (take k vs) (in_turns xs ys)) two ∙ differs-take (n + n) vs (in_turns xs ys) ∙ ap (differs_at vs) (sym (in_turns-take n xs ys))

-- the same, where no more are taken than there are
take-within : (n : ℕ) (vs : List ℕ) → take (min (length vs) n) vs ≡ take n vs
take-within n [] = take-nil _ ∙ sym (take-nil n)
take-within zero (x ∷ vs) =
    let none : min (suc (length vs)) 0 ≡ 0 = omega arith in
    ap (λ (k : ℕ). take k (x ∷ vs)) none
take-within (suc n) (x ∷ vs) =
    let more : min (suc (length vs)) (suc n) ≡ suc (min (length vs) n) = omega arith in
    ap (λ (k : ℕ). take k (x ∷ vs)) more ∙ ap (λ (l : List ℕ). x ∷ l) (take-within n vs)

pub turns-within : (n : ℕ) (vs xs ys : List ℕ) → differs_at (take (min (length vs) (2 * n)) vs) (in_turns xs ys) ≡ differs_at vs (in_turns (take n xs) (take n ys))
turns-within n vs xs ys = ap (λ (l : List ℕ). differs_at l (in_turns xs ys)) (take-within (2 * n) vs) ∙ turns-take n vs xs ys

module _ (vs xs ys : List ℕ) (i n : ℕ) where
  -- the next values, and what the next outputs hold, in turns
  abbrev us : List ℕ
  us = drop (i + i) vs

  abbrev ws : List ℕ
  ws = in_turns (drop i xs) (drop i ys)

  abbrev of_next : ℕ
  of_next = differs_at (take (n + n) us) (in_turns (take n (drop i xs)) (take n (drop i ys)))

  turns-here : differs_at (take (n + n) us) ws ≡ of_next
  turns-here =
      ap (λ (l : List ℕ). differs_at l ws) (sym (take-take (n + n) (n + n) us (le_refl (n + n))))
      ∙ differs-take (n + n) (take (n + n) us) ws
      ∙ ap (differs_at (take (n + n) us)) (sym (in_turns-take n (drop i xs) (drop i ys)))

  turns-after : differs_at (drop (n + n) us) (drop (n + n) ws) ≡ turns_left vs xs ys (i + n)
  turns-after =
      let next : i + i + (n + n) ≡ (i + n) + (i + n) = omega arith in
      rw (drop-drop (n + n) (i + i) vs, next, sym (in_turns-drop n (drop i xs) (drop i ys)), drop-drop n i xs, drop-drop n i ys)

  -- the values of the next n outputs and m more are the same: those are, and the m are
  pub turns-split : (m : ℕ) → eqb (turns_left vs xs ys i) (n + n + m) ≡ (eqb of_next (n + n) && eqb (turns_left vs xs ys (i + n)) m)
  turns-split m = differs-split (n + n) m us ws ∙ rw (turns-here, turns-after)

-- the next place stands in its list, and so do the two that are held against it and the one after it
pub record Turn (vs xs ys : List ℕ) (i : ℕ) : Type 0 where
  pub value : i + i < length vs
  pub mux0 : i < length xs
  pub mux1 : i < length ys

module _ {vs xs ys : List ℕ} {i : ℕ} (t : Turn vs xs ys i) where
  abbrev first : Bool
  first = eqb (get_or vs (i + i) 0) (get_or xs i 0)

  abbrev second : Bool
  second = eqb (get_or vs (i + i + 1) 0) (get_or ys i 0)

  turns-half : turns_left vs xs ys i ≡ cond first (suc (differs_at (drop (i + i + 1) vs) (get_or ys i 0 ∷ in_turns (drop (i + 1) xs) (drop (i + 1) ys)))) 0
  unfolding differs_at in_turns
  turns-half =
      let one : drop (i + i) vs ≡ get_or vs (i + i) 0 ∷ drop (i + i + 1) vs = rw (add-one (i + i), drop-cons vs (i + i) 0 t.value) in
      rw (one, drop-cons xs i 0 t.mux0, drop-cons ys i 0 t.mux1, add-one i)

  module _ (both : i + i + 1 < length vs) where
    turns-step : turns_left vs xs ys i ≡ cond first (suc (cond second (suc (turns_left vs xs ys (i + 1))) 0)) 0
    unfolding differs_at
    turns-step =
        let two : drop (i + i + 1) vs ≡ get_or vs (i + i + 1) 0 ∷ drop (i + i + 1 + 1) vs = rw (add-one (i + i + 1), drop-cons vs (i + i + 1) 0 both) in
        let n : i + i + 1 + 1 ≡ (i + 1) + (i + 1) = omega arith in
        turns-half ∙ rw (two, n)

    -- these two and n more are the same: these are, and the n are
    pub turns_same : (n : ℕ) → eqb (turns_left vs xs ys i) (suc (suc n)) ≡ (first && (second && eqb (turns_left vs xs ys (i + 1)) n))
    turns_same n = ap (λ (m : ℕ). eqb m (suc (suc n))) turns-step ∙ go first second (turns_left vs xs ys (i + 1))
      where
        go : (a b : Bool) (m : ℕ) → eqb (cond a (suc (cond b (suc m) 0)) 0) (suc (suc n)) ≡ (a && (b && eqb m n))
        go true true m = eqb-suc-suc (suc m) (suc n) ∙ eqb-suc-suc m n
        go true false m = eqb-suc-suc 0 (suc n) ∙ eqb-zero-suc n
        go false b m = eqb-zero-suc (suc n)
