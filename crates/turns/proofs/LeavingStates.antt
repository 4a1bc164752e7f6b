-- States that leave a chain: the high ones at the front of a list, states written into lent room, and the 24 states of a header. Each loop goes
-- state by state, so most laws say what one state more does.
use mathlib.Core.Path.{◌≡◌, refl, ap, sym, ◌∙◌}
use mathlib.Core.Bool.{Bool, true, false, cond}
use mathlib.Core.List.{List, [], ◌∷◌, ◌++◌, map}
use Prim.Native.Nat.{ℕ, zero, suc, ◌+◌, ◌-◌, ◌/◌, ◌%◌, ◌^◌, ◌<◌, ◌≤◌, min}
use native.Mathlib.Numerals.{add-one}
use native.Mathlib.Nat.{mod-lt}
use native.Mathlib.Omega.{arith}
use lib.Dec.{ltb, leb, lit<}
use lib.ListN.{length, set, take, drop, length-set, length-drop}
use lib.Seq.{set_out, length-take-le, take_all}
use borrow.Author.Tests.{le-leb, leb-true, leb-false}
use Rattle.bits.specs.Bits.{is_one, digit, bits, over, over_at}
use Rattle.parts.specs.Parts.{code}
use Rattle.parts.specs.Wire.{high, state_code, command_count, header, clocked_at, states_of}
use Rattle.parts.specs.declared.command.Command.{Command}
use Rattle.parts.specs.declared.command.Command.TheVariants.{Individual, Calibration, Global, Configuration}
use Rattle.tables.proofs.Booleans.{cond_both}
use Rattle.intake.specs.Intake.{highs_end}
use Rattle.turns.specs.Front.{put_all, put_end, high_count}

-- where high states end is as far on as there are of them
pub highs_end-high_count : (ss : List ℕ) (i : ℕ) → highs_end ss i ≡ i + high_count ss
unfolding highs_end high_count
highs_end-high_count [] i = omega arith
highs_end-high_count (s ∷ ss) i = by (ltb s 2) (highs_end-high_count ss (i + 1)) where
  by : (t : Bool) → highs_end ss (i + 1) ≡ i + 1 + high_count ss → cond t i (highs_end ss (i + 1)) ≡ i + cond t 0 (high_count ss + 1)
  by true e = omega arith
  by false e = omega (arith, e)

pub put_full : (os : List ℕ) (w : ℕ) (xs : List ℕ) → length os ≤ w → put_all os w xs ≡ os
unfolding put_all
put_full os w [] h = refl
put_full os w (x ∷ xs) h =
    put_full (set os w x) (w + 1) xs (simp length-set (omega (arith, h))) ∙ set_out os w x h

pub put-end-is : (room w k : ℕ) → w ≤ room → w + min (room - w) k ≡ put_end room w k
put-end-is room w k h = by_cases (leb (w + k) room) refl
  where
    by_cases : (t : Bool) → leb (w + k) room ≡ t → w + min (room - w) k ≡ put_end room w k
    by_cases true q = rw q (omega (arith, leb-true (w + k) room q))
    by_cases false q = rw q (omega (arith, leb-false (w + k) room q, h))

pub high_count-fit : (ss : List ℕ) → high_count ss ≤ length ss
unfolding high_count
high_count-fit [] = omega arith
high_count-fit (s ∷ ss) = cond_both (λ (n : ℕ). n ≤ suc (length ss)) (ltb s 2) 0 (high_count ss + 1) (λ _. omega arith) (λ _. omega (arith, high_count-fit ss))

pub high_count-within : (ss : List ℕ) (k : ℕ) → k ≤ length ss → k + high_count (drop k ss) ≤ length ss
high_count-within ss k h = omega (arith, high_count-fit (drop k ss), length-drop k ss)

pub part-list : (ss : List ℕ) (k e : ℕ) → e ≡ k + high_count (drop k ss) → take (e - k) (drop k ss) ≡ take (high_count (drop k ss)) (drop k ss)
part-list ss k e q = let n : e - k ≡ high_count (drop k ss) = omega (arith, q) in ap (λ (n : ℕ). take n (drop k ss)) n

pub part_length : (ss : List ℕ) (k e : ℕ) → e ≡ k + high_count (drop k ss) → length (take (e - k) (drop k ss)) ≡ high_count (drop k ss)
part_length ss k e q = ap length (part-list ss k e q) ∙ length-take-le (high_count (drop k ss)) (drop k ss) (high_count-fit (drop k ss))

pub length-put : (os : List ℕ) (w : ℕ) (xs : List ℕ) → length (put_all os w xs) ≡ length os
unfolding put_all
length-put os w [] = refl
length-put os w (x ∷ xs) = length-put (set os w x) (w + 1) xs ∙ length-set os w x

-- what leaves the chain is written one after the other
pub put-append : (os : List ℕ) (w : ℕ) (xs ys : List ℕ) → put_all os w (xs ++ ys) ≡ put_all (put_all os w xs) (w + length xs) ys
unfolding put_all
put-append os w [] ys = let e : w ≡ w + 0 = omega arith in ap (λ (k : ℕ). put_all os k ys) e
put-append os w (x ∷ xs) ys =
    let e : w + 1 + length xs ≡ w + suc (length xs) = omega arith in
    put-append (set os w x) (w + 1) xs ys ∙ ap (λ (k : ℕ). put_all (put_all (set os w x) (w + 1) xs) k ys) e

pub put-end-all : (room k : ℕ) → k ≤ room → put_end room 0 k ≡ k
put-end-all room k h = ap (λ (u : Bool). cond u (0 + k) room) (le-leb (0 + k) room (omega (arith, h))) ∙ omega arith

-- ---- states that fit stand in the place of the first ones

put-after : (os : List ℕ) (y : ℕ) (w : ℕ) (xs : List ℕ) → put_all (y ∷ os) (w + 1) xs ≡ y ∷ put_all os w xs
unfolding put_all
put-after os y w [] = refl
put-after os y w (x ∷ xs) =
    ap (λ (k : ℕ). put_all (set (y ∷ os) k x) (k + 1) xs) (add-one w) ∙ ap (λ (k : ℕ). put_all (y ∷ set os w x) k xs) (next w) ∙ put-after (set os w x) y (w + 1) xs
  where
    next : (k : ℕ) → suc k + 1 ≡ k + 1 + 1
    next k = omega arith

-- as many as there is room for
put-first : (os xs : List ℕ) → put_all os 0 xs ≡ over (take (length os) xs) os
unfolding put_all over
put-first [] [] = refl
put-first [] (x ∷ xs) = put_full [] 1 xs (omega arith)
put-first (o ∷ os) [] = refl
put-first (o ∷ os) (x ∷ xs) = put-after os x 0 xs ∙ ap (λ (r : List ℕ). x ∷ r) (put-first os xs)

pub put-over : (os xs : List ℕ) → length xs ≤ length os → put_all os 0 xs ≡ over xs os
put-over os xs h = put-first os xs ∙ ap (λ (z : List ℕ). over z os) (take_all (length os) xs h)

-- the same from a place on, as a copy over the rest of the room leaves it
pub put-copied : (os : List ℕ) (w : ℕ) (xs : List ℕ) → over_at w (take (length (drop w os)) xs) os ≡ put_all os w xs
unfolding over_at over
put-copied os zero xs = sym (put-first os xs)
put-copied [] (suc w) xs = sym (put_full [] (suc w) xs (omega arith))
put-copied (o ∷ os) (suc w) xs =
    ap (λ (r : List ℕ). o ∷ r) (put-copied os w xs) ∙ sym (put-after os o w xs) ∙ ap (λ (k : ℕ). put_all (o ∷ os) k xs) (add-one w)

-- ---- the 24 states of a header

-- a number's bits at high load, as states
unfoldable pub bit_states : ℕ → ℕ → List ℕ
bit_states zero v = []
bit_states (suc w) v = (v / 2 ^ w % 2 + 2) ∷ bit_states w v

bit-state : (x : ℕ) → x < 2 → 2 + digit (is_one x) ≡ x + 2
bit-state zero h = refl
bit-state (suc zero) h = refl
bit-state (suc (suc x)) h = absurd (omega (arith, h))

high-states : (w v : ℕ) → map state_code (map high (bits w v)) ≡ bit_states w v
unfolding bits bit_states
high-states zero v = refl
high-states (suc w) v =
    ap (λ (s : ℕ). s ∷ map state_code (map high (bits w v))) (bit-state (v / 2 ^ w % 2) (mod-lt (v / 2 ^ w) (lit< tt)))
    ∙ ap (λ (r : List ℕ). (v / 2 ^ w % 2 + 2) ∷ r) (high-states w v)

-- the states before the count's
abbrev pub opening : Command → List ℕ
opening c =
    1 ∷ 1 ∷ 1 ∷ 0 ∷ 1 ∷ 0 ∷ 0 ∷ 0
    ∷ (code c / 2 % 2 + 2) ∷ (code c / 1 % 2 + 2) ∷ (code c / 2 % 2 + 2) ∷ (code c / 1 % 2 + 2) ∷ (code c / 2 % 2 + 2) ∷ (code c / 1 % 2 + 2) ∷ []

opening-states : (c : Command) (n : ℕ) → states_of (header c n) ≡ opening c ++ map state_code (map high (bits 10 n))
unfolding header command_count clocked_at bits
opening-states Individual n = refl
opening-states Calibration n = refl
opening-states Global n = refl
opening-states Configuration n = refl

pub header-parts : (c : Command) (n : ℕ) → states_of (header c n) ≡ opening c ++ bit_states 10 n
header-parts c n = opening-states c n ∙ ap (λ (r : List ℕ). opening c ++ r) (high-states 10 n)

pub header_is : (c : Command) (n : ℕ) → ◌≡◌ {A = List ℕ}
    (1 ∷ 1 ∷ 1 ∷ 0 ∷ 1 ∷ 0 ∷ 0 ∷ 0 ∷
    (code c / 2 % 2 + 2) ∷ (code c / 1 % 2 + 2) ∷ (code c / 2 % 2 + 2) ∷ (code c / 1 % 2 + 2) ∷ (code c / 2 % 2 + 2) ∷ (code c / 1 % 2 + 2) ∷
    (n / 512 % 2 + 2) ∷ (n / 256 % 2 + 2) ∷ (n / 128 % 2 + 2) ∷ (n / 64 % 2 + 2) ∷ (n / 32 % 2 + 2) ∷
    (n / 16 % 2 + 2) ∷ (n / 8 % 2 + 2) ∷ (n / 4 % 2 + 2) ∷ (n / 2 % 2 + 2) ∷ (n / 1 % 2 + 2) ∷ [])
    (states_of (header c n))
unfolding bit_states
header_is c n = sym (header-parts c n)

pub length-header-states : (c : Command) (n : ℕ) → length (states_of (header c n)) ≡ 24
length-header-states c n = sym (ap length (header_is c n))
