-- What each definition of the intake does with the state at index i: at the end, at a state that stops it, and at one that it takes. Each
-- is the definition's own clause, for the rest of a list from i on. Assumes nothing.
use mathlib.Core.Path.{◌≡◌, refl, sym, subst, ◌∙◌}
use mathlib.Core.Bool.{Bool, true, false}
use mathlib.Core.List.{List, [], ◌∷◌}
use Prim.Native.Nat.{ℕ, zero, suc, ◌+◌, ◌-◌, ◌%◌, ◌<◌, ◌≤◌}
use native.Mathlib.Omega.{arith}
use native.Mathlib.Nat.{add_assoc, add-zero}
use native.Mathlib.Numerals.{add-one}
use lib.ListN.{length, get_or, drop, drop_of_length-le}
use Rattle.std.specs.List.{position, position_or_len}
use Rattle.std.specs.Option.{unwrap_or}
use lib.Seq.{drop-cons}
use borrow.Author.Tests.{lt-ltb, le-ltb, ltb-false}
use Rattle.std.proofs.lemmas.List.Sums.{prefix_len-le-length}
use Rattle.std.specs.Prelude.{ltb, nat_lt, not}
use Rattle.phases.specs.Phases.{pushed, in_header, headed}
use Rattle.phases.specs.declared.phase.Phase.{Phase}
use Rattle.phases.specs.declared.phase.Sent.TheVariants.{Nothing}
use Rattle.device.specs.declared.device.Device.{Device}
use Rattle.intake.specs.Intake.{stopped, high_taken, headed_all, highs_end, filled}

pub drop-on : (ss : List ℕ) (i : ℕ) → i < length ss → drop i ss ≡ get_or ss i 0 ∷ drop (i + 1) ss
drop-on ss i h = rw (add-one, drop-cons ss i 0) refl

-- ---- a phase

pub headed-end : (p : Phase) (ss : List ℕ) (i k : ℕ) → length ss ≤ i → headed_all p (drop i ss) k ≡ record { phase = p; at = k }
unfolding headed_all
headed-end p ss i k h = rw (drop_of_length-le ss h) refl

pub headed-out : (p : Phase) (ss : List ℕ) (i k : ℕ) → i < length ss → in_header p ≡ false → headed_all p (drop i ss) k ≡ record { phase = p; at = k }
unfolding headed_all
headed-out p ss i k h o = rw (drop-on ss i h, o) refl

pub headed-low : (p : Phase) (ss : List ℕ) (i k : ℕ) → i < length ss → in_header p ≡ true → get_or ss i 0 < 2
    → headed_all p (drop i ss) k ≡ record { phase = p; at = k }
unfolding headed_all
headed-low p ss i k h o l = rw (drop-on ss i h, o, lt-ltb (get_or ss i 0) 2 l) refl

pub headed-on : (p : Phase) (ss : List ℕ) (i k : ℕ) → i < length ss → in_header p ≡ true → 2 ≤ get_or ss i 0
    → headed_all p (drop i ss) k ≡ headed_all (headed p (get_or ss i 0 % 2)) (drop (i + 1) ss) (k + 1)
unfolding headed_all
headed-on p ss i k h o l = rw (drop-on ss i h, o, le-ltb (get_or ss i 0) 2 l) refl

-- the four, for the code that goes state by state
pub ruleset headed_clauses = (headed-end, headed-out, headed-low, headed-on)

-- ---- high states

pub highs-on : (ss : List ℕ) (i k : ℕ) → i < length ss → 2 ≤ get_or ss i 0 → highs_end (drop i ss) k ≡ highs_end (drop (i + 1) ss) (k + 1)
unfolding highs_end
highs-on ss i k h l = rw (drop-on ss i h, le-ltb (get_or ss i 0) 2 l) refl

-- m states behind i, a high one moves the end on
pub highs-further : (ss : List ℕ) (i m : ℕ) → i + m < length ss → 2 ≤ get_or ss (i + m) 0
    → highs_end (drop (i + m) ss) (i + m) ≡ highs_end (drop (i + (m + 1)) ss) (i + (m + 1))
highs-further ss i m h l = rw (sym (add_assoc i m 1)) (highs-on ss (i + m) (i + m) h l)

-- high states up to a place are passed
pub highs_passed : (ss : List ℕ) (i e : ℕ) → i ≤ e → ((k : ℕ) → i ≤ k → k < e → (k < length ss) × (2 ≤ get_or ss k 0))
    → highs_end (drop i ss) i ≡ highs_end (drop e ss) e
highs_passed ss i e l h = subst (λ (k : ℕ). highs_end (drop i ss) i ≡ highs_end (drop k ss) k) there (go (e - i) (omega arith))
  where
    there : i + (e - i) ≡ e
    there = omega arith

    go : (n : ℕ) → i + n ≤ e → highs_end (drop i ss) i ≡ highs_end (drop (i + n) ss) (i + n)
    go zero b = rw add-zero refl
    go (suc n) b =
        let w = h (i + n) (omega arith) (omega arith) in
        let more : n + 1 ≡ suc n = omega arith in
        subst (λ (k : ℕ). highs_end (drop i ss) i ≡ highs_end (drop (i + k) ss) (i + k)) more (go n (omega arith) ∙ highs-further ss i n w.0 w.1)

-- they end at the first low state, or at the end
highs_at : (ss : List ℕ) (i : ℕ) → i + position_or_len (λ s. ltb s 2) ss ≡ highs_end ss i
unfolding highs_end
highs_at [] i = add-zero i
highs_at (s ∷ ss) i = go (ltb s 2) refl (highs_at ss (i + 1))
  where
    go : (b : Bool) → ltb s 2 ≡ b → (i + 1) + position_or_len (λ x. ltb x 2) ss ≡ highs_end ss (i + 1)
        → i + position_or_len (λ x. ltb x 2) (s ∷ ss) ≡ highs_end (s ∷ ss) i
    go true e h = rw (e, add-zero) refl
    go false e h = rw e (omega (arith, h))

pub highs_first : (ss : List ℕ) (i : ℕ) → i + unwrap_or (position (λ s. nat_lt s 2) ss) (length ss) ≡ highs_end ss i
highs_first ss i = go (nat_lt (position_or_len (λ s. nat_lt s 2) ss) (length ss)) refl
  where
    go : (b : Bool) → nat_lt (position_or_len (λ s. nat_lt s 2) ss) (length ss) ≡ b
        → i + unwrap_or (position (λ s. nat_lt s 2) ss) (length ss) ≡ highs_end ss i
    go true e = rw e (highs_at ss i)
    go false e =
        let all : length ss ≡ position_or_len (λ s. nat_lt s 2) ss = omega (arith, ltb-false _ _ e, prefix_len-le-length (λ s. not (nat_lt s 2)) ss) in
        rw (e, all) (highs_at ss i)

-- ---- a field

pub filled_none : (v : ℕ) (ss : List ℕ) (i : ℕ) → filled v 0 (drop i ss) i ≡ record { value = v; at = i }
unfolding filled
filled_none v ss i = refl

pub filled-end : (v b : ℕ) (ss : List ℕ) (i : ℕ) → length ss ≤ i → filled v (suc b) (drop i ss) i ≡ record { value = v; at = i }
unfolding filled
filled-end v b ss i h = rw (drop_of_length-le ss h) refl

pub filled-low : (v b : ℕ) (ss : List ℕ) (i : ℕ) → i < length ss → get_or ss i 0 < 2 → filled v (suc b) (drop i ss) i ≡ record { value = v; at = i }
unfolding filled
filled-low v b ss i h l = rw (drop-on ss i h, lt-ltb (get_or ss i 0) 2 l) refl

pub filled_on : (v b : ℕ) (ss : List ℕ) (i : ℕ) → i < length ss → 2 ≤ get_or ss i 0
    → filled v (suc b) (drop i ss) i ≡ filled (pushed v (get_or ss i 0 % 2) 65536) b (drop (i + 1) ss) (i + 1)
unfolding filled
filled_on v b ss i h l = rw (drop-on ss i h, le-ltb (get_or ss i 0) 2 l) refl

-- the same, by how many bits it may take
pub filled_over : (v n : ℕ) (ss : List ℕ) (i : ℕ) → n ≡ 0 → filled v n (drop i ss) i ≡ record { value = v; at = i }
filled_over v n ss i e = rw e (filled_none v ss i)

pub filled_low : (v n : ℕ) (ss : List ℕ) (i : ℕ) → 0 < n → i < length ss → get_or ss i 0 < 2 → filled v n (drop i ss) i ≡ record { value = v; at = i }
filled_low v zero ss i p h l = absurd (omega arith)
filled_low v (suc b) ss i p h l = filled-low v b ss i h l

pub filled_next : (v n : ℕ) (ss : List ℕ) (i : ℕ) → 0 < n → i < length ss → 2 ≤ get_or ss i 0
    → filled v n (drop i ss) i ≡ filled (pushed v (get_or ss i 0 % 2) 65536) (n - 1) (drop (i + 1) ss) (i + 1)
filled_next v zero ss i p h l = absurd (omega arith)
filled_next v (suc b) ss i p h l =
    let e : suc b - 1 ≡ b = omega arith in
    rw e (filled_on v b ss i h l)

-- the three, for the code that goes state by state
pub ruleset filled_clauses = (filled_over, filled_low, filled_next)

-- ---- high states of a device

pub high_end : (d : Device) (ss : List ℕ) (i k : ℕ) → length ss ≤ i → high_taken d (drop i ss) k ≡ stopped d k Nothing
unfolding high_taken
high_end d ss i k h = rw (drop_of_length-le ss h) refl
