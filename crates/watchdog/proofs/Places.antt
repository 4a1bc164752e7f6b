-- One machine of a chain whose machines take whole clocks, by its place: from clock to clock it goes by what it is sent, and that is the same for
-- every chain that is seen as the same chain through a function. By induction on the machines. Assumes nothing.
use mathlib.Core.Path.{◌≡◌, refl, ap, ◌∙◌}
use mathlib.Core.List.{List, [], ◌∷◌, map, map-id}
use Prim.Native.Nat.{ℕ, zero, suc, ◌<◌}
use native.Mathlib.Omega.{arith}
use lib.ListN.{length, take, get_or}
use lib.Seq.{take-suc}
use Rattle.machine.specs.Machine.{All, run, relay, relay_one, relays}
use Rattle.machine.proofs.Machine.{run-append, run-one, run-view, relays-view, length-relays}

module _ {S X : Type 0} (turn : S → List X → S × List X) where
  -- what the machine at place i, from 0, is sent in a clock in which the first is given these
  abbrev pub sent_to : ℕ → List S → List X → List X
  sent_to zero ss xs = xs
  sent_to (suc i) [] xs = []
  sent_to (suc i) (s ∷ ss) xs = sent_to i ss (turn s xs).1

  pub relay-at : (ss : List S) (i : ℕ) (xs : List X) (z : S) → i < length ss → get_or (relay turn ss xs).0 i z ≡ (turn (get_or ss i z) (sent_to i ss xs)).0
  unfolding relay
  relay-at [] i xs z h = absurd (omega arith)
  relay-at (s ∷ ss) zero xs z h = refl
  relay-at (s ∷ ss) (suc i) xs z h = relay-at ss i (turn s xs).1 z (omega arith)

  module _ (ss : List S) (ls : List X) (i : ℕ) (z : S) (h : i < length ss) (x : X) where
    -- it after so many clocks
    abbrev at_place : ℕ → S
    at_place k = get_or (relays turn ss (take k ls)).0 i z

    place-suc : (k : ℕ) → k < length ls → at_place (suc k) ≡ (turn (at_place k) (sent_to i (relays turn ss (take k ls)).0 (get_or ls k x ∷ []))).0
    unfolding relay_one
    place-suc k l =
        let ts : List S = (relays turn ss (take k ls)).0 in
        let n : i < length ts = rw (length-relays turn ss (take k ls)) h in
        let e : (relays turn ss (take (suc k) ls)).0 ≡ (relay_one turn ts (get_or ls k x)).0 =
        rw (take-suc ls k x l, run-append (relay_one turn) ss (take k ls) (get_or ls k x ∷ []), run-one (relay_one turn) ts (get_or ls k x)) in
        ap (λ (us : List S). get_or us i z) e ∙ relay-at ts i (get_or ls k x ∷ []) z n

-- every state fits
abbrev any : {S : Type 0} → S → Type 0
any s = Unit {0}

all_any : {S : Type 0} (ss : List S) → All any ss
all_any [] = tt
all_any (s ∷ ss) = (tt, all_any ss)

-- a machine seen through f, whatever its state, its inputs as they are
pub run-through : {S S' X : Type 0} (step : S → X → S × List X) (step' : S' → X → S' × List X) (f : S' → S)
    → ((s : S') (x : X) → (f (step' s x).0, (step' s x).1) ≡ step (f s) x)
    → (s : S') (xs : List X) → (f (run step' s xs).0, (run step' s xs).1) ≡ run step (f s) xs
run-through step step' f agree s xs =
    rw (map-id (run step' s xs).1, map-id xs) at (run-view step step' f (λ x. x) any (λ s x p. tt) (λ s x p. rw (map-id (step' s x).1) (agree s x)) s xs tt)

-- the same of a chain of them, and of what each is sent
module _ {S S' X : Type 0} (turn : S → List X → S × List X) (turn' : S' → List X → S' × List X) (f : S' → S)
    (agree : (s : S') (xs : List X) → (f (turn' s xs).0, (turn' s xs).1) ≡ turn (f s) xs) where
  pub relays-through : (ss : List S') (xs : List X) → (map f (relays turn' ss xs).0, (relays turn' ss xs).1) ≡ relays turn (map f ss) xs
  relays-through ss xs =
      rw (map-id (relays turn' ss xs).1, map-id xs)
      at (relays-view turn turn' f (λ x. x) any any (λ s ys p q. tt) (λ s ys p q. all_any (turn' s ys).1) (λ s ys p q. rw (map-id (turn' s ys).1, map-id ys) (agree s ys)) ss xs
      (all_any ss) (all_any xs))

  sent_to-through : (i : ℕ) (ss : List S') (xs : List X) → sent_to turn' i ss xs ≡ sent_to turn i (map f ss) xs
  sent_to-through zero ss xs = refl
  sent_to-through (suc i) [] xs = refl
  sent_to-through (suc i) (s ∷ ss) xs =
      sent_to-through i ss (turn' s xs).1 ∙ ap (λ (ys : List X). sent_to turn i (map f ss) ys) (ap (λ r. r.1) (agree s xs))

  -- from clock to clock, by what it is sent in the chain as it is seen
  pub place-through : (ss : List S') (ts : List S) → map f ss ≡ ts → (ls : List X) (i : ℕ) (z : S') → i < length ss → (x : X) (k : ℕ) → k < length ls
      → get_or (relays turn' ss (take (suc k) ls)).0 i z
      ≡ (turn' (get_or (relays turn' ss (take k ls)).0 i z) (sent_to turn i (relays turn ts (take k ls)).0 (get_or ls k x ∷ []))).0
  place-through ss ts e ls i z h x k l =
      let a : sent_to turn' i (relays turn' ss (take k ls)).0 (get_or ls k x ∷ []) ≡ sent_to turn i (relays turn ts (take k ls)).0 (get_or ls k x ∷ []) =
      sent_to-through i (relays turn' ss (take k ls)).0 (get_or ls k x ∷ [])
      ∙ ap (λ (us : List S). sent_to turn i us (get_or ls k x ∷ [])) (ap (λ r. r.0) (relays-through ss (take k ls)) ∙ ap (λ (us : List S). (relays turn us (take k ls)).0) e) in
      place-suc turn' ss ls i z h x k l ∙ ap (λ (ys : List X). (turn' (get_or (relays turn' ss (take k ls)).0 i z) ys).0) a
