-- The first states of a restore, by where they end: within the clocks at low load after so many frames, or after all four. By induction on the
-- frames. Assumes nothing.
use mathlib.Core.Path.{◌≡◌, refl, sym, ap, ◌∙◌}
use mathlib.Core.Bool.{Bool}
use mathlib.Core.List.{List, [], ◌∷◌, ◌++◌, map, flatten, append_assoc}
use Prim.Native.Nat.{ℕ, zero, suc, ◌+◌, ◌-◌, ◌≤◌}
use native.Mathlib.Omega.{arith}
use lib.ListN.{length, length-append, length-map, take, get_or}
use lib.Seq.{take_all, take-append-le}
use Rattle.parts.specs.Wire.{low, state_code, lows}
use Rattle.parts.specs.declared.command.Command.{Command}
use Rattle.model.proofs.Lists.{take-append, take-map}

-- low clocks as states
abbrev pub quiet_states : List Bool → List ℕ
quiet_states bs = map state_code (lows bs)

take-quiet : (k : ℕ) (bs : List Bool) → take k (quiet_states bs) ≡ quiet_states (take k bs)
take-quiet k bs = take-map state_code k (lows bs) ∙ ap (map state_code) (take-map low k bs)

pub length-quiet : (bs : List Bool) → length (quiet_states bs) ≡ length bs
length-quiet bs = length-map (lows bs) state_code ∙ length-map bs low

-- all of a list, and then some of the low clocks after it
pub take-then : (k : ℕ) (xs : List ℕ) (last : List Bool) → length xs ≤ k → take k (xs ++ quiet_states last) ≡ xs ++ quiet_states (take (k - length xs) last)
take-then k xs last h = rw (take-append k xs (quiet_states last), take_all k xs h, take-quiet)

module _ (gap : Command → List Bool) (frame : Command → List ℕ) where
  -- low clocks and then the frame
  abbrev part : Command → List ℕ
  part c = quiet_states (gap c) ++ frame c

  abbrev first_parts : ℕ → List Command → List ℕ
  first_parts j cs = flatten (take j (map part cs))

  abbrev gap_behind : List Command → List Bool → ℕ → List Bool
  gap_behind cs last j = get_or (map gap cs ++ last ∷ []) j []

  pub take-gap : (cs : List Command) (last : List Bool) (j k : ℕ) → length (first_parts j cs) ≤ k → k ≤ length (first_parts j cs) + length (gap_behind cs last j)
      → take k (flatten (map part cs) ++ quiet_states last) ≡ first_parts j cs ++ quiet_states (take (k - length (first_parts j cs)) (gap_behind cs last j))
  unfolding flatten
  take-gap [] last zero k h l = take-then k [] last h
  take-gap [] last (suc j) zero h l = refl
  take-gap [] last (suc j) (suc k) h l = absurd (omega (arith, l))
  take-gap (c ∷ cs) last zero k h l =
      let z : k - 0 ≡ k = omega arith in
      rw (
        append_assoc (quiet_states (gap c) ++ frame c) (flatten (map part cs)) (quiet_states last),
        append_assoc (quiet_states (gap c)) (frame c) (flatten (map part cs) ++ quiet_states last),
        take-append-le k (quiet_states (gap c)) (frame c ++ (flatten (map part cs) ++ quiet_states last)) (rw length-quiet (omega (arith, l))),
        take-quiet k (gap c),
        z,
      )
  take-gap (c ∷ cs) last (suc j) k h l =
      let n : length (part c ++ first_parts j cs) ≡ length (part c) + length (first_parts j cs) = length-append (part c) (first_parts j cs) in
      let i = take-gap cs last j (k - length (part c)) (omega (arith, n, h)) (omega (arith, n, h, l)) in
      let z : k - length (part c) - length (first_parts j cs) ≡ k - length (part c ++ first_parts j cs) = omega (arith, n) in
      append-then c cs last k (omega (arith, n, h))
      ∙ ap (λ (xs : List ℕ). part c ++ xs) (i ∙ ap (λ (m : ℕ). first_parts j cs ++ quiet_states (take m (gap_behind cs last j))) z)
      ∙ sym (append_assoc (part c) (first_parts j cs) (quiet_states (take (k - length (part c ++ first_parts j cs)) (gap_behind cs last j))))
    where
      append-then : (c : Command) (cs : List Command) (last : List Bool) (k : ℕ) → length (part c) ≤ k
          → take k ((part c ++ flatten (map part cs)) ++ quiet_states last) ≡ part c ++ take (k - length (part c)) (flatten (map part cs) ++ quiet_states last)
      append-then c cs last k h =
          ap (take k) (append_assoc (part c) (flatten (map part cs)) (quiet_states last))
          ∙ take-append k (part c) (flatten (map part cs) ++ quiet_states last)
          ∙ ap (λ (xs : List ℕ). xs ++ take (k - length (part c)) (flatten (map part cs) ++ quiet_states last)) (take_all k (part c) h)
