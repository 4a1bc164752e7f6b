-- The clocks at which an output is lit in an ON subframe, for any row and any value: one run of clocks. An even output's begins where the
-- edge zone ends and stops at the value or the other edge zone; an odd one's is its mirror image. Both have the same number of clocks.
-- A test of a run is two tests of its ends, by cases on each; the number of clocks of a run by induction on the clocks. Assumes nothing.
use mathlib.Core.Path.{◌≡◌, refl, sym, ap, ap₂, ◌∙◌}
use mathlib.Core.Bool.{Bool, true, false, ◌&&◌, ◌||◌, cond, and_comm}
use Prim.Native.Nat.{ℕ, zero, suc, ◌+◌, ◌-◌, ◌*◌, ◌%◌, ◌<◌, ◌≤◌, min, max}
use native.Mathlib.Nat.{add-zero}
use native.Mathlib.Omega.{arith}
use lib.Dec.{ltb, leb, eqb}
use borrow.Author.Tests.{eqb-true, eqb-false, eq-eqb, ne_eqb, ltb-true, ltb-false, leb-true, leb-false, lt-ltb, le-ltb, le-leb, lt-leb}
use Rattle.bits.specs.Bits.{digit}
use Rattle.parts.specs.Parts.{Part, outputs, subframes, multiplex}
use Rattle.subframes.specs.Subframes.{how_many_from, is_on}
use Rattle.schedule.specs.Answers.{position_over}
use Rattle.schedule.specs.Moments.{InSchedule}
use Rattle.schedule.specs.declared.moments.Moment.{Moment}
use Rattle.schedule.specs.Light.{total, name_number, lit_at, lit_by, is_even, in_run, lit_from, lit_to, lit_count, is_lit, lit_first, lit_end}
use Rattle.schedule.proofs.Sums.{total-same, total-count}
use Rattle.tables.proofs.Booleans.{or-none, and-false, and_assoc, or-second}

ltb-min : (c m n : ℕ) → ltb c (min m n) ≡ ltb c n && ltb c m
ltb-min c m n = at (ltb c n) refl (ltb c m) refl where
  at : (s : Bool) → ltb c n ≡ s → (t : Bool) → ltb c m ≡ t → ltb c (min m n) ≡ s && t
  at false e t f = le-ltb c (min m n) (omega (arith, ltb-false c n e))
  at true e false f = le-ltb c (min m n) (omega (arith, ltb-false c m f))
  at true e true f = lt-ltb c (min m n) (omega (arith, ltb-true c n e, ltb-true c m f))

leb-max : (c m n : ℕ) → leb (max m n) c ≡ leb m c && leb n c
leb-max c m n = at (leb m c) refl (leb n c) refl where
  at : (s : Bool) → leb m c ≡ s → (t : Bool) → leb n c ≡ t → leb (max m n) c ≡ s && t
  at false e t f = lt-leb (max m n) c (omega (arith, leb-false m c e))
  at true e false f = lt-leb (max m n) c (omega (arith, leb-false n c f))
  at true e true f = le-leb (max m n) c (omega (arith, leb-true m c e, leb-true n c f))

-- clock by clock, an output is lit in one run
pub lit-run : (p : Part) (v output c : ℕ) → lit_at p v output c ≡ in_run (lit_from p v (is_even output)) (lit_to p v (is_even output)) c
lit-run p v output c = at (is_even output) where
  other_edge : ℕ
  other_edge = p.clocks - p.edge

  by_value : ℕ
  by_value = p.clocks - v

  at :
      (t : Bool)
      → leb p.edge c && (ltb c other_edge && cond t (ltb c v) (leb by_value c))
      ≡ in_run (cond t p.edge (max p.edge by_value)) (cond t (min v other_edge) other_edge) c
  at true = ap (λ (t : Bool). leb p.edge c && t) (sym (ltb-min c v other_edge))
  at false =
      ap (λ (t : Bool). leb p.edge c && t) (and_comm (ltb c other_edge) (leb by_value c))
      ∙ sym (and_assoc (leb p.edge c) (leb by_value c) (ltb c other_edge))
      ∙ ap (λ (t : Bool). t && ltb c other_edge) (sym (leb-max c p.edge by_value))

-- a run that stops where it begins has no clock
pub run-empty : (from to c : ℕ) → to ≤ from → in_run from to c ≡ false
run-empty from to c h = at (leb from c) refl where
  at : (t : Bool) → leb from c ≡ t → (t && ltb c to) ≡ false
  at true e = le-ltb c to (omega (arith, leb-true from c e))
  at false e = refl

-- and in the run of its first and end clock, which has no clock in an OFF subframe
pub lit-first-end :
    (p : Part) (configuration global v output s c : ℕ)
    → is_lit p configuration global v output s c
    ≡ in_run (lit_first p configuration global v output s) (lit_end p configuration global v output s) c
lit-first-end p configuration global v output s c = at (is_on p configuration global s) (ltb from to) refl where
  from : ℕ
  from = lit_from p v (is_even output)

  to : ℕ
  to = lit_to p v (is_even output)

  at : (a b : Bool) → ltb from to ≡ b → (a && lit_at p v output c) ≡ in_run (cond (a && b) from 0) (cond (a && b) to 0) c
  at false b e = sym (run-empty 0 0 c (omega arith))
  at true true e = lit-run p v output c
  at true false e = lit-run p v output c ∙ run-empty from to c (ltb-false from to e) ∙ sym (run-empty 0 0 c (omega arith))

-- ---- how many

how_many_from-same : (f g : ℕ → Bool) → ((c : ℕ) → f c ≡ g c) → (from n : ℕ) → how_many_from f from n ≡ how_many_from g from n
unfolding how_many_from
how_many_from-same f g e from zero = refl
how_many_from-same f g e from (suc n) = ap₂ (λ (k : ℕ) (t : Bool). k + digit t) (how_many_from-same f g e from n) (e (from + n))

-- a run that begins after 0 has as many of the first n clocks as lie in it
pub how_many_from-run : (from to n : ℕ) → how_many_from (in_run from to) 0 n ≡ min to n - from
unfolding how_many_from
how_many_from-run from to zero = omega arith
how_many_from-run from to (suc n) = at (how_many_from-run from to n) (leb from (0 + n)) refl (ltb (0 + n) to) refl where
  at :
      how_many_from (in_run from to) 0 n ≡ min to n - from
      → (s : Bool)
      → leb from (0 + n) ≡ s
      → (t : Bool)
      → ltb (0 + n) to ≡ t
      → how_many_from (in_run from to) 0 n + digit (s && t) ≡ min to (suc n) - from
  at h false e t f = omega (arith, leb-false from (0 + n) e)
  at h true e false f = omega (arith, leb-true from (0 + n) e, ltb-false (0 + n) to f)
  at h true e true f = omega (arith, leb-true from (0 + n) e, ltb-true (0 + n) to f)

mirror : (e n v : ℕ) → n - e - max e (n - v) ≡ min v (n - e) - e
mirror e n v = omega arith

-- an output is lit for as many clocks of a subframe, even or odd
pub lit-count : (p : Part) (v output : ℕ) → how_many_from (lit_at p v output) 0 p.clocks ≡ lit_count p v
lit-count p v output =
    how_many_from-same (lit_at p v output) (in_run (lit_from p v (is_even output)) (lit_to p v (is_even output))) (lit-run p v output) 0 p.clocks
    ∙ how_many_from-run (lit_from p v (is_even output)) (lit_to p v (is_even output)) p.clocks
    ∙ at (is_even output) where
      at : (t : Bool) → min (cond t (min v (p.clocks - p.edge)) (p.clocks - p.edge)) p.clocks - cond t p.edge (max p.edge (p.clocks - v)) ≡ lit_count p v
      at true =
          let k : min (min v (p.clocks - p.edge)) p.clocks ≡ min v (p.clocks - p.edge) = omega arith in
          ap (λ (n : ℕ). n - p.edge) k
      at false =
          let k : min (p.clocks - p.edge) p.clocks ≡ p.clocks - p.edge = omega arith in
          ap (λ (n : ℕ). n - max p.edge (p.clocks - v)) k ∙ mirror p.edge p.clocks v

-- ---- in a frame

pub lit-on : (p : Part) (configuration global v output s c : ℕ) → is_on p configuration global s ≡ true → is_lit p configuration global v output s c ≡ lit_at p v output c
lit-on p configuration global v output s c e = ap (λ (t : Bool). t && lit_at p v output c) e

pub lit-off : (p : Part) (configuration global v output s c : ℕ) → is_on p configuration global s ≡ false → is_lit p configuration global v output s c ≡ false
lit-off p configuration global v output s c e = ap (λ (t : Bool). t && lit_at p v output c) e

how_many_from-none : (from n : ℕ) → how_many_from (λ c. false) from n ≡ 0
unfolding how_many_from
how_many_from-none from zero = refl
how_many_from-none from (suc n) = add-zero _ ∙ how_many_from-none from n

-- the lit clocks of the first n subframes
pub total-lit :
    (p : Part) (configuration global v output n : ℕ)
    → total (λ s. how_many_from (is_lit p configuration global v output s) 0 p.clocks) n ≡ how_many_from (is_on p configuration global) 0 n * lit_count p v
total-lit p configuration global v output n =
    total-same (λ s. how_many_from (is_lit p configuration global v output s) 0 p.clocks) (λ s. cond (is_on p configuration global s) (lit_count p v) 0) n
    (λ s _. at (is_on p configuration global s))
    ∙ total-count (is_on p configuration global) (lit_count p v) n where
      at : (t : Bool) → how_many_from (λ c. t && lit_at p v output c) 0 p.clocks ≡ cond t (lit_count p v) 0
      at true = lit-count p v output
      at false = how_many_from-none 0 p.clocks

-- ---- by the tests of the code

pub dark-first : (p : Part) (v output c : ℕ) → c < p.edge → false ≡ lit_at p v output c
dark-first p v output c h = rw (lt-leb p.edge c h)

pub dark-last : (p : Part) (v output c : ℕ) → p.clocks - p.edge ≤ c → false ≡ lit_at p v output c
dark-last p v output c h = rw (le-ltb c (p.clocks - p.edge) h) (sym (and-false (leb p.edge c)))

pub lit-inside : (p : Part) (v output c : ℕ) → p.edge ≤ c → c < p.clocks - p.edge → lit_by p v output c ≡ lit_at p v output c
lit-inside p v output c h k = rw (le-leb p.edge c h, lt-ltb c (p.clocks - p.edge) k)

-- output 0, the 7 of its bank, is odd
pub even-bit : (output : ℕ) → eqb (output % 2) 1 ≡ is_even output
even-bit output = at (eqb (output % 2) 1) refl where
  at : (t : Bool) → eqb (output % 2) 1 ≡ t → t ≡ is_even output
  at true e = let h = eqb-true (output % 2) 1 e in sym (eq-eqb (name_number output % 2) 0 (omega arith))
  at false e = let h = eqb-false (output % 2) 1 e in sym (ne_eqb (name_number output % 2) 0 (λ z. h (omega arith)))

-- a position that is not over is one of the part's
position-within :
    (p : Part) (configuration output subframe clock phase : ℕ)
    → position_over p configuration output subframe clock phase ≡ false
    → (output < outputs p) × (subframe < subframes p configuration) × (clock < p.clocks) × (phase ≤ multiplex configuration)
unfolding position_over
position-within p configuration output subframe clock phase e =
    let f = or-none (leb (outputs p) output) (leb (subframes p configuration) subframe || (leb p.clocks clock || ltb (multiplex configuration) phase)) e in
    let g = or-none (leb (subframes p configuration) subframe) (leb p.clocks clock || ltb (multiplex configuration) phase) f.1 in
    let h = or-none (leb p.clocks clock) (ltb (multiplex configuration) phase) g.1 in
    (leb-false (outputs p) output f.0, leb-false (subframes p configuration) subframe g.0, leb-false p.clocks clock h.0, ltb-false (multiplex configuration) phase h.1)

-- an output of the part at a moment of the schedule is not over
pub moment-over :
    (p : Part) (configuration output : ℕ) (m : Moment)
    → output < outputs p
    → InSchedule p configuration m
    → position_over p configuration output m.subframe m.clock m.phase ≡ false
unfolding position_over
moment-over p configuration output m h i =
    or-second (lt-leb (outputs p) output h)
    (or-second (lt-leb (subframes p configuration) m.subframe i.subframe)
    (or-second (lt-leb p.clocks m.clock i.clock) (le-ltb (multiplex configuration) m.phase (omega (arith, i.phase)))))

-- a subframe that has a clock has clock 0
pub position-zero :
    (p : Part) (configuration output subframe clock phase : ℕ)
    → position_over p configuration output subframe clock phase ≡ false
    → position_over p configuration output subframe 0 phase ≡ false
unfolding position_over
position-zero p configuration output subframe clock phase e =
    let w = position-within p configuration output subframe clock phase e in
    let h : 0 < p.clocks = omega (arith, w.2) in
    or-second (lt-leb (outputs p) output w.0)
    (or-second (lt-leb (subframes p configuration) subframe w.1)
    (or-second (lt-leb p.clocks 0 h) (le-ltb (multiplex configuration) phase w.3)))
