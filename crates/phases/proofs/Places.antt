-- Phases and their numbers in the record: the round trip, and when two places are the same. By cases on the phase.
-- Assumes nothing.
use mathlib.Core.Path.{◌≡◌, refl, ap}
use mathlib.Core.Bool.{true}
use Prim.Native.Nat.{◌<◌}
use native.Mathlib.Nat.{mod-lt, mod-eq_of_lt}
use lib.Dec.{eqb, lit<}
use borrow.Author.Tests.{eq-eqb, eqb-true}
use Rattle.tables.proofs.Booleans.{and_both, cond_both}
use Rattle.parts.proofs.Laws.{command-code}
use Rattle.phases.specs.Phases.{place_of, phase_of, same_place, window_of}
use Rattle.phases.specs.declared.phase.Phase.{Phase}
use Rattle.phases.specs.declared.phase.Phase.TheVariants.{Hunting, Opening, Counting, Slice, Passing, Lost}
use Rattle.phases.specs.declared.phase.Place.{Place}

-- a phase's numbers fit the types of the record's: only the window can be too large for its own
abbrev pub Small : Phase → Type 0
Small p = window_of p < 512

-- the phase of any place is such a phase
pub phase-small : (q : Place) → Small (phase_of q)
phase-small q =
    cond_both Small (eqb q.phase 0) _ _ (λ _. mod-lt q.read (lit< tt))
    (λ _. cond_both Small (eqb q.phase 1) _ _ (λ _. lit< tt)
    (λ _. cond_both Small (eqb q.phase 2) _ _ (λ _. lit< tt)
    (λ _. cond_both Small (eqb q.phase 3) _ _ (λ _. lit< tt)
    (λ _. cond_both Small (eqb q.phase 4) _ _ (λ _. lit< tt) (λ _. lit< tt)))))

-- the round trip through the record's numbers
pub phase-place : (p : Phase) → Small p → phase_of (place_of p) ≡ p
phase-place (Hunting window) h = ap Hunting (mod-eq_of_lt h)
phase-place (Opening read) h = refl
phase-place (Counting c read) h = rw (command-code c)
phase-place (Slice c count taken) h = rw (command-code c)
phase-place Passing h = refl
phase-place Lost h = refl

pub same_place_lem : (p q : Place) → same_place p q ≡ true → p ≡ q
same_place_lem p q h =
    let a = and_both _ _ h in
    let b = and_both _ _ a.1 in
    let c = and_both _ _ b.1 in
    let e1 : p.phase ≡ q.phase = eqb-true p.phase q.phase a.0 in
    let e2 : p.command ≡ q.command = eqb-true p.command q.command b.0 in
    let e3 : p.count ≡ q.count = eqb-true p.count q.count c.0 in
    let e4 : p.read ≡ q.read = eqb-true p.read q.read c.1 in
    (λ i. record { phase = e1 i; command = e2 i; count = e3 i; read = e4 i })

pub same_self : (q : Place) → same_place q q ≡ true
same_self q =
    rw (eq-eqb q.phase q.phase refl, eq-eqb q.command q.command refl, eq-eqb q.count q.count refl, eq-eqb q.read q.read refl)
