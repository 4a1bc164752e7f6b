use Prim.Native.Nat.{ℕ}
use mathlib.Core.List.{List}
use mathlib.Core.Path.{◌∙◌, ap}
use native.Mathlib.Omega.{arith}
use Rattle.turns.specs.Front.{put_all}
use Rattle.turns.proofs.LeavingStates.{highs_end-high_count, high_count-within, part_length, part-list}
use Rattle.turns.proofs.leaving.leave_states.Goals as goal

pub slice_bounds-append-count : goal.slice_bounds-append-count
slice_bounds-append-count c = omega (arith, (c.highs_end-end.ensures ∙ highs_end-high_count _ _))

pub slice_bounds-append-start : goal.slice_bounds-append-start
slice_bounds-append-start c = omega (arith, (c.highs_end-end.ensures ∙ highs_end-high_count _ _))

pub slice_bounds-append-end : goal.slice_bounds-append-end
slice_bounds-append-end c =
    omega (arith, (c.highs_end-end.ensures ∙ highs_end-high_count _ _), high_count-within c.args.states.now c.args.cursor.at c.requires.0)

pub next_turn-requires : goal.next_turn-requires
next_turn-requires c = let h = c in
    let b = h in
    omega (arith, (h.highs_end-end.ensures ∙ highs_end-high_count _ _), high_count-within b.args.states.now b.args.cursor.at b.requires.0)

pub returns : goal.returns
returns c = let p = c in
    let h = p in
    let a = h.args in
    let e = h.highs_end-end.ensures ∙ highs_end-high_count _ _ in (
      rw (c.next_turn.ensures, p.append-written.ensures.0, part_length a.states.now a.cursor.at _ e, e),
      p.append-written.ensures.1 ∙ ap (λ (xs : List ℕ). put_all a.returned.now a.cursor.written xs) (part-list _ _ _ e),
    )
