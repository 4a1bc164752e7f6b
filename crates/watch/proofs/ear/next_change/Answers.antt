use Rattle.std.proofs.Common.{◌≡◌, ◌+◌, ◌<◌, ◌≤◌, length, get_or, min, map, sym, ◌∙◌, arith}
use Rattle.std.specs.List.{slice_range}
use Rattle.watch.specs.Watch.{data_bit}
use Rattle.watch.specs.Ear.{level_at}
use Rattle.watch.proofs.Changes.{next-from-place, next-change-here, next-change-on, next-change-none}
use Rattle.watch.proofs.ear.next_change.Goals as goal
use Rattle.watch.proofs.ear.next_change.Goals.{then-from-min-via-then-from-min, then-from-min-via-else-from-min+then-states-from}

pub returns-then-from-min : goal.returns-then-from-min
returns-then-from-min c = let a = c.args in
    elim c.then-from-min.branch [
      | then-from-min-via-then-from-min w ↦ let end : c.min.result ≤ a.from = w.if-from-min.true in
          sym (next-change-none _ a.states.now a.from a.to (omega (arith, end, c.min.ensures)))
      | then-from-min-via-else-from-min+then-states-from w ↦ let near : a.from < c.min.result = w.if-from-min.false in
          let other : data_bit (get_or a.states.now a.from 0) ≡ c.level_before-level.result → ⊥ = w.if-states-from.true in
          sym (
          next-change-here _ a.states.now a.from a.to (omega (arith, near, c.min.ensures)) (omega (arith, near, c.min.ensures))
          (rw c.level_before-level.ensures at other)
          )
    ]

pub returns : goal.returns
returns c = let a = c.args in
    let near : a.from < min a.to (length a.states.now) = rw c.min.ensures at c.if-from-min.false in
    rw (c.before_change.ensures.value, c.level_before-level.ensures, c.part.ensures)
    (sym (
    next-change-on _ a.states.now a.from a.to (omega (arith, near)) (omega (arith, near)) (rw c.level_before-level.ensures at c.if-states-from.false)
    ∙ next-from-place (level_at a.states.now a.from) (map data_bit (slice_range a.states.now (a.from + 1) a.to)) (a.from + 1)
    ))
