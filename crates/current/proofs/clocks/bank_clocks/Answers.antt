use Rattle.std.proofs.Common.{◌∙◌, ℕ, ◌+◌, ◌-◌, ◌<◌, get_or, length-take, ap, ap₂, arith, sym}
use Rattle.current.specs.Closed.{inside}
use Rattle.schedule.proofs.Sums.{total-next}
use Rattle.current.proofs.Devices.{get_or-part}
use Rattle.current.proofs.clocks.bank_clocks.Goals as goal

pub loop-value-preserved : goal.loop-value-preserved
loop-value-preserved c =
    let a = c.args in
    let l = c.loop-value in
    let near : l.value-index < a.from + a.each - a.from = omega (arith, length-take {A = ℕ}) in
    record {
      so_far = ap₂ (λ (m n : ℕ). m + n) l.invariant.so_far
          (c.lit_count.ensures ∙ ap (inside a.edge a.end) (get_or-part (a.from + a.each - a.from) a.from a.values.now l.value-index near))
          ∙ sym (total-next (λ k. inside a.edge a.end (get_or a.values.now (a.from + k) 0)) l.value-index);
      few = omega arith;
    }
