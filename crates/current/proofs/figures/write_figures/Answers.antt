use Rattle.std.proofs.Common.{◌∙◌, ◌+◌, ◌*◌, ℕ, List, sym, ap₂, arith}
use Rattle.bits.specs.Bits.{over_at}
use Rattle.current.specs.Current.{figure}
use Rattle.current.specs.Closed.{closed_at}
use Rattle.current.proofs.Front.{figures-none, figures-next}
use Rattle.schedule.proofs.Sums.{total-none, total-next}
use Rattle.current.proofs.figures.write_figures.Goals as goal

pub loop-i-init : goal.loop-i-init
loop-i-init c =
    let a = c.args in
    record { sum = sym (total-none _); few = omega arith; figures = figures-none a.drive a.given.calibration.now a.given.individual.now a.figures.now }

pub loop-i-preserved : goal.loop-i-preserved
loop-i-preserved c =
    let a = c.args in
    let l = c.loop-i in
    let total = c.device_total-total.ensures.value in
    record {
      sum = ap₂ (λ (m n : ℕ). m + n) l.invariant.sum (c.write_figure-sum.ensures.value ∙ total)
          ∙ sym (total-next (closed_at a.drive a.given.calibration.now a.given.individual.now) l.i);
      few = omega (arith, c.write_figure-sum.ensures.value, c.device_total-total.ensures.few, l.invariant.few);
      figures = c.write_figure-sum.ensures.figures_after
          ∙ ap₂ (λ (n : ℕ) (m : List ℕ). over_at (3 * l.i) (figure n) m) total l.invariant.figures
          ∙ figures-next a.drive a.given.calibration.now a.given.individual.now a.figures.now l.i;
    }
