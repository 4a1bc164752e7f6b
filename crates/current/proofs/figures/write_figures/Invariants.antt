-- The figures of the devices so far stand in front, and their totals are added up: a small sum.
use Rattle.std.proofs.Common.{◌≡◌, ◌*◌, ◌^◌, ◌≤◌}
use Rattle.bits.specs.Bits.{over}
use Rattle.current.specs.Closed.{closed_sum, closed_figures}
use Rattle.current.proofs.figures.write_figures.Given as goal

abbrev pub invariant-loop-i : goal.invariant-loop-i
invariant-loop-i l =
    record {
      sum : l.sum ≡ closed_sum l.drive l.fn.given.calibration.now l.fn.given.individual.now l.i;
      few : l.sum ≤ l.i * 2 ^ 51;
      figures : l.figures ≡ over (closed_figures l.drive l.fn.given.calibration.now l.fn.given.individual.now l.i) l.initial.figures;
    }
