-- What is added up is the sum over the banks so far, and small.
use Rattle.std.proofs.Common.{◌≡◌, ◌*◌, ◌^◌, ◌≤◌}
use Rattle.schedule.specs.Light.{total}
use Rattle.current.specs.Closed.{bank_total}
use Rattle.current.proofs.drive.device_total.Given as goal

abbrev pub invariant-loop-bank : goal.invariant-loop-bank
invariant-loop-bank l =
    record {
      so_far : l.sum ≡ total (bank_total l.drive l.fn.given.calibration.now l.bytes l.fn.given.individual.now l.values) l.bank;
      few : l.sum ≤ l.bank * 2 ^ 38;
    }
