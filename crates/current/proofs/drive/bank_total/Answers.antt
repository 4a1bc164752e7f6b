-- Few clocks are lit, at a small current.
use Rattle.std.proofs.Common.{◌+◌, ◌*◌, ◌^◌, ◌≤◌}
use native.Mathlib.Nat.{mul-le-mul}
use Rattle.current.proofs.Bounds.{clocks-below}
use Rattle.current.proofs.drive.bank_total.Goals as goal

pub returns-clause-few : goal.returns-clause-few
returns-clause-few c =
    let a = c.args in
    let lit : c.bank_clocks-lit.result ≤ 2 ^ 18 = rw c.bank_clocks-lit.ensures (clocks-below a.drive c.requires.0 a.given.individual.now (a.values + a.bank * a.drive.each)) in
    mul-le-mul lit c.sink_current.ensures.few
