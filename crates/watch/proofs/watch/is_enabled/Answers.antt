use Rattle.std.proofs.Common.{◌^◌, ◌<◌, ◌≤◌, arith}
use native.Mathlib.Nat.{div-eq_of_lt, pow-le-pow_right}
use borrow.Author.Tests.{le-ltb}
use Rattle.watch.proofs.watch.is_enabled.Goals as goal

pub returns-else-watch-lt8 : goal.returns-else-watch-lt8
returns-else-watch-lt8 c = let l : 2 ^ 8 ≤ 2 ^ c.args.watch.bit = pow-le-pow_right (omega arith) c.if-watch-lt8.false in
    let k : c.args.configuration < 2 ^ c.args.watch.bit = omega (arith, l) in
    rw (div-eq_of_lt k) (le-ltb _ 8 c.if-watch-lt8.false)
