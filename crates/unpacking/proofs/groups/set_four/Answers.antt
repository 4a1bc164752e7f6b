-- Each of the four is masked to 16 bits, and stands right behind the one before. Assumes nothing.
use native.Mathlib.Omega.{arith}
use lib.ListN.{length-set}
use Rattle.unpacking.proofs.Lanes as lanes
use borrow.Author.Rules.{rules}
use Rattle.unpacking.proofs.groups.set_four.Goals as goal

pub overflow_cast-values : goal.overflow_cast-values
overflow_cast-values c = search (lanes.masked-lt, rules)

pub overflow_cast-values-2 : goal.overflow_cast-values-2
overflow_cast-values-2 c = search (lanes.masked-lt, rules)

pub bounds-values-i-2 : goal.bounds-values-i-2
bounds-values-i-2 c = simp length-set (omega arith)

pub overflow_cast-values-3 : goal.overflow_cast-values-3
overflow_cast-values-3 c = search (lanes.masked-lt, rules)

pub bounds-values-i-3 : goal.bounds-values-i-3
bounds-values-i-3 c = simp length-set (omega arith)

pub overflow_cast-values-4 : goal.overflow_cast-values-4
overflow_cast-values-4 c = search (lanes.masked-lt, rules)

pub bounds-values-i-4 : goal.bounds-values-i-4
bounds-values-i-4 c = simp length-set (omega arith)

pub returns : goal.returns
returns c = lanes.four-set c.args.values.now c.args.i c.args.four c.requires
