-- The group's first bytes are the high bits of four, and its last four bytes stand behind them. Assumes nothing.
use Prim.Native.Nat.{◌*◌, ◌/◌}
use native.Mathlib.Omega.{arith}
use Rattle.unpacking.proofs.Words as law
use Rattle.unpacking.proofs.groups.load_four.Goals as goal

pub returns : goal.returns
returns c = let a = c.args in
    law.ends_read (a.width / 2) (4 * a.width) (omega arith) (omega arith) (omega arith) (omega arith) (omega arith) (omega arith) (omega arith)
    c.load_word.ensures c.load_word-last.ensures
