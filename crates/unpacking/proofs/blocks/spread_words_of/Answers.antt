use Prim.Native.Nat.{◌*◌}
use native.Mathlib.Omega.{arith}
use borrow.Author.Rules.{rules}
use Rattle.unpacking.proofs.Words as law
use Rattle.unpacking.proofs.blocks.spread_words_of.Goals as goal

pub loop-j-init : goal.loop-j-init
loop-j-init c = law.spread_none _ _ _

pub four_of-requires : goal.four_of-requires
four_of-requires c = law.high_lt (4 * c.args.lanes.width) (omega arith) (search rules)

pub loop-j-preserved : goal.loop-j-preserved
loop-j-preserved c = let a = c.args in
    law.spread-more a.lanes.width a.first c.loop-j.j a.words.now a.values.now (omega arith) (omega arith) (omega arith)
    c.loop-j.invariant c.four_of.ensures c.set_four.ensures
