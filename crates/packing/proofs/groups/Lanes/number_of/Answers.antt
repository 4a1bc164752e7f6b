-- Four values are moved together. Assumes nothing.
use native.Mathlib.Omega.{arith}
use borrow.Author.Rules.{rules}
use Rattle.packing.proofs.Four as four
use Rattle.packing.proofs.groups.Lanes.number_of.Goals as goal

pub returns : goal.returns
returns c = let a = c.args in
    four.group-number a.self.width a.values.now a.self.mask a.self.narrow a.self.masks (omega arith) (λ k. search rules)
