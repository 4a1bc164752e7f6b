-- The mask of one value four times over. Assumes nothing.
use native.Mathlib.Omega.{arith}
use Rattle.packing.proofs.Four as four
use Rattle.packing.proofs.groups.Lanes.new.Goals as goal

pub invariant_of-result-clause-masks : goal.invariant_of-result-clause-masks
invariant_of-result-clause-masks c = four.masks-four _ _ (omega arith) c.low_bits.ensures
