-- The mask of each of the two numbers is that of the width. Assumes nothing.
use mathlib.Core.Path.{ap, ◌∙◌}
use Prim.Native.Nat.{ℕ, ◌+◌, ◌*◌, ◌^◌}
use Rattle.bits.proofs.Laws.{ones_low}
use Rattle.unpacking.proofs.groups.Lanes.new.Goals as goal

pub invariant_of-result-clause-masks : goal.invariant_of-result-clause-masks
invariant_of-result-clause-masks c = ap (λ (y : ℕ). y * (2 ^ 32 + 1)) (c.low_bits.ensures ∙ ones_low 16 c.args.width c.requires)
