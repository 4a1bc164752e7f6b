-- The fours before this one are written. Assumes nothing.
use Prim.Native.Nat.{◌*◌}
use lib.ListN.{take}
use Rattle.bits.specs.Bits.{fields}
use Rattle.packing.specs.Writing.{Pushed}
use Rattle.packing.proofs.groups.push_fours.Given as goal

abbrev pub invariant-loop-four : goal.invariant-loop-four
invariant-loop-four g l = Pushed l.initial.out l.out l.initial.behind l.behind (l.four-index * 4 * g.row.WIDTH) (fields g.row.WIDTH (take (l.four-index * 4) l.fn.values))
