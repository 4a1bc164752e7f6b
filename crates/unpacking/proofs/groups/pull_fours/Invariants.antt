-- The values of the fours before this one are read. Assumes nothing.
use mathlib.Core.Path.{◌≡◌}
use Prim.Native.Nat.{◌+◌, ◌*◌}
use lib.ListN.{take}
use Rattle.unpacking.specs.Reading.{from, Pulled}
use Rattle.unpacking.proofs.groups.pull_fours.Given as goal

abbrev pub invariant-loop-k : goal.invariant-loop-k
invariant-loop-k g l = Pulled l.src (from l.at) (from l.here) g.row.WIDTH (take (4 * l.k) l.values)
    × (8 * l.here ≡ 8 * l.at + 4 * l.k * g.row.WIDTH)
