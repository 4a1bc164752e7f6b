-- The list passes where the flag is 0 and the rest of the list passes. Each turn takes one number off the rest. Assumes nothing.
use Rattle.tables.specs.Lists.{all_below}
use lib.ListN.{length, drop}
use lib.Dec.{eqb}
use mathlib.Core.Bool.{◌&&◌}
use mathlib.Core.Path.{◌≡◌}
use Prim.Native.Nat.{◌≤◌}
use Rattle.tables.proofs.lists.values_below.Given as goal

abbrev pub invariant-loop-value : goal.invariant-loop-value
invariant-loop-value l = (l.value-index ≤ length l.values) × (all_below l.values l.limit ≡ (eqb l.over 0 && all_below (drop l.value-index l.values) l.limit))
