-- The list passes where the flag is 0 and the rest of the list passes. Each turn takes one number off the rest. Assumes nothing.
use Rattle.tables.specs.Lists.{all_below}
use lib.ListN.{length, drop}
use lib.Dec.{eqb}
use mathlib.Core.Bool.{◌&&◌}
use mathlib.Core.Path.{◌≡◌}
use Prim.Native.Nat.{◌≤◌}
use Rattle.tables.proofs.lists.bytes_below.Given as goal

abbrev pub invariant-loop-byte : goal.invariant-loop-byte
invariant-loop-byte l = (l.byte-index ≤ length l.bytes) × (all_below l.bytes l.limit ≡ (eqb l.over 0 && all_below (drop l.byte-index l.bytes) l.limit))
