-- The bits of the list are those found so far with those of the rest. Each turn takes one number off the rest. Assumes nothing.
use Rattle.tables.specs.Lists.{or_all}
use lib.ListN.{length, drop}
use mathlib.Core.Path.{◌≡◌}
use Prim.Native.Nat.{◌≤◌}
use Rattle.tables.proofs.lists.or_all.Given as goal

abbrev pub invariant-loop-value : goal.invariant-loop-value
invariant-loop-value l = (l.value-index ≤ length l.values) × (or_all l.values l.before ≡ or_all (drop l.value-index l.values) l.bits)
