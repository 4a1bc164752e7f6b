-- The list passes where nothing differed so far and the rest of the list passes. Each turn takes one byte off the rest. Assumes nothing.
use Rattle.std.proofs.Common.{◌≡◌, ◌≤◌, length, drop}
use lib.Dec.{eqb}
use mathlib.Core.Bool.{◌&&◌}
use Rattle.tables.specs.Lists.{all_same}
use Rattle.frame_reader.proofs.lists.bytes_same.Given as goal

abbrev pub invariant-loop-held : goal.invariant-loop-held
invariant-loop-held l = (l.held-index ≤ length l.bytes) × (all_same l.bytes l.byte ≡ (eqb l.other 0 && all_same (drop l.held-index l.bytes) l.byte))
