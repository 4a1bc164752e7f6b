-- What a call knows once none of the rows 1 to 3 applies: the tests as facts, by name. Assumes nothing.
use mathlib.Core.Path.{◌≡◌}
use mathlib.Core.Bool.{true}
use Prim.Native.Nat.{ℕ, ◌<◌, ◌≤◌}
use borrow.Author.Tests.{ltb-false, not-false}
use Rattle.parts.specs.Parts.{known, most_devices}
use Rattle.tables.proofs.Rows as rows
use Rattle.parts.proofs.Laws.{count-bounds}
use Rattle.frames.specs.Frames.{told_rows}
use Rattle.frames.specs.declared.told.Tail.{Tail}

pub record ToldAccepted (part devices : ℕ) (tail : Tail) : Type 0 where
  pub part-known : known part ≡ true
  pub some : 0 < devices
  pub few : devices ≤ most_devices
  pub short : tail.length ≤ 64

module _ (part devices : ℕ) (tail : Tail) where
  pub told_accepted : rows.Clear (told_rows part devices tail) → ToldAccepted part devices tail
  told_accepted c =
      let count = count-bounds devices (not-false _ c.1.0) in
      record {
        part-known = not-false _ c.0;
        some = count.0;
        few = count.1;
        short = ltb-false 64 tail.length c.1.1.0;
      }
