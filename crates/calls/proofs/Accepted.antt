-- What an accepted run says of its records and its room: the table of its refusals, taken apart once. Assumes nothing.
use mathlib.Core.Path.{◌≡◌, refl}
use mathlib.Core.Bool.{true, ◌&&◌}
use mathlib.Core.List.{List}
use Prim.Native.Nat.{ℕ, ◌<◌, ◌≤◌}
use native.Mathlib.Omega.{arith}
use lib.Dec.{leb, eqb}
use lib.ListN.{length}
use borrow.Author.Tests.{ltb-false, leb-true, eqb-true, not-false}
use Rattle.tables.specs.Lists.{all_below}
use Rattle.tables.specs.Refusals.{first}
use Rattle.tables.proofs.Rows.{clear}
use Rattle.device.specs.declared.device.Device.{Device}
use Rattle.tables.proofs.Booleans.{and_both}
use Rattle.calls.specs.Chain.{all_fit}
use Rattle.parts.specs.Parts.{is_count}
use Rattle.calls.specs.Calls.{run_table, run_refusal, room_for}

pub record Accepted (ds : List Device) (ss : List ℕ) (room : ℕ) : Type 0 where
  pub some : 0 < length ds
  pub few : length ds < 1024
  pub enough_room : room_for (length ss) ≤ room
  pub below : all_below ss 4 ≡ true
  pub fit : all_fit ds ≡ true

pub accepted-run : (ds : List Device) (ss : List ℕ) (room : ℕ) → eqb (run_refusal ds ss room) 0 ≡ true → Accepted ds ss room
unfolding run_refusal
accepted-run ds ss room e =
    let c = clear (run_table ds ss room) refl (eqb-true (first (run_table ds ss room)) 0 e) in
    let n = and_both (leb 1 (length ds)) (leb (length ds) 1023) (not-false (is_count (length ds)) c.1.0) in
    let l : length ds ≤ 1023 = leb-true (length ds) 1023 n.1 in
    let f = and_both (all_below ss 4) (all_fit ds) (not-false (all_below ss 4 && all_fit ds) c.1.1.1.1.0) in
    record { some = leb-true 1 (length ds) n.0; few = omega (arith, l); enough_room = ltb-false room (room_for (length ss)) c.1.1.1.0; below = f.0; fit = f.1 }
