-- What a set has that is not refused, and that its closed form is then what is answered. By the rows of the table, none of which holds.
-- Assumes nothing.
use mathlib.Core.Path.{◌≡◌, refl}
use mathlib.Core.Bool.{true}
use Prim.Native.Nat.{ℕ, ◌*◌, ◌<◌, ◌≤◌}
use lib.Dec.{ltb}
use lib.ListN.{length}
use borrow.Author.Tests.{not-false, ltb-true, ltb-false}
use Rattle.tables.specs.Lists.{all_below}
use Rattle.tables.specs.Refusals.{first}
use Rattle.tables.proofs.Booleans.{and_both}
use Rattle.tables.proofs.Rows.{Clear, clear}
use Rattle.parts.specs.Parts.{Part, part_of, subframes, multiplex, limit, slice_fields}
use Rattle.parts.specs.declared.command.Command.TheVariants.{Individual}
use Rattle.parts.proofs.Laws.{count-bounds}
use Rattle.model.specs.Set.{Set, owned}
use Rattle.sets.proofs.Fits.{lengths-are}
use Rattle.current.specs.declared.drive.Drive.{Drive}
use Rattle.current.specs.Current.{device_figures, sign_total}
use Rattle.current.specs.Answers.{current_table}
use Rattle.current.specs.Closed.{drive_of, closed_sum, closed_figures}
use Rattle.current.proofs.Devices.{closed-sum, closed-figures}

module _ (s : Set) (room : ℕ) (e : first (current_table s room) ≡ 0) where
  abbrev p : Part
  p = part_of s.part

  passed : Clear (current_table s room)
  passed = clear (current_table s room) refl e

  pub devices-few : s.devices ≤ 1023
  devices-few = (count-bounds s.devices (not-false _ passed.1.0)).1

  lists : (length s.calibration ≡ s.devices * p.banks) × (length s.individual ≡ s.devices * slice_fields p Individual (multiplex s.configuration))
  lists =
      lengths-are s.part s.devices s.configuration (length s.calibration) (length s.individual) (not-false _ passed.1.1.0)

  pub bytes-long : length s.calibration ≡ s.devices * p.banks
  bytes-long = lists.0

  pub values-long : length s.individual ≡ s.devices * slice_fields p Individual (multiplex s.configuration)
  values-long = lists.1

  pub room-enough : 3 * s.devices ≤ room
  room-enough = ltb-false _ _ passed.1.1.1.0

  settings : (ltb s.global (subframes p s.configuration) ≡ true) × (all_below s.individual (limit p) ≡ true)
  settings = and_both _ _ (not-false _ passed.1.1.1.1.0)

  pub global-below : s.global < subframes p s.configuration
  global-below = ltb-true _ _ settings.0

  pub values-below : all_below s.individual (limit p) ≡ true
  values-below = settings.1

  abbrev drive : Drive
  drive = drive_of p s.configuration s.global

  pub sum-answered : closed_sum drive s.calibration s.individual s.devices ≡ sign_total s
  unfolding owned
  sum-answered = closed-sum p s.configuration s.global global-below s.calibration s.individual s.devices

  pub figures-answered : closed_figures drive s.calibration s.individual s.devices ≡ device_figures s
  unfolding owned
  figures-answered = closed-figures p s.configuration s.global global-below s.calibration s.individual s.devices
