-- By the header under way; or by the next state: a low one, a high one that a passing device hands on, and any other or none.
use mathlib.Core.Path.{◌≡◌, ap, ◌∙◌}
use mathlib.Core.Bool.{true, false}
use lib.ListN.{drop}
use borrow.Author.Tests.{eq-eqb, ne_eqb}
use Rattle.device.specs.declared.device.Device.{Device}
use Rattle.intake.specs.Intake.{progress_of, high_taken}
use Rattle.turns.specs.Front.{passes, front_taken}
use Rattle.turns.proofs.Phases.{passes-number}
use Rattle.turns.proofs.Taking.{device-front, front-end, front_low, front-passes, front-high}
use Rattle.cursor.proofs.Cases.{no_header}
use Rattle.turns.proofs.front.device_take.Goals as goal
use Rattle.turns.proofs.front.device_take.Goals.{then-at-states+else-states-at-lt2+else-device-eq4, else-at-states}

-- a device is passing by its number
passes-yes : (d : Device) → d.place.phase ≡ 4 → passes d ≡ true
passes-yes d h = passes-number d ∙ eq-eqb d.place.phase 4 h

passes-no : (d : Device) → (d.place.phase ≡ 4 → ⊥) → passes d ≡ false
passes-no d h = passes-number d ∙ ne_eqb d.place.phase 4 h

pub returns-in-Header : goal.returns-in-Header
returns-in-Header c = rw (c.take_slice.ensures, c.in-Header.is)

pub returns-then-states-at-lt2 : goal.returns-then-states-at-lt2
returns-then-states-at-lt2 c =
    let a = c.args in
    c.low_take.ensures
    ∙ ap progress_of (front_low a.device a.states.now a.at c.if-at-states.true c.if-states-at-lt2.true
    ∙ device-front a.device a.pending (drop a.at a.states.now) a.at (no_header a.pending c.in_default.not-Header))

pub returns-then-device-eq4 : goal.returns-then-device-eq4
returns-then-device-eq4 c =
    let a = c.args in
    c.take_none.ensures
    ∙ ap progress_of (front-passes a.device a.states.now a.at c.if-at-states.true c.if-states-at-lt2.false (passes-yes a.device c.if-device-eq4.true)
    ∙ device-front a.device a.pending (drop a.at a.states.now) a.at (no_header a.pending c.in_default.not-Header))

pub returns : goal.returns
returns c =
    let a = c.args in
    let e : high_taken a.device (drop a.at a.states.now) a.at ≡ front_taken a.device (drop a.at a.states.now) a.at = elim c.if-at-states.branch [
      | then-at-states+else-states-at-lt2+else-device-eq4 w ↦ front-high a.device a.states.now a.at w.if-at-states.true w.if-states-at-lt2.false (passes-no a.device w.if-device-eq4.false)
      | else-at-states w ↦ front-end a.device a.states.now a.at w.if-at-states.false
    ] in
    c.take.ensures ∙ ap progress_of (e ∙ device-front a.device a.pending (drop a.at a.states.now) a.at (no_header a.pending c.in_default.not-Header))
