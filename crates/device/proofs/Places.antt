-- The numbers of a record that fits are those of its phase, and the numbers of a phase that fits fit. By the round trip of phases and their
-- numbers. Assumes nothing.
use mathlib.Core.Path.{◌≡◌, sym, subst}
use mathlib.Core.Bool.{true, ◌&&◌}
use Rattle.phases.specs.Phases.{place_of, phase_of, same_place}
use Rattle.phases.specs.declared.phase.Phase.{Phase}
use Rattle.phases.specs.declared.phase.Place.{Place}
use Rattle.phases.proofs.Places.{Small, phase-place, same_place_lem, same_self}
use Rattle.tables.proofs.Booleans.{and_both, both-and}
use Rattle.registers.specs.declared.registers.Registers.{Registers}
use Rattle.device.specs.Judgement.{phase_fits, place_fits}

pub place-phase : (q : Place) (r : Registers) → place_fits q r ≡ true → place_of (phase_of q) ≡ q
place-phase q r h = same_place_lem (place_of (phase_of q)) q (and_both _ _ h).0

-- the place of a phase whose numbers fit
pub place-fits : (p : Phase) (r : Registers) → Small p → phase_fits p r ≡ true → place_fits (place_of p) r ≡ true
place-fits p r h k =
    subst (λ (x : Phase). (same_place (place_of x) (place_of p) && phase_fits x r) ≡ true) (sym (phase-place p h))
    (both-and (same_place (place_of p) (place_of p)) (phase_fits p r) (same_self (place_of p)) k)
