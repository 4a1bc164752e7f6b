-- The device of a turn after the header that is under way, if one is. Assumes nothing.
use mathlib.Core.Path.{◌≡◌, refl, sym, ap}
use mathlib.Core.Bool.{true, false, true≢false}
use mathlib.Core.List.{List}
use Prim.Native.Nat.{ℕ, ◌<◌, ◌≤◌}
use lib.ListN.{length, get_or, drop}
use Rattle.phases.specs.declared.phase.Sent.{Sent}
use Rattle.phases.specs.declared.phase.Sent.TheVariants.{Nothing, One, Header}
use Rattle.phases.specs.Phases.{phase_of}
use Rattle.device.specs.declared.device.Device.{Device}
use Rattle.intake.specs.Intake.{stopped, high_taken}
use Rattle.intake.proofs.Phases.{high-low-at}
use Rattle.cursor.proofs.Cases.{NoHeader, not_last}
use Rattle.turns.specs.Front.{passes, phase_run, phase_taken, slice_start, device_taken, after_header, low_taken}
use Rattle.turns.specs.declared.front.PhaseRun.{PhaseRun}
use Rattle.turns.proofs.Taking.{front-end, front_low, front-passes, front-high}

pub after_header-none : (d : Device) (p : Sent) → NoHeader p → d ≡ after_header d p
after_header-none d Nothing h = refl
after_header-none d (One s) h = refl
after_header-none d (Header c n) h = absurd (not_last h)

pub low_taken-none : (d : Device) (p : Sent) (ss : List ℕ) (i : ℕ) (q : PhaseRun) → NoHeader p → q ≡ phase_run (phase_of d.place) ss i → phase_taken d q ≡ low_taken d p ss i
low_taken-none d Nothing ss i q h e = ap (phase_taken d) e
low_taken-none d (One s) ss i q h e = ap (phase_taken d) e
low_taken-none d (Header c n) ss i q h e = absurd (not_last h)

-- ---- by the next state

pub device-end : (d : Device) (p : Sent) (ss : List ℕ) (i : ℕ) → length ss ≤ i → high_taken (after_header d p) (drop i ss) i ≡ device_taken d p (drop i ss) i
device-end d (Header c n) ss i h = refl
device-end d Nothing ss i h = front-end d ss i h
device-end d (One b) ss i h = front-end d ss i h

pub device-low : (d : Device) (p : Sent) (ss : List ℕ) (i : ℕ) → i < length ss → get_or ss i 0 < 2 → low_taken (after_header d p) p (drop i ss) i ≡ device_taken d p (drop i ss) i
device-low d (Header c n) ss i h l = sym (high-low-at (slice_start d c n) ss i h l)
device-low d Nothing ss i h l = front_low d ss i h l
device-low d (One b) ss i h l = front_low d ss i h l

pub device-passes : (d : Device) (p : Sent) (ss : List ℕ) (i : ℕ) → i < length ss → 2 ≤ get_or ss i 0 → passes (after_header d p) ≡ true
    → stopped (after_header d p) i (One 0) ≡ device_taken d p (drop i ss) i
device-passes d (Header c n) ss i h l e = absurd (true≢false (sym e))
device-passes d Nothing ss i h l e = front-passes d ss i h l e
device-passes d (One b) ss i h l e = front-passes d ss i h l e

pub device-high : (d : Device) (p : Sent) (ss : List ℕ) (i : ℕ) → i < length ss → 2 ≤ get_or ss i 0 → passes (after_header d p) ≡ false
    → high_taken (after_header d p) (drop i ss) i ≡ device_taken d p (drop i ss) i
device-high d (Header c n) ss i h l e = refl
device-high d Nothing ss i h l e = front-high d ss i h l e
device-high d (One b) ss i h l e = front-high d ss i h l e
