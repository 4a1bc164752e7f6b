-- A record that the model's laws speak of, a step of it as the model sees it, and one bit of a field in the model. Assumes nothing.
use mathlib.Core.Path.{◌≡◌, refl, ap}
use mathlib.Core.Bool.{Bool, true}
use mathlib.Core.List.{List, [], ◌∷◌, ◌++◌, map}
use Prim.Native.Nat.{ℕ, suc}
use Rattle.parts.specs.Wire.{State, high, state_at}
use Rattle.device.specs.Step.{sent_states, sending}
use Rattle.device.specs.Judgement.{fits}
use Rattle.phases.specs.Phases.{phase_of}
use Rattle.phases.specs.declared.phase.Phase.{Phase}
use Rattle.phases.specs.declared.phase.Phase.TheVariants.{Hunting, Opening, Counting, Slice, Passing, Lost}
use Rattle.positions.specs.Positions.{placed_at}
use Rattle.registers.specs.Held.{showing, cleared, with_watch}
use Rattle.watch.specs.declared.watch.Watch.{Watch}
use Rattle.phases.specs.declared.phase.Sent.{Sent}
use Rattle.registers.specs.declared.registers.Registers.{Registers}
use Rattle.device.specs.declared.device.Device.{Device}
use Rattle.device.specs.declared.device.Stepped.{Stepped}
use Rattle.phases.proofs.Places.{Small, phase-place}
use Rattle.model.specs.Device.{taking, finish, step_device}
use Rattle.model.specs.Device as model
use Rattle.link.specs.View.{phase_in, viewed, device_of, Arrays}

-- a record that fits, whose arrays have the lengths that their types say
pub record Sound (d : Device) : Type 0 where
  pub fit : fits d ≡ true
  pub arrays : Arrays d

abbrev SeenStep : Type 0
SeenStep = model.Device × List State

-- a step of a record, seen
unfoldable pub seen : Stepped → SeenStep
seen s = (device_of s.device, map state_at (sent_states s.sent))

pub seen-sending : (r : Registers) (p : Phase) (x : Sent) → Small p → seen (sending r p x) ≡ (viewed r p, map state_at (sent_states x))
unfolding seen device_of
seen-sending r p x h = ap (λ (q : Phase). (viewed r q, map state_at (sent_states x))) (phase-place p h)

-- ---- what no phase looks at

-- flags and active values
pub showing-phase : (r : Registers) (overtemperature openled active : ℕ) (active0 active1 : List ℕ) (p : Phase)
    → phase_in (showing r overtemperature openled active active0 active1) p ≡ phase_in r p
showing-phase r overtemperature openled active active0 active1 (Hunting w) = refl
showing-phase r overtemperature openled active active0 active1 (Opening read) = refl
showing-phase r overtemperature openled active active0 active1 (Counting c read) = refl
showing-phase r overtemperature openled active active0 active1 (Slice c n t) = refl
showing-phase r overtemperature openled active active0 active1 Passing = refl
showing-phase r overtemperature openled active active0 active1 Lost = refl

-- the watchdog
pub watch-phase : (r : Registers) (w : Watch) (p : Phase) → phase_in (with_watch r w) p ≡ phase_in r p
watch-phase r w (Hunting window) = refl
watch-phase r w (Opening read) = refl
watch-phase r w (Counting c read) = refl
watch-phase r w (Slice c n t) = refl
watch-phase r w Passing = refl
watch-phase r w Lost = refl

-- what an expiry clears
pub cleared-phase : (r : Registers) (w : Watch) (p : Phase) → phase_in (cleared (with_watch r w)) p ≡ phase_in r p
cleared-phase r w (Hunting window) = refl
cleared-phase r w (Opening read) = refl
cleared-phase r w (Counting c read) = refl
cleared-phase r w (Slice c n t) = refl
cleared-phase r w Passing = refl
cleared-phase r w Lost = refl

-- the configuration that is seen
pub configuration-same : (d : Device) → (device_of d).registers.configuration ≡ d.registers.configuration
unfolding device_of
configuration-same d = refl

-- the position
placed-phase : (r : Registers) (n : ℕ) (p : Phase) → phase_in (placed_at r n) p ≡ phase_in r p
placed-phase r n (Hunting w) = refl
placed-phase r n (Opening read) = refl
placed-phase r n (Counting c read) = refl
placed-phase r n (Slice c k t) = refl
placed-phase r n Passing = refl
placed-phase r n Lost = refl

-- the device is the same at any position
pub device-placed : (d : Device) (n : ℕ) → device_of (record { registers = placed_at d.registers n; place = d.place }) ≡ device_of d
unfolding device_of
device-placed d n = rw (placed-phase d.registers n (phase_of d.place))

-- ---- fields of bits

pub take_more : (r : model.Registers) (f : model.Field) (left n : ℕ) (got : List Bool) (b : Bool) → left ≡ suc n
    → step_device (model.at r (taking f left got)) (high b) ≡ (model.at r (taking f n (got ++ b ∷ [])), [])
unfolding step_device
take_more r f left n got b e = rw e

pub take_last : (r : model.Registers) (f : model.Field) (left : ℕ) (got : List Bool) (b : Bool) → left ≡ 0
    → step_device (model.at r (taking f left got)) (high b) ≡ finish r f (got ++ b ∷ [])
unfolding step_device
take_last r f left got b e = rw e
