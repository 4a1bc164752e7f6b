-- A device steps as it did whatever its watchdog has heard: no line state reads the watchdog, and what an expiry clears is read by none and written
-- by a store alone. So a device that heard something goes on as before until it stores, and how far it gets is the same. By cases on the phase,
-- and by induction on the states. Assumes nothing.
use mathlib.Core.Path.{◌≡◌, refl, sym, ap, ◌∙◌}
use mathlib.Core.Bool.{Bool, true, false, cond, ◌||◌}
use Prim.Native.Nat.{ℕ, ◌+◌, ◌/◌, ◌%◌}
use native.Mathlib.Omega.{arith}
use lib.Dec.{ltb}
use lib.ListN.{length}
use Rattle.parts.specs.Parts.{part_of, field_width, field_limit}
use Rattle.parts.specs.declared.command.Command.{Command}
use Rattle.watch.specs.declared.kept.Listened.{Listened}
use Rattle.phases.specs.Phases.{phase_of}
use Rattle.phases.specs.declared.phase.Phase.{Phase}
use Rattle.phases.specs.declared.phase.Phase.TheVariants.{Hunting, Opening, Counting, Slice, Passing, Lost}
use Rattle.phases.specs.declared.phase.Sent.{Sent}
use Rattle.phases.specs.declared.phase.Sent.TheVariants.{Nothing, Header}
use Rattle.registers.specs.Held.{with_watch, took, fault, raised}
use Rattle.registers.specs.declared.registers.Registers.{Registers}
use Rattle.storing.specs.Stored.{stored}
use Rattle.device.specs.Step.{step, step_high, moved, sending, slice_length, sent_states}
use Rattle.device.specs.declared.device.Device.{Device}
use Rattle.device.specs.declared.device.Stepped.{Stepped}
use Rattle.turns.specs.Watching.{is_on, cleared_if, hearing}
use Rattle.turns.proofs.LeavingStates.{length-header-states}

-- registers of a watchdog that has heard something
abbrev pub heard_registers : Listened → Registers → Registers
heard_registers b r = with_watch (cleared_if b.expired r) b.watch

-- what is heard after something else
abbrev pub after : Listened → Listened → Listened
after a b = record { watch = b.watch; expired = a.expired || b.expired }

-- one after the other is both
pub hearing-after : (a b : Listened) (d : Device) → hearing b (hearing a d) ≡ hearing (after a b) d
hearing-after a b d = go a.expired b.expired
  where
    r : Registers
    r = d.registers

    go : (x y : Bool) → ◌≡◌ {A = Device} (record { registers = with_watch (cleared_if y (with_watch (cleared_if x r) a.watch)) b.watch; place = d.place })
        (record { registers = with_watch (cleared_if (x || y) r) b.watch; place = d.place })
    go true true = refl
    go true false = refl
    go false true = refl
    go false false = refl

-- whether the bit is set goes by the watchdog's bit and the configuration, which stay
pub hearing-on : (b : Listened) (r : Registers) → b.watch.bit ≡ r.watch.bit → is_on (heard_registers b r) ≡ is_on r
hearing-on b r e = go b.expired
  where
    go : (x : Bool) → is_on (with_watch (cleared_if x r) b.watch) ≡ is_on r
    go true = rw e
    go false = rw e

pub hearing-configuration : (b : Listened) (r : Registers) → (heard_registers b r).configuration ≡ r.configuration
hearing-configuration b r = go b.expired
  where
    go : (x : Bool) → (with_watch (cleared_if x r) b.watch).configuration ≡ r.configuration
    go true = refl
    go false = refl

-- ---- a state at which nothing is sent

-- a header is something
pub header-nothing : {c : Command} {n : ℕ} → Header c n ≡ Nothing → ⊥
header-nothing {c} {n} e = let w : ◌≡◌ {A = ℕ} 0 24 = ap (λ (x : Sent). length (sent_states x)) (sym e) ∙ length-header-states c n in omega (arith, w)

module _ (b : Listened) where
  -- a step of a device that has heard something
  abbrev pub hearing_step : Stepped → Stepped
  hearing_step x = record { device = hearing b x.device; sent = x.sent }

  high-hearing : (r : Registers) (p : Phase) (s : ℕ) → (step_high r p s).sent ≡ Nothing → step_high (heard_registers b r) p s ≡ hearing_step (step_high r p s)
  high-hearing r (Hunting window) s e = refl
  high-hearing r (Opening read) s e = refl
  high-hearing r (Counting c read) s e = refl
  high-hearing r (Slice c n t) s e = by b.expired (ltb (t + 1) (slice_length r c)) refl e
    where
      q : Registers → Registers
      q z = took z (t / field_width (part_of z.part) c) (s % 2) (field_limit (part_of z.part) c)

      more : Registers → Bool → Stepped
      more z l = cond l (moved (q z) (Slice c n (t + 1))) (sending (stored (q z) c) Passing (Header c (raised n (fault (q z) c))))

      by : (x l : Bool) → ltb (t + 1) (slice_length r c) ≡ l → (more r (ltb (t + 1) (slice_length r c))).sent ≡ Nothing
          → more (with_watch (cleared_if x r) b.watch) (ltb (t + 1) (slice_length (with_watch (cleared_if x r) b.watch) c))
          ≡ record { device = record { registers = with_watch (cleared_if x (more r (ltb (t + 1) (slice_length r c))).device.registers) b.watch; place = (more r (ltb (t + 1) (slice_length r c))).device.place }; sent = (more r (ltb (t + 1) (slice_length r c))).sent }
      by true true l f = rw l
      by false true l f = rw l
      by true false l f = absurd (header-nothing (rw l at f))
      by false false l f = absurd (header-nothing (rw l at f))
  high-hearing r Passing s e = refl
  high-hearing r Lost s e = refl

  pub step-hearing : (d : Device) (s : ℕ) → (step d s).sent ≡ Nothing → step (hearing b d) s ≡ hearing_step (step d s)
  step-hearing d s e = by (ltb s 2) refl
    where
      by : (l : Bool) → ltb s 2 ≡ l → step (hearing b d) s ≡ hearing_step (step d s)
      by true l = rw l
      by false l = rw l (high-hearing d.registers (phase_of d.place) s (rw l at e))
