-- No line state reads the active values or the position, and none changes them: registers that show other values at another position step alike.
-- By cases on the phase and on what is stored. Assumes nothing.
use mathlib.Core.Path.{◌≡◌, refl}
use mathlib.Core.Bool.{Bool, true, false}
use mathlib.Core.List.{List}
use Prim.Native.Nat.{ℕ, ◌+◌, ◌/◌, ◌%◌}
use lib.Dec.{eqb, ltb}
use Rattle.parts.specs.Parts.{part_of, multiplex, field_width, field_limit}
use Rattle.parts.specs.declared.command.Command.{Command}
use Rattle.parts.specs.declared.command.Command.TheVariants.{Individual, Calibration, Global, Configuration}
use Rattle.phases.specs.Phases.{phase_of}
use Rattle.registers.specs.Held.{showing, took, fault}
use Rattle.positions.specs.Positions.{placed_at}
use Rattle.storing.specs.Stored.{stored, copies}
use Rattle.device.specs.Step.{step, step_high, slice_length}
use Rattle.phases.specs.declared.phase.Phase.{Phase}
use Rattle.phases.specs.declared.phase.Phase.TheVariants.{Hunting, Opening, Counting, Slice, Passing, Lost}
use Rattle.registers.specs.declared.registers.Registers.{Registers}
use Rattle.device.specs.declared.device.Device.{Device}
use Rattle.device.specs.declared.device.Stepped.{Stepped}

module _ (active : ℕ) (active0 active1 : List ℕ) (position : ℕ) where
  -- the registers with these active values, at this position
  abbrev pub shown : Registers → Registers
  shown r = placed_at (showing r r.overtemperature r.openled active active0 active1) position

  abbrev pub shown_device : Device → Device
  shown_device d = record { registers = shown d.registers; place = d.place }

  abbrev pub shown_step : Stepped → Stepped
  shown_step x = record { device = shown_device x.device; sent = x.sent }

  pub stored-shown : (r : Registers) (c : Command) → stored (shown r) c ≡ shown (stored r c)
  stored-shown r Individual = by (eqb (multiplex r.configuration) 0) refl
    where
      by : (b : Bool) → eqb (multiplex r.configuration) 0 ≡ b → stored (shown r) Individual ≡ shown (stored r Individual)
      by true e = rw e
      by false e = rw e
  stored-shown r Calibration = refl
  stored-shown r Global = by (copies r) refl
    where
      by : (b : Bool) → copies r ≡ b → stored (shown r) Global ≡ shown (stored r Global)
      by true e = rw e
      by false e = rw e
  stored-shown r Configuration = by (copies r) refl
    where
      by : (b : Bool) → copies r ≡ b → stored (shown r) Configuration ≡ shown (stored r Configuration)
      by true e = rw e
      by false e = rw e

  fault-shown : (r : Registers) (c : Command) → fault (shown r) c ≡ fault r c
  fault-shown r Individual = refl
  fault-shown r Calibration = refl
  fault-shown r Global = refl
  fault-shown r Configuration = refl

  high-shown : (r : Registers) (p : Phase) (s : ℕ) → step_high (shown r) p s ≡ shown_step (step_high r p s)
  high-shown r (Hunting window) s = refl
  high-shown r (Opening read) s = refl
  high-shown r (Counting c read) s = refl
  high-shown r (Slice c count taken) s = by (ltb (taken + 1) (slice_length r c)) refl
    where
      q : Registers
      q = took r (taken / field_width (part_of r.part) c) (s % 2) (field_limit (part_of r.part) c)

      by : (b : Bool) → ltb (taken + 1) (slice_length r c) ≡ b → step_high (shown r) (Slice c count taken) s ≡ shown_step (step_high r (Slice c count taken) s)
      by true e = rw e
      by false e = rw (e, stored-shown q c, fault-shown q c)
  high-shown r Passing s = refl
  high-shown r Lost s = refl

  pub step-shown : (d : Device) (s : ℕ) → step (shown_device d) s ≡ shown_step (step d s)
  step-shown d s = by (ltb s 2) refl
    where
      by : (b : Bool) → ltb s 2 ≡ b → step (shown_device d) s ≡ shown_step (step d s)
      by true e = rw e
      by false e = rw (e, high-shown d.registers (phase_of d.place) s)
