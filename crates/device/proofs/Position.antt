-- A line state leaves the position and the watchdog as they are: a single step changes the position by the frame's length alone. By cases on the
-- phase, for anything that a store leaves. Assumes nothing.
use mathlib.Core.Path.{◌≡◌, refl, ◌∙◌}
use Prim.Native.Nat.{ℕ, ◌+◌, ◌/◌, ◌%◌}
use mathlib.Core.List.{List}
use lib.Dec.{ltb, eqb}
use Rattle.parts.specs.Parts.{part_of, multiplex, field_width, field_limit}
use Rattle.parts.specs.declared.command.Command.{Command}
use Rattle.parts.specs.declared.command.Command.TheVariants.{Individual, Calibration, Global, Configuration}
use Rattle.phases.specs.Phases.{phase_of}
use Rattle.registers.specs.Held.{holding, took}
use Rattle.storing.specs.Stored.{stored, copies}
use Rattle.device.specs.Step.{step, step_high, slice_length}
use Rattle.phases.specs.declared.phase.Phase.{Phase}
use Rattle.phases.specs.declared.phase.Phase.TheVariants.{Hunting, Opening, Counting, Slice, Passing, Lost}
use Rattle.registers.specs.declared.registers.Registers.{Registers}
use Rattle.device.specs.declared.device.Device.{Device}
use Rattle.device.specs.declared.device.Stepped.{Stepped}
use Rattle.tables.proofs.Booleans.{cond_both}

module _ {A : Type 0} (f : Registers → A) (same : (r : Registers) (k : ℕ) (cs : List ℕ) (g : ℕ) (vs ws sl : List ℕ) → f (holding r k cs g vs ws sl) ≡ f r) where
  abbrev Keeps : Registers → Registers → Type 0
  Keeps r q = f q ≡ f r

  -- the registers that a slice stores into
  stored-keeps : (r : Registers) (c : Command) → Keeps r (stored r c)
  stored-keeps r Individual = cond_both (Keeps r) (eqb (multiplex r.configuration) 0) _ _ (λ _. same r _ _ _ _ _ _) (λ _. same r _ _ _ _ _ _)
  stored-keeps r Calibration = same r _ _ _ _ _ _
  stored-keeps r Global = cond_both (Keeps r) (copies r) _ _ (λ _. same r _ _ _ _ _ _) (λ _. refl)
  stored-keeps r Configuration = cond_both (Keeps r) (copies r) _ _ (λ _. same r _ _ _ _ _ _) (λ _. refl)

  abbrev At : Registers → Stepped → Type 0
  At r x = Keeps r x.device.registers

  high-keeps : (r : Registers) (p : Phase) (s : ℕ) → At r (step_high r p s)
  high-keeps r (Hunting window) s = refl
  high-keeps r (Opening read) s = refl
  high-keeps r (Counting c read) s = refl
  high-keeps r (Slice c count taken) s =
      let q : Registers = took r (taken / field_width (part_of r.part) c) (s % 2) (field_limit (part_of r.part) c) in
      let e : f q ≡ f r = same r _ _ _ _ _ _ in
      cond_both (At r) (ltb (taken + 1) (slice_length r c)) _ _ (λ _. e) (λ _. stored-keeps q c ∙ e)
  high-keeps r Passing s = refl
  high-keeps r Lost s = refl

  pub step_keeps : (d : Device) (s : ℕ) → At d.registers (step d s)
  step_keeps d s = cond_both (At d.registers) (ltb s 2) _ _ (λ _. refl) (λ _. high-keeps d.registers (phase_of d.place) s)

pub step-position : (d : Device) (s : ℕ) → (step d s).device.registers.position ≡ d.registers.position
step-position d s = step_keeps (λ (r : Registers). r.position) (λ r k cs g vs ws sl. refl) d s

pub step-watch : (d : Device) (s : ℕ) → (step d s).device.registers.watch ≡ d.registers.watch
step-watch d s = step_keeps (λ (r : Registers). r.watch) (λ r k cs g vs ws sl. refl) d s
