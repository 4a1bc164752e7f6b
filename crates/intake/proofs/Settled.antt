-- What a device took is settled in its record: its registers before, its slice, what was sent and when say what its registers are. By
-- induction on the states at hand. Assumes nothing.
use mathlib.Core.Path.{◌≡◌, refl, sym, ap, ◌∙◌, subst}
use mathlib.Core.Bool.{Bool, true, false, cond}
use mathlib.Core.List.{List, [], ◌∷◌}
use Prim.Native.Nat.{ℕ, ◌+◌, ◌/◌, ◌%◌}
use lib.Dec.{ltb, eqb}
use lib.ListN.{get_or, set}
use Rattle.tables.proofs.Booleans.{cond_both}
use Rattle.parts.specs.Parts.{part_of, multiplex, field_width, field_limit}
use Rattle.parts.specs.declared.command.Command.{Command}
use Rattle.parts.specs.declared.command.Command.TheVariants.{Individual, Calibration, Global, Configuration}
use Rattle.phases.specs.Phases.{phase_of, pushed, rising, opening, counting}
use Rattle.phases.proofs.Places.{phase-small}
use Rattle.phases.specs.declared.phase.Phase.{Phase}
use Rattle.phases.specs.declared.phase.Phase.TheVariants.{Hunting, Opening, Counting, Slice, Passing, Lost}
use Rattle.phases.specs.declared.phase.Sent.{Sent}
use Rattle.phases.specs.declared.phase.Sent.TheVariants.{Nothing, One, Header}
use Rattle.registers.specs.Held.{with_slice, fault, raised}
use Rattle.registers.proofs.Flags.{fault-slice}
use Rattle.registers.specs.declared.registers.Registers.{Registers}
use Rattle.positions.specs.Running.{dated}
use Rattle.storing.specs.Stored.{stored, copies}
use Rattle.device.specs.Step.{at, step_high, moved, sending, slice_length}
use Rattle.device.specs.declared.device.Device.{Device}
use Rattle.intake.specs.Intake.{Taken, stopped, dated_step, high_taken, full, progress_of, settled_by, settled, completed}
use Rattle.intake.proofs.Phases.{after, high-none, high-low, high-at, high-normal}

-- ---- a store and the slice

-- a store is dated by what no bit of a slice changes
pub dated-slice : (t : ℕ) (r : Registers) (slice : List ℕ) (new : Registers) → dated t (with_slice r slice) new ≡ dated t r new
unfolding dated
dated-slice t r slice new = refl

-- and leaves the slice
stored-slice : (r : Registers) (c : Command) → (stored r c).slice ≡ r.slice
stored-slice r Individual = cond_both (λ (x : Registers). x.slice ≡ r.slice) (eqb (multiplex r.configuration) 0) _ _ (λ _. refl) (λ _. refl)
stored-slice r Calibration = refl
stored-slice r Global = cond_both (λ (x : Registers). x.slice ≡ r.slice) (copies r) _ _ (λ _. refl) (λ _. refl)
stored-slice r Configuration = cond_both (λ (x : Registers). x.slice ≡ r.slice) (copies r) _ _ (λ _. refl) (λ _. refl)

dated-leaves : (t : ℕ) (old new : Registers) → (dated t old new).slice ≡ new.slice
unfolding dated
dated-leaves t old new = refl

slice-left : (t : ℕ) (r : Registers) (sl : List ℕ) (c : Command) → (dated t r (stored (with_slice r sl) c)).slice ≡ sl
slice-left t r sl c = dated-leaves t r (stored (with_slice r sl) c) ∙ stored-slice (with_slice r sl) c

pub full-progress : (r : Registers) (sl : List ℕ) (c : Command) (n i : ℕ) → progress_of (full r sl c n i) ≡ completed r sl c n i
full-progress r sl c n i = rw (slice-left i r sl c, fault-slice r sl c) refl

-- ---- what is settled

-- of a device, what it took is what is settled
abbrev pub Settles : Device → Taken → Type 0
Settles d x = settled d (progress_of x) ≡ x

-- the slice before does not matter
settled_by-slice : (x : Sent) (t : ℕ) (r : Registers) (old sl : List ℕ) → settled_by x t (with_slice r old) sl ≡ settled_by x t r sl
settled_by-slice Nothing t r old sl = refl
settled_by-slice (One s) t r old sl = refl
settled_by-slice (Header c n) t r old sl = dated-slice t r old (stored (with_slice r sl) c)

settles-slice : (r : Registers) (old : List ℕ) (p q : Phase) (x : Taken) → Settles (at (with_slice r old) p) x → Settles (at r q) x
settles-slice r old p q x h =
    ap (λ (g : Registers). stopped (record { registers = g; place = x.device.place }) x.at x.sent)
    (sym (settled_by-slice x.sent x.at r old x.device.registers.slice))
    ∙ h

module _ (r : Registers) (s : ℕ) (rest : List ℕ) (i : ℕ) (on : (d : Device) → Settles d (high_taken d rest (i + 1))) where
  -- one more state, by the phase
  settles-by : (p : Phase) → Settles (at r p) (after (dated_step (i + 1) r (step_high r p s)) rest i)
  settles-by (Hunting w) = on (at r (rising w (s % 2)))
  settles-by (Opening n) = on (at r (opening n (s % 2)))
  settles-by (Counting c n) = on (at r (counting c n (s % 2)))
  settles-by (Slice c n t) = either (ltb (t + 1) (slice_length r c)) where
    sl : List ℕ
    sl = set r.slice (t / field_width (part_of r.part) c) (pushed (get_or r.slice (t / field_width (part_of r.part) c) 0) (s % 2) (field_limit (part_of r.part) c))

    now : Registers
    now = with_slice r sl

    either : (b : Bool)
        → Settles (at r (Slice c n t))
        (after (dated_step (i + 1) r (cond b (moved now (Slice c n (t + 1))) (sending (stored now c) Passing (Header c (raised n (fault now c)))))) rest i)
    either true = settles-slice r sl (Slice c n (t + 1)) (Slice c n t) _ (on (at now (Slice c n (t + 1))))
    either false =
        ap (λ (z : List ℕ). stopped (at (dated (i + 1) r (stored (with_slice r z) c)) Passing) (i + 1) (Header c (raised n (fault now c))))
        (slice-left (i + 1) r sl c)
  settles-by Passing = refl
  settles-by Lost = on (at r Lost)

pub settled-high : (ss : List ℕ) (d : Device) (i : ℕ) → Settles d (high_taken d ss i)
settled-high [] d i = subst (Settles d) (sym (high-none d i)) refl
settled-high (s ∷ ss) d i = go (ltb s 2) refl (λ x. settled-high ss x (i + 1)) where
  r : Registers
  r = d.registers

  p : Phase
  p = phase_of d.place

  go : (b : Bool) → ltb s 2 ≡ b → ((x : Device) → Settles x (high_taken x ss (i + 1))) → Settles d (high_taken d (s ∷ ss) i)
  go true e on = subst (Settles d) (sym (high-low d s ss i e)) refl
  go false e on =
      subst (Settles d) (sym (high-normal d s ss i e ∙ high-at r p s ss i (phase-small d.place) e))
      (settles-by r s ss i on p)
