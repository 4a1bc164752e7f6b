-- What a device draws, clock by clock, is the closed form that the code computes. The sums over banks and outputs are brought outside; the lit
-- clocks of an output in a frame are as many as in an ON subframe, times the ON subframes; a bank's outputs and phases are its values in wire
-- order; what is the same for all terms is taken out. Assumes nothing.
use mathlib.Core.Path.{◌≡◌, ap, ◌∙◌, sym}
use Prim.Native.Nat.{ℕ, ◌+◌, ◌-◌, ◌*◌, ◌<◌}
use native.Mathlib.Nat.{zero-add, mul_comm, mul_assoc, mul_left_comm, add-mul, mod-eq_of_lt}
use native.Mathlib.Omega.{arith}
use lib.ListN.{get_or}
use Rattle.parts.specs.Parts.{Part, subframes, phase_count, period_frames, sink_current}
use Rattle.subframes.specs.Subframes.{how_many_from, level}
use Rattle.schedule.specs.Light.{total, is_lit, lit_count}
use Rattle.schedule.proofs.Claims.{frame-lit}
use Rattle.model.specs.Set.{Own}
use Rattle.current.specs.declared.drive.Drive.{Drive}
use Rattle.current.specs.Current.{value_in, drawn_by, drawn_in_frame, drawn}
use Rattle.current.specs.Closed.{bank_clocks, drive_of, bank_total, closed_total}
use Rattle.schedule.proofs.Sums.{total-same, total-const, total-scale, total-swap, total-out, total-split, total-count}

module _ (p : Part) (o : Own) where
  -- the ON subframes of a frame
  abbrev on : ℕ
  on = level p o.configuration o.global + 1

  abbrev phases : ℕ
  phases = phase_count o.configuration

  abbrev current : ℕ → ℕ
  current bank = sink_current p (get_or o.calibration bank 0)

  -- an output's lit clocks of an ON subframe, in a phase
  abbrev lit : ℕ → ℕ → ℕ
  lit output phase = lit_count p (value_in o output phase)

  -- a bank's
  abbrev clocks_of : ℕ → ℕ
  clocks_of bank = bank_clocks p.edge (p.clocks - p.edge) o.individual (0 + bank * (8 * phases)) (8 * phases)

  -- the values of a bank in wire order
  place : (bank k phase : ℕ) → (8 * bank + k) * phases + phase ≡ 0 + bank * (8 * phases) + (k * phases + phase)
  place bank k phase = omega (arith, add-mul (8 * bank) k phases, mul_assoc 8 bank phases, mul_left_comm bank 8 phases)

  bank-lit : (bank : ℕ) → total (λ k. total (λ phase. lit (8 * bank + k) phase) phases) 8 ≡ clocks_of bank
  bank-lit bank =
      total-same (λ k. total (λ phase. lit (8 * bank + k) phase) phases)
      (λ k. total (λ phase. lit_count p (get_or o.individual (0 + bank * (8 * phases) + (k * phases + phase)) 0)) phases) 8
      (λ k _.
      total-same (λ phase. lit (8 * bank + k) phase) (λ phase. lit_count p (get_or o.individual (0 + bank * (8 * phases) + (k * phases + phase)) 0)) phases
      (λ phase _. ap (λ (i : ℕ). lit_count p (get_or o.individual i 0)) (place bank k phase)))
      ∙ sym (total-split (λ i. lit_count p (get_or o.individual (0 + bank * (8 * phases) + i) 0)) 8 phases)

  -- its own lists begin at place 0
  abbrev drive : Drive
  drive = drive_of p o.configuration (level p o.configuration o.global)

  from_zero : total (λ bank. clocks_of bank * current bank) p.banks ≡ total (bank_total drive o.calibration 0 o.individual 0) p.banks
  from_zero =
      total-same (λ bank. clocks_of bank * current bank) (bank_total drive o.calibration 0 o.individual 0) p.banks
      (λ bank _. ap (λ (i : ℕ). clocks_of bank * current i) (sym (zero-add bank)))

  module _ (h : 0 < subframes p o.configuration) where
    -- an output in a frame, in a phase
    phase-drawn : (bank output phase : ℕ) → total (λ s. total (λ c. drawn_by p o s phase c bank output) p.clocks) (subframes p o.configuration)
        ≡ lit output phase * (current bank * on)
    phase-drawn bank output phase =
        let v : ℕ = value_in o output phase in
        total-same (λ s. total (λ c. drawn_by p o s phase c bank output) p.clocks)
        (λ s. how_many_from (is_lit p o.configuration o.global v output s) 0 p.clocks * current bank) (subframes p o.configuration)
        (λ s _. total-count (is_lit p o.configuration o.global v output s) (current bank) p.clocks)
        ∙ total-scale (λ s. how_many_from (is_lit p o.configuration o.global v output s) 0 p.clocks) (current bank) (subframes p o.configuration)
        ∙ ap (λ (n : ℕ). n * current bank) (frame-lit p o.configuration o.global v output h ∙ mul_comm on (lit output phase))
        ∙ mul_assoc (lit output phase) on (current bank) ∙ ap (λ (n : ℕ). lit output phase * n) (mul_comm on (current bank))

    -- in its phases
    output-drawn : (bank output : ℕ)
        → total (λ s. total (λ phase. total (λ c. drawn_by p o s phase c bank output) p.clocks) phases) (subframes p o.configuration)
        ≡ total (lit output) phases * (current bank * on)
    output-drawn bank output =
        total-swap (λ s phase. total (λ c. drawn_by p o s phase c bank output) p.clocks) (subframes p o.configuration) phases
        ∙ total-same (λ phase. total (λ s. total (λ c. drawn_by p o s phase c bank output) p.clocks) (subframes p o.configuration))
        (λ phase. lit output phase * (current bank * on)) phases (λ phase _. phase-drawn bank output phase)
        ∙ total-scale (lit output) (current bank * on) phases

    -- the outputs of a bank
    bank-drawn : (bank : ℕ)
        → total (λ s. total (λ phase. total (λ c. total (λ k. drawn_by p o s phase c bank (8 * bank + k)) 8) p.clocks) phases) (subframes p o.configuration)
        ≡ clocks_of bank * current bank * on
    bank-drawn bank =
        total-out (λ s phase c k. drawn_by p o s phase c bank (8 * bank + k)) (subframes p o.configuration) phases p.clocks 8
        ∙ total-same (λ k. total (λ s. total (λ phase. total (λ c. drawn_by p o s phase c bank (8 * bank + k)) p.clocks) phases) (subframes p o.configuration))
        (λ k. total (lit (8 * bank + k)) phases * (current bank * on)) 8 (λ k _. output-drawn bank (8 * bank + k))
        ∙ total-scale (λ k. total (lit (8 * bank + k)) phases) (current bank * on) 8
        ∙ ap (λ (n : ℕ). n * (current bank * on)) (bank-lit bank) ∙ sym (mul_assoc (clocks_of bank) (current bank) on)

    -- the banks
    frame-drawn : drawn_in_frame p o ≡ total (λ bank. clocks_of bank * current bank) p.banks * on
    frame-drawn =
        total-out (λ s phase c bank. total (λ k. drawn_by p o s phase c bank (8 * bank + k)) 8) (subframes p o.configuration) phases p.clocks p.banks
        ∙ total-same
        (λ bank. total (λ s. total (λ phase. total (λ c. total (λ k. drawn_by p o s phase c bank (8 * bank + k)) 8) p.clocks) phases) (subframes p o.configuration))
        (λ bank. clocks_of bank * current bank * on) p.banks (λ bank _. bank-drawn bank)
        ∙ total-scale (λ bank. clocks_of bank * current bank) on p.banks

    -- the period, where the banks' sum is known
    period-drawn : (banks : ℕ) → total (λ bank. clocks_of bank * current bank) p.banks ≡ banks → drawn p o ≡ period_frames p o.configuration * on * banks
    unfolding drawn
    period-drawn banks e =
        let frames : ℕ = period_frames p o.configuration in
        total-const (drawn_in_frame p o) frames ∙ ap (λ (n : ℕ). frames * n) (frame-drawn ∙ ap (λ (n : ℕ). n * on) e ∙ mul_comm banks on)
        ∙ sym (mul_assoc frames on banks)

    -- by banks, outputs and phases
    pub closed-form : drawn p o
        ≡ period_frames p o.configuration * on * total (λ bank. total (λ k. total (λ phase. lit (8 * bank + k) phase) phases) 8 * current bank) p.banks
    closed-form =
        period-drawn (total (λ bank. total (λ k. total (λ phase. lit (8 * bank + k) phase) phases) 8 * current bank) p.banks)
        (total-same (λ bank. clocks_of bank * current bank) (λ bank. total (λ k. total (λ phase. lit (8 * bank + k) phase) phases) 8 * current bank) p.banks
        (λ bank _. ap (λ (n : ℕ). n * current bank) (sym (bank-lit bank))))

    -- any global byte, by its level
    pub closed-level : drawn p o ≡ closed_total drive o.calibration 0 o.individual 0
    closed-level = period-drawn (total (bank_total drive o.calibration 0 o.individual 0) p.banks) from_zero

-- a global byte that is a level
pub closed-drawn : (p : Part) (o : Own) → o.global < subframes p o.configuration
    → drawn p o ≡ closed_total (drive_of p o.configuration o.global) o.calibration 0 o.individual 0
closed-drawn p o h =
    closed-level p o (omega arith)
    ∙ ap (λ (g : ℕ). closed_total (drive_of p o.configuration g) o.calibration 0 o.individual 0) (mod-eq_of_lt h)
