-- What a device draws is the sum over 524,288 clocks, one after the other: frames, subframes, phases and clocks are places of a number, from the
-- highest to the lowest, and a sum over a product is a sum over rows. Assumes nothing.
use mathlib.Core.Path.{◌≡◌, sym, ap, ◌∙◌}
use Prim.Native.Nat.{ℕ, ◌+◌, ◌*◌, ◌<◌}
use Rattle.parts.specs.Parts.{Part, subframes, phase_count, frame_clocks, period, period_frames, WholeFrames}
use Rattle.schedule.specs.Light.{total}
use Rattle.schedule.specs.Moments.{phase_at, clock_at}
use Rattle.schedule.proofs.Sums.{total-same, total-split}
use Rattle.schedule.proofs.Visits.{clock_by, subframe-by, phase-by, clock-by}
use Rattle.model.specs.Set.{Own}
use Rattle.current.specs.Current.{drawn_at, drawn_in_frame, drawn, drawn_in_clock}

module _ (p : Part) (o : Own) where
  abbrev some : ℕ
  some = subframes p o.configuration

  abbrev phases : ℕ
  phases = phase_count o.configuration

  -- a clock by its places: frame, subframe, phase, clock
  abbrev at : ℕ → ℕ → ℕ → ℕ → ℕ
  at = clock_by p o.configuration

  drawn-at : (frame s phase c : ℕ) → s < some → phase < phases → c < p.clocks → drawn_in_clock p o (at frame s phase c) ≡ drawn_at p o s phase c
  drawn-at frame s phase c hs hp hc =
      ap (λ (k : ℕ). drawn_at p o k (phase_at p o.configuration t) (clock_at p t)) (subframe-by p o.configuration frame s phase c hs hp hc)
      ∙ ap (λ (k : ℕ). drawn_at p o s k (clock_at p t)) (phase-by p o.configuration frame s phase c hs hp hc)
      ∙ ap (drawn_at p o s phase) (clock-by p o.configuration frame s phase c hs hp hc)
    where
      t : ℕ
      t = at frame s phase c

  -- ---- sums

  phase-sum : (frame s phase : ℕ) → s < some → phase < phases
      → total (λ c. drawn_in_clock p o (at frame s phase c)) p.clocks ≡ total (λ c. drawn_at p o s phase c) p.clocks
  phase-sum frame s phase hs hp =
      total-same (λ c. drawn_in_clock p o (at frame s phase c)) (λ c. drawn_at p o s phase c) p.clocks (λ c hc. drawn-at frame s phase c hs hp hc)

  subframe-sum : (frame s : ℕ) → s < some
      → total (λ q. drawn_in_clock p o (frame * (some * (phases * p.clocks)) + (s * (phases * p.clocks) + q))) (phases * p.clocks)
      ≡ total (λ phase. total (λ c. drawn_at p o s phase c) p.clocks) phases
  subframe-sum frame s hs =
      total-split (λ q. drawn_in_clock p o (frame * (some * (phases * p.clocks)) + (s * (phases * p.clocks) + q))) phases p.clocks
      ∙ total-same (λ phase. total (λ c. drawn_in_clock p o (at frame s phase c)) p.clocks) (λ phase. total (λ c. drawn_at p o s phase c) p.clocks) phases
      (λ phase hp. phase-sum frame s phase hs hp)

  frame-sum : (frame : ℕ) → total (λ r. drawn_in_clock p o (frame * (some * (phases * p.clocks)) + r)) (some * (phases * p.clocks)) ≡ drawn_in_frame p o
  frame-sum frame =
      total-split (λ r. drawn_in_clock p o (frame * (some * (phases * p.clocks)) + r)) some (phases * p.clocks)
      ∙ total-same (λ s. total (λ q. drawn_in_clock p o (frame * (some * (phases * p.clocks)) + (s * (phases * p.clocks) + q))) (phases * p.clocks))
      (λ s. total (λ phase. total (λ c. drawn_at p o s phase c) p.clocks) phases) some (λ s hs. subframe-sum frame s hs)

  pub each-clock : WholeFrames p → drawn p o ≡ total (drawn_in_clock p o) period
  unfolding drawn
  each-clock w =
      sym
      (ap (total (drawn_in_clock p o)) (sym (w o.configuration))
      ∙ total-split (drawn_in_clock p o) (period_frames p o.configuration) (frame_clocks p o.configuration)
      ∙ total-same (λ frame. total (λ r. drawn_in_clock p o (frame * (some * (phases * p.clocks)) + r)) (some * (phases * p.clocks))) (λ frame. drawn_in_frame p o)
      (period_frames p o.configuration) (λ frame _. frame-sum frame))
