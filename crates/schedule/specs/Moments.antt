-- docs/RULES.md, "Light": where a clock stands in the schedule. A frame is its subframes one after the other, each in MUX0 and, multiplexed, then
-- in MUX1. All is said for any row, any configuration and any clock, counted from 0 where a frame begins.
use Rattle.std.specs.Prelude.{ℕ, ◌*◌, ◌/◌, ◌%◌, ◌<◌, ◌≡◌}
use Rattle.parts.specs.Parts.{Part, subframes, phase_count, frame_clocks}
use Rattle.schedule.specs.declared.moments.Moment.{Moment}

-- the subframe of clock t, from 0
abbrev pub subframe_at : Part → ℕ → ℕ → ℕ
subframe_at p configuration t = t % frame_clocks p configuration / (phase_count configuration * p.clocks)

-- its phase: 0 MUX0, 1 MUX1
abbrev pub phase_at : Part → ℕ → ℕ → ℕ
phase_at p configuration t = t / p.clocks % phase_count configuration

-- its clock in that subframe and phase
abbrev pub clock_at : Part → ℕ → ℕ
clock_at p t = t % p.clocks

-- all three
abbrev pub moment_at : Part → ℕ → ℕ → Moment
moment_at p configuration t = record { subframe = subframe_at p configuration t; clock = clock_at p t; phase = phase_at p configuration t }

-- a moment is one of the schedule's
pub record InSchedule (p : Part) (configuration : ℕ) (m : Moment) : Type 0 where
  pub subframe : m.subframe < subframes p configuration
  pub clock : m.clock < p.clocks
  pub phase : m.phase < phase_count configuration

-- the clocks of one frame visit the schedule's moments, each exactly once
pub record Visited (p : Part) (configuration : ℕ) : Type 0 where
  pub within : (t : ℕ) → t < frame_clocks p configuration → InSchedule p configuration (moment_at p configuration t)
  pub once : (t u : ℕ) → t < frame_clocks p configuration → u < frame_clocks p configuration → moment_at p configuration t ≡ moment_at p configuration u → t ≡ u
  pub every : (m : Moment) → InSchedule p configuration m → (t : ℕ) × ((t < frame_clocks p configuration) × (moment_at p configuration t ≡ m))
