-- docs/RULES.md, "Current": what a set draws, clock by clock. In every clock each sink that is lit draws the current of its bank's calibration
-- byte; this is added up over the banks, their outputs and 524,288 clocks. Currents are in eighths of a microamp. All is said for any row.
use Rattle.std.specs.Prelude.{ℕ, ◌+◌, ◌*◌, ◌/◌, ◌%◌, cond, get_or}
use mathlib.Core.List.{List, [], ◌∷◌, map, flatten}
use Rattle.parts.specs.Parts.{Part, part_of, subframes, phase_count, period, period_frames, sink_current}
use Rattle.schedule.specs.Light.{total, is_lit}
use Rattle.schedule.specs.Moments.{subframe_at, phase_at, clock_at}
use Rattle.model.specs.Set.{Set, Own, owned}

-- ---- one device, by what of a set is its own

-- the value of an output in a phase: in wire order each output's MUX0 value and, multiplexed, then its MUX1 value
abbrev pub value_in : Own → ℕ → ℕ → ℕ
value_in o output phase = get_or o.individual (output * phase_count o.configuration + phase) 0

-- what an output of a bank draws in clock c of subframe s, in a phase
abbrev pub drawn_by : Part → Own → ℕ → ℕ → ℕ → ℕ → ℕ → ℕ
drawn_by p o s phase c bank output =
    cond (is_lit p o.configuration o.global (value_in o output phase) output s c) (sink_current p (get_or o.calibration bank 0)) 0

-- what the device draws in that clock: over its banks and their eight outputs
abbrev pub drawn_at : Part → Own → ℕ → ℕ → ℕ → ℕ
drawn_at p o s phase c = total (λ bank. total (λ k. drawn_by p o s phase c bank (8 * bank + k)) 8) p.banks

-- in one frame: over its subframes, each in MUX0 and, multiplexed, then in MUX1, and their clocks
abbrev pub drawn_in_frame : Part → Own → ℕ
drawn_in_frame p o =
    total (λ s. total (λ phase. total (λ c. drawn_at p o s phase c) p.clocks) (phase_count o.configuration)) (subframes p o.configuration)

-- in 524,288 clocks: one frame, or four where GLB4 shortens it
unfoldable pub drawn : Part → Own → ℕ
drawn p o = total (λ frame. drawn_in_frame p o) (period_frames p o.configuration)

-- ---- the same, clock after clock

-- what the device draws in clock t
abbrev pub drawn_in_clock : Part → Own → ℕ → ℕ
drawn_in_clock p o t = drawn_at p o (subframe_at p o.configuration t) (phase_at p o.configuration t) (clock_at p t)

-- ---- figures: a total, its average over 524,288 clocks rounded down, and the remainder

-- the three numbers
abbrev pub figure : ℕ → List ℕ
figure n = n ∷ n / period ∷ n % period ∷ []

-- the sum of a list
abbrev pub sum : List ℕ → ℕ
sum [] = 0
sum (x ∷ xs) = x + sum xs

-- the totals of devices, by what is each one's own
abbrev pub totals_of : Part → List Own → List ℕ
totals_of p os = map (drawn p) os

-- the total of each device, device 1 first
abbrev pub device_totals : Set → List ℕ
device_totals s = totals_of (part_of s.part) (owned s)

-- the figures of each device
abbrev pub device_figures : Set → List ℕ
device_figures s = flatten (map figure (device_totals s))

-- the total of the sign
abbrev pub sign_total : Set → ℕ
sign_total s = sum (device_totals s)
