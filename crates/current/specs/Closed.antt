-- Inside: what the code computes, in closed form. What is answered is said in Current and Answers; that the closed form comes to it is in
-- proofs/Closed.
use Rattle.std.specs.Prelude.{ℕ, zero, suc, ◌+◌, ◌-◌, ◌*◌, ◌<◌, ◌≤◌, ◌^◌, min, List, [], ◌++◌, get_or}
use Rattle.parts.specs.Parts.{Part, phase_count, period_frames}
use Rattle.schedule.specs.Light.{total}
use Rattle.current.specs.Current.{figure}
use Rattle.current.specs.declared.drive.Drive.{Drive}

-- ---- one device

-- of so many clocks from 0 on those from `edge` on and before `end`
abbrev pub inside : ℕ → ℕ → ℕ → ℕ
inside edge end value = min value end - edge

-- the same of `each` values from `from` on, added up
abbrev pub bank_clocks : ℕ → ℕ → List ℕ → ℕ → ℕ → ℕ
bank_clocks edge end values from each = total (λ i. inside edge end (get_or values (from + i) 0)) each

-- what is the same for every device of a sign
abbrev pub drive_of : Part → ℕ → ℕ → Drive
drive_of p configuration global =
    record {
      banks = p.banks;
      each = 8 * phase_count configuration;
      edge = p.edge;
      end = p.clocks - p.edge;
      least = p.least;
      step = p.step;
      repeats = period_frames p configuration * (global + 1);
    }

-- its numbers are so small that products of them fit: the repeats of a subframe's clocks are within the period
pub record Driven (d : Drive) : Type 0 where
  pub banks : d.banks ≤ 3
  pub each : d.each ≤ 16
  pub end : d.end ≤ 2 ^ 14
  pub current : d.least + d.step * 255 < 2 ^ 20
  pub repeats : d.repeats ≤ 2 ^ 11

-- a device's bytes and values, from these places on, stand in lists of these lengths
pub record OwnInLists (d : Drive) (calibration bytes individual values : ℕ) : Type 0 where
  pub bytes_in : bytes + d.banks ≤ calibration
  pub values_in : values + d.banks * d.each ≤ individual

-- what a bank draws in an ON subframe
abbrev pub bank_total : Drive → List ℕ → ℕ → List ℕ → ℕ → ℕ → ℕ
bank_total d calibration bytes individual values bank =
    bank_clocks d.edge d.end individual (values + bank * d.each) d.each * (d.least + d.step * get_or calibration (bytes + bank) 0)

-- what a device draws in the period, its bytes and values from these places on
abbrev pub closed_total : Drive → List ℕ → ℕ → List ℕ → ℕ → ℕ
closed_total d calibration bytes individual values = d.repeats * total (bank_total d calibration bytes individual values) d.banks

-- ---- the devices of a sign

-- the bytes and values of so few devices stand in lists of these lengths, and their figures fit into one of this length
pub record SignInLists (d : Drive) (devices calibration individual figures : ℕ) : Type 0 where
  pub few : devices ≤ 2 ^ 12
  pub bytes_in : devices * d.banks ≤ calibration
  pub values_in : devices * (d.banks * d.each) ≤ individual
  pub figures_in : 3 * devices ≤ figures

-- the total of device i, from 0
abbrev pub closed_at : Drive → List ℕ → List ℕ → ℕ → ℕ
closed_at d calibration individual i = closed_total d calibration (i * d.banks) individual (i * (d.banks * d.each))

-- of the first n devices: the sum
abbrev pub closed_sum : Drive → List ℕ → List ℕ → ℕ → ℕ
closed_sum d calibration individual n = total (closed_at d calibration individual) n

-- and the figures
unfoldable pub closed_figures : Drive → List ℕ → List ℕ → ℕ → List ℕ
closed_figures d calibration individual zero = []
closed_figures d calibration individual (suc n) = closed_figures d calibration individual n ++ figure (closed_at d calibration individual n)
