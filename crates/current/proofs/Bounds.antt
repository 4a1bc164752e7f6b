-- The numbers of a drive are small where the row can be used, so that no sum or product of the code goes over. The repeats, taken as often as a
-- subframe has clocks, are within the period; a bank's lit clocks are at most its values times a subframe's clocks. Assumes nothing.
use mathlib.Core.List.{List}
use Prim.Native.Nat.{ℕ, ◌+◌, ◌*◌, ◌^◌, ◌<◌, ◌≤◌}
use native.Mathlib.Nat.{le_trans, mul_assoc, mul-le-mul, mul-le-mul_left, div-mul-le_self}
use native.Mathlib.Omega.{arith}
use lib.ListN.{get_or}
use lib.Pow.{pow_mono}
use Rattle.parts.specs.Parts.{Part, subframes, phase_count, frame_clocks, period, period_frames, limit, Usable}
use Rattle.current.specs.declared.drive.Drive.{Drive}
use Rattle.current.specs.Closed.{inside, bank_clocks, drive_of, Driven}
use Rattle.schedule.proofs.Sums.{total-none, total-next, total-le}

-- a loop that adds up
pub ruleset adding = (total-none, total-next)

-- ---- of a row that can be used

pub repeats-le : (p : Part) (configuration global : ℕ) → Usable p → global < subframes p configuration → period_frames p configuration * (global + 1) ≤ 2 ^ 11
repeats-le p configuration global u h =
    let frames : ℕ = period_frames p configuration in
    let some : ℕ = subframes p configuration in
    let clocks : ℕ = phase_count configuration * p.clocks in
    let g : global + 1 ≤ some = omega arith in
    let w : 2 ^ 8 ≤ limit p = pow_mono u.wide in
    let phase : 1 ≤ phase_count configuration = omega arith in
    let c : 256 ≤ p.clocks = omega (arith, u.clocks) in
    let wide : 256 ≤ clocks = mul-le-mul phase c in
    let scaled : frames * (global + 1) * 256 ≤ frames * some * clocks = mul-le-mul (mul-le-mul_left frames g) wide in
    omega (arith, mul_assoc frames some clocks, div-mul-le_self period (frame_clocks p configuration))

pub driven : (p : Part) (configuration global : ℕ) → Usable p → global < subframes p configuration → Driven (drive_of p configuration global)
driven p configuration global u h =
    let n : limit p ≤ 2 ^ 14 = pow_mono u.narrow in
    record {
      banks = u.few_banks;
      each = omega arith;
      end = omega (arith, u.clocks);
      current = u.current;
      repeats = repeats-le p configuration global u h;
    }

-- ---- the lit clocks of a bank, of values whatever they are

inside-le : (edge end value : ℕ) → inside edge end value ≤ end
inside-le edge end value = omega arith

clocks-within : {m n : ℕ} (edge end : ℕ) (values : List ℕ) (from each : ℕ) → each ≤ m → end ≤ n → bank_clocks edge end values from each ≤ m * n
clocks-within edge end values from each h k =
    le_trans (total-le (λ i. inside edge end (get_or values (from + i) 0)) end each (λ i _. inside-le edge end (get_or values (from + i) 0))) (mul-le-mul h k)

-- ---- of a drive so small

pub clocks-below : (d : Drive) → Driven d → (individual : List ℕ) (from : ℕ) → bank_clocks d.edge d.end individual from d.each ≤ 2 ^ 18
clocks-below d w individual from = clocks-within d.edge d.end individual from d.each w.each w.end
