-- The numbers of a moment are so small that they fit, and nothing is divided by 0: a row that can be used has clocks, and few. Assumes nothing.
use Prim.Native.Nat.{ℕ, ◌*◌, ◌^◌, ◌<◌, ◌≤◌}
use native.Mathlib.Nat.{mul-pos, mod-lt, div-le_self, lt_of_le_of_lt, lt_of_lt_of_le}
use native.Mathlib.Omega.{arith}
use Rattle.parts.specs.Parts.{part_of, phase_count, frame_clocks}
use Rattle.parts.proofs.Laws.{usable}
use Rattle.parts.proofs.Rows.{limit-pos}
use Rattle.parts.proofs.Frames.{subframe-clocks, frame-clocks, frame-clocks-pos}
use Rattle.schedule.specs.Moments.{subframe_at, phase_at, clock_at}

module _ (part configuration : ℕ) where
  pub clocks-pos : 0 < (part_of part).clocks
  clocks-pos = omega (arith, (usable part).clocks, limit-pos (part_of part))

  pub frame-pos : 0 < frame_clocks (part_of part) configuration
  frame-pos = frame-clocks-pos (part_of part) (usable part) configuration

  pub subframe-pos : 0 < phase_count configuration * (part_of part).clocks
  subframe-pos = mul-pos (omega arith) clocks-pos

  pub subframe-fits : phase_count configuration * (part_of part).clocks < 2 ^ 64
  subframe-fits = omega (arith, subframe-clocks (part_of part) (usable part) configuration)

  pub subframe-small : (t : ℕ) → subframe_at (part_of part) configuration t < 2 ^ 32
  subframe-small t =
      let few : frame_clocks (part_of part) configuration ≤ 2 ^ 32 = omega (arith, frame-clocks (part_of part) (usable part) configuration) in
      lt_of_lt_of_le (lt_of_le_of_lt (div-le_self _ _) (mod-lt _ frame-pos)) few

  pub clock-small : (t : ℕ) → clock_at (part_of part) t < 2 ^ 32
  clock-small t = omega (arith, mod-lt t clocks-pos, subframe-clocks (part_of part) (usable part) 0)

  pub phase-small : (t : ℕ) → phase_at (part_of part) configuration t < 2
  phase-small t =
      let some : 0 < phase_count configuration = omega arith in
      lt_of_lt_of_le (mod-lt _ some) (omega arith)
