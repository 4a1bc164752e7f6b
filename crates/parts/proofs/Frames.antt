-- The clocks of a frame of a row that can be used: some, and so few that the code's products fit. Assumes nothing.
use Prim.Native.Nat.{ℕ, ◌*◌, ◌^◌, ◌<◌, ◌≤◌}
use native.Mathlib.Nat.{mul-pos, mul-le-mul}
use native.Mathlib.Omega.{arith}
use lib.Pow.{pow_mono}
use Rattle.parts.specs.Parts.{Part, phase_count, frame_clocks, limit, Usable}
use Rattle.parts.proofs.Rows.{limit-pos}

module _ (p : Part) (u : Usable p) (configuration : ℕ) where
  pub subframe-clocks : phase_count configuration * p.clocks ≤ 2 ^ 15
  subframe-clocks =
      let few : limit p ≤ 2 ^ 14 = pow_mono u.narrow in
      let clocks : p.clocks ≤ 2 ^ 14 = omega (arith, u.clocks) in
      let two : phase_count configuration ≤ 2 = omega arith in
      mul-le-mul two clocks

  pub frame-clocks : frame_clocks p configuration ≤ 2 ^ 22
  frame-clocks = mul-le-mul (u.subframes configuration).1 subframe-clocks

  pub frame-clocks-pos : 0 < frame_clocks p configuration
  frame-clocks-pos =
      let clocks : 0 < p.clocks = omega (arith, u.clocks, limit-pos p) in
      let phase : 0 < phase_count configuration = omega arith in
      mul-pos (u.subframes configuration).0 (mul-pos phase clocks)
