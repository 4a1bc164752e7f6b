-- The clocks of a frame, by the rows: 524,288, or 131,072 on a 6975 type with GLB4. The four numbers of a row are tested at once. A row that has
-- a whole number of frames in 524,288 clocks has some clocks in each, and no more than these. Assumes nothing.
use mathlib.Core.Path.{◌≡◌, refl, ap, ◌∙◌, subst}
use mathlib.Core.Bool.{Bool, cond}
use Prim.Native.Nat.{ℕ, zero, suc, ◌+◌, ◌*◌, ◌/◌, ◌%◌, ◌≤◌, ◌<◌}
use native.Mathlib.Nat.{mul-zero, zero-mul, suc-mul}
use native.Mathlib.Omega.{arith}
use lib.Dec.{T, eqb, eqb→eq}
use lib.ListN.{length}
use Rattle.tables.proofs.Table.{every_place, every_place-at}
use Rattle.parts.specs.Parts.{Part, max6972, max6973, max6974, max6975, part_of, multiplex, glb4, subframes, frame_clocks, period_frames, WholeFrames}
use Rattle.parts.proofs.Laws.{whole-frames}
use Rattle.clocked.specs.Clock.{Running}

-- ---- of each part

-- by the GLB4 bit
abbrev plain : ℕ → ℕ
plain g = 524288

abbrev shortened : ℕ → ℕ
shortened g = cond (eqb g 1) 131072 524288

-- a number of subframes, by its place, makes as many clocks as GLB4 says
abbrev lasts : Part → (ℕ → ℕ) → ℕ → ℕ → Bool
lasts p clocks k n = eqb (n * ((1 + k % 2) * p.clocks)) (clocks (k / 2))

length-row : (p : Part) (clocks : ℕ → ℕ) → length p.subframes_by ≡ 4 → T (every_place (lasts p clocks) 0 p.subframes_by)
    → (configuration : ℕ) → frame_clocks p configuration ≡ clocks (glb4 configuration)
length-row p clocks e t configuration =
    let m : ℕ = multiplex configuration in
    let g : ℕ = glb4 configuration in
    let k : ℕ = m + 2 * g in
    let l : k < length p.subframes_by = omega (arith, e) in
    let n : ℕ = subframes p configuration in
    let a : k % 2 ≡ m = omega arith in
    let b : k / 2 ≡ g = omega arith in
    subst (λ (j : ℕ). n * ((1 + j) * p.clocks) ≡ clocks g) a
    (eqb→eq _ _ (every_place-at (lasts p clocks) p.subframes_by t k l) ∙ ap clocks b)

pub length-6972 : (configuration : ℕ) → frame_clocks max6972 configuration ≡ 524288
length-6972 = length-row max6972 plain refl tt

pub length-6973 : (configuration : ℕ) → frame_clocks max6973 configuration ≡ cond (eqb (glb4 configuration) 1) 131072 524288
length-6973 = length-row max6973 shortened refl tt

pub length-6974 : (configuration : ℕ) → frame_clocks max6974 configuration ≡ 524288
length-6974 = length-row max6974 plain refl tt

pub length-6975 : (configuration : ℕ) → frame_clocks max6975 configuration ≡ cond (eqb (glb4 configuration) 1) 131072 524288
length-6975 = length-row max6975 shortened refl tt

-- ---- of any row with whole frames

factor-pos : (a b : ℕ) → a * b ≡ 524288 → 0 < b
factor-pos a zero e = absurd (omega (arith, e, mul-zero a))
factor-pos a (suc b) e = omega arith

factor-le : (a b : ℕ) → a * b ≡ 524288 → b ≤ 524288
factor-le zero b e = absurd (omega (arith, e, zero-mul b))
factor-le (suc a) b e = omega (arith, e, suc-mul a b)

whole-running : (p : Part) → WholeFrames p → Running p
whole-running p h configuration = factor-pos (period_frames p configuration) (frame_clocks p configuration) (h configuration)

pub running-row : (n : ℕ) → Running (part_of n)
running-row n = whole-running (part_of n) (whole-frames n)

whole-short : (p : Part) → WholeFrames p → (configuration : ℕ) → frame_clocks p configuration ≤ 524288
whole-short p h configuration = factor-le (period_frames p configuration) (frame_clocks p configuration) (h configuration)

pub short_row : (n configuration : ℕ) → frame_clocks (part_of n) configuration ≤ 524288
short_row n configuration = whole-short (part_of n) (whole-frames n) configuration
