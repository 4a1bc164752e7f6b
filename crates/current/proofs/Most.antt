-- No device of a row draws more than all its outputs lit as long as they can be, at the greatest current, in every subframe of the period; the
-- brightest device draws so much where the period has a whole number of frames. Term by term of the closed form. Assumes nothing.
use mathlib.Core.Path.{◌≡◌, sym, ap, ap₂, ◌∙◌}
use Prim.Native.Nat.{ℕ, ◌+◌, ◌-◌, ◌*◌, ◌/◌, ◌^◌, ◌<◌, ◌≤◌}
use native.Mathlib.Nat.{le_trans, le_of_eq, mul_assoc, mul_left_comm, mul-le-mul, mul-le-mul_left, mul-le-mul_right, mod-lt, div-mul-le_self, le-div_iff_mul-le, div-eq_of_eq-mul_left}
use native.Mathlib.Omega.{arith}
use lib.ListN.{get_or, replicate, get_or-replicate, length-replicate}
use lib.Pow.{pow_pos}
use Rattle.parts.specs.Parts.{Part, subframes, multiplex, phase_count, frame_clocks, period, period_frames, sink_current, limit, slice_fields, Usable, WholeFrames}
use Rattle.parts.specs.declared.command.Command.TheVariants.{Individual}
use Rattle.parts.proofs.Rows.{limit-pos}
use Rattle.subframes.specs.Subframes.{level}
use Rattle.schedule.specs.Light.{lit_count}
use Rattle.model.specs.Set.{Own, OwnProper}
use Rattle.model.proofs.Lists.{All-replicate, below_at}
use Rattle.current.specs.declared.drive.Drive.{Drive}
use Rattle.current.specs.Current.{drawn}
use Rattle.current.specs.Closed.{drive_of, bank_total}
use Rattle.current.specs.Most.{most_drawn, brightest}
use Rattle.schedule.proofs.Sums.{total-same, total-le, total-const, row-place}
use Rattle.current.proofs.Closed.{closed-level, closed-drawn}
use Rattle.current.proofs.Devices.{fields-banks}

-- the factors of the closed form and of the most
regroup : (f s b h l k : ℕ) → f * s * (b * (8 * h * l * k)) ≡ f * s * h * (l * (8 * b * k))
regroup f s b h l k = simp (mul_assoc, mul_left_comm)

module _ (p : Part) (u : Usable p) where
  -- the greatest lit clocks and current of an output
  abbrev clocks : ℕ
  clocks = lit_count p (limit p - 1)

  abbrev current : ℕ
  current = sink_current p 255

  -- a subframe has clocks
  some-clocks : 0 < p.clocks
  some-clocks = omega (arith, limit-pos p, u.clocks)

  -- ---- the subframes of the period, one for each phase

  module _ (configuration : ℕ) where
    abbrev frames : ℕ
    frames = period_frames p configuration

    abbrev some : ℕ
    some = subframes p configuration

    abbrev phases : ℕ
    phases = phase_count configuration

    subframes-regroup : frames * some * phases * p.clocks ≡ frames * frame_clocks p configuration
    subframes-regroup = mul_assoc (frames * some) phases p.clocks ∙ mul_assoc frames some (phases * p.clocks)

    subframes-le : frames * some * phases ≤ period / p.clocks
    subframes-le =
        (le-div_iff_mul-le {k = p.clocks} {x = frames * some * phases} {y = period} some-clocks).1
        (omega (arith, subframes-regroup, div-mul-le_self period (frame_clocks p configuration)))

    subframes-whole : WholeFrames p → frames * some * phases ≡ period / p.clocks
    subframes-whole w = sym (div-eq_of_eq-mul_left some-clocks (sym (subframes-regroup ∙ w configuration)))

  -- ---- no more

  module _ (o : Own) (q : OwnProper p o) where
    abbrev drive : Drive
    drive = drive_of p o.configuration (level p o.configuration o.global)

    lit-le : (v : ℕ) → v < limit p → lit_count p v ≤ clocks
    lit-le v h = omega arith

    bank-le : (bank : ℕ) → bank_total drive o.calibration 0 o.individual 0 bank ≤ 8 * phases o.configuration * clocks * current
    bank-le bank =
        let byte : get_or o.calibration (0 + bank) 0 ≤ 255 = omega (arith, below_at (2 ^ 8) o.calibration (pow_pos 8) q.calibration (0 + bank)) in
        let sink : sink_current p (get_or o.calibration (0 + bank) 0) ≤ current = omega (arith, mul-le-mul_left p.step byte) in
        mul-le-mul
        (total-le (λ i. lit_count p (get_or o.individual (0 + bank * (8 * phases o.configuration) + i) 0)) clocks (8 * phases o.configuration)
        (λ i _. lit-le _ (below_at (limit p) o.individual (limit-pos p) q.individual (0 + bank * (8 * phases o.configuration) + i))))
        sink

    pub drawn-most : drawn p o ≤ most_drawn p
    drawn-most =
        let some-subframe : 0 < some o.configuration = (u.subframes o.configuration).0 in
        let n : ℕ = phases o.configuration in
        let on : level p o.configuration o.global + 1 ≤ some o.configuration = omega (arith, mod-lt o.global some-subframe) in
        le_trans (le_of_eq (closed-level p o some-subframe))
        (le_trans
        (mul-le-mul (mul-le-mul_left (frames o.configuration) on)
        (total-le (bank_total drive o.calibration 0 o.individual 0) (8 * n * clocks * current) p.banks (λ bank _. bank-le bank)))
        (le_trans (le_of_eq (regroup (frames o.configuration) (some o.configuration) p.banks n clocks current))
        (mul-le-mul_right (clocks * (8 * p.banks * current)) (subframes-le o.configuration))))

  -- ---- and so much

  module _ (configuration : ℕ) where
    abbrev fields : ℕ
    fields = slice_fields p Individual (multiplex configuration)

    pub brightest-proper : configuration < 2 ^ 8 → OwnProper p (brightest p configuration)
    brightest-proper h =
        let s = u.subframes configuration in
        record {
          wide = record { width = omega (arith, u.wide); banks = u.some_bank };
          configuration = h;
          global = omega arith;
          calibration = All-replicate (λ v. v < 2 ^ 8) p.banks 255 (omega arith);
          calibration_length = length-replicate p.banks 255;
          individual = All-replicate (λ v. v < 2 ^ p.width) fields (limit p - 1) (omega (arith, limit-pos p));
          individual_length = length-replicate fields (limit p - 1);
        }

    value-brightest : (i : ℕ) → i < p.banks * (8 * phases configuration) → get_or (replicate fields (limit p - 1)) i 0 ≡ limit p - 1
    value-brightest i h = get_or-replicate fields i (limit p - 1) 0 (omega (arith, fields-banks p configuration))

    bank-brightest : (global bank : ℕ) → bank < p.banks
        → bank_total (drive_of p configuration global) (replicate p.banks 255) 0 (replicate fields (limit p - 1)) 0 bank ≡ 8 * phases configuration * clocks * current
    bank-brightest global bank h =
        let n : ℕ = 8 * phases configuration in
        ap₂ (λ (i j : ℕ). i * sink_current p j)
        (total-same (λ i. lit_count p (get_or (replicate fields (limit p - 1)) (0 + bank * n + i) 0)) (λ i. clocks) n
        (λ i k. ap (lit_count p) (value-brightest (0 + bank * n + i) (row-place p.banks n bank i h k)))
        ∙ total-const clocks n)
        (get_or-replicate p.banks (0 + bank) 255 0 (omega arith))

    pub drawn-reached : WholeFrames p → drawn p (brightest p configuration) ≡ most_drawn p
    drawn-reached w =
        let s : 0 < some configuration = (u.subframes configuration).0 in
        let last : some configuration - 1 < some configuration = omega arith in
        let all : some configuration - 1 + 1 ≡ some configuration = omega arith in
        let n : ℕ = phases configuration in
        closed-drawn p (brightest p configuration) last
        ∙ ap₂ (λ (i j : ℕ). frames configuration * i * j) all
        (total-same (bank_total (drive_of p configuration (some configuration - 1)) (replicate p.banks 255) 0 (replicate fields (limit p - 1)) 0)
        (λ bank. 8 * n * clocks * current) p.banks (bank-brightest (some configuration - 1))
        ∙ total-const (8 * n * clocks * current) p.banks)
        ∙ regroup (frames configuration) (some configuration) p.banks n clocks current
        ∙ ap (λ (i : ℕ). i * (clocks * (8 * p.banks * current))) (subframes-whole configuration w)
