-- The clocks of a frame visit every moment of the schedule exactly once: frame, subframe, phase and clock are places of a number, from the
-- highest to the lowest. What has these places has this number, and a number has places in range. Assumes nothing.
use mathlib.Core.Path.{◌≡◌, sym, ap, ◌∙◌}
use Prim.Native.Nat.{ℕ, zero, suc, ◌+◌, ◌*◌, ◌/◌, ◌%◌, ◌<◌}
use native.Mathlib.Nat.{add_comm, mul_comm, mul_assoc, add-mul, zero-add, zero-mul, mul-zero, mul-pos, mod-lt, div-eq_of_lt, mod-eq_of_lt}
use native.Mathlib.Nat.{add-mul-div_right, add-mul-mod_self_right, div-add-mod', div-div-eq-div-mul, div-lt_iff_lt-mul}
use native.Mathlib.Omega.{arith}
use Rattle.parts.specs.Parts.{Part, subframes, phase_count, frame_clocks}
use Rattle.schedule.specs.declared.moments.Moment.{Moment}
use Rattle.schedule.specs.Moments.{subframe_at, phase_at, clock_at, moment_at, InSchedule, Visited}
use Rattle.schedule.proofs.Sums.{row-place}

-- ---- places of a number

-- the high place and the low one
high : (a b n : ℕ) → b < n → (a * n + b) / n ≡ a
high a b n h =
    ap (λ (k : ℕ). k / n) (add_comm (a * n) b) ∙ add-mul-div_right b a (omega arith) ∙ ap (λ (k : ℕ). k + a) (div-eq_of_lt h) ∙ zero-add a

low : (a b n : ℕ) → b < n → (a * n + b) % n ≡ b
low a b n h = ap (λ (k : ℕ). k % n) (add_comm (a * n) b) ∙ add-mul-mod_self_right b a n ∙ mod-eq_of_lt h

module _ (p : Part) (configuration : ℕ) where
  abbrev some : ℕ
  some = subframes p configuration

  abbrev phases : ℕ
  phases = phase_count configuration

  -- a clock by its places: frame, subframe, phase, clock
  abbrev pub clock_by : ℕ → ℕ → ℕ → ℕ → ℕ
  clock_by frame s phase c = frame * (some * (phases * p.clocks)) + (s * (phases * p.clocks) + (phase * p.clocks + c))

  -- the same from the lowest up
  by-low : (frame s phase c : ℕ) → clock_by frame s phase c ≡ ((frame * some + s) * phases + phase) * p.clocks + c
  by-low frame s phase c =
      omega (
        arith,
        add-mul ((frame * some + s) * phases) phase p.clocks,
        mul_assoc (frame * some + s) phases p.clocks,
        add-mul (frame * some) s (phases * p.clocks),
        mul_assoc frame some (phases * p.clocks),
      )

  module _ (frame s phase c : ℕ) (hs : s < some) (hp : phase < phases) (hc : c < p.clocks) where
    pub clock-by : clock_at p (clock_by frame s phase c) ≡ c
    clock-by = ap (clock_at p) (by-low frame s phase c) ∙ low ((frame * some + s) * phases + phase) c p.clocks hc

    pub phase-by : phase_at p configuration (clock_by frame s phase c) ≡ phase
    phase-by =
        ap (phase_at p configuration) (by-low frame s phase c)
        ∙ ap (λ (k : ℕ). k % phases) (high ((frame * some + s) * phases + phase) c p.clocks hc) ∙ low (frame * some + s) phase phases hp

    within-subframe : phase * p.clocks + c < phases * p.clocks
    within-subframe = omega (arith, row-place phases p.clocks phase c hp hc)

    within-frame : s * (phases * p.clocks) + (phase * p.clocks + c) < some * (phases * p.clocks)
    within-frame = omega (arith, row-place some (phases * p.clocks) s (phase * p.clocks + c) hs within-subframe)

    pub subframe-by : subframe_at p configuration (clock_by frame s phase c) ≡ s
    subframe-by =
        ap (λ (k : ℕ). k / (phases * p.clocks))
        (low frame (s * (phases * p.clocks) + (phase * p.clocks + c)) (some * (phases * p.clocks)) within-frame)
        ∙ high s (phase * p.clocks + c) (phases * p.clocks) within-subframe

  -- ---- the clocks of one frame

  abbrev frame : ℕ
  frame = frame_clocks p configuration

  -- a frame that has a clock is of subframes that have clocks
  clocks-pos : (t : ℕ) → t < frame → 0 < p.clocks
  clocks-pos t h = by p.clocks h where
    by : (n : ℕ) → t < some * (phases * n) → 0 < n
    by zero l = absurd (omega (arith, l, mul-zero phases, mul-zero some))
    by (suc n) l = omega arith

  -- a clock by its places, and the place of each
  places : (t : ℕ) → t < frame → clock_by 0 (subframe_at p configuration t) (phase_at p configuration t) (clock_at p t) ≡ t
  places t h =
      let whole : t % frame ≡ t = mod-eq_of_lt h in
      let s : subframe_at p configuration t ≡ t / p.clocks / phases =
      ap (λ (k : ℕ). k / (phases * p.clocks)) whole ∙ ap (λ (k : ℕ). t / k) (mul_comm phases p.clocks) ∙ sym (div-div-eq-div-mul t p.clocks phases) in
      by-low 0 (subframe_at p configuration t) (phase_at p configuration t) (clock_at p t)
      ∙ ap (λ (k : ℕ). ((0 * some + k) * phases + phase_at p configuration t) * p.clocks + clock_at p t) s
      ∙ ap (λ (k : ℕ). ((k + t / p.clocks / phases) * phases + phase_at p configuration t) * p.clocks + clock_at p t) (zero-mul some)
      ∙ ap (λ (k : ℕ). (k * phases + phase_at p configuration t) * p.clocks + clock_at p t) (zero-add (t / p.clocks / phases))
      ∙ ap (λ (k : ℕ). k * p.clocks + clock_at p t) (div-add-mod' (t / p.clocks) phases)
      ∙ div-add-mod' t p.clocks

  moment-within : (t : ℕ) → t < frame → InSchedule p configuration (moment_at p configuration t)
  moment-within t h =
      let c : 0 < p.clocks = clocks-pos t h in
      let n : 0 < phases = omega arith in
      record {
        subframe = (div-lt_iff_lt-mul (mul-pos n c)).1 (mod-lt t (omega (arith, h)));
        clock = mod-lt t c;
        phase = mod-lt (t / p.clocks) n;
      }

  moment-once : (t u : ℕ) → t < frame → u < frame → moment_at p configuration t ≡ moment_at p configuration u → t ≡ u
  moment-once t u h k e =
      sym (places t h) ∙ ap (λ (m : Moment). clock_by 0 m.subframe m.phase m.clock) e ∙ places u k

  moment-every : (m : Moment) → InSchedule p configuration m → (t : ℕ) × ((t < frame) × (moment_at p configuration t ≡ m))
  moment-every m i =
      let s = m.subframe in
      let c = m.clock in
      let ph = m.phase in
      let t : ℕ = clock_by 0 s ph c in
      let l : t < frame = omega (arith, zero-mul frame, within-frame 0 s ph c i.subframe i.phase i.clock) in (
        t,
        (
          l,
          ap (λ (k : ℕ). record { subframe = k; clock = clock_at p t; phase = phase_at p configuration t })
              (subframe-by 0 s ph c i.subframe i.phase i.clock)
              ∙ ap (λ (k : ℕ). record { subframe = s; clock = k; phase = phase_at p configuration t }) (clock-by 0 s ph c i.subframe i.phase i.clock)
              ∙ ap (λ (k : ℕ). record { subframe = s; clock = c; phase = k }) (phase-by 0 s ph c i.subframe i.phase i.clock),
        ),
      )

  -- each moment of the schedule exactly once
  pub visited : Visited p configuration
  visited = record { within = moment-within; once = moment-once; every = moment-every }
