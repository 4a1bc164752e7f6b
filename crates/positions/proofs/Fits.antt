-- A position that is below the frame's length stays so: one clock later, and when the configuration changes. Every row's frame has clocks, and at
-- most 524,288. Assumes nothing.
use Rattle.std.proofs.Common.{◌≡◌, ℕ, zero, suc, ◌*◌, ◌%◌, ◌<◌, ◌≤◌, Bool, true, false, cond, ltb, sym, refl, subst, mod-lt, suc-mul, mul-zero, zero-mul, arith, ltb-false, ltb-true, lt-ltb}
use Rattle.parts.specs.Parts.{part_of, period, period_frames}
use Rattle.parts.proofs.Laws.{whole-frames}
use Rattle.registers.specs.declared.registers.Registers.{Registers}
use Rattle.positions.specs.Positions.{length_in, position_fits, placed_at, next, refit, refitted}

-- a divisor of the period: some, and at most the period
divides : (n k : ℕ) → k * n ≡ period → (0 < n) × (n ≤ period)
divides n zero e = absurd (omega (arith, e, zero-mul n))
divides zero (suc k) e = absurd (omega (arith, e, mul-zero (suc k)))
divides (suc n) (suc k) e = (omega arith, omega (arith, e, suc-mul k (suc n)))

-- the clocks of a frame
pub length-pos : (r : Registers) → 0 < length_in r
length-pos r = (divides (length_in r) (period_frames (part_of r.part) r.configuration) (whole-frames r.part r.configuration)).0

pub length_most : (r : Registers) → length_in r ≤ 524288
length_most r = (divides (length_in r) (period_frames (part_of r.part) r.configuration) (whole-frames r.part r.configuration)).1

-- a position in the new frame
pub refit-lt : (old new n : ℕ) → 0 < new → n < old → refit old new n < new
refit-lt old new n h l = go (ltb new old) refl
  where
    go : (b : Bool) → ltb new old ≡ b → cond b (n % new) n < new
    go true e = mod-lt n h
    go false e = omega (arith, l, ltb-false new old e)

pub refit-fits : (old new : Registers) → new.position ≡ old.position → position_fits old ≡ true → position_fits (refitted old new) ≡ true
refit-fits old new e h =
    lt-ltb _ _ (refit-lt (length_in old) (length_in new) new.position (length-pos new)
    (subst (λ (n : ℕ). n < length_in old) (sym e) (ltb-true old.position (length_in old) h)))

pub next_fits : (r : Registers) → position_fits (placed_at r (next r)) ≡ true
next_fits r = lt-ltb (next r) (length_in r) (mod-lt (suc r.position) (length-pos r))

pub zero-fits : (r : Registers) → r.position ≡ 0 → position_fits r ≡ true
zero-fits r e = lt-ltb r.position (length_in r) (subst (λ (n : ℕ). n < length_in r) (sym e) (length-pos r))
