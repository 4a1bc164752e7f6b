-- A position as a run keeps it. One clock more is one clock of the device, and what a store leaves is, by the clock of the store, the single
-- step's: as long as the run's clocks and a frame's are below 2 ^ 64. Assumes nothing.
use Rattle.std.proofs.Common.{◌≡◌, ℕ, suc, ◌+◌, ◌*◌, ◌/◌, ◌%◌, ◌^◌, ◌<◌, Bool, true, false, cond, not, eqb, ltb, sym, refl, ap, ◌∙◌, mod-lt, mod-eq_of_lt, arith, ltb-false, ltb-true, lt-ltb, ne_eqb}
use native.Mathlib.Nat.{mod_self, mod-add-div, mul-add-mod_self_left}
use Rattle.registers.specs.Held.{activated}
use Rattle.registers.specs.declared.registers.Registers.{Registers}
use Rattle.positions.specs.Positions.{length_in, position_fits, placed_at, next, ticked, refit}
use Rattle.positions.specs.Running.{run_on, has_ended, shown_by, by_clock, kept_from, dated}
use Rattle.positions.proofs.Fits.{length-pos, length_most, refit-lt}

-- a position that was written within the first t clocks, and so has not run on over 2 ^ 64
abbrev pub Early : ℕ → Registers → Type 0
Early t r = run_on t r < 524288 + t

-- one more of what is taken modulo
mod-suc : (q m : ℕ) → suc (q % m) % m ≡ suc q % m
mod-suc q m =
    let e : m * (q / m) + suc (q % m) ≡ suc q = omega (arith, mod-add-div q m) in
    sym (mul-add-mod_self_left m (q / m) (suc (q % m))) ∙ ap (λ (n : ℕ). n % m) e

run_on-next : (t : ℕ) (r : Registers) → t < 2 ^ 63 → Early t r → run_on (t + 1) r ≡ suc (run_on t r)
run_on-next t r h e = omega (arith, h, e)

-- what is active one clock later: what waits where a frame ends, or has ended
later : {A : Type 0} (q m : ℕ) (waits active : A) → 0 < m
    → cond (not (ltb (suc q) m)) waits active ≡ cond (eqb (suc q % m) 0) waits (cond (not (ltb q m)) waits active)
later q m waits active h = go (ltb (suc q) m) refl (ltb q m) refl
  where
    go : (a : Bool) → ltb (suc q) m ≡ a → (b : Bool) → ltb q m ≡ b → cond (not a) waits active ≡ cond (eqb (suc q % m) 0) waits (cond (not b) waits active)
    go true e b f =
        let l : suc q < m = ltb-true (suc q) m e in
        let g : b ≡ true = sym f ∙ lt-ltb q m (omega (arith, l)) in
        rw (mod-eq_of_lt l, ne_eqb (suc q) 0 (λ z. omega (arith, z)), g)
    go false e true f =
        let k : suc q ≡ m = omega (arith, ltb-false (suc q) m e, ltb-true q m f) in
        rw (k, mod_self m)
    go false e false f = sym (same (eqb (suc q % m) 0))
      where
        same : (c : Bool) → cond c waits waits ≡ waits
        same true = refl
        same false = refl

pub by_next : (t : ℕ) (r : Registers) → t < 2 ^ 63 → Early t r → by_clock (t + 1) r ≡ ticked (by_clock t r)
unfolding by_clock ticked
by_next t r h e = go (eqb (next b) 0) refl
  where
    q : ℕ
    q = run_on t r

    m : ℕ
    m = length_in r

    b : Registers
    b = placed_at (shown_by t r r) (q % m)

    on : next b ≡ suc q % m
    on = mod-suc q m

    shown : {A : Type 0} (waits active : A) → cond (has_ended (t + 1) r) waits active ≡ cond (eqb (next b) 0) waits (cond (has_ended t r) waits active)
    shown waits active =
        ap (λ (n : ℕ). cond (not (ltb n m)) waits active) (run_on-next t r h e) ∙ later q m waits active (length-pos r)
        ∙ ap (λ (n : ℕ). cond (eqb n 0) waits (cond (has_ended t r) waits active)) (sym on)

    place : run_on (t + 1) r % m ≡ next b
    place = ap (λ (n : ℕ). n % m) (run_on-next t r h e) ∙ sym on

    go : (z : Bool) → eqb (next b) 0 ≡ z
        → placed_at (shown_by (t + 1) r r) (run_on (t + 1) r % m) ≡ placed_at (cond z (activated b) b) (next b)
    go true f = rw (shown r.waiting r.active, shown r.waiting0 r.active0, shown r.waiting1 r.active1, place, f)
    go false f = rw (shown r.waiting r.active, shown r.waiting0 r.active0, shown r.waiting1 r.active1, place, f)

pub early-next : (t : ℕ) (r : Registers) → t < 2 ^ 63 → Early t r → Early (t + 1) r
early-next t r h e = omega (arith, run_on-next t r h e, e)

-- at the first clock
pub early-first : (r : Registers) → position_fits r ≡ true → Early 0 r
early-first r h = omega (arith, ltb-true r.position (length_in r) h, length_most r)

pub by_first : (r : Registers) → position_fits r ≡ true → by_clock 0 r ≡ r
unfolding by_clock
by_first r h =
    let l : r.position < length_in r = ltb-true r.position (length_in r) h in
    let e : run_on 0 r ≡ r.position = omega (arith, l, length_most r) in
    rw (e, h, mod-eq_of_lt l)

-- ---- a store

kept_back : (t n : ℕ) → t < 2 ^ 63 → n < 2 ^ 63 → (kept_from t n + t) % 2 ^ 64 ≡ n
kept_back t n h l = omega (arith, h, l)

-- the position after a store in clock t
abbrev pub stored_at : ℕ → Registers → Registers → ℕ
stored_at t old new = refit (length_in old) (length_in new) (run_on t old % length_in old)

stored-lt : (t : ℕ) (old new : Registers) → stored_at t old new < length_in new
stored-lt t old new = refit-lt (length_in old) (length_in new) (run_on t old % length_in old) (length-pos new) (mod-lt (run_on t old) (length-pos old))

dated-on : (t : ℕ) (old new : Registers) → t < 2 ^ 63 → run_on t (dated t old new) ≡ stored_at t old new
unfolding dated
dated-on t old new h = kept_back t (stored_at t old new) h (omega (arith, stored-lt t old new, length_most new))

dated-with : (t : ℕ) (old new : Registers) → run_on t (dated t old new) ≡ stored_at t old new → stored_at t old new < length_in new
    → by_clock t (dated t old new) ≡ placed_at (shown_by t old new) (stored_at t old new)
unfolding dated by_clock
dated-with t old new e l = rw (e, lt-ltb (stored_at t old new) (length_in new) l, mod-eq_of_lt l)

pub dated-by : (t : ℕ) (old new : Registers) → t < 2 ^ 63 → by_clock t (dated t old new) ≡ placed_at (shown_by t old new) (stored_at t old new)
dated-by t old new h = dated-with t old new (dated-on t old new h) (stored-lt t old new)

pub dated-early : (t : ℕ) (old new : Registers) → t < 2 ^ 63 → Early t (dated t old new)
dated-early t old new h = omega (arith, dated-on t old new h, stored-lt t old new, length_most new)
