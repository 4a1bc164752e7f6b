-- Clocks at once. One clock by the two cases of the next position, n clocks by induction on n; that ageing adds up follows from the clocks.
-- Assumes nothing.
use mathlib.Core.Path.{◌≡◌, refl, sym, ◌∙◌}
use mathlib.Core.Bool.{Bool, true, false, cond}
use Prim.Native.Nat.{ℕ, zero, suc, ◌+◌, ◌≤◌, ◌<◌}
use native.Mathlib.Nat.{mod-lt, mod-eq_of_lt, mod_self, add-mod_left, zero-add, suc-add}
use native.Mathlib.Omega.{arith}
use lib.Dec.{eqb, ltb}
use borrow.Author.Tests.{lt-ltb, le-ltb, ne_eqb, ltb-true, ltb-false}
use Rattle.model.specs.Device.{Registers, at, activated}
use Rattle.clocked.specs.Clock.{Clocked, registers_of, length_in, length_of, Placed, next, tick, aged}

-- clock by clock
abbrev pub ticks : ℕ → Clocked → Clocked
ticks zero c = c
ticks (suc n) c = ticks n (tick c)

-- before the last clock of the frame, and on it
tick-on : (c : Clocked) → suc c.position < length_of c → tick c ≡ record { device = c.device; position = suc c.position }
unfolding tick
tick-on c h =
    let e : next c ≡ suc c.position = mod-eq_of_lt h in
    rw (e, ne_eqb (suc c.position) 0 (λ z. omega arith))

tick-wrap : (c : Clocked) → suc c.position ≡ length_of c → tick c ≡ record { device = at (activated (registers_of c)) c.device.phase; position = 0 }
unfolding tick
tick-wrap c h =
    let e : next c ≡ 0 = rw h (mod_self (length_of c)) in
    rw e

pub activated-length : (r : Registers) → length_in (activated r) ≡ length_in r
unfolding activated length_in
activated-length r = refl

-- no clock changes the length of the frame
pub tick-length : (c : Clocked) → length_of (tick c) ≡ length_of c
unfolding tick
tick-length c = by (eqb (next c) 0)
  where
    by : (b : Bool) → length_in (cond b (activated (registers_of c)) (registers_of c)) ≡ length_of c
    by true = activated-length (registers_of c)
    by false = refl

tick-position : (c : Clocked) → (tick c).position ≡ next c
unfolding tick
tick-position c = refl

pub tick-placed : (c : Clocked) → Placed c → Placed (tick c)
tick-placed c h =
    let z : 0 < length_of c = omega arith in
    rw (tick-position c, tick-length c) (mod-lt (suc c.position) z)

aged-zero : (c : Clocked) → Placed c → aged 0 c ≡ c
unfolding aged
aged-zero c h =
    let e : c.position + 0 ≡ c.position = omega arith in
    rw (e, mod-eq_of_lt h, lt-ltb c.position (length_of c) h)

-- active values that are taken twice are taken once
twice : (b : Bool) (r : Registers) → cond b (activated r) (activated (activated r)) ≡ activated r
unfolding activated
twice true r = refl
twice false r = refl

-- n clocks more after one
aged-on : (n : ℕ) (c : Clocked) → suc c.position < length_of c → aged n (tick c) ≡ aged (suc n) c
unfolding aged
aged-on n c h =
    let e : suc c.position + n ≡ c.position + suc n = omega arith in
    rw (tick-on c h, e)

aged-wrap : (n : ℕ) (c : Clocked) → suc c.position ≡ length_of c → aged n (tick c) ≡ aged (suc n) c
unfolding aged
aged-wrap n c h =
    let e : c.position + suc n ≡ length_of c + n = omega arith in
    let r : length_in (activated (registers_of c)) ≡ length_of c = activated-length (registers_of c) in
    rw (tick-wrap c h, e, add-mod_left (length_of c) n, le-ltb (length_of c + n) (length_of c) (omega arith), r, zero-add n, twice (ltb n (length_of c)) (registers_of c))

pub aged-tick : (n : ℕ) (c : Clocked) → Placed c → aged n (tick c) ≡ aged (suc n) c
aged-tick n c h = by (ltb (suc c.position) (length_of c)) refl
  where
    by : (b : Bool) → ltb (suc c.position) (length_of c) ≡ b → aged n (tick c) ≡ aged (suc n) c
    by true e = aged-on n c (ltb-true (suc c.position) (length_of c) e)
    by false e = aged-wrap n c (omega (arith, ltb-false (suc c.position) (length_of c) e))

-- n clocks at once
pub ticks-aged : (n : ℕ) (c : Clocked) → Placed c → ticks n c ≡ aged n c
ticks-aged zero c h = sym (aged-zero c h)
ticks-aged (suc n) c h = ticks-aged n (tick c) (tick-placed c h) ∙ aged-tick n c h

ticks-placed : (n : ℕ) (c : Clocked) → Placed c → Placed (ticks n c)
ticks-placed zero c h = h
ticks-placed (suc n) c h = ticks-placed n (tick c) (tick-placed c h)

pub aged-placed : (n : ℕ) (c : Clocked) → Placed c → Placed (aged n c)
aged-placed n c h = rw (ticks-aged n c h) at (ticks-placed n c h)

ticks-add : (a b : ℕ) (c : Clocked) → ticks b (ticks a c) ≡ ticks (a + b) c
ticks-add zero b c = rw zero-add
ticks-add (suc a) b c = rw suc-add (ticks-add a b (tick c))

-- ageing adds up
pub aged-add : (a b : ℕ) (c : Clocked) → Placed c → aged b (aged a c) ≡ aged (a + b) c
aged-add a b c h =
    rw (← ticks-aged (a + b) c h, ← ticks-aged a c h, ← ticks-aged b (ticks a c) (ticks-placed a c h)) (ticks-add a b c)

-- what is active, and what is not, after n clocks
pub aged-active : (n : ℕ) (c : Clocked) → length_of c ≤ c.position + n → registers_of (aged n c) ≡ activated (registers_of c)
unfolding aged
aged-active n c h = rw (le-ltb (c.position + n) (length_of c) h)

pub aged-before : (n : ℕ) (c : Clocked) → c.position + n < length_of c → registers_of (aged n c) ≡ registers_of c
unfolding aged
aged-before n c h = rw (lt-ltb (c.position + n) (length_of c) h)

pub aged-position : (n : ℕ) (c : Clocked) → c.position + n < length_of c → (aged n c).position ≡ c.position + n
unfolding aged
aged-position n c h = mod-eq_of_lt h
