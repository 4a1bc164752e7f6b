-- Clocks in which a device is sent nothing, at once: levels stay, counts grow, and the last clock tells whether it has expired. One clock by
-- definition, n clocks by induction on n. Assumes nothing.
use mathlib.Core.Path.{◌≡◌, refl, sym, ap, ◌∙◌}
use mathlib.Core.Bool.{Bool, true, false, cond, ◌||◌}
use mathlib.Core.List.{[]}
use Prim.Native.Nat.{ℕ, zero, suc, min, ◌+◌, ◌%◌, ◌≤◌}
use native.Mathlib.Nat.{zero-add, suc-add}
use native.Mathlib.Omega.{arith}
use lib.Dec.{leb, ltb}
use lib.ListN.{replicate}
use borrow.Author.Tests.{leb-true, leb-false}
use Rattle.machine.specs.Machine.{run}
use Rattle.watch.specs.declared.watch.Watch.{Watch}
use Rattle.watch.specs.Watch.{line, with_lines, last_of, moved, enabled, watching, expired}
use Rattle.model.specs.Device.{Registers, at, activated}
use Rattle.clocked.specs.Clock.{Clocked, registers_of, length_in, length_of, Placed, aged}
use Rattle.clocked.proofs.Aged.{ticks-aged, aged-add, aged-placed}
use Rattle.watchdog.specs.Watched.{Watched, cleared, cleared_if, clock_watched}
use Rattle.watchdog.specs.Still.{clocks_watched}
use Rattle.watchdog.specs.Stretch.{configuration_of, sends_over, idle_watch, aged_watched}
use Rattle.watchdog.proofs.Clear.{cleared-twice}
use Rattle.watchdog.proofs.Calm.{cleared-configuration}

-- ---- what ageing and clearing keep

pub aged-cleared : (n : ℕ) (b : Bool) (c : Clocked) → aged n (cleared_if b c) ≡ cleared_if b (aged n c)
unfolding aged activated cleared length_in
aged-cleared n true c = ap (λ (r : Registers). record { device = at r c.device.phase; position = (c.position + n) % length_of c }) (by (ltb (c.position + n) (length_of c)))
  where
    by : (t : Bool) → ◌≡◌ {A = Registers} (cond t (cleared (registers_of c)) (activated (cleared (registers_of c)))) (cleared (cond t (registers_of c) (activated (registers_of c))))
    by true = refl
    by false = refl
aged-cleared n false c = refl

aged-configuration : (n : ℕ) (c : Clocked) → (registers_of (aged n c)).configuration ≡ (registers_of c).configuration
unfolding aged activated
aged-configuration n c = by (ltb (c.position + n) (length_of c))
  where
    by : (t : Bool) → (cond t (registers_of c) (activated (registers_of c))).configuration ≡ (registers_of c).configuration
    by true = refl
    by false = refl

pub cleared-placed : (b : Bool) (c : Clocked) → Placed c → Placed (cleared_if b c)
unfolding cleared length_in
cleared-placed true c h = h
cleared-placed false c h = h

-- ---- counts

count-one : (on : Bool) (a : ℕ) → cond on (min (suc a) 2000000) 0 ≡ cond on (min (a + 1) 2000000) 0
count-one true a = omega arith
count-one false a = refl

count-more : (on : Bool) (a n : ℕ) → cond on (min (cond on (min (a + 1) 2000000) 0 + suc n) 2000000) 0 ≡ cond on (min (a + suc (suc n)) 2000000) 0
count-more true a n = omega arith
count-more false a n = refl

count-grows : (on : Bool) (a n : ℕ) → cond on (min (a + 1) 2000000) 0 ≤ cond on (min (cond on (min (a + 1) 2000000) 0 + suc n) 2000000) 0
count-grows true a n = omega arith
count-grows false a n = omega arith

idle-more : (n k : ℕ) (s : Watch) → idle_watch (suc n) k (idle_watch 1 k s) ≡ idle_watch (suc (suc n)) k s
unfolding idle_watch
idle-more n k s = λ i. with_lines s (line (count-more (enabled s k) s.din.still n i) s.din.level) (line (count-more (enabled s k) s.loadi.still n i) s.loadi.level)

leb-grows : (l a b : ℕ) → a ≤ b → (leb l b || leb l a) ≡ leb l b
leb-grows l a b h = by (leb l b) refl (leb l a) refl
  where
    by : (y : Bool) → leb l b ≡ y → (x : Bool) → leb l a ≡ x → (y || x) ≡ y
    by true f x e = refl
    by false f true e = absurd (omega (arith, leb-false l b f, leb-true l a e))
    by false f false e = refl

or-both : (a b c d : Bool) → (a || c) ≡ a → (b || d) ≡ b → ((a || b) || (c || d)) ≡ (a || b)
or-both true b c d h k = refl
or-both false true false d h k = refl
or-both false false false d h k = k
or-both false b true d h k = absurd (let z : ◌≡◌ {A = ℕ} 0 1 = cc in omega arith)

-- one that has expired goes on expiring while nothing is sent
expired-grows : (n k : ℕ) (s : Watch) → (expired (idle_watch (suc n) k (idle_watch 1 k s)) || expired (idle_watch 1 k s)) ≡ expired (idle_watch (suc n) k (idle_watch 1 k s))
unfolding expired idle_watch
expired-grows n k s =
    let on : Bool = enabled s k in
    or-both (leb s.limit (more on s.din.still)) (leb s.limit (more on s.loadi.still))
    (leb s.limit (one on s.din.still)) (leb s.limit (one on s.loadi.still))
    (leb-grows s.limit (one on s.din.still) (more on s.din.still) (count-grows on s.din.still n))
    (leb-grows s.limit (one on s.loadi.still) (more on s.loadi.still) (count-grows on s.loadi.still n))
  where
    one : Bool → ℕ → ℕ
    one on a = cond on (min (a + 1) 2000000) 0

    more : Bool → ℕ → ℕ
    more on a = cond on (min (one on a + suc n) 2000000) 0

-- ---- one clock, and more

idle-one : (w : Watched) → Placed w.clocked → (clock_watched w []).0 ≡ aged_watched 1 w
unfolding clock_watched watching last_of moved idle_watch aged_watched run
idle-one w h =
    let on : Bool = enabled w.watch (configuration_of w) in
    rw (ticks-aged 1 w.clocked h, aged-configuration 1 w.clocked, count-one on w.watch.din.still, count-one on w.watch.loadi.still)

aged-more : (n : ℕ) (w : Watched) → Placed w.clocked → aged_watched (suc n) (aged_watched 1 w) ≡ aged_watched (suc (suc n)) w
unfolding aged_watched
aged-more n w h =
    let c : Clocked = w.clocked in
    let s : Watch = w.watch in
    let k : ℕ = configuration_of w in
    let e : Bool = expired (idle_watch 1 k s) in
    let f : Bool = expired (idle_watch (suc n) k (idle_watch 1 k s)) in
    let q : (registers_of (cleared_if e (aged 1 c))).configuration ≡ k = cleared-configuration e (aged 1 c) ∙ aged-configuration 1 c in
    let m : 1 + suc n ≡ suc (suc n) = omega arith in
    let a : aged (suc n) (cleared_if e (aged 1 c)) ≡ cleared_if e (aged (suc (suc n)) c) =
    aged-cleared (suc n) e (aged 1 c) ∙ ap (cleared_if e) (aged-add 1 (suc n) c h ∙ ap (λ (j : ℕ). aged j c) m) in
    let b : (f || e) ≡ expired (idle_watch (suc (suc n)) k s) = expired-grows n k s ∙ ap expired (idle-more n k s) in
    rw (q, a) (λ i. record { clocked = (cleared-twice f e (aged (suc (suc n)) c) ∙ ap (λ (x : Bool). cleared_if x (aged (suc (suc n)) c)) b) i; watch = idle-more n k s i })

aged-then : (n : ℕ) (w : Watched) → Placed w.clocked → aged_watched n (aged_watched 1 w) ≡ aged_watched (suc n) w
unfolding aged_watched
aged-then zero w h = refl
aged-then (suc n) w h = aged-more n w h

placed_one : (w : Watched) → Placed w.clocked → Placed (aged_watched 1 w).clocked
unfolding aged_watched
placed_one w h = cleared-placed (expired (idle_watch 1 (configuration_of w) w.watch)) (aged 1 w.clocked) (aged-placed 1 w.clocked h)

aged-none : (w : Watched) → w ≡ aged_watched 0 w
unfolding aged_watched
aged-none w = refl

-- Idle: n clocks in which a device is sent nothing, at once
pub idle-watched : (n : ℕ) (w : Watched) → Placed w.clocked → clocks_watched w (replicate n []) ≡ aged_watched n w
unfolding clocks_watched
idle-watched zero w h = aged-none w
idle-watched (suc n) w h =
    ap (λ (u : Watched). clocks_watched u (replicate n [])) (idle-one w h) ∙ idle-watched n (aged_watched 1 w) (placed_one w h) ∙ aged-then n w h

-- and it sends nothing
pub idle-sends : (n : ℕ) (w : Watched) → sends_over w (replicate n []) ≡ replicate n []
unfolding sends_over clock_watched run
idle-sends zero w = refl
idle-sends (suc n) w = rw (idle-sends n (clock_watched w []).0)

-- Idle: such clocks add up
pub aged_watched-add : (a b : ℕ) (w : Watched) → Placed w.clocked → aged_watched b (aged_watched a w) ≡ aged_watched (a + b) w
aged_watched-add zero b w h = rw zero-add (ap (aged_watched b) (sym (aged-none w)))
aged_watched-add (suc a) b w h =
    ap (aged_watched b) (sym (aged-then a w h)) ∙ aged_watched-add a b (aged_watched 1 w) (placed_one w h) ∙ aged-then (a + b) w h ∙ rw suc-add
