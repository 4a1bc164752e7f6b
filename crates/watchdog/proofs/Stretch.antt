-- The watchdog over a stretch of clocks with one state each, under one configuration, by three numbers for each line: what it counts and whether
-- it has expired; and so of a device that passes bits at high load. Counts and their highest by induction on the levels, from the first; a device by
-- the laws of Silent, as it passes without a store. Assumes nothing.
use mathlib.Core.Path.{◌≡◌, refl, sym, ap, ◌∙◌}
use mathlib.Core.Bool.{Bool, true, false, cond, not, ◌||◌}
use mathlib.Core.List.{List, [], ◌∷◌, map}
use Prim.Native.Nat.{ℕ, zero, suc, min, max, ◌+◌, ◌-◌, ◌≤◌}
use native.Mathlib.Omega.{arith}
use lib.Dec.{eqb, leb}
use lib.ListN.{length, length-map, replicate}
use borrow.Author.Tests.{le-leb, lt-leb, leb-true, leb-false}
use Rattle.bits.specs.Bits.{digit}
use Rattle.parts.specs.Wire.{State, high, state_code, highs}
use Rattle.watch.specs.declared.watch.Line.{Line}
use Rattle.watch.specs.declared.watch.Watch.{Watch}
use Rattle.watch.specs.Watch.{line, with_lines, data_bit, load_bit, last_of, moved, enabled, counted, line_after, watching, expired}
use Rattle.model.specs.Device.{Registers, Phase, passing, step_device}
use Rattle.clocked.specs.Clock.{registers_of, Placed, aged}
use Rattle.watchdog.specs.Watched.{Watched, cleared_if}
use Rattle.watchdog.specs.Still.{clocks_watched}
use Rattle.watchdog.specs.Stretch.{configuration_of, sends_over, singly, watch_over, ever_over, lead, trail, longest, on_for, line_over, peak, raised, passed_watch, passed_expired, unwatched}
use Rattle.watchdog.proofs.Silent.{Plain, phase_after, sent_after, in_phase, plain-watched, plain-sends}

-- ---- counts, clock by clock

-- a count after one more clock, where the level stayed or not
abbrev grown : Bool → ℕ → ℕ
grown same n = cond same (min (suc n) 2000000) 0

-- a count after these levels
abbrev count_over : ℕ → ℕ → List ℕ → ℕ
count_over level n [] = n
count_over level n (b ∷ bs) = count_over b (grown (eqb level b) n) bs

-- the highest on the way
abbrev peak_over : ℕ → ℕ → List ℕ → ℕ
peak_over level n [] = 0
peak_over level n (b ∷ bs) = max (grown (eqb level b) n) (peak_over b (grown (eqb level b) n) bs)

grown-le : (same : Bool) (n : ℕ) → grown same n ≤ 2000000
grown-le true n = omega arith
grown-le false n = omega arith

one_more : (same m : Bool) (n t k x : ℕ) → x ≡ min (cond m t (grown same n + k)) 2000000 → x ≡ min (cond (not same || m) (cond m t k) (n + suc k)) 2000000
one_more true true n t k x e = e
one_more true false n t k x e = omega arith
one_more false true n t k x e = e
one_more false false n t k x e = omega arith

count-over : (bs : List ℕ) (level n : ℕ) → n ≤ 2000000 → count_over level n bs ≡ min (cond (moved level bs) (trail level bs) (n + length bs)) 2000000
unfolding moved
count-over [] level n h = omega arith
count-over (b ∷ bs) level n h =
    one_more (eqb level b) (moved b bs) n (trail b bs) (length bs) (count_over b (grown (eqb level b) n) bs) (count-over bs b (grown (eqb level b) n) (grown-le (eqb level b) n))

-- after one clock or more the count before them may be any
count-more : (b : ℕ) (bs : List ℕ) (level n : ℕ) → count_over level n (b ∷ bs) ≡ min (cond (moved level (b ∷ bs)) (trail level (b ∷ bs)) (n + length (b ∷ bs))) 2000000
unfolding moved
count-more b bs level n =
    one_more (eqb level b) (moved b bs) n (trail b bs) (length bs) (count_over b (grown (eqb level b) n) bs) (count-over bs b (grown (eqb level b) n) (grown-le (eqb level b) n))

higher : (same : Bool) (n l i x : ℕ) → x ≡ min (max (on_for (grown same n) l) i) 2000000
    → max (grown same n) x ≡ min (max (on_for n (cond same (suc l) 0)) (cond same i (max l i))) 2000000
higher true n zero i x e = omega arith
higher true n (suc l) i x e = omega arith
higher false n zero i x e = omega arith
higher false n (suc l) i x e = omega arith

peak-over : (bs : List ℕ) (level n : ℕ) → peak_over level n bs ≡ min (max (on_for n (lead level bs)) (longest level bs)) 2000000
peak-over [] level n = omega arith
peak-over (b ∷ bs) level n = higher (eqb level b) n (lead b bs) (longest b bs) (peak_over b (grown (eqb level b) n) bs) (peak-over bs b (grown (eqb level b) n))

-- ---- a watchdog whose bit is set

-- a line after these levels, clock by clock
abbrev line_through : List ℕ → Line → Line
line_through bs l = line (count_over l.level l.still bs) (last_of l.level bs)

counted-one : (same : Bool) (n : ℕ) → counted true (not same || false) n ≡ grown same n
counted-one true n = refl
counted-one false n = refl

line-one : (b : ℕ) (l : Line) → line_after true (b ∷ []) l ≡ line_through (b ∷ []) l
unfolding moved last_of
line-one b l = ap (λ (n : ℕ). line n b) (counted-one (eqb l.level b) l.still)

-- a watchdog after these states
abbrev watch_through : List ℕ → Watch → Watch
watch_through xs s = with_lines s (line_through (map data_bit xs) s.din) (line_through (map load_bit xs) s.loadi)

watching-one : (k x : ℕ) (s : Watch) → enabled s k ≡ true → watching k (x ∷ []) s ≡ watch_through (x ∷ []) s
unfolding watching
watching-one k x s e = rw (e, line-one (data_bit x) s.din, line-one (load_bit x) s.loadi)

watch-through : (xs : List ℕ) (k : ℕ) (s : Watch) → enabled s k ≡ true → watch_over k xs s ≡ watch_through xs s
unfolding watch_over last_of
watch-through [] k s e = refl
watch-through (x ∷ xs) k s e = rw (watching-one k x s e) (watch-through xs k (watch_through (x ∷ []) s) e)

-- Over: what an enabled watchdog counts in a stretch of one clock or more
pub watch-over : (x : ℕ) (xs : List ℕ) (k : ℕ) (s : Watch) → enabled s k ≡ true
    → watch_over k (x ∷ xs) s ≡ with_lines s (line_over (map data_bit (x ∷ xs)) s.din) (line_over (map load_bit (x ∷ xs)) s.loadi)
watch-over x xs k s e =
    watch-through (x ∷ xs) k s e
    ∙ rw (count-more (data_bit x) (map data_bit xs) s.din.level s.din.still, count-more (load_bit x) (map load_bit xs) s.loadi.level s.loadi.still)

leb-max : (l x y : ℕ) → leb l (max x y) ≡ (leb l x || leb l y)
leb-max l x y = by (leb l x) refl (leb l y) refl
  where
    by : (a : Bool) → leb l x ≡ a → (b : Bool) → leb l y ≡ b → leb l (max x y) ≡ (a || b)
    by true e b f = le-leb l (max x y) (omega (arith, leb-true l x e))
    by false e true f = le-leb l (max x y) (omega (arith, leb-true l y f))
    by false e false f = lt-leb l (max x y) (omega (arith, leb-false l x e, leb-false l y f))

or-four : (a b c d : Bool) → ((a || b) || (c || d)) ≡ ((a || c) || (b || d))
or-four true b c d = refl
or-four false true true d = refl
or-four false true false d = refl
or-four false false c d = refl

-- the highest count of either line is at the limit
abbrev peaks : List ℕ → Watch → Bool
peaks xs s = leb s.limit (peak_over s.din.level s.din.still (map data_bit xs)) || leb s.limit (peak_over s.loadi.level s.loadi.still (map load_bit xs))

ever-peaks : (xs : List ℕ) (k : ℕ) (s : Watch) → enabled s k ≡ true → 1 ≤ s.limit → ever_over k xs s ≡ peaks xs s
unfolding ever_over expired last_of
ever-peaks [] k s e h = rw (lt-leb s.limit 0 (omega arith))
ever-peaks (x ∷ xs) k s e h =
    let t : Watch = watch_through (x ∷ []) s in
    let p : ℕ = peak_over (data_bit x) t.din.still (map data_bit xs) in
    let q : ℕ = peak_over (load_bit x) t.loadi.still (map load_bit xs) in
    rw (watching-one k x s e, ever-peaks xs k t e h, leb-max s.limit t.din.still p, leb-max s.limit t.loadi.still q)
    (or-four (leb s.limit t.din.still) (leb s.limit t.loadi.still) (leb s.limit p) (leb s.limit q))

-- Over: whether it has expired in a stretch
pub ever-over : (xs : List ℕ) (k : ℕ) (s : Watch) → enabled s k ≡ true → 1 ≤ s.limit
    → ever_over k xs s ≡ (leb s.limit (peak (map data_bit xs) s.din) || leb s.limit (peak (map load_bit xs) s.loadi))
ever-over xs k s e h =
    ever-peaks xs k s e h
    ∙ rw (peak-over (map data_bit xs) s.din.level s.din.still, peak-over (map load_bit xs) s.loadi.level s.loadi.still)

-- ---- a watchdog whose bit is clear

watching-off : (k x : ℕ) (s : Watch) → enabled s k ≡ false → watching k (x ∷ []) s ≡ unwatched (x ∷ []) s
unfolding watching
watching-off k x s e = rw e

-- Off: it follows the levels, and counts nothing
pub watch-off : (xs : List ℕ) (x k : ℕ) (s : Watch) → enabled s k ≡ false → watch_over k (x ∷ xs) s ≡ unwatched (x ∷ xs) s
unfolding watch_over last_of
watch-off [] x k s e = watching-off k x s e
watch-off (y ∷ xs) x k s e = rw (watching-off k x s e) (watch-off xs y k (unwatched (x ∷ []) s) e)

-- Off: nor does it expire
pub ever-off : (xs : List ℕ) (k : ℕ) (s : Watch) → enabled s k ≡ false → 1 ≤ s.limit → ever_over k xs s ≡ false
unfolding ever_over expired
ever-off [] k s e h = refl
ever-off (x ∷ xs) k s e h = rw (watching-off k x s e, lt-leb s.limit 0 (omega arith)) (ever-off xs k (unwatched (x ∷ []) s) e h)

-- ---- bits at high load

data-high : (bs : List Bool) → map data_bit (map state_code (highs bs)) ≡ map digit bs
data-high [] = refl
data-high (true ∷ bs) = ap (λ (ns : List ℕ). 1 ∷ ns) (data-high bs)
data-high (false ∷ bs) = ap (λ (ns : List ℕ). 0 ∷ ns) (data-high bs)

load-high : (bs : List Bool) → map load_bit (map state_code (highs bs)) ≡ replicate (length bs) 1
load-high [] = refl
load-high (true ∷ bs) = ap (λ (ns : List ℕ). 1 ∷ ns) (load-high bs)
load-high (false ∷ bs) = ap (λ (ns : List ℕ). 1 ∷ ns) (load-high bs)

-- a line at 1 that takes 1 stands still
ones-still : (n : ℕ) → moved 1 (replicate n 1) ≡ false
unfolding moved
ones-still zero = refl
ones-still (suc n) = ones-still n

ones-last : (n : ℕ) → last_of 1 (replicate n 1) ≡ 1
unfolding last_of
ones-last zero = refl
ones-last (suc n) = ones-last n

ones-lead : (n : ℕ) → lead 1 (replicate n 1) ≡ n
ones-lead zero = refl
ones-lead (suc n) = ap suc (ones-lead n)

ones-longest : (n : ℕ) → longest 1 (replicate n 1) ≡ 0
ones-longest zero = refl
ones-longest (suc n) = ones-longest n

ones-length : (n : ℕ) → length {A = ℕ} (replicate n 1) ≡ n
ones-length zero = refl
ones-length (suc n) = ap suc (ones-length n)

line-ones : (n : ℕ) (l : Line) → line_over (replicate (suc n) 1) l ≡ raised (suc n) l
unfolding moved last_of
line-ones n l = rw (ones-still n, ones-last n, ones-length n) (by (eqb l.level 1))
  where
    by : (same : Bool) → line (min (cond (not same || false) n (l.still + suc n)) 2000000) 1 ≡ line (min (cond same (l.still + suc n) (suc n - 1)) 2000000) 1
    by true = refl
    by false = let e : suc n - 1 ≡ n = omega arith in rw e

peak-ones : (n : ℕ) (l : Line) → peak (replicate (suc n) 1) l ≡ (raised (suc n) l).still
peak-ones n l = rw (ones-lead n, ones-longest n) (by (eqb l.level 1))
  where
    by : (same : Bool) → min (max (on_for l.still (cond same (suc n) 0)) (cond same 0 (max n 0))) 2000000 ≡ min (cond same (l.still + suc n) (suc n - 1)) 2000000
    by true = omega arith
    by false = omega arith

passed-watch : (b : Bool) (bs : List Bool) (k : ℕ) (s : Watch) → enabled s k ≡ true → watch_over k (map state_code (highs (b ∷ bs))) s ≡ passed_watch (b ∷ bs) s
passed-watch b bs k s e =
    watch-over (state_code (high b)) (map state_code (highs bs)) k s e
    ∙ (λ i. with_lines s (line_over (data-high (b ∷ bs) i) s.din) (line_over (load-high (b ∷ bs) i) s.loadi))
    ∙ ap (with_lines s (line_over (map digit (b ∷ bs)) s.din)) (line-ones (length bs) s.loadi)

passed-ever : (b : Bool) (bs : List Bool) (k : ℕ) (s : Watch) → enabled s k ≡ true → 1 ≤ s.limit → ever_over k (map state_code (highs (b ∷ bs))) s ≡ passed_expired (b ∷ bs) s
passed-ever b bs k s e h =
    ever-over (map state_code (highs (b ∷ bs))) k s e h
    ∙ (λ i. leb s.limit (peak (data-high (b ∷ bs) i) s.din) || leb s.limit (peak (load-high (b ∷ bs) i) s.loadi))
    ∙ ap (λ (n : ℕ). leb s.limit (peak (map digit (b ∷ bs)) s.din) || leb s.limit n) (peak-ones (length bs) s.loadi)

-- ---- a device that passes

passing-plain : (bs : List Bool) (r : Registers) → Plain r passing (highs bs) × ((phase_after r passing (highs bs) ≡ passing) × (sent_after r passing (highs bs) ≡ singly (highs bs)))
unfolding step_device
passing-plain [] r = (tt, (refl, refl))
passing-plain (b ∷ bs) r =
    let a = passing-plain bs r in
    ((refl, a.0), (a.1.0, ap (λ (t : List (List State)). (high b ∷ []) ∷ t) a.1.1))

-- it ages, and its watchdog takes the states
passed-clocks : (bs : List Bool) (w : Watched) → w.clocked.device.phase ≡ passing → Placed w.clocked
    → clocks_watched w (singly (highs bs))
    ≡ record {
      clocked = cleared_if (ever_over (configuration_of w) (map state_code (highs bs)) w.watch) (aged (length bs) w.clocked);
      watch = watch_over (configuration_of w) (map state_code (highs bs)) w.watch;
    }
unfolding aged
passed-clocks bs w p h =
    let r : Registers = registers_of w.clocked in
    let a = passing-plain bs r in
    let q : phase_after r w.clocked.device.phase (highs bs) ≡ w.clocked.device.phase = ap (λ (x : Phase). phase_after r x (highs bs)) p ∙ a.1.0 ∙ sym p in
    plain-watched r (highs bs) w (refl, refl) h (rw p a.0)
    ∙ (λ i. record {
      clocked = cleared_if (ever_over (configuration_of w) (map state_code (highs bs)) w.watch) (in_phase (q i) (aged (length-map bs high i) w.clocked));
      watch = watch_over (configuration_of w) (map state_code (highs bs)) w.watch;
    })

-- Passed: a device that passes bits at high load, one or more, with its bit set
pub passed-watched : (b : Bool) (bs : List Bool) (w : Watched) → w.clocked.device.phase ≡ passing → Placed w.clocked
    → enabled w.watch (configuration_of w) ≡ true → 1 ≤ w.watch.limit
    → clocks_watched w (singly (highs (b ∷ bs)))
    ≡ record {
      clocked = cleared_if (passed_expired (b ∷ bs) w.watch) (aged (length (b ∷ bs)) w.clocked);
      watch = passed_watch (b ∷ bs) w.watch;
    }
passed-watched b bs w p h e l =
    passed-clocks (b ∷ bs) w p h
    ∙ (λ i. record {
      clocked = cleared_if (passed-ever b bs (configuration_of w) w.watch e l i) (aged (length (b ∷ bs)) w.clocked);
      watch = passed-watch b bs (configuration_of w) w.watch e i;
    })

-- and with it clear
pub passed-unwatched : (b : Bool) (bs : List Bool) (w : Watched) → w.clocked.device.phase ≡ passing → Placed w.clocked
    → enabled w.watch (configuration_of w) ≡ false → 1 ≤ w.watch.limit
    → clocks_watched w (singly (highs (b ∷ bs)))
    ≡ record { clocked = aged (length (b ∷ bs)) w.clocked; watch = unwatched (map state_code (highs (b ∷ bs))) w.watch }
passed-unwatched b bs w p h e l =
    passed-clocks (b ∷ bs) w p h
    ∙ (λ i. record {
      clocked = cleared_if (ever-off (map state_code (highs (b ∷ bs))) (configuration_of w) w.watch e l i) (aged (length (b ∷ bs)) w.clocked);
      watch = watch-off (map state_code (highs bs)) (state_code (high b)) (configuration_of w) w.watch e i;
    })

-- it sends the same on, whatever its bit
pub passed-sends : (bs : List Bool) (w : Watched) → w.clocked.device.phase ≡ passing → sends_over w (singly (highs bs)) ≡ singly (highs bs)
passed-sends bs w p =
    let r : Registers = registers_of w.clocked in
    let a = passing-plain bs r in
    plain-sends r (highs bs) w (refl, refl) (rw p a.0) ∙ ap (λ (x : Phase). sent_after r x (highs bs)) p ∙ a.1.1
