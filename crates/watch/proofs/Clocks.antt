-- A watchdog as a run keeps it. One clock more is one clock of the watchdog, whether its device is sent something in it or not, and what is told of
-- expiry is what the watchdog says: as long as the run's clocks are below 2 ^ 63. Assumes nothing.
use Rattle.std.proofs.Common.{◌≡◌, ℕ, zero, suc, ◌+◌, ◌-◌, ◌^◌, ◌<◌, ◌≤◌, min, Bool, true, false, cond, not, ◌&&◌, ◌||◌, eqb, ltb, leb, List, [], ◌∷◌, ◌++◌, map, length, get_or, take, drop, sym, refl, ap, ◌∙◌, add-zero, add-one, arith, length-drop, drop_of_length-le, length-take, get_or-drop, drop-cons, get_or-take, ne_eqb, eqb-true, le-leb, leb-false, leb-true}
use mathlib.Core.Bool.{or_assoc}
use lib.Seq.{take-nil}
use borrow.Author.Tests.{lt-leb, eqb-false}
use Rattle.tables.proofs.Booleans.{and_left, and_right, and-false, or-false, cond_both}
use Rattle.watch.specs.declared.watch.Line.{Line}
use Rattle.watch.specs.declared.watch.Watch.{Watch}
use Rattle.watch.specs.declared.kept.Listened.{Listened}
use Rattle.watch.specs.Watch.{line, with_lines, is_limit, line_fits, watch_fits, is_bit, data_bit, load_bit, last_of, moved, enabled, counted, line_after, watching, expired}
use Rattle.watch.specs.Kept.{run_on, kept_from, still_by, line_by, watch_by, expired_by, still_in, line_in, watch_in, moved_in, listened}

-- ---- a count that was written within the first t clocks, and so has not run on over 2 ^ 64

abbrev pub EarlyCount : ℕ → ℕ → Type 0
EarlyCount t n = (n < 2 ^ 64) × (run_on t n < 2000001 + t)

abbrev pub Early : ℕ → Line → Type 0
Early t l = EarlyCount t l.still

abbrev pub EarlyWatch : ℕ → Watch → Type 0
EarlyWatch t w = Early t w.din × Early t w.loadi

pub early-first : (l : Line) → line_fits l ≡ true → Early 0 l
early-first l h =
    let most : l.still ≤ 2000000 = leb-true l.still 2000000 (and_right (ltb l.level 2) (leb l.still 2000000) h) in
    (omega arith, omega arith)

pub early-next : (t : ℕ) (l : Line) → t + 1 < 2 ^ 63 → Early t l → Early (t + 1) l
early-next t l h e = (e.0, omega (arith, e.0, e.1))

pub early-in : (before on : Bool) (t : ℕ) (bs : List ℕ) (l : Line) → t + 1 < 2 ^ 63 → Early t l → Early (t + 1) (line_in before on (t + 1) bs l)
early-in before on t bs l h e =
    cond_both P on _ _
    (λ _. cond_both P (moved l.level bs) _ _ (λ _. (omega arith, omega arith))
    (λ _. cond_both P (leb 2 (t + 1) && not before) _ _ (λ _. (omega arith, omega arith)) (λ _. next)))
    (λ _. next)
  where
    P : ℕ → Type 0
    P n = EarlyCount (t + 1) n

    next : EarlyCount (t + 1) l.still
    next = early-next t l h e

pub early-watch-first : (w : Watch) → watch_fits w ≡ true → EarlyWatch 0 w
early-watch-first w h =
    let lines : (line_fits w.din && line_fits w.loadi) ≡ true =
    and_right (is_limit w.limit) (line_fits w.din && line_fits w.loadi)
    (and_right (is_bit w.bit) (is_limit w.limit && (line_fits w.din && line_fits w.loadi)) h)
    in (
      early-first w.din (and_left (line_fits w.din) (line_fits w.loadi) lines),
      early-first w.loadi (and_right (line_fits w.din) (line_fits w.loadi) lines),
    )

pub early-watch-next : (t : ℕ) (w : Watch) → t + 1 < 2 ^ 63 → EarlyWatch t w → EarlyWatch (t + 1) w
early-watch-next t w h e = (early-next t w.din h e.0, early-next t w.loadi h e.1)

pub early-watch-in : (before on : Bool) (t : ℕ) (sent : List ℕ) (w : Watch) → t + 1 < 2 ^ 63 → EarlyWatch t w
    → EarlyWatch (t + 1) (watch_in before on (t + 1) sent w)
early-watch-in before on t sent w h e =
    (early-in before on t (map data_bit sent) w.din h e.0, early-in before on t (map load_bit sent) w.loadi h e.1)

-- ---- one clock

not_first : (t : ℕ) → eqb (t + 1) 0 ≡ false
not_first t = ne_eqb (t + 1) 0 (λ z. omega (arith, z))

still-clock : (before on change : Bool) (t n : ℕ) → t + 1 < 2 ^ 63 → EarlyCount t n
    → still_by on (t + 1) (cond on (still_in before (t + 1) change n) n) ≡ counted on change (still_by before t n)
still-clock before false change t n h e = rw (not_first t)
still-clock before true true t n h e = rw (not_first t) (omega (arith, h))
still-clock true true false t n h e = rw (not_first t, and-false) (go (eqb t 0) refl)
  where
    go : (z : Bool) → eqb t 0 ≡ z → min (run_on (t + 1) n) 2000000 ≡ min (suc (cond z n (min (run_on t n) 2000000))) 2000000
    go true f = omega (arith, eqb-true t 0 f, e.0, e.1)
    go false f = omega (arith, e.0, e.1)
still-clock false true false t n h e = rw (not_first t) (go (eqb t 0) refl)
  where
    go : (z : Bool) → eqb t 0 ≡ z
        → min (run_on (t + 1) (cond (leb 2 (t + 1) && true) (kept_from (t + 1) 1) n)) 2000000 ≡ min (suc (cond z n 0)) 2000000
    go true f = rw (lt-leb 2 (t + 1) (omega (arith, eqb-true t 0 f))) (omega (arith, eqb-true t 0 f, e.0, e.1))
    go false f =
        let z : t ≡ 0 → ⊥ = eqb-false t 0 f in
        rw (le-leb 2 (t + 1) (omega (arith, z))) (omega (arith, h))

pub line-clock : (before on : Bool) (t : ℕ) (bs : List ℕ) (l : Line) → t + 1 < 2 ^ 63 → Early t l
    → line_by on (t + 1) (line_in before on (t + 1) bs l) ≡ line_after on bs (line_by before t l)
line-clock before on t bs l h e = ap (λ (n : ℕ). line n (last_of l.level bs)) (still-clock before on (moved l.level bs) t l.still h e)

pub with-lines : (w : Watch) {a b c d : Line} → a ≡ c → b ≡ d → with_lines w a b ≡ with_lines w c d
with-lines w p q = cc

pub watch-clock : (before on : Bool) (t configuration : ℕ) (sent : List ℕ) (w : Watch) → on ≡ enabled w configuration → t + 1 < 2 ^ 63 → EarlyWatch t w
    → watch_by on (t + 1) (watch_in before on (t + 1) sent w) ≡ watching configuration sent (watch_by before t w)
unfolding watching
watch-clock before on t configuration sent w same h e =
    rw (← same)
    (with-lines w (line-clock before on t (map data_bit sent) w.din h e.0) (line-clock before on t (map load_bit sent) w.loadi h e.1))

-- where nothing is sent, nothing is written
line-idle : (on : Bool) (t : ℕ) (l : Line) → line_in on on t [] l ≡ l
unfolding moved last_of
line-idle true t l = rw and-false
line-idle false t l = refl

pub watch-idle : (on : Bool) (t : ℕ) (w : Watch) → watch_in on on t [] w ≡ w
watch-idle on t w = with-lines w (line-idle on t w.din) (line-idle on t w.loadi)

pub idle-clock : (on : Bool) (t configuration : ℕ) (w : Watch) → on ≡ enabled w configuration → t + 1 < 2 ^ 63 → EarlyWatch t w
    → watch_by on (t + 1) w ≡ watching configuration [] (watch_by on t w)
idle-clock on t configuration w same h e =
    ap (λ (v : Watch). watch_by on (t + 1) v) (sym (watch-idle on (t + 1) w)) ∙ watch-clock on on t configuration [] w same h e

pub watch-first : (on : Bool) (w : Watch) → watch_by on 0 w ≡ w
watch-first on w = refl

-- ---- expiry

leb-end : (m n : ℕ) → m ≤ 2000000 → leb m n ≡ leb m (min n 2000000)
leb-end m n h = go (leb m n) refl
  where
    go : (z : Bool) → leb m n ≡ z → z ≡ leb m (min n 2000000)
    go true f = sym (le-leb m (min n 2000000) (omega (arith, leb-true m n f)))
    go false f = sym (lt-leb m (min n 2000000) (omega (arith, leb-false m n f)))

pub expired-by : (on : Bool) (t : ℕ) (w : Watch) → 1 ≤ t → is_limit w.limit ≡ true → expired_by on t w ≡ expired (watch_by on t w)
unfolding expired
expired-by true t w h l =
    let most : w.limit ≤ 2000000 = leb-true w.limit 2000000 (and_right (leb 1 w.limit) (leb w.limit 2000000) l) in
    rw (le-leb 1 t h, ne_eqb t 0 (λ z. omega (arith, z)), ← leb-end w.limit (run_on t w.din.still) most, ← leb-end w.limit (run_on t w.loadi.still) most)
expired-by false t w h l = rw (le-leb 1 t h, ne_eqb t 0 (λ z. omega (arith, z)), lt-leb w.limit 0 (leb-true 1 w.limit (and_left (leb 1 w.limit) (leb w.limit 2000000) l)))

pub expired-first : (on : Bool) (w : Watch) → expired_by on 0 w ≡ false
expired-first on w = refl

-- ---- both lines change

pub moved_in_lem : (on : Bool) (t : ℕ) (sent : List ℕ) (din loadi : ℕ) (w : Watch) → moved w.din.level (map data_bit sent) ≡ true
    → moved w.loadi.level (map load_bit sent) ≡ true → last_of w.din.level (map data_bit sent) ≡ din
    → last_of w.loadi.level (map load_bit sent) ≡ loadi → watch_in on on t sent w ≡ moved_in on t din loadi w
moved_in_lem on t sent din loadi w m n d l = rw (m, n, d, l)

-- ---- one state in each clock

abbrev pub told : Watch → Bool → Listened
told w expired = record { watch = w; expired = expired }

-- what more clocks leave, after some in which it expired or not
abbrev pub since : Bool → Listened → Listened
since before r = told r.watch (before || r.expired)

pub listened-none : (on : Bool) (t : ℕ) (w : Watch) → listened on t [] w ≡ told w false
unfolding listened
listened-none on t w = refl

pub listened-one : (on : Bool) (t s : ℕ) (w : Watch) → listened on t (s ∷ []) w ≡ told (watch_in on on (t + 1) (s ∷ []) w) (expired_by on t w)
unfolding listened
listened-one on t s w = ap (told (watch_in on on (t + 1) (s ∷ []) w)) (sym (or-false (expired_by on t w)))

pub listened-append : (on : Bool) (t : ℕ) (xs ys : List ℕ) (w : Watch)
    → listened on t (xs ++ ys) w ≡ since (listened on t xs w).expired (listened on (t + length xs) ys (listened on t xs w).watch)
unfolding listened
listened-append on t [] ys w = rw (add-zero t)
listened-append on t (x ∷ xs) ys w =
    ap (since (expired_by on t w)) (listened-append on (t + 1) xs ys next)
    ∙ ap (λ (n : ℕ). since (expired_by on t w) (since f.expired (g n))) far
    ∙ ap (told (g (t + suc (length xs))).watch) (sym (or_assoc (expired_by on t w) f.expired (g (t + suc (length xs))).expired))
  where
    next : Watch
    next = watch_in on on (t + 1) (x ∷ []) w

    f : Listened
    f = listened on (t + 1) xs next

    g : ℕ → Listened
    g n = listened on n ys f.watch

    far : t + 1 + length xs ≡ t + suc (length xs)
    far = omega arith

pub watch-limit : (before on : Bool) (t : ℕ) (sent : List ℕ) (w : Watch) → (watch_in before on t sent w).limit ≡ w.limit
watch-limit before on t sent w = refl

pub watch-bit : (before on : Bool) (t : ℕ) (sent : List ℕ) (w : Watch) → (watch_in before on t sent w).bit ≡ w.bit
watch-bit before on t sent w = refl

pub listened-limit : (on : Bool) (t : ℕ) (ss : List ℕ) (w : Watch) → (listened on t ss w).watch.limit ≡ w.limit
unfolding listened
listened-limit on t [] w = refl
listened-limit on t (s ∷ ss) w = listened-limit on (t + 1) ss (watch_in on on (t + 1) (s ∷ []) w)

pub listened-bit : (on : Bool) (t : ℕ) (ss : List ℕ) (w : Watch) → (listened on t ss w).watch.bit ≡ w.bit
unfolding listened
listened-bit on t [] w = refl
listened-bit on t (s ∷ ss) w = listened-bit on (t + 1) ss (watch_in on on (t + 1) (s ∷ []) w)

pub listened-early : (on : Bool) (t : ℕ) (ss : List ℕ) (w : Watch) → t + length ss < 2 ^ 63 → EarlyWatch t w
    → EarlyWatch (t + length ss) (listened on t ss w).watch
unfolding listened
listened-early on t [] w h e = rw (add-zero t) e
listened-early on t (s ∷ ss) w h e =
    let far : t + 1 + length ss ≡ t + suc (length ss) = omega arith in
    let rest : EarlyWatch (t + 1 + length ss) (listened on (t + 1) ss (watch_in on on (t + 1) (s ∷ []) w)).watch =
    listened-early on (t + 1) ss (watch_in on on (t + 1) (s ∷ []) w) (omega (arith, h)) (early-watch-in on on t (s ∷ []) w (omega (arith, h)) e)
    in
    rw far at rest

-- while the bit is clear only the levels change, whatever the clock
pub listened-off : (t u : ℕ) (ss : List ℕ) (w : Watch) → listened false t ss w ≡ told (watch_in false false u ss w) false
unfolding listened last_of
listened-off t u [] w = refl
listened-off t u (s ∷ ss) w = rw (listened-off (t + 1) u ss (watch_in false false (t + 1) (s ∷ []) w), and-false)

pub last-at : (f : ℕ → ℕ) (level : ℕ) (ss : List ℕ) (k : ℕ) → length ss ≡ suc k → last_of level (map f ss) ≡ f (get_or ss k 0)
unfolding last_of
last-at f level [] k e = omega (arith, e)
last-at f level (s ∷ []) zero e = refl
last-at f level (s ∷ []) (suc k) e = omega (arith, e)
last-at f level (s ∷ x ∷ ss) zero e = omega (arith, e)
last-at f level (s ∷ x ∷ ss) (suc k) e = last-at f (f s) (x ∷ ss) k (omega (arith, e))

-- so that only the last state tells
pub listened-off-end : (t : ℕ) (xs : List ℕ) (s : ℕ) (w : Watch) → 0 < length xs → s ≡ get_or xs (length xs - 1) 0
    → listened false t xs w ≡ told (watch_in false false (t + length xs) (s ∷ []) w) false
unfolding last_of
listened-off-end t xs s w h e =
    listened-off t (t + length xs) xs w
    ∙ ap (λ (v : Watch). told v false) (with-lines w (ap (line w.din.still) (end data_bit w.din.level)) (ap (line w.loadi.still) (end load_bit w.loadi.level)))
  where
    end : (f : ℕ → ℕ) (level : ℕ) → last_of level (map f xs) ≡ f s
    end f level = last-at f level xs (length xs - 1) (omega (arith, h)) ∙ ap f (sym e)

-- ---- a part of the states

pub part-next : (ss : List ℕ) (i to : ℕ) → i < to → i < length ss → take (to - i) (drop i ss) ≡ get_or ss i 0 ∷ take (to - (i + 1)) (drop (i + 1) ss)
part-next ss i to h l =
    let e : to - i ≡ suc (to - suc i) = omega (arith, h) in
    rw (add-one, e, drop-cons ss i 0)

pub part_end : (ss : List ℕ) (i to : ℕ) → to ≤ i → take (to - i) (drop i ss) ≡ []
part_end ss i to h =
    let e : to - i ≡ 0 = omega (arith, h) in
    rw e

pub part-over : (ss : List ℕ) (i to : ℕ) → length ss ≤ i → take (to - i) (drop i ss) ≡ []
part-over ss i to h = rw (drop_of_length-le ss h) (take-nil (to - i))

pub part-nothing : (ss : List ℕ) (i to : ℕ) → min to (length ss) ≤ i → take (to - i) (drop i ss) ≡ []
part-nothing ss i to h = go (leb to i) refl
  where
    go : (z : Bool) → leb to i ≡ z → take (to - i) (drop i ss) ≡ []
    go true f = part_end ss i to (leb-true to i f)
    go false f = part-over ss i to (omega (arith, h, leb-false to i f))

-- its last state is the last before `to`, or before the end
pub part-last : (f : ℕ → ℕ) (level : ℕ) (ss : List ℕ) (from to : ℕ) → from < min to (length ss)
    → last_of level (map f (take (to - from) (drop from ss))) ≡ f (get_or ss (min to (length ss) - 1) 0)
part-last f level ss from to h =
    last-at f level (take (to - from) (drop from ss)) k (simp (length-take, length-drop) (omega (arith, h)))
    ∙ ap f (get_or-take (to - from) (drop from ss) k 0 (omega (arith, h)) ∙ get_or-drop from ss k 0 ∙ ap (λ (n : ℕ). get_or ss n 0) (omega (arith, h)))
  where
    k : ℕ
    k = min to (length ss) - 1 - from
