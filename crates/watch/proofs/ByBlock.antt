-- A watchdog over a block of states is what it is clock by clock. A line goes by itself: it is left at its last level, with a count from its last
-- change on (by induction on the states). Where neither count can come to the limit in so many clocks, no question of the block is answered by yes:
-- a count that goes on stays below, and one that starts anew in the block is less. Behind an expiry the answers say nothing. Assumes nothing.
use Rattle.std.proofs.Common.{◌≡◌, ℕ, zero, suc, ◌+◌, ◌-◌, ◌^◌, ◌<◌, ◌≤◌, min, Bool, true, false, cond, not, ◌&&◌, ◌||◌, eqb, leb, List, [], ◌∷◌, ◌++◌, map, length, get_or, take, drop, sym, refl, ap, ◌∙◌, add-one, arith, length-take, take_all, take-suc, eq-eqb, ne_eqb, leb-false}
use mathlib.Core.Bool.{or_assoc}
use mathlib.Core.List.{map-append}
use lib.ListN.{length-map}
use borrow.Author.Tests.{lt-leb}
use Rattle.std.proofs.lemmas.List.{take-append-drop}
use Rattle.tables.proofs.Booleans.{and-false, or-false, or-none}
use Rattle.watch.specs.declared.watch.Line.{Line}
use Rattle.watch.specs.declared.watch.Watch.{Watch}
use Rattle.watch.specs.declared.kept.Listened.{Listened}
use Rattle.watch.specs.Watch.{line, with_lines, data_bit, load_bit, last_of, moved}
use Rattle.watch.specs.Kept.{run_on, kept_from, expired_by, line_in, watch_in, listened}
use Rattle.watch.specs.Ear.{last_change, comes_to}
use Rattle.watch.specs.Blocks.{bit_of, change_in, count_by, line_over, watch_over, may_expire, heard_on}
use Rattle.watch.proofs.Clocks.{told, since, with-lines, listened-append, listened-one, last-at}
use Rattle.watch.proofs.Changes.{last-change-append}
use Rattle.watch.proofs.Ears.{stays, last-still, told-both}

-- ---- what states leave of the lines

-- a line after one level
abbrev next : ℕ → ℕ → Line → Line
next t b l = line (stays (eqb l.level b) t l.still) b

line-one : (t b : ℕ) (l : Line) → line_in true true (t + 1) (b ∷ []) l ≡ next t b l
unfolding moved last_of
line-one t b l = go (eqb l.level b)
  where
    go : (same : Bool) → line (cond (not same || false) (kept_from (t + 1) 0) (cond (leb 2 (t + 1) && false) (kept_from (t + 1) 1) l.still)) b
        ≡ line (stays same t l.still) b
    go true = rw and-false
    go false = refl

-- after these
abbrev across : ℕ → List ℕ → Line → Line
across t bs l = line (count_by (last_change l.level bs t) l.still) (last_of l.level bs)

across-next : (t b : ℕ) (bs : List ℕ) (l : Line) → across (t + 1) bs (next t b l) ≡ across t (b ∷ bs) l
unfolding last_change last_of
across-next t b bs l = ap (λ (n : ℕ). line n (last_of b bs)) (last-still (eqb l.level b) t (last_change b bs (t + 1)) l.still)

watch-one : (t s : ℕ) (w : Watch) → watch_in true true (t + 1) (s ∷ []) w ≡ with_lines w (next t (data_bit s) w.din) (next t (load_bit s) w.loadi)
watch-one t s w = with-lines w (line-one t (data_bit s) w.din) (line-one t (load_bit s) w.loadi)

watch-across : (xs : List ℕ) (t : ℕ) (w : Watch)
    → (listened true t xs w).watch ≡ with_lines w (across t (map data_bit xs) w.din) (across t (map load_bit xs) w.loadi)
unfolding listened last_change last_of
watch-across [] t w = refl
watch-across (s ∷ xs) t w =
    ap (λ (v : Watch). (listened true (t + 1) xs v).watch) (watch-one t s w)
    ∙ watch-across xs (t + 1) (with_lines w (next t (data_bit s) w.din) (next t (load_bit s) w.loadi))
    ∙ with-lines w (across-next t (data_bit s) (map data_bit xs) w.din) (across-next t (load_bit s) (map load_bit xs) w.loadi)

pub block-watch : (block : List ℕ) (t : ℕ) (w : Watch) → length block ≡ 64 → (listened true t block w).watch ≡ watch_over block t w
block-watch block t w h = watch-across block t w ∙ with-lines w (left true w.din) (left false w.loadi)
  where
    left : (din : Bool) (l : Line) → across t (map (bit_of din) block) l ≡ line_over din block t l
    left din l = ap (line (count_by (change_in l.level din block t) l.still)) (last-at (bit_of din) l.level block 63 h)

-- ---- the questions of a block

-- a count that cannot come to the limit is below it, and so is the next
quiet-now : (limit t n k : ℕ) → comes_to limit (run_on t n) k ≡ false → leb limit (run_on t n) ≡ false
quiet-now limit t n k h = lt-leb limit (run_on t n) (omega (arith, leb-false limit (min (run_on t n + k) (2 ^ 64 - 1)) h))

quiet-on : (limit t n k : ℕ) → comes_to limit (run_on t n) (suc k) ≡ false → comes_to limit (run_on (t + 1) n) k ≡ false
quiet-on limit t n k h = lt-leb limit _ (omega (arith, leb-false limit (min (run_on t n + suc k) (2 ^ 64 - 1)) h))

quiet-new : (limit t n k : ℕ) → t < 2 ^ 64 → comes_to limit (run_on t n) (suc k) ≡ false → comes_to limit (run_on (t + 1) (kept_from (t + 1) 0)) k ≡ false
quiet-new limit t n k l h = lt-leb limit _ (omega (arith, l, leb-false limit (min (run_on t n + suc k) (2 ^ 64 - 1)) h))

quiet_next : (same : Bool) (limit t n k : ℕ) → t < 2 ^ 64 → comes_to limit (run_on t n) (suc k) ≡ false → comes_to limit (run_on (t + 1) (stays same t n)) k ≡ false
quiet_next true limit t n k l h = quiet-on limit t n k h
quiet_next false limit t n k l h = quiet-new limit t n k l h

quiet-first : (k t : ℕ) (w : Watch) → comes_to w.limit (run_on t w.din.still) k ≡ false → comes_to w.limit (run_on t w.loadi.still) k ≡ false
    → expired_by true t w ≡ false
quiet-first k t w d e = rw (quiet-now w.limit t w.din.still k d, quiet-now w.limit t w.loadi.still k e) (and-false (leb 1 t))

quiet : (k : ℕ) (xs : List ℕ) (t : ℕ) (w : Watch) → length xs ≤ suc k → t + length xs ≤ 2 ^ 64 → comes_to w.limit (run_on t w.din.still) k ≡ false
    → comes_to w.limit (run_on t w.loadi.still) k ≡ false → (listened true t xs w).expired ≡ false
unfolding listened
quiet k [] t w h l d e = refl
quiet zero (x ∷ []) t w h l d e = sym (or-false (expired_by true t w)) ∙ quiet-first zero t w d e
quiet zero (x ∷ y ∷ xs) t w h l d e = absurd (omega (arith, h))
quiet (suc k) (x ∷ xs) t w h l d e =
    ap (λ (z : Bool). z || (listened true (t + 1) xs (watch_in true true (t + 1) (x ∷ []) w)).expired) (quiet-first (suc k) t w d e)
    ∙ ap (λ (v : Watch). (listened true (t + 1) xs v).expired) (watch-one t x w)
    ∙ quiet k xs (t + 1) (with_lines w (next t (data_bit x) w.din) (next t (load_bit x) w.loadi)) (omega (arith, h)) (omega (arith, l))
    (quiet_next (eqb w.din.level (data_bit x)) w.limit t w.din.still k (omega (arith, l)) d)
    (quiet_next (eqb w.loadi.level (load_bit x)) w.limit t w.loadi.still k (omega (arith, l)) e)

not-true : (b : Bool) → not b ≡ true → b ≡ false
not-true true h = cc
not-true false h = refl

not-false : (b : Bool) → not b ≡ false → b ≡ true
not-false true h = refl
not-false false h = cc

pub block-calm : (block : List ℕ) (t : ℕ) (before : Listened) → length block ≡ 64 → t + 64 < 2 ^ 64 → not before.expired ≡ true
    → may_expire t before.watch ≡ false → told (watch_over block t before.watch) before.expired ≡ heard_on before t block
block-calm block t before h l e m =
    let both = or-none (comes_to before.watch.limit (run_on t before.watch.din.still) 63) _ m in
    sym (told-both (block-watch block t before.watch h)
    (rw (not-true before.expired e) (quiet 63 block t before.watch (omega (arith, h)) (omega (arith, h, l)) both.0 both.1)))

pub block-expired : (block : List ℕ) (t : ℕ) (before : Listened) → length block ≡ 64 → not before.expired ≡ false
    → told (watch_over block t before.watch) before.expired ≡ heard_on before t block
block-expired block t before h e = sym (told-both (block-watch block t before.watch h) (rw (not-false before.expired e)))

-- ---- block after block

pub heard-none : (t : ℕ) (before : Listened) → heard_on before t [] ≡ before
unfolding listened
heard-none t before = ap (told before.watch) (sym (or-false before.expired))

pub heard-append : (xs ys : List ℕ) (t : ℕ) (before : Listened) → heard_on before t (xs ++ ys) ≡ heard_on (heard_on before t xs) (t + length xs) ys
heard-append xs ys t before =
    ap (since before.expired) (listened-append true t xs ys before.watch)
    ∙ ap (told g.watch) (sym (or_assoc before.expired f.expired g.expired))
  where
    f : Listened
    f = listened true t xs before.watch

    g : Listened
    g = listened true (t + length xs) ys f.watch

-- the first states, and those behind them
pub heard-step : (xs ys zs : List ℕ) (n t : ℕ) (before after : Listened) → n ≤ length xs → ys ≡ take n xs → zs ≡ drop n xs → after ≡ heard_on before t ys
    → heard_on before t xs ≡ heard_on after (t + n) zs
heard-step xs ys zs n t before after h p q r =
    ap (heard_on before t) (sym (take-append-drop n xs))
    ∙ heard-append (take n xs) (drop n xs) t before
    ∙ ap (λ (k : ℕ). heard_on (heard_on before t (take n xs)) (t + k) (drop n xs)) (simp length-take (omega (arith, h)))
    ∙ ap (λ (v : Listened). heard_on v (t + n) (drop n xs)) (ap (heard_on before t) (sym p) ∙ sym r)
    ∙ ap (heard_on after (t + n)) (sym q)

-- one state more
pub heard-more : (xs : List ℕ) (i t : ℕ) (before : Listened) (w : Watch) (expired : Bool) → i < length xs → heard_on before t (take i xs) ≡ told w expired
    → heard_on before t (take (i + 1) xs) ≡ told (watch_in true true (t + i + 1) (get_or xs i 0 ∷ []) w) (expired || expired_by true (t + i) w)
heard-more xs i t before w expired h e =
    ap (heard_on before t) (rw add-one (take-suc xs i 0 h))
    ∙ heard-append (take i xs) (get_or xs i 0 ∷ []) t before
    ∙ ap (λ (n : ℕ). heard_on (heard_on before t (take i xs)) (t + n) (get_or xs i 0 ∷ [])) (simp length-take (omega (arith, h)))
    ∙ ap (λ (v : Listened). heard_on v (t + i) (get_or xs i 0 ∷ [])) e
    ∙ ap (since expired) (listened-one true (t + i) (get_or xs i 0) w)

-- ---- a line's last change in a block

-- a line that stays at its level does not change
pub still-all : (f : ℕ → ℕ) (level : ℕ) (xs : List ℕ) (t : ℕ) → ((k : ℕ) → k < length xs → f (get_or xs k 0) ≡ level) → last_change level (map f xs) t ≡ 0
unfolding last_change
still-all f level [] t h = refl
still-all f level (x ∷ xs) t h =
    let first : f x ≡ level = h 0 (omega arith) in
    let rest : last_change level (map f xs) (t + 1) ≡ 0 = still-all f level xs (t + 1) (λ k l. h (suc k) (omega (arith, l))) in
    rw (first, rest, eq-eqb level level refl)

-- of the first states of it
abbrev pub change_of : ℕ → Bool → List ℕ → ℕ → ℕ → ℕ
change_of level din block t n = last_change level (map (bit_of din) (take n block)) t

-- of all of them
pub change-whole : (level : ℕ) (din : Bool) (block : List ℕ) (t n : ℕ) → length block ≤ n → change_in level din block t ≡ change_of level din block t n
change-whole level din block t n h = ap (λ (xs : List ℕ). last_change level (map (bit_of din) xs) t) (sym (take_all n block h))

one_more : (f : ℕ → ℕ) (block : List ℕ) (j : ℕ) → j < length block → map f (take (suc j) block) ≡ map f (take j block) ++ f (get_or block j 0) ∷ []
one_more f block j h = ap (map f) (take-suc block j 0 h) ∙ map-append f (take j block) (get_or block j 0 ∷ [])

change-next : (level : ℕ) (din : Bool) (block : List ℕ) (t j : ℕ) → j < length block
    → change_of level din block t (suc j)
    ≡ cond (eqb (last_of level (map (bit_of din) (take j block))) (bit_of din (get_or block j 0))) (change_of level din block t j) (t + j + 1)
change-next level din block t j h =
    ap (λ (bs : List ℕ). last_change level bs t) (one_more (bit_of din) block j h)
    ∙ last-change-append level (map (bit_of din) (take j block)) (bit_of din (get_or block j 0)) t
    ∙ ap (λ (n : ℕ). cond (eqb (last_of level (map (bit_of din) (take j block))) (bit_of din (get_or block j 0))) (change_of level din block t j) (t + n + 1)) count
  where
    count : length (map (bit_of din) (take j block)) ≡ j
    count = simp (length-map, length-take) (omega (arith, h))

-- a state that stands at the level behind those before it changes nothing
pub change-back : (level : ℕ) (din : Bool) (xs : List ℕ) (t j : ℕ) → j < length xs
    → bit_of din (get_or xs j 0) ≡ last_of level (map (bit_of din) (take j xs)) → change_of level din xs t (j + 1) ≡ change_of level din xs t j
change-back level din xs t j h e =
    ap (change_of level din xs t) (add-one j) ∙ change-next level din xs t j h
    ∙ ap (λ (z : Bool). cond z (change_of level din xs t j) (t + j + 1)) (eq-eqb _ _ (sym e))

pub change-here : (level : ℕ) (din : Bool) (xs : List ℕ) (t j : ℕ) → j < length xs
    → (bit_of din (get_or xs j 0) ≡ last_of level (map (bit_of din) (take j xs)) → ⊥) → change_of level din xs t (j + 1) ≡ t + j + 1
change-here level din xs t j h e =
    ap (change_of level din xs t) (add-one j) ∙ change-next level din xs t j h
    ∙ ap (λ (z : Bool). cond z (change_of level din xs t j) (t + j + 1)) (ne_eqb _ _ (λ z. e (sym z)))
