-- The changes of a data line over a stretch of states: the next, looked for from its start on; the last, looked for from its end back; and the last
-- that is followed by a stillness as long as a limit, looked for from the end back a limit at a time. A change fewer clocks before the end than the
-- limit makes all shorter that stands behind it, so the stretch may end there; and where there is none, the last change before is followed by such a
-- stillness. Each law is first one of levels, by induction on them, and then one of places. Assumes nothing.
use Rattle.std.proofs.Common.{◌≡◌, ℕ, zero, suc, ◌+◌, ◌-◌, ◌<◌, ◌≤◌, min, Bool, true, false, cond, eqb, leb, List, [], ◌∷◌, ◌++◌, map, length, get_or, take, drop, sym, refl, ap, ◌∙◌, add-zero, arith, length-drop, length-take, take_all, drop-drop, take-add, eq-eqb, ne_eqb, eqb-true, le-leb, leb-false, leb-true}
use mathlib.Core.List.{map-append}
use lib.ListN.{length-map}
use borrow.Author.Tests.{lt-leb, eqb-false}
use Rattle.tables.proofs.Booleans.{cond_both}
use Rattle.watch.specs.Watch.{data_bit, last_of}
use Rattle.watch.specs.Ear.{next_change, or_else, last_change, last_long, level_at, levels_in, next_in, last_in}
use Rattle.std.specs.Bool.{◌==◌}
use Rattle.std.specs.List.{prefix_len}
use Rattle.std.proofs.lemmas.List.{take-append-drop}
use Rattle.watch.proofs.Clocks.{part-next, part_end, part-nothing, part-last}

-- ---- the next change, by levels

pub next-change-most : (level : ℕ) (bs : List ℕ) (i : ℕ) → next_change level bs i ≤ i + length bs
unfolding next_change
next-change-most level [] i = omega arith
next-change-most level (b ∷ bs) i =
    cond_both (λ (n : ℕ). n ≤ i + suc (length bs)) (eqb level b) (next_change b bs (i + 1)) i (λ e. omega (arith, next-change-most b bs (i + 1))) (λ e. omega arith)

-- levels behind a change say nothing of it
next-change-cut : (level : ℕ) (xs : List ℕ) (b : ℕ) (bs : List ℕ) (i : ℕ) → eqb (last_of level xs) b ≡ false
    → next_change level (xs ++ b ∷ bs) i ≡ next_change level xs i
unfolding next_change last_of
next-change-cut level [] b bs i e = rw e
next-change-cut level (x ∷ xs) b bs i e = ap (λ (n : ℕ). cond (eqb level x) n i) (next-change-cut x xs b bs (i + 1) e)

or_else_none : (c d : ℕ) → or_else c d ≡ 0 → (c ≡ 0) × (d ≡ 0)
or_else_none c d = go (eqb c 0) refl
  where
    go : (z : Bool) → eqb c 0 ≡ z → cond z d c ≡ 0 → (c ≡ 0) × (d ≡ 0)
    go true f e = (eqb-true c 0 f, e)
    go false f e = absurd (eqb-false c 0 f e)

clock-none : (t : Bool) (i : ℕ) → cond t 0 (i + 1) ≡ 0 → t ≡ true
clock-none true i e = refl
clock-none false i e = absurd (omega (arith, e))

-- levels that do not change are passed
next-change-over : (level : ℕ) (xs bs : List ℕ) (i : ℕ) → last_change level xs i ≡ 0
    → next_change level (xs ++ bs) i ≡ next_change (last_of level xs) bs (i + length xs)
unfolding next_change last_change last_of
next-change-over level [] bs i e = rw (add-zero i)
next-change-over level (x ∷ xs) bs i e =
    let n : (last_change x xs (i + 1) ≡ 0) × (cond (eqb level x) 0 (i + 1) ≡ 0) = or_else_none (last_change x xs (i + 1)) (cond (eqb level x) 0 (i + 1)) e in
    let far : i + 1 + length xs ≡ i + suc (length xs) = omega arith in
    ap (λ (t : Bool). cond t (next_change x (xs ++ bs) (i + 1)) i) (clock-none (eqb level x) i n.1)
    ∙ next-change-over x xs bs (i + 1) n.0
    ∙ ap (next_change (last_of x xs) bs) far

-- ---- the last change, by levels

pub last-change-append : (level : ℕ) (bs : List ℕ) (b i : ℕ)
    → last_change level (bs ++ b ∷ []) i ≡ cond (eqb (last_of level bs) b) (last_change level bs i) (i + length bs + 1)
unfolding last_change last_of
last-change-append level [] b i = rw (add-zero i)
last-change-append level (x ∷ xs) b i =
    ap (λ (n : ℕ). or_else n d) (last-change-append x xs b (i + 1)) ∙ go (eqb (last_of x xs) b)
  where
    d : ℕ
    d = cond (eqb level x) 0 (i + 1)

    go : (z : Bool) → or_else (cond z (last_change x xs (i + 1)) (i + 1 + length xs + 1)) d ≡ cond z (or_else (last_change x xs (i + 1)) d) (i + suc (length xs) + 1)
    go true = refl
    go false = rw (ne_eqb (i + 1 + length xs + 1) 0 (λ z. omega (arith, z))) (omega arith)

-- levels that do not change say nothing of it
last-change-over : (level : ℕ) (xs bs : List ℕ) (i : ℕ) → last_change (last_of level xs) bs (i + length xs) ≡ 0
    → last_change level (xs ++ bs) i ≡ last_change level xs i
unfolding last_change last_of
last-change-over level [] bs i e = rw (add-zero i) at e
last-change-over level (x ∷ xs) bs i e =
    let far : i + suc (length xs) ≡ i + 1 + length xs = omega arith in
    let f : last_change (last_of x xs) bs (i + 1 + length xs) ≡ 0 = rw far at e in
    ap (λ (n : ℕ). or_else n (cond (eqb level x) 0 (i + 1))) (last-change-over x xs bs (i + 1) f)

-- ---- the last long stillness, by levels

cond_same : (t : Bool) (n : ℕ) → cond t n n ≡ n
cond_same true n = refl
cond_same false n = refl

-- there is none among fewer levels than the limit
last-long-short : (limit level : ℕ) (bs : List ℕ) (i : ℕ) → length bs ≤ limit → last_long limit level bs i ≡ 0
unfolding last_long
last-long-short limit level [] i h = refl
last-long-short limit level (b ∷ bs) i h =
    rw (last-long-short limit b bs (i + 1) (omega (arith, h)), lt-leb (i + 1 + limit) (next_change b bs (i + 1)) (omega (arith, h, next-change-most b bs (i + 1))))
    (cond_same (eqb level b) 0)

-- none begins at or behind a change so near to the end, and those before it end there
last-long-skip : (limit level : ℕ) (xs : List ℕ) (b : ℕ) (bs : List ℕ) (i : ℕ) → eqb (last_of level xs) b ≡ false → suc (length bs) ≤ limit
    → last_long limit level (xs ++ b ∷ bs) i ≡ last_long limit level xs i
unfolding last_long last_of
last-long-skip limit level [] b bs i e h = last-long-short limit level (b ∷ bs) i h
last-long-skip limit level (x ∷ xs) b bs i e h = rw (last-long-skip limit x xs b bs (i + 1) e h, next-change-cut x xs b bs (i + 1) e)

last-long-still : (limit level : ℕ) (bs : List ℕ) (i : ℕ) → next_change level bs i ≡ i + length bs → last_long limit level bs i ≡ 0
unfolding last_long next_change
last-long-still limit level [] i e = refl
last-long-still limit level (b ∷ bs) i e = go (eqb level b) (last-long-still limit b bs (i + 1)) e
  where
    long : ℕ
    long = cond (leb (i + 1 + limit) (next_change b bs (i + 1))) (i + 1) 0

    go : (z : Bool) → (next_change b bs (i + 1) ≡ i + 1 + length bs → last_long limit b bs (i + 1) ≡ 0)
        → cond z (next_change b bs (i + 1)) i ≡ i + suc (length bs) → or_else (last_long limit b bs (i + 1)) (cond z 0 long) ≡ 0
    go true none f = rw (none (omega (arith, f)))
    go false none f = absurd (omega (arith, f))

-- where it stands still for the limit at the end, that is behind its last change
last-long-last : (limit level : ℕ) (xs bs : List ℕ) (i : ℕ) → limit ≤ length bs
    → next_change (last_of level xs) bs (i + length xs) ≡ i + length xs + length bs → last_long limit level (xs ++ bs) i ≡ last_change level xs i
unfolding last_long last_change last_of
last-long-last limit level [] bs i h e = last-long-still limit level bs i (rw (add-zero i) at e)
last-long-last limit level (x ∷ xs) bs i h e =
    ap (λ (n : ℕ). or_else n (cond (eqb level x) 0 (long (leb (i + 1 + limit) (next_change x (xs ++ bs) (i + 1)))))) (last-long-last limit x xs bs (i + 1) h f)
    ∙ go (eqb (last_change x xs (i + 1)) 0) refl
  where
    far : i + suc (length xs) ≡ i + 1 + length xs
    far = omega arith

    f : next_change (last_of x xs) bs (i + 1 + length xs) ≡ i + 1 + length xs + length bs
    f = rw far at e

    long : Bool → ℕ
    long t = cond t (i + 1) 0

    go : (z : Bool) → eqb (last_change x xs (i + 1)) 0 ≡ z
        → cond z (cond (eqb level x) 0 (long (leb (i + 1 + limit) (next_change x (xs ++ bs) (i + 1))))) (last_change x xs (i + 1))
        ≡ cond z (cond (eqb level x) 0 (i + 1)) (last_change x xs (i + 1))
    go false g = refl
    go true g =
        let n : next_change x (xs ++ bs) (i + 1) ≡ i + 1 + length xs + length bs =
        next-change-over x xs bs (i + 1) (eqb-true (last_change x xs (i + 1)) 0 g) ∙ f
        in
        ap (λ (t : Bool). cond (eqb level x) 0 (long t)) (le-leb (i + 1 + limit) (next_change x (xs ++ bs) (i + 1)) (omega (arith, n, h)))

-- ---- the levels of a stretch

pub levels-next : (ss : List ℕ) (q end : ℕ) → q < end → q < length ss → levels_in ss q end ≡ data_bit (get_or ss q 0) ∷ levels_in ss (q + 1) end
levels-next ss q end h l = ap (map data_bit) (part-next ss q end h l)

pub levels-none : (ss : List ℕ) (q end : ℕ) → end ≤ q → levels_in ss q end ≡ []
levels-none ss q end h = ap (map data_bit) (part_end ss q end h)

pub levels-split : (ss : List ℕ) (q c end : ℕ) → q ≤ c → c ≤ end → levels_in ss q end ≡ levels_in ss q c ++ levels_in ss c end
levels-split ss q c end h l =
    ap (λ (n : ℕ). map data_bit (take n (drop q ss))) m
    ∙ ap (map data_bit) (take-add (c - q) (end - c) (drop q ss) ∙ ap (λ (xs : List ℕ). take (c - q) (drop q ss) ++ take (end - c) xs) rest)
    ∙ map-append data_bit (take (c - q) (drop q ss)) (take (end - c) (drop c ss))
  where
    m : end - q ≡ c - q + (end - c)
    m = omega (arith, h, l)

    to : q + (c - q) ≡ c
    to = omega (arith, h)

    rest : drop (c - q) (drop q ss) ≡ drop c ss
    rest = drop-drop (c - q) q ss ∙ ap (λ (n : ℕ). drop n ss) to

pub length-levels : (ss : List ℕ) (q end : ℕ) → length (levels_in ss q end) ≡ min (end - q) (length ss - q)
length-levels ss q end =
    length-map (take (end - q) (drop q ss)) data_bit ∙ length-take (end - q) (drop q ss) ∙ ap (min (end - q)) (length-drop q ss)

pub levels-last : (ss : List ℕ) (q end : ℕ) → q ≤ end → end ≤ length ss → last_of (level_at ss q) (levels_in ss q end) ≡ level_at ss end
unfolding last_of
levels-last ss q end h l = go (leb end q) refl
  where
    go : (z : Bool) → leb end q ≡ z → last_of (level_at ss q) (levels_in ss q end) ≡ level_at ss end
    go true f =
        let e : q ≡ end = omega (arith, h, leb-true end q f) in
        ap (last_of (level_at ss q)) (levels-none ss q end (leb-true end q f)) ∙ ap (level_at ss) e
    go false f =
        let m : min end (length ss) ≡ end = omega (arith, l) in
        part-last data_bit (level_at ss q) ss q end (omega (arith, l, leb-false end q f)) ∙ ap (level_at ss) m

-- no state stands behind the last
pub levels-end : (ss : List ℕ) (q end : ℕ) → levels_in ss q end ≡ levels_in ss q (min end (length ss))
levels-end ss q end = go (leb end (length ss)) refl
  where
    go : (z : Bool) → leb end (length ss) ≡ z → levels_in ss q end ≡ levels_in ss q (min end (length ss))
    go true f =
        let m : end ≡ min end (length ss) = omega (arith, leb-true end (length ss) f) in
        ap (levels_in ss q) m
    go false f =
        let m : length ss ≡ min end (length ss) = omega (arith, leb-false end (length ss) f) in
        ap (map data_bit) (all end (omega (arith, leb-false end (length ss) f)) ∙ sym (all (length ss) (omega arith))) ∙ ap (levels_in ss q) m
      where
        all : (n : ℕ) → length ss ≤ n → take (n - q) (drop q ss) ≡ drop q ss
        all n h = take_all (n - q) (drop q ss) (rw (length-drop q ss) (omega (arith, h)))

-- ---- the next change, by places

pub next-change-on : (level : ℕ) (ss : List ℕ) (q end : ℕ) → q < end → q < length ss → data_bit (get_or ss q 0) ≡ level
    → next_change level (levels_in ss q end) q ≡ next_change level (levels_in ss (q + 1) end) (q + 1)
unfolding next_change
next-change-on level ss q end h l e =
    ap (λ (bs : List ℕ). next_change level bs q) (levels-next ss q end h l)
    ∙ ap (λ (t : Bool). cond t (next_change (data_bit (get_or ss q 0)) (levels_in ss (q + 1) end) (q + 1)) q) (eq-eqb level (data_bit (get_or ss q 0)) (sym e))
    ∙ ap (λ (n : ℕ). next_change n (levels_in ss (q + 1) end) (q + 1)) e

pub next-change-here : (level : ℕ) (ss : List ℕ) (q end : ℕ) → q < end → q < length ss → (data_bit (get_or ss q 0) ≡ level → ⊥)
    → next_change level (levels_in ss q end) q ≡ q
unfolding next_change
next-change-here level ss q end h l e =
    ap (λ (bs : List ℕ). next_change level bs q) (levels-next ss q end h l)
    ∙ ap (λ (t : Bool). cond t (next_change (data_bit (get_or ss q 0)) (levels_in ss (q + 1) end) (q + 1)) q) (ne_eqb level (data_bit (get_or ss q 0)) (λ z. e (sym z)))

pub next-change-none : (level : ℕ) (ss : List ℕ) (q end : ℕ) → min end (length ss) ≤ q → next_change level (levels_in ss q end) q ≡ q
unfolding next_change
next-change-none level ss q end h = ap (λ (bs : List ℕ). next_change level (map data_bit bs) q) (part-nothing ss q end h)

-- a part ends where it is to
length_to : (ss : List ℕ) (q c : ℕ) → q ≤ c → c ≤ length ss → q + length (levels_in ss q c) ≡ c
length_to ss q c h l = omega (arith, length-levels ss q c, h, l)

level-after : (ss : List ℕ) (q : ℕ) → level_at ss (q + 1) ≡ data_bit (get_or ss q 0)
level-after ss q =
    let e : q + 1 - 1 ≡ q = omega arith in
    rw e

-- there is a change at a place, at or behind another
abbrev pub Changes : List ℕ → ℕ → ℕ → Type 0
Changes ss q c = (q ≤ c) × (eqb (level_at ss c) (data_bit (get_or ss c 0)) ≡ false)

pub next-change-is : (k : ℕ) (ss : List ℕ) (q end : ℕ) → end ≤ q + k → end ≤ length ss → next_in ss q end < end → Changes ss q (next_in ss q end)
next-change-is zero ss q end h l n =
    let e : next_in ss q end ≡ q = next-change-none (level_at ss q) ss q end (omega (arith, h)) in
    absurd (omega (arith, h, n, e))
next-change-is (suc k) ss q end h l n =
    go (leb end q) (eqb (level_at ss q) (data_bit (get_or ss q 0))) refl refl (next-change-is k ss (q + 1) end (omega (arith, h)) l)
  where
    go : (z y : Bool) → leb end q ≡ z → eqb (level_at ss q) (data_bit (get_or ss q 0)) ≡ y
        → (next_in ss (q + 1) end < end → Changes ss (q + 1) (next_in ss (q + 1) end)) → Changes ss q (next_in ss q end)
    go true y f g then =
        let e : next_in ss q end ≡ q = next-change-none (level_at ss q) ss q end (omega (arith, leb-true end q f)) in
        absurd (omega (arith, n, e, leb-true end q f))
    go false false f g then =
        let e : next_in ss q end ≡ q =
        next-change-here (level_at ss q) ss q end (leb-false end q f) (omega (arith, l, leb-false end q f)) (λ z. eqb-false (level_at ss q) (data_bit (get_or ss q 0)) g (sym z))
        in
        rw e (omega arith, g)
    go false true f g then =
        let e : next_in ss q end ≡ next_in ss (q + 1) end =
        next-change-on (level_at ss q) ss q end (leb-false end q f) (omega (arith, l, leb-false end q f)) (sym (eqb-true (level_at ss q) (data_bit (get_or ss q 0)) g))
        ∙ ap (λ (level : ℕ). next_change level (levels_in ss (q + 1) end) (q + 1)) (eqb-true (level_at ss q) (data_bit (get_or ss q 0)) g ∙ sym (level-after ss q))
        in
        let r : Changes ss (q + 1) (next_in ss (q + 1) end) = then (rw e at n) in
        rw e (omega (arith, r.0), r.1)

-- ---- the last long stillness, by places

abbrev pub long_in : ℕ → List ℕ → ℕ → ℕ → ℕ
long_in limit ss q end = last_long limit (level_at ss q) (levels_in ss q end) q

pub long-end : (limit : ℕ) (ss : List ℕ) (q end : ℕ) → long_in limit ss q end ≡ long_in limit ss q (min end (length ss))
long-end limit ss q end = ap (λ (bs : List ℕ). last_long limit (level_at ss q) bs q) (levels-end ss q end)

pub long-none : (limit : ℕ) (ss : List ℕ) (q end : ℕ) → end - q ≤ limit → long_in limit ss q end ≡ 0
long-none limit ss q end h = last-long-short limit (level_at ss q) (levels_in ss q end) q (omega (arith, length-levels ss q end, h))

pub long-skip : (limit : ℕ) (ss : List ℕ) (q c end : ℕ) → q ≤ c → c < end → end ≤ length ss → end ≤ c + limit
    → eqb (level_at ss c) (data_bit (get_or ss c 0)) ≡ false → long_in limit ss q end ≡ long_in limit ss q c
long-skip limit ss q c end h m l n e =
    ap (λ (bs : List ℕ). last_long limit (level_at ss q) bs q)
    (levels-split ss q c end h (omega (arith, m)) ∙ ap (λ (bs : List ℕ). levels_in ss q c ++ bs) (levels-next ss c end m (omega (arith, m, l))))
    ∙ last-long-skip limit (level_at ss q) (levels_in ss q c) (data_bit (get_or ss c 0)) (levels_in ss (c + 1) end) q
    (rw (levels-last ss q c h (omega (arith, m, l))) e)
    (omega (arith, length-levels ss (c + 1) end, m, n))

pub long-last : (limit : ℕ) (ss : List ℕ) (q c end : ℕ) → q ≤ c → c + limit ≡ end → end ≤ length ss → end ≤ next_in ss c end
    → long_in limit ss q end ≡ last_in ss q c
long-last limit ss q c end h m l n =
    ap (λ (bs : List ℕ). last_long limit (level_at ss q) bs q) (levels-split ss q c end h (omega (arith, m)))
    ∙ last-long-last limit (level_at ss q) (levels_in ss q c) (levels_in ss c end) q (omega (arith, length-levels ss c end, m, l))
    (rw (levels-last ss q c h (omega (arith, m, l)), at) (omega (arith, n, m, l, length-levels ss c end, next-change-most (level_at ss c) (levels_in ss c end) c)))
  where
    at : q + length (levels_in ss q c) ≡ c
    at = length_to ss q c h (omega (arith, m, l))

-- ---- the same, of a part by itself

-- levels that do not change end at the level
last-still : (level : ℕ) (xs : List ℕ) (i : ℕ) → last_change level xs i ≡ 0 → last_of level xs ≡ level
unfolding last_change last_of
last-still level [] i e = refl
last-still level (x ∷ xs) i e =
    let n : (last_change x xs (i + 1) ≡ 0) × (cond (eqb level x) 0 (i + 1) ≡ 0) = or_else_none (last_change x xs (i + 1)) (cond (eqb level x) 0 (i + 1)) e in
    last-still x xs (i + 1) n.0 ∙ sym (eqb-true level x (clock-none (eqb level x) i n.1))

-- a part of the states that does not change is passed: `passed` of them were before
pub passed-more : (level : ℕ) (xs ys zs : List ℕ) (n passed : ℕ) → n ≤ length xs → ys ≡ take n xs → zs ≡ drop n xs
    → last_change level (map data_bit ys) passed ≡ 0
    → next_change level (map data_bit xs) passed ≡ next_change level (map data_bit zs) (passed + n)
passed-more level xs ys zs n passed h p q e =
    ap (λ (bs : List ℕ). next_change level bs passed) whole
    ∙ next-change-over level (map data_bit ys) (map data_bit zs) passed e
    ∙ ap (λ (l : ℕ). next_change l (map data_bit zs) (passed + length (map data_bit ys))) (last-still level (map data_bit ys) passed e)
    ∙ ap (λ (k : ℕ). next_change level (map data_bit zs) (passed + k)) count
  where
    whole : map data_bit xs ≡ map data_bit ys ++ map data_bit zs
    whole = ap (map data_bit) (sym (take-append-drop n xs)) ∙ map-append data_bit (take n xs) (drop n xs) ∙ rw (← p, ← q)

    count : length (map data_bit ys) ≡ n
    count = length-map ys data_bit ∙ rw p (simp length-take (omega (arith, h)))

-- a part at the end that does not change is left out
pub behind-less : (level : ℕ) (xs ys zs : List ℕ) (t n : ℕ) → ys ≡ take n xs → zs ≡ drop n xs
    → last_change (last_of level (map data_bit ys)) (map data_bit zs) (t + length (map data_bit ys)) ≡ 0
    → last_change level (map data_bit xs) t ≡ last_change level (map data_bit ys) t
behind-less level xs ys zs t n p q e =
    ap (λ (bs : List ℕ). last_change level bs t) whole ∙ last-change-over level (map data_bit ys) (map data_bit zs) t e
  where
    whole : map data_bit xs ≡ map data_bit ys ++ map data_bit zs
    whole = ap (map data_bit) (sym (take-append-drop n xs)) ∙ map-append data_bit (take n xs) (drop n xs) ∙ rw (← p, ← q)

-- from another place on
pub next-from-place : (level : ℕ) (bs : List ℕ) (i : ℕ) → next_change level bs i ≡ i + next_change level bs 0
unfolding next_change
next-from-place level [] i = omega arith
next-from-place level (b ∷ bs) i = go (eqb level b) (next-from-place b bs (i + 1)) (next-from-place b bs 1)
  where
    go : (z : Bool) → next_change b bs (i + 1) ≡ i + 1 + next_change b bs 0 → next_change b bs 1 ≡ 1 + next_change b bs 0
        → cond z (next_change b bs (i + 1)) i ≡ i + cond z (next_change b bs 1) 0
    go true p q = omega (arith, p, q)
    go false p q = omega arith

-- by how many states stand at the level before the first that does not
pub next-by-count : (level : ℕ) (xs : List ℕ) (i : ℕ) → next_change level (map data_bit xs) i ≡ i + prefix_len (λ s. data_bit s == level) xs
unfolding next_change
next-by-count level [] i = omega arith
next-by-count level (x ∷ xs) i = go (eqb level (data_bit x)) refl (next-by-count level xs (i + 1))
  where
    more : ℕ
    more = prefix_len (λ s. data_bit s == level) xs

    go : (z : Bool) → eqb level (data_bit x) ≡ z → next_change level (map data_bit xs) (i + 1) ≡ i + 1 + more
        → cond z (next_change (data_bit x) (map data_bit xs) (i + 1)) i ≡ i + cond (data_bit x == level) (1 + more) 0
    go true e rest =
        let same : level ≡ data_bit x = eqb-true level (data_bit x) e in
        rw (eq-eqb (data_bit x) level (sym same)) (ap (λ (l : ℕ). next_change l (map data_bit xs) (i + 1)) (sym same) ∙ omega (arith, rest))
    go false e rest = rw (ne_eqb (data_bit x) level (λ z. eqb-false level (data_bit x) e (sym z))) (omega arith)
