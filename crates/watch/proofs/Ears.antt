-- The data line by a few numbers (specs/Ear). What an ear told from a place on is right from every later place on, since a clock that is told is over
-- the place where it is told; and a watchdog that goes by a right ear hears what it hears clock by clock. Of the questions of expiry: load never
-- changes, so its last question tells; on data the last before the first change tells, and after a change the one before the next. What the line
-- is left at is by its last change. By induction on the states, from the first. Assumes nothing.
use Rattle.std.proofs.Common.{◌≡◌, ℕ, zero, suc, ◌+◌, ◌-◌, ◌^◌, ◌<◌, ◌≤◌, min, max, Bool, true, false, cond, not, ◌&&◌, ◌||◌, eqb, ltb, leb, List, [], ◌∷◌, map, length, get_or, take, drop, sym, refl, ap, ◌∙◌, add-zero, arith, length-drop, length-take, ltb-false, ltb-true, le-ltb, lt-ltb, ne_eqb, eqb-true, le-leb, leb-false, leb-true}
use mathlib.Core.Bool.{or_assoc}
use lib.ListN.{length-map}
use borrow.Author.Tests.{lt-leb, eqb-false}
use Rattle.tables.proofs.Booleans.{and_left, and_right, and-false, or-false, cond_both}
use Rattle.watch.specs.declared.watch.Watch.{Watch}
use Rattle.watch.specs.declared.ear.Ear.{Ear}
use Rattle.watch.specs.declared.ear.Followed.{Followed}
use Rattle.watch.specs.Watch.{line, with_lines, data_bit, load_bit, last_of, moved}
use Rattle.watch.specs.Kept.{run_on, kept_from, expired_by, watch_in, listened}
use Rattle.watch.specs.Ear.{next_change, or_else, last_change, last_long, level_at, levels_in, next_in, ear_from, ear_on, no_ear, comes_to, heard_by, followed, joined}
use Rattle.watch.proofs.Clocks.{told, since, part-next, part-nothing, part-last, with-lines}

-- ---- clocks that are over a place

-- a clock that is over q, else 0
abbrev pub past : ℕ → ℕ → ℕ
past q c = cond (ltb q c) c 0

past-none : (q : ℕ) → past q 0 ≡ 0
past-none q = rw (le-ltb q 0 (omega arith))

past_next : (q : ℕ) → past q (q + 1) ≡ q + 1
past_next q = rw (lt-ltb q (q + 1) (omega arith))

past-earlier : (q c : ℕ) → past (q + 1) c ≡ c → past q c ≡ c
past-earlier q c h = go (ltb (q + 1) c) refl h (ltb q c) refl
  where
    go : (a : Bool) → ltb (q + 1) c ≡ a → cond a c 0 ≡ c → (b : Bool) → ltb q c ≡ b → cond b c 0 ≡ c
    go a f h true g = refl
    go true f h false g = omega (arith, ltb-true (q + 1) c f, ltb-false q c g)
    go false f h false g = h

past-or : (q x y : ℕ) → past (q + 1) x ≡ x → past q y ≡ y → past q (or_else x y) ≡ or_else x y
past-or q x y h g = cond_both (λ (c : ℕ). past q c ≡ c) (eqb x 0) y x (λ _. g) (λ _. past-earlier q x h)

-- what is told from q on, the first of it at q, is told from the next place on but for that
past-later : (q c x y : ℕ) → past (q + 1) x ≡ x → y ≤ q + 1 → past q c ≡ or_else x y → past (q + 1) c ≡ x
past-later q c x y h l e = go (eqb x 0) refl e (ltb q c) refl (ltb (q + 1) c) refl
  where
    over : (z : Bool) → ltb (q + 1) x ≡ z → cond z x 0 ≡ x → (x ≡ 0 → ⊥) → q + 1 < x
    over true f h n = ltb-true (q + 1) x f
    over false f h n = absurd (n (sym h))

    go : (z : Bool) → eqb x 0 ≡ z → past q c ≡ cond z y x → (a : Bool) → ltb q c ≡ a → (b : Bool) → ltb (q + 1) c ≡ b → cond b c 0 ≡ x
    go true f e a g false k = sym (eqb-true x 0 f)
    go true f e true g true k = let d : c ≡ y = rw g at e in omega (arith, ltb-true (q + 1) c k, d)
    go true f e false g true k = omega (arith, ltb-false q c g, ltb-true (q + 1) c k)
    go false f e true g true k = rw g at e
    go false f e false g true k = omega (arith, ltb-false q c g, ltb-true (q + 1) c k)
    go false f e true g false k =
        let d : c ≡ x = rw g at e in
        omega (arith, d, ltb-false (q + 1) c k, over (ltb (q + 1) x) refl h (eqb-false x 0 f))
    go false f e false g false k = rw g at e

-- ---- levels from a place on

pub next-from : (level : ℕ) (bs : List ℕ) (i : ℕ) → i ≤ next_change level bs i
unfolding next_change
next-from level [] i = omega arith
next-from level (b ∷ bs) i = cond_both (λ (p : ℕ). i ≤ p) (eqb level b) _ _ (λ _. omega (arith, next-from b bs (i + 1))) (λ _. omega arith)

pub next-within : (level : ℕ) (bs : List ℕ) (i : ℕ) → next_change level bs i ≤ i + length bs
unfolding next_change
next-within level [] i = omega arith
next-within level (b ∷ bs) i =
    cond_both (λ (p : ℕ). p ≤ i + suc (length bs)) (eqb level b) _ _ (λ _. omega (arith, next-within b bs (i + 1))) (λ _. omega arith)

-- its tail, where the first does not change
pub next-later : (level b : ℕ) (bs : List ℕ) (i : ℕ) → i + 1 ≤ next_change level (b ∷ bs) i → next_change level (b ∷ bs) i ≡ next_change b bs (i + 1)
unfolding next_change
next-later level b bs i = go (eqb level b)
  where
    go : (z : Bool) → i + 1 ≤ cond z (next_change b bs (i + 1)) i → cond z (next_change b bs (i + 1)) i ≡ next_change b bs (i + 1)
    go true h = refl
    go false h = omega (arith, h)

pub changed-past : (level : ℕ) (bs : List ℕ) (i : ℕ) → past i (last_change level bs i) ≡ last_change level bs i
unfolding last_change
changed-past level [] i = past-none i
changed-past level (b ∷ bs) i =
    past-or i (last_change b bs (i + 1)) (cond (eqb level b) 0 (i + 1)) (changed-past b bs (i + 1))
    (cond_both (λ (c : ℕ). past i c ≡ c) (eqb level b) 0 (i + 1) (λ _. past-none i) (λ _. past_next i))

pub changed-later : (c level b : ℕ) (bs : List ℕ) (i : ℕ) → past i c ≡ last_change level (b ∷ bs) i → past (i + 1) c ≡ last_change b bs (i + 1)
unfolding last_change
changed-later c level b bs i e =
    past-later i c (last_change b bs (i + 1)) (cond (eqb level b) 0 (i + 1)) (changed-past b bs (i + 1))
    (cond_both (λ (y : ℕ). y ≤ i + 1) (eqb level b) 0 (i + 1) (λ _. omega arith) (λ _. omega arith)) e

pub long-past : (limit level : ℕ) (bs : List ℕ) (i : ℕ) → past i (last_long limit level bs i) ≡ last_long limit level bs i
unfolding last_long
long-past limit level [] i = past-none i
long-past limit level (b ∷ bs) i =
    past-or i (last_long limit b bs (i + 1)) _ (long-past limit b bs (i + 1))
    (cond_both (λ (c : ℕ). past i c ≡ c) (eqb level b) 0 (cond (leb (i + 1 + limit) (next_change b bs (i + 1))) (i + 1) 0) (λ _. past-none i)
    (λ _. cond_both (λ (c : ℕ). past i c ≡ c) (leb (i + 1 + limit) (next_change b bs (i + 1))) (i + 1) 0 (λ _. past_next i) (λ _. past-none i)))

pub long-later : (limit c level b : ℕ) (bs : List ℕ) (i : ℕ) → past i c ≡ last_long limit level (b ∷ bs) i → past (i + 1) c ≡ last_long limit b bs (i + 1)
unfolding last_long
long-later limit c level b bs i e =
    past-later i c (last_long limit b bs (i + 1)) (cond (eqb level b) 0 (cond (leb (i + 1 + limit) (next_change b bs (i + 1))) (i + 1) 0))
    (long-past limit b bs (i + 1))
    (cond_both (λ (y : ℕ). y ≤ i + 1) (eqb level b) 0 (cond (leb (i + 1 + limit) (next_change b bs (i + 1))) (i + 1) 0) (λ _. omega arith)
    (λ _. cond_both (λ (y : ℕ). y ≤ i + 1) (leb (i + 1 + limit) (next_change b bs (i + 1))) (i + 1) 0 (λ _. omega arith) (λ _. omega arith))) e

-- ---- an ear that is right

-- from place q on
pub record Right (ss : List ℕ) (q : ℕ) (e : Ear) : Type 0 where
  pub level : q < e.end → e.level ≡ level_at ss e.end
  pub changed : past q e.changed ≡ last_change (level_at ss q) (levels_in ss q e.end) q
  pub long : past q e.long ≡ last_long e.limit (level_at ss q) (levels_in ss q (e.end - 1)) q
  pub next : q ≤ e.next → e.next ≡ next_in ss q e.end

levels-none : (ss : List ℕ) (q end : ℕ) → min end (length ss) ≤ q → levels_in ss q end ≡ []
levels-none ss q end h = ap (map data_bit) (part-nothing ss q end h)

level-next : (ss : List ℕ) (q : ℕ) → level_at ss (q + 1) ≡ data_bit (get_or ss q 0)
level-next ss q = let e : q + 1 - 1 ≡ q = omega arith in rw e

levels-next : (ss : List ℕ) (q end : ℕ) → q < min end (length ss) → levels_in ss q end ≡ level_at ss (q + 1) ∷ levels_in ss (q + 1) end
levels-next ss q end h =
    ap (map data_bit) (part-next ss q end (omega (arith, h)) (omega (arith, h)))
    ∙ ap (λ (b : ℕ). b ∷ levels_in ss (q + 1) end) (sym (level-next ss q))

-- Nothing: an ear to which nothing is told is right
pub right-none : (ss : List ℕ) (q : ℕ) → Right ss q no_ear
unfolding next_change last_change last_long
right-none ss q = record {
  level = λ h. omega (arith, h);
  changed = rw (levels-none ss q 0 (omega arith)) (past-none q);
  long = rw (levels-none ss q 0 (omega arith)) (past-none q);
  next = λ h. rw (levels-none ss q 0 (omega arith)) (omega (arith, h));
}

changed-on : (ss : List ℕ) (q end c : ℕ) → past q c ≡ last_change (level_at ss q) (levels_in ss q end) q
    → past (q + 1) c ≡ last_change (level_at ss (q + 1)) (levels_in ss (q + 1) end) (q + 1)
unfolding last_change
changed-on ss q end c e = go (ltb q (min end (length ss))) refl
  where
    go : (z : Bool) → ltb q (min end (length ss)) ≡ z → past (q + 1) c ≡ last_change (level_at ss (q + 1)) (levels_in ss (q + 1) end) (q + 1)
    go true f =
        changed-later c (level_at ss q) (level_at ss (q + 1)) (levels_in ss (q + 1) end) q
        (e ∙ ap (λ (bs : List ℕ). last_change (level_at ss q) bs q) (levels-next ss q end (ltb-true q (min end (length ss)) f)))
    go false f =
        let l : min end (length ss) ≤ q = ltb-false q (min end (length ss)) f in
        let d : past q c ≡ 0 = e ∙ ap (λ (bs : List ℕ). last_change (level_at ss q) bs q) (levels-none ss q end l) in
        past-later q c 0 0 (past-none (q + 1)) (omega arith) d
        ∙ ap (λ (bs : List ℕ). last_change (level_at ss (q + 1)) bs (q + 1)) (sym (levels-none ss (q + 1) end (omega (arith, l))))

long-on : (limit : ℕ) (ss : List ℕ) (q end c : ℕ) → past q c ≡ last_long limit (level_at ss q) (levels_in ss q end) q
    → past (q + 1) c ≡ last_long limit (level_at ss (q + 1)) (levels_in ss (q + 1) end) (q + 1)
unfolding last_long
long-on limit ss q end c e = go (ltb q (min end (length ss))) refl
  where
    go : (z : Bool) → ltb q (min end (length ss)) ≡ z → past (q + 1) c ≡ last_long limit (level_at ss (q + 1)) (levels_in ss (q + 1) end) (q + 1)
    go true f =
        long-later limit c (level_at ss q) (level_at ss (q + 1)) (levels_in ss (q + 1) end) q
        (e ∙ ap (λ (bs : List ℕ). last_long limit (level_at ss q) bs q) (levels-next ss q end (ltb-true q (min end (length ss)) f)))
    go false f =
        let l : min end (length ss) ≤ q = ltb-false q (min end (length ss)) f in
        let d : past q c ≡ 0 = e ∙ ap (λ (bs : List ℕ). last_long limit (level_at ss q) bs q) (levels-none ss q end l) in
        past-later q c 0 0 (past-none (q + 1)) (omega arith) d
        ∙ ap (λ (bs : List ℕ). last_long limit (level_at ss (q + 1)) bs (q + 1)) (sym (levels-none ss (q + 1) end (omega (arith, l))))

next-on : (ss : List ℕ) (q end p : ℕ) → p ≡ next_in ss q end → q + 1 ≤ p → p ≡ next_in ss (q + 1) end
unfolding next_change
next-on ss q end p e h = go (ltb q (min end (length ss))) refl
  where
    go : (z : Bool) → ltb q (min end (length ss)) ≡ z → p ≡ next_in ss (q + 1) end
    go true f =
        let d : p ≡ next_change (level_at ss q) (level_at ss (q + 1) ∷ levels_in ss (q + 1) end) q =
        e ∙ ap (λ (bs : List ℕ). next_change (level_at ss q) bs q) (levels-next ss q end (ltb-true q (min end (length ss)) f))
        in d ∙ next-later (level_at ss q) (level_at ss (q + 1)) (levels_in ss (q + 1) end) q (rw d at h)
    go false f =
        let d : p ≡ q = e ∙ ap (λ (bs : List ℕ). next_change (level_at ss q) bs q) (levels-none ss q end (ltb-false q (min end (length ss)) f)) in
        omega (arith, d, h)

right-next : (ss : List ℕ) (q : ℕ) (e : Ear) → Right ss q e → Right ss (q + 1) e
right-next ss q e r = record {
  level = λ h. r.level (omega (arith, h));
  changed = changed-on ss q e.end e.changed r.changed;
  long = long-on e.limit ss q (e.end - 1) e.long r.long;
  next = λ h. next-on ss q e.end e.next (r.next (omega (arith, h))) h;
}

right_by : (ss : List ℕ) (q k : ℕ) (e : Ear) → Right ss q e → Right ss (q + k) e
right_by ss q zero e r = rw (add-zero q) r
right_by ss q (suc k) e r =
    let far : q + suc k ≡ q + k + 1 = omega arith in
    rw far (right-next ss (q + k) e (right_by ss q k e r))

-- Later: an ear stays right
pub right-later : (ss : List ℕ) (q r : ℕ) (e : Ear) → q ≤ r → Right ss q e → Right ss r e
right-later ss q r e h f =
    let far : q + (r - q) ≡ r = omega (arith, h) in
    rw far at (right_by ss q (r - q) e f)

right-from : (limit : ℕ) (ss : List ℕ) (q end : ℕ) → Right ss q (ear_from limit ss q end)
unfolding ear_from
right-from limit ss q end = record {
  level = λ h. refl;
  changed = changed-past (level_at ss q) (levels_in ss q end) q;
  long = long-past limit (level_at ss q) (levels_in ss q (end - 1)) q;
  next = λ h. refl;
}

-- On: told on, it is right
pub right-on : (ss : List ℕ) (q limit end : ℕ) (e : Ear) → Right ss q e → Right ss q (ear_on e limit ss q end)
unfolding ear_on
right-on ss q limit end e r =
    cond_both (Right ss q) (eqb e.end end && eqb e.limit limit) _ _ kept (λ _. right-from limit ss q end)
  where
    next_of : Bool → ℕ
    next_of z = cond z e.next (next_in ss q end)

    kept : (eqb e.end end && eqb e.limit limit) ≡ true
        → Right ss q (record { limit = e.limit; end = e.end; level = e.level; next = next_of (leb q e.next); changed = e.changed; long = e.long })
    kept f = record { level = r.level; changed = r.changed; long = r.long; next = λ _. go (leb q e.next) refl }
      where
        same : e.end ≡ end
        same = eqb-true e.end end (and_left (eqb e.end end) (eqb e.limit limit) f)

        go : (z : Bool) → leb q e.next ≡ z → next_of z ≡ next_in ss q e.end
        go true g = r.next (leb-true q e.next g)
        go false g = ap (next_in ss q) (sym same)

-- ---- the questions of expiry, one in each clock

leb-max : (l x y : ℕ) → leb l (max x y) ≡ (leb l x || leb l y)
leb-max l x y = go (leb l x) refl (leb l y) refl
  where
    go : (a : Bool) → leb l x ≡ a → (b : Bool) → leb l y ≡ b → leb l (max x y) ≡ (a || b)
    go true e b f = le-leb l (max x y) (omega (arith, leb-true l x e))
    go false e true f = le-leb l (max x y) (omega (arith, leb-true l y f))
    go false e false f = lt-leb l (max x y) (omega (arith, leb-false l x e, leb-false l y f))

comes-now : (limit q n : ℕ) → comes_to limit (run_on q n) 0 ≡ leb limit (run_on q n)
comes-now limit q n = ap (leb limit) (omega arith)

-- a count that runs on
comes-on : (limit q n k : ℕ) → comes_to limit (run_on q n) (suc k) ≡ (leb limit (run_on q n) || comes_to limit (run_on (q + 1) n) k)
comes-on limit q n k = ap (leb limit) (omega arith) ∙ leb-max limit (run_on q n) (min (run_on (q + 1) n + k) (2 ^ 64 - 1))

-- a count that starts at 0
comes-new : (limit q p : ℕ) → q + 1 ≤ p → p < 2 ^ 63 → comes_to limit (run_on (q + 1) (kept_from (q + 1) 0)) (p - (q + 1)) ≡ leb (q + 1 + limit) p
comes-new limit q p h l = go (leb (q + 1 + limit) p) refl
  where
    go : (z : Bool) → leb (q + 1 + limit) p ≡ z → comes_to limit (run_on (q + 1) (kept_from (q + 1) 0)) (p - (q + 1)) ≡ z
    go true f = le-leb limit _ (omega (arith, leb-true (q + 1 + limit) p f))
    go false f = lt-leb limit _ (omega (arith, leb-false (q + 1 + limit) p f))

-- the count of a line after a clock in which it stays or not
abbrev pub stays : Bool → ℕ → ℕ → ℕ
stays same q n = cond same n (kept_from (q + 1) 0)

-- the questions before each of these levels, and after them
abbrev asks : ℕ → ℕ → List ℕ → ℕ → ℕ → Bool
asks limit level [] q n = leb limit (run_on q n)
asks limit level (b ∷ bs) q n = leb limit (run_on q n) || asks limit b bs (q + 1) (stays (eqb level b) q n)

asked : (same a b : Bool) (q l : ℕ) → (a || (b || not (eqb l 0))) ≡ (cond same (a || b) a || not (eqb (or_else l (cond same 0 (cond b (q + 1) 0))) 0))
asked same a b q l = go same a b (eqb l 0) refl
  where
    go : (same a b z : Bool) → eqb l 0 ≡ z → (a || (b || not z)) ≡ (cond same (a || b) a || not (eqb (cond z (cond same 0 (cond b (q + 1) 0)) l) 0))
    go true true b z f = refl
    go false true b z f = refl
    go true false true z f = refl
    go true false false true f = refl
    go true false false false f = rw f
    go false false true true f = rw (ne_eqb (q + 1) 0 (λ e. omega (arith, e)))
    go false false true false f = rw f
    go false false false true f = refl
    go false false false false f = rw f

asks-by : (limit level : ℕ) (bs : List ℕ) (q n : ℕ) → q + length bs < 2 ^ 63
    → asks limit level bs q n ≡ (comes_to limit (run_on q n) (next_change level bs q - q) || not (eqb (last_long limit level bs q) 0))
unfolding next_change last_long
asks-by limit level [] q n h =
    let e : q - q ≡ 0 = omega arith in
    rw (e, comes-now limit q n) (or-false (leb limit (run_on q n)))
asks-by limit level (b ∷ bs) q n h =
    ap (λ (z : Bool). leb limit (run_on q n) || z) (asks-by limit b bs (q + 1) (stays (eqb level b) q n) (omega (arith, h))) ∙ go (eqb level b)
  where
    p : ℕ
    p = next_change b bs (q + 1)

    l : ℕ
    l = last_long limit b bs (q + 1)

    first : q + 1 ≤ p
    first = next-from b bs (q + 1)

    last : p < 2 ^ 63
    last = omega (arith, next-within b bs (q + 1), h)

    go : (same : Bool) → (leb limit (run_on q n) || (comes_to limit (run_on (q + 1) (stays same q n)) (p - (q + 1)) || not (eqb l 0)))
        ≡ (comes_to limit (run_on q n) (cond same p q - q) || not (eqb (or_else l (cond same 0 (cond (leb (q + 1 + limit) p) (q + 1) 0))) 0))
    go true =
        let e : p - q ≡ suc (p - (q + 1)) = omega (arith, first) in
        rw (e, comes-on limit q n (p - (q + 1))) (asked true (leb limit (run_on q n)) (comes_to limit (run_on (q + 1) n) (p - (q + 1))) q l)
    go false =
        let e : q - q ≡ 0 = omega arith in
        rw (e, comes-now limit q n, comes-new limit q p first last) (asked false (leb limit (run_on q n)) (leb (q + 1 + limit) p) q l)

-- ---- a stretch at high load, the bit being set

-- every state is at high load
abbrev pub Loaded : List ℕ → Type 0
Loaded [] = Unit {0}
Loaded (s ∷ ss) = (load_bit s ≡ 1) × Loaded ss

-- a watchdog after one of them
abbrev after : ℕ → ℕ → Watch → Watch
after q s w = with_lines w (line (stays (eqb w.din.level (data_bit s)) q w.din.still) (data_bit s)) w.loadi

hear-one : (q s : ℕ) (w : Watch) → load_bit s ≡ 1 → w.loadi.level ≡ 1 → watch_in true true (q + 1) (s ∷ []) w ≡ after q s w
unfolding moved last_of
hear-one q s w h l = with-lines w (go (eqb w.din.level (data_bit s))) (rw (h, and-false, l))
  where
    go : (same : Bool) → line (cond (not same || false) (kept_from (q + 1) 0) (cond (leb 2 (q + 1) && false) (kept_from (q + 1) 1) w.din.still)) (data_bit s)
        ≡ line (stays same q w.din.still) (data_bit s)
    go true = rw and-false
    go false = refl

-- the count by the clock of the last change
abbrev pub count_since : ℕ → ℕ → ℕ
count_since c n = cond (eqb c 0) n (kept_from c 0)

pub last-still : (same : Bool) (q c n : ℕ) → count_since c (stays same q n) ≡ count_since (or_else c (cond same 0 (q + 1))) n
last-still same q c n = go same (eqb c 0) refl
  where
    go : (same z : Bool) → eqb c 0 ≡ z → cond z (stays same q n) (kept_from c 0) ≡ count_since (cond z (cond same 0 (q + 1)) c) n
    go true true f = refl
    go false true f = rw (ne_eqb (q + 1) 0 (λ e. omega (arith, e)))
    go same false f = rw f

-- what it is after them
hear-watch : (xs : List ℕ) (q : ℕ) (w : Watch) → Loaded xs → w.loadi.level ≡ 1
    → (listened true q xs w).watch
    ≡ with_lines w (line (count_since (last_change w.din.level (map data_bit xs) q) w.din.still) (last_of w.din.level (map data_bit xs))) w.loadi
unfolding listened last_change last_of
hear-watch [] q w h l = refl
hear-watch (s ∷ xs) q w h l =
    ap (λ (v : Watch). (listened true (q + 1) xs v).watch) (hear-one q s w h.0 l) ∙ hear-watch xs (q + 1) (after q s w) h.1 l
    ∙ ap (λ (n : ℕ). with_lines w (line n (last_of (data_bit s) (map data_bit xs))) w.loadi)
    (last-still (eqb w.din.level (data_bit s)) q (last_change (data_bit s) (map data_bit xs) (q + 1)) w.din.still)

or-last : (d l : Bool) → ((d || l) || false) ≡ (l || d)
or-last true true = refl
or-last true false = refl
or-last false true = refl
or-last false false = refl

or-more : (d l c a : Bool) → ((d || l) || (c || a)) ≡ ((l || c) || (d || a))
or-more true true c a = refl
or-more true false true a = refl
or-more true false false a = refl
or-more false l c a = sym (or_assoc l c a)

-- whether it expired before the last
hear-asks : (k : ℕ) (xs : List ℕ) (q : ℕ) (w : Watch) → 1 ≤ q → k < length xs → Loaded (take (suc k) xs) → w.loadi.level ≡ 1
    → (listened true q (take (suc k) xs) w).expired
    ≡ (comes_to w.limit (run_on q w.loadi.still) k || asks w.limit w.din.level (map data_bit (take k xs)) q w.din.still)
unfolding listened
hear-asks k [] q w h f g l = absurd (omega (arith, f))
hear-asks zero (x ∷ xs) q w h f g l =
    rw (le-leb 1 q h, comes-now w.limit q w.loadi.still) (or-last (leb w.limit (run_on q w.din.still)) (leb w.limit (run_on q w.loadi.still)))
hear-asks (suc k) (x ∷ xs) q w h f g l =
    ap (λ (v : Watch). expired_by true q w || (listened true (q + 1) (take (suc k) xs) v).expired) (hear-one q x w g.0 l)
    ∙ ap (λ (z : Bool). expired_by true q w || z) (hear-asks k xs (q + 1) (after q x w) (omega arith) (omega (arith, f)) g.1 l)
    ∙ rw (le-leb 1 q h, comes-on w.limit q w.loadi.still k)
    (or-more (leb w.limit (run_on q w.din.still)) (leb w.limit (run_on q w.loadi.still)) (comes_to w.limit (run_on (q + 1) w.loadi.still) k)
    (asks w.limit (data_bit x) (map data_bit (take k xs)) (q + 1) (stays (eqb w.din.level (data_bit x)) q w.din.still)))

-- the first change before the last of them
next-before : (level k : ℕ) (xs : List ℕ) (q : ℕ)
    → next_change level (map data_bit (take k xs)) q ≡ min (next_change level (map data_bit (take (suc k) xs)) q) (q + k)
unfolding next_change
next-before level zero [] q = omega arith
next-before level (suc k) [] q = omega arith
next-before level zero (x ∷ xs) q = cond_both (λ (p : ℕ). q ≡ min p (q + 0)) (eqb level (data_bit x)) (q + 1) q (λ _. omega arith) (λ _. omega arith)
next-before level (suc k) (x ∷ xs) q = go (eqb level (data_bit x)) _ _ (next-before (data_bit x) k xs (q + 1))
  where
    go : (same : Bool) (a b : ℕ) → a ≡ min b (q + 1 + k) → cond same a q ≡ min (cond same b q) (q + suc k)
    go true a b e = omega (arith, e)
    go false a b e = omega arith

-- ---- a watchdog that goes by a right ear

still-told : (q c d n : ℕ) → past q c ≡ d → cond (ltb q c) (kept_from c 0) n ≡ count_since d n
still-told q c d n = go (ltb q c) refl
  where
    go : (z : Bool) → ltb q c ≡ z → cond z c 0 ≡ d → cond z (kept_from c 0) n ≡ count_since d n
    go true f e = rw (← e, ne_eqb c 0 (λ z. omega (arith, z, ltb-true q c f)))
    go false f e = rw (← e)

long-told : (q c d : ℕ) → past q c ≡ d → ltb q c ≡ not (eqb d 0)
long-told q c d = go (ltb q c) refl
  where
    go : (z : Bool) → ltb q c ≡ z → cond z c 0 ≡ d → z ≡ not (eqb d 0)
    go true f e = rw (← e, ne_eqb c 0 (λ z. omega (arith, z, ltb-true q c f)))
    go false f e = rw (← e)

pub told-both : {a b : Watch} {x y : Bool} → a ≡ b → x ≡ y → told a x ≡ told b y
told-both p q = cc

heard-some : (ss : List ℕ) (q : ℕ) (e : Ear) (w : Watch) → 1 ≤ q → q < e.end → e.end ≤ length ss → length ss < 2 ^ 63
    → Loaded (take (e.end - q) (drop q ss)) → w.loadi.level ≡ 1 → w.din.level ≡ level_at ss q → Right ss q e → e.limit ≡ w.limit → q ≤ e.next
    → heard_by e q w ≡ listened true q (take (e.end - q) (drop q ss)) w
unfolding heard_by
heard-some ss q e w h some most short loaded load din r limit next =
    rw (lt-leb e.end q some) (told-both watches expires)
  where
    k : ℕ
    k = e.end - 1 - q

    count : e.end - q ≡ suc k
    count = omega (arith, some)

    xs : List ℕ
    xs = drop q ss

    clock : past q e.changed ≡ last_change w.din.level (levels_in ss q e.end) q
    clock = r.changed ∙ ap (λ (b : ℕ). last_change b (levels_in ss q e.end) q) (sym din)

    ends : e.level ≡ last_of w.din.level (levels_in ss q e.end)
    ends =
        let last : min e.end (length ss) ≡ e.end = omega (arith, most) in
        r.level some ∙ ap (λ (n : ℕ). data_bit (get_or ss (n - 1) 0)) (sym last) ∙ sym (part-last data_bit w.din.level ss q e.end (omega (arith, some, most)))

    watches : with_lines w (line (cond (ltb q e.changed) (kept_from e.changed 0) w.din.still) e.level) w.loadi
        ≡ (listened true q (take (e.end - q) (drop q ss)) w).watch
    watches =
        with-lines w (rw (still-told q e.changed (last_change w.din.level (levels_in ss q e.end) q) w.din.still clock, ends)) refl
        ∙ sym (hear-watch (take (e.end - q) (drop q ss)) q w loaded load)

    before : next_change w.din.level (map data_bit (take k xs)) q ≡ min e.next (e.end - 1)
    before =
        let told : next_change w.din.level (map data_bit (take (suc k) xs)) q ≡ e.next =
        ap (λ (n : ℕ). next_change w.din.level (map data_bit (take n xs)) q) (sym count)
        ∙ ap (λ (b : ℕ). next_change b (levels_in ss q e.end) q) din
        ∙ sym (r.next next)
        in omega (arith, next-before w.din.level k xs q, told, some)

    longs : ltb q e.long ≡ not (eqb (last_long w.limit w.din.level (map data_bit (take k xs)) q) 0)
    longs =
        long-told q e.long (last_long w.limit w.din.level (map data_bit (take k xs)) q)
        (r.long ∙ ap (λ (n : ℕ). last_long n (level_at ss q) (map data_bit (take k xs)) q) limit ∙ ap (λ (b : ℕ). last_long w.limit b (map data_bit (take k xs)) q) (sym din))

    within : q + length (map data_bit (take k xs)) < 2 ^ 63
    within = simp (length-map, length-take, length-drop) (omega (arith, some, most, short))

    expires : (comes_to w.limit (run_on q w.loadi.still) k || (comes_to w.limit (run_on q w.din.still) (min e.next (e.end - 1) - q) || ltb q e.long))
        ≡ (listened true q (take (e.end - q) (drop q ss)) w).expired
    expires =
        rw (longs, ← before, ← asks-by w.limit w.din.level (map data_bit (take k xs)) q w.din.still within)
        (sym (ap (λ (n : ℕ). (listened true q (take n xs) w).expired) count
        ∙ hear-asks k xs q w h (simp length-drop (omega (arith, some, most))) (rw count at loaded) load))

-- By: a watchdog that goes by a right ear hears what it hears clock by clock
pub heard-by : (ss : List ℕ) (q end : ℕ) (e : Ear) (w : Watch) → 1 ≤ q → end ≤ length ss → length ss < 2 ^ 63 → Loaded (take (end - q) (drop q ss))
    → w.loadi.level ≡ 1 → w.din.level ≡ level_at ss q → Right ss q e → e.end ≡ end → e.limit ≡ w.limit → q ≤ e.next
    → heard_by e q w ≡ listened true q (take (end - q) (drop q ss)) w
unfolding heard_by listened
heard-by ss q end e w h most short loaded load din r same limit next = go (leb e.end q) refl
  where
    go : (z : Bool) → leb e.end q ≡ z → heard_by e q w ≡ listened true q (take (end - q) (drop q ss)) w
    go true f = rw (f, part-nothing ss q end (omega (arith, leb-true e.end q f, same)))
    go false f =
        heard-some ss q e w h (leb-false e.end q f) (omega (arith, same, most)) short (rw same loaded) load din r limit next
        ∙ ap (λ (n : ℕ). listened true q (take (n - q) (drop q ss)) w) same

-- ---- a watchdog whose device passes a stretch

-- what is told on is told for its end and its limit, and tells its next change
ear-end : (e : Ear) (limit : ℕ) (ss : List ℕ) (q end : ℕ) → (ear_on e limit ss q end).end ≡ end
unfolding ear_on ear_from
ear-end e limit ss q end =
    cond_both (λ (f : Ear). f.end ≡ end) (eqb e.end end && eqb e.limit limit) _ _
    (λ f. eqb-true e.end end (and_left (eqb e.end end) (eqb e.limit limit) f)) (λ _. refl)

ear-limit : (e : Ear) (limit : ℕ) (ss : List ℕ) (q end : ℕ) → (ear_on e limit ss q end).limit ≡ limit
unfolding ear_on ear_from
ear-limit e limit ss q end =
    cond_both (λ (f : Ear). f.limit ≡ limit) (eqb e.end end && eqb e.limit limit) _ _
    (λ f. eqb-true e.limit limit (and_right (eqb e.end end) (eqb e.limit limit) f)) (λ _. refl)

ear-next : (e : Ear) (limit : ℕ) (ss : List ℕ) (q end : ℕ) → q ≤ (ear_on e limit ss q end).next
unfolding ear_on ear_from
ear-next e limit ss q end =
    cond_both (λ (f : Ear). q ≤ f.next) (eqb e.end end && eqb e.limit limit) _ _
    (λ _. cond_both (λ (p : ℕ). q ≤ p) (leb q e.next) e.next (next_in ss q end) (leb-true q e.next) (λ _. from)) (λ _. from)
  where
    from : q ≤ next_in ss q end
    from = next-from (level_at ss q) (levels_in ss q end) q

-- Followed: what it hears, its lines being in step
pub followed-on : (on : Bool) (ss : List ℕ) (q end : ℕ) (e : Ear) (w : Watch) → 1 ≤ q → end ≤ length ss → length ss < 2 ^ 63
    → Loaded (take (end - q) (drop q ss)) → w.loadi.level ≡ 1 → w.din.level ≡ level_at ss q → Right ss q e
    → (followed on e ss q end w).heard ≡ listened on q (take (end - q) (drop q ss)) w
unfolding followed
followed-on true ss q end e w h most short loaded load din r =
    heard-by ss q end (ear_on e w.limit ss q end) w h most short loaded load din (right-on ss q w.limit end e r) (ear-end e w.limit ss q end)
    (ear-limit e w.limit ss q end) (ear-next e w.limit ss q end)
followed-on false ss q end e w h most short loaded load din r = refl

-- and the ear stays right
pub followed-right : (on : Bool) (ss : List ℕ) (q end : ℕ) (e : Ear) (w : Watch) → Right ss q e → Right ss q (followed on e ss q end w).ear
unfolding followed
followed-right true ss q end e w r = right-on ss q w.limit end e r
followed-right false ss q end e w r = r

-- Joined: what it hears, wherever its lines stand: the first state puts them in step
pub joined-on : (on : Bool) (ss : List ℕ) (q end : ℕ) (e : Ear) (w : Watch) → q < end → end ≤ length ss → length ss < 2 ^ 63
    → Loaded (take (end - q) (drop q ss)) → Right ss (q + 1) e → (joined on e ss q end w).heard ≡ listened on q (take (end - q) (drop q ss)) w
unfolding joined listened last_of
joined-on on ss q end e w some most short loaded r =
    let high : Loaded (get_or ss q 0 ∷ take (end - (q + 1)) (drop (q + 1) ss)) = rw (part-next ss q end some (omega (arith, some, most))) at loaded in
    rw (lt-leb end q some, part-next ss q end some (omega (arith, some, most)))
    (ap (since (expired_by on q w))
    (followed-on on ss (q + 1) end e (watch_in on on (q + 1) (get_or ss q 0 ∷ []) w) (omega arith) most short high.1 high.0 (sym (level-next ss q)) r))

-- and the ear stays right
pub joined-right : (on : Bool) (ss : List ℕ) (q end : ℕ) (e : Ear) (w : Watch) → Right ss (q + 1) e → Right ss (q + 1) (joined on e ss q end w).ear
unfolding joined
joined-right on ss q end e w r =
    cond_both (λ (f : Followed). Right ss (q + 1) f.ear) (leb end q) _ _ (λ _. r)
    (λ _. followed-right on ss (q + 1) end e (watch_in on on (q + 1) (get_or ss q 0 ∷ []) w) r)
