-- An expiry needs a line that has not changed for the limit. A count grows by one at most, and is 0 where the line changed, so it is at most the
-- clocks since the last change, with those counted at the start if there was none. So none comes before as many clocks as the limit says are left.
-- By induction on the clocks. Assumes nothing.
use mathlib.Core.Path.{◌≡◌, refl, sym, ap, ◌∙◌}
use mathlib.Core.Bool.{Bool, true, false, cond, not, ◌||◌}
use mathlib.Core.List.{List, [], ◌∷◌, ◌++◌, map, flatten}
use mathlib.Core.Logic.{◌⊎◌, inl, inr, ⊎_elim}
use Prim.Native.Nat.{ℕ, zero, suc, ◌+◌, ◌-◌, ◌≤◌, ◌<◌}
use native.Mathlib.Omega.{arith}
use lib.Dec.{eqb, leb}
use lib.ListN.{length, length-map, length-append, take, get_or}
use borrow.Author.Tests.{leb-true}
use Rattle.parts.specs.Wire.{State, state_code}
use Rattle.machine.specs.Machine.{run, relay, relay_one}
use Rattle.machine.proofs.Machine.{length-relays}
use Rattle.watch.specs.declared.watch.Watch.{Watch}
use Rattle.watch.specs.Watch.{data_bit, load_bit, last_of, moved, enabled, counted, watching, expired}
use Rattle.model.proofs.Lists.{get_d_map}
use Rattle.clocked.specs.Clock.{registers_of}
use Rattle.watchdog.specs.Watched.{Watched, clock_device, clock_watched, run_watched, expires}
use Rattle.watchdog.specs.Still.{StillFor, data_levels, load_levels, Stopped, clocks_watched, sent_by}
use Rattle.watchdog.proofs.Places.{sent_to, relay-at}

-- ---- one line

last_of-append : (level : ℕ) (xs ys : List ℕ) → last_of level (xs ++ ys) ≡ last_of (last_of level xs) ys
unfolding last_of
last_of-append level [] ys = refl
last_of-append level (x ∷ xs) ys = last_of-append x xs ys

or_assoc : (a b c : Bool) → ((a || b) || c) ≡ (a || (b || c))
or_assoc true b c = refl
or_assoc false b c = refl

moved-append : (level : ℕ) (xs ys : List ℕ) → moved level (xs ++ ys) ≡ (moved level xs || moved (last_of level xs) ys)
unfolding last_of moved
moved-append level [] ys = refl
moved-append level (x ∷ xs) ys = rw (moved-append x xs ys) (sym (or_assoc (not (eqb level x)) (moved x xs) (moved (last_of x xs) ys)))

counted-le : (on change : Bool) (n : ℕ) → counted on change n ≤ cond change 0 (suc n)
counted-le true true n = omega arith
counted-le true false n = omega arith
counted-le false true n = omega arith
counted-le false false n = omega arith

-- one clock more before the others
still-cons : (n count level count1 : ℕ) (bs : List ℕ) (rest : List (List ℕ)) → count1 ≤ cond (moved level bs) 0 (suc count) → StillFor n count1 (last_of level bs) rest
    → StillFor n count level (bs ∷ rest)
unfolding flatten last_of
still-cons n count level count1 bs rest h s = by s.long
  where
    -- it changed since, or in this clock
    apart : (before : List (List ℕ)) → rest ≡ before ++ s.since → moved (last_of (last_of level bs) (flatten before)) (flatten s.since) ≡ false → n ≤ length s.since
        → StillFor n count level (bs ∷ rest)
    apart before j m l = record {
      before = bs ∷ before;
      since = s.since;
      joined = ap (λ (t : List (List ℕ)). bs ∷ t) j;
      still = rw (last_of-append level bs (flatten before)) m;
      long = inl l;
    }

    here : s.before ≡ [] → n ≤ count1 + length s.since → (b : Bool) → moved level bs ≡ b → count1 ≤ cond b 0 (suc count) → StillFor n count level (bs ∷ rest)
    here e l true m k = apart s.before s.joined s.still (omega arith)
    here e l false m k = record {
      before = [];
      since = bs ∷ s.since;
      joined = ap (λ (t : List (List ℕ)). bs ∷ t) (s.joined ∙ ap (λ (t : List (List ℕ)). t ++ s.since) e);
      still = moved-append level bs (flatten s.since) ∙ rw m (rw e at s.still);
      long = inr (refl, omega arith);
    }

    by : (n ≤ length s.since) ⊎ ((s.before ≡ []) × (n ≤ count1 + length s.since)) → StillFor n count level (bs ∷ rest)
    by (inl l) = apart s.before s.joined s.still l
    by (inr (e, l)) = here e l (moved level bs) refl h

still-none : (n count level : ℕ) → n ≤ count → StillFor n count level []
unfolding flatten moved
still-none n count level h = record { before = []; since = []; joined = refl; still = refl; long = inr (refl, omega arith) }

-- ---- one device

data-still : (clocks : List (List State)) (w : Watched) (n : ℕ) → n ≤ (clocks_watched w clocks).watch.din.still
    → StillFor n w.watch.din.still w.watch.din.level (data_levels clocks)
unfolding clocks_watched clock_watched watching
data-still [] w n h = still-none n w.watch.din.still w.watch.din.level h
data-still (sent ∷ clocks) w n h =
    let bs : List ℕ = map data_bit (map state_code sent) in
    let on : Bool = enabled w.watch (registers_of (clock_device w.clocked sent).0).configuration in
    let count : ℕ = w.watch.din.still in
    let level : ℕ = w.watch.din.level in
    still-cons n count level (counted on (moved level bs) count) bs (data_levels clocks) (counted-le on (moved level bs) count)
    (data-still clocks (clock_watched w sent).0 n h)

load_still : (clocks : List (List State)) (w : Watched) (n : ℕ) → n ≤ (clocks_watched w clocks).watch.loadi.still
    → StillFor n w.watch.loadi.still w.watch.loadi.level (load_levels clocks)
unfolding clocks_watched clock_watched watching
load_still [] w n h = still-none n w.watch.loadi.still w.watch.loadi.level h
load_still (sent ∷ clocks) w n h =
    let bs : List ℕ = map load_bit (map state_code sent) in
    let on : Bool = enabled w.watch (registers_of (clock_device w.clocked sent).0).configuration in
    let count : ℕ = w.watch.loadi.still in
    let level : ℕ = w.watch.loadi.level in
    still-cons n count level (counted on (moved level bs) count) bs (load_levels clocks) (counted-le on (moved level bs) count)
    (load_still clocks (clock_watched w sent).0 n h)

limit-kept : (clocks : List (List State)) (w : Watched) → (clocks_watched w clocks).watch.limit ≡ w.watch.limit
unfolding clocks_watched clock_watched watching
limit-kept [] w = refl
limit-kept (sent ∷ clocks) w = limit-kept clocks (clock_watched w sent).0

expired-either : (s : Watch) → expired s ≡ true → (s.limit ≤ s.din.still) ⊎ (s.limit ≤ s.loadi.still)
unfolding expired
expired-either s = by (leb s.limit s.din.still) refl
  where
    by : (b : Bool) → leb s.limit s.din.still ≡ b → (b || leb s.limit s.loadi.still) ≡ true → (s.limit ≤ s.din.still) ⊎ (s.limit ≤ s.loadi.still)
    by true e h = inl (leb-true s.limit s.din.still e)
    by false e h = inr (leb-true s.limit s.loadi.still h)

-- Stopped: a device that has expired at the end of clocks in which it was sent these
pub expired-stopped : (w : Watched) (clocks : List (List State)) → expired (clocks_watched w clocks).watch ≡ true → Stopped w clocks
expired-stopped w clocks h = by (expired-either (clocks_watched w clocks).watch h)
  where
    by : ((clocks_watched w clocks).watch.limit ≤ (clocks_watched w clocks).watch.din.still) ⊎ ((clocks_watched w clocks).watch.limit ≤ (clocks_watched w clocks).watch.loadi.still)
        → Stopped w clocks
    by (inl l) = inl (data-still clocks w w.watch.limit (omega (arith, limit-kept clocks w)))
    by (inr l) = inr (load_still clocks w w.watch.limit (omega (arith, limit-kept clocks w)))

-- ---- a device of a chain

sent-before : (ws : List Watched) (i : ℕ) (sent : List State) → i < length ws → sent_to clock_watched i ws sent ≡ (relay clock_watched (take i ws) sent).1
unfolding relay
sent-before [] i sent h = absurd (omega arith)
sent-before (w ∷ ws) zero sent h = refl
sent-before (w ∷ ws) (suc i) sent h = sent-before ws i (clock_watched w sent).1 (omega arith)

take-relay : (ws : List Watched) (i : ℕ) (sent : List State) → take i (relay clock_watched ws sent).0 ≡ (relay clock_watched (take i ws) sent).0
unfolding relay
take-relay [] zero sent = refl
take-relay [] (suc i) sent = refl
take-relay (w ∷ ws) zero sent = refl
take-relay (w ∷ ws) (suc i) sent = ap (λ (us : List Watched). (clock_watched w sent).0 ∷ us) (take-relay ws i (clock_watched w sent).1)

-- it goes by what the devices before it send
pub watched-place : (ls : List State) (ws : List Watched) (i : ℕ) (z : Watched) → i < length ws
    → get_or (run_watched ws ls).0 i z ≡ clocks_watched (get_or ws i z) (sent_by (take i ws) ls)
unfolding run relay_one clocks_watched sent_by
watched-place [] ws i z h = refl
watched-place (l ∷ ls) ws i z h =
    let us : List Watched = (relay clock_watched ws (l ∷ [])).0 in
    let n : length us ≡ length ws = length-relays clock_watched ws (l ∷ []) in
    let e : get_or us i z ≡ (clock_watched (get_or ws i z) (relay clock_watched (take i ws) (l ∷ [])).1).0 =
    rw (sent-before ws i (l ∷ []) h) at (relay-at clock_watched ws i (l ∷ []) z h) in
    rw (take-relay ws i (l ∷ []), e) at (watched-place ls us i z (omega arith))

-- Stopped: device 1, 2, .. of a chain expires in a clock only where a line of its own has not changed for the limit
pub expires-stopped : (ws : List Watched) (ls : List State) (clock device : ℕ) (z : Watched) → 1 ≤ device → device ≤ length ws → expires ws ls clock device ≡ true
    → Stopped (get_or ws (device - 1) z) (sent_by (take (device - 1) ws) (take clock ls))
expires-stopped ws ls clock device z l m h =
    let us : List Watched = (run_watched ws (take clock ls)).0 in
    let n : length us ≡ length ws = length-relays clock_watched ws (take clock ls) in
    let e : expires ws ls clock device ≡ expired (get_or us (device - 1) z).watch =
    get_d_map (λ (u : Watched). expired u.watch) us (device - 1) z false (omega arith) in
    let f : get_or us (device - 1) z ≡ clocks_watched (get_or ws (device - 1) z) (sent_by (take (device - 1) ws) (take clock ls)) =
    watched-place (take clock ls) ws (device - 1) z (omega arith) in
    expired-stopped (get_or ws (device - 1) z) (sent_by (take (device - 1) ws) (take clock ls)) (rw f at (sym e ∙ h))

-- ---- so it needs as many clocks as its limit

take-few : {A : Type 0} (n : ℕ) (xs : List A) → length (take n xs) ≤ n
take-few zero xs = omega arith
take-few (suc n) [] = omega arith
take-few (suc n) (x ∷ xs) = omega (arith, take-few n xs)

length-sent_by : (ws : List Watched) (ls : List State) → length (sent_by ws ls) ≡ length ls
unfolding sent_by
length-sent_by ws [] = refl
length-sent_by ws (l ∷ ls) = rw (length-sent_by (relay_one clock_watched ws l).0 ls)

still-long : (n count level : ℕ) (clocks : List (List ℕ)) → StillFor n count level clocks → n ≤ count + length clocks
still-long n count level clocks s =
    let e : length clocks ≡ length s.before + length s.since = ap (λ (t : List (List ℕ)). length t) s.joined ∙ length-append s.before s.since in
    ⊎_elim (λ l. omega (arith, e)) (λ (l : (s.before ≡ []) × (n ≤ count + length s.since)). omega (arith, e, l.1)) s.long

-- Early: a device whose counts and clocks together are fewer than its limit does not expire in them
pub expires-early : (ws : List Watched) (ls : List State) (clock device : ℕ) (z : Watched) → 1 ≤ device → device ≤ length ws
    → (get_or ws (device - 1) z).watch.din.still + clock < (get_or ws (device - 1) z).watch.limit
    → (get_or ws (device - 1) z).watch.loadi.still + clock < (get_or ws (device - 1) z).watch.limit → expires ws ls clock device ≡ false
expires-early ws ls clock device z h l a b = by (expires ws ls clock device) refl
  where
    u : Watched
    u = get_or ws (device - 1) z

    sent : List (List State)
    sent = sent_by (take (device - 1) ws) (take clock ls)

    few : length sent ≤ clock
    few = let n : length (take clock ls) ≤ clock = take-few clock ls in omega (arith, length-sent_by (take (device - 1) ws) (take clock ls))

    none : Stopped u sent → ⊥
    none (inl s) =
        let n = still-long u.watch.limit u.watch.din.still u.watch.din.level (data_levels sent) s in
        let m : length (data_levels sent) ≡ length sent = length-map sent (λ (x : List State). map data_bit (map state_code x)) in
        omega (arith, few)
    none (inr s) =
        let n = still-long u.watch.limit u.watch.loadi.still u.watch.loadi.level (load_levels sent) s in
        let m : length (load_levels sent) ≡ length sent = length-map sent (λ (x : List State). map load_bit (map state_code x)) in
        omega (arith, few)

    by : (x : Bool) → expires ws ls clock device ≡ x → expires ws ls clock device ≡ false
    by true e = absurd (none (expires-stopped ws ls clock device z h l e))
    by false e = e
