-- Chains in which no watchdog expires are chains without watchdogs, whatever they are given; and where every enabling bit is clear none expires.
-- By induction on the devices for one clock, then on the states. Assumes nothing.
use mathlib.Core.Path.{◌≡◌, refl, sym, ap, ◌∙◌}
use mathlib.Core.Bool.{Bool, true, false}
use mathlib.Core.List.{List, [], ◌∷◌, map}
use Prim.Native.Nat.{ℕ, suc, ◌-◌, ◌≤◌, ◌<◌}
use native.Mathlib.Omega.{arith}
use lib.ListN.{length, take, get_or}
use borrow.Author.Tests.{lt-leb}
use Rattle.parts.specs.Wire.{State}
use Rattle.machine.specs.Machine.{All, run, relay, relay_one, relays}
use Rattle.machine.proofs.Machine.{length-relays}
use Rattle.watch.specs.Watch.{enabled, watching, expired}
use Rattle.clocked.specs.Clock.{Clocked, registers_of, run_clocked}
use Rattle.watchdog.specs.Watched.{Watched, clocks_in, cleared, cleared_if, clock_device, clock_watched, run_watched, Calm, Disabled}
use Rattle.watchdog.proofs.Faint.{relays-clocked}

-- a device that has not expired in the clock that has just ended
abbrev Unexpired : Watched → Type 0
Unexpired w = expired w.watch ≡ false

-- ---- one clock

clock-unexpired : (w : Watched) (sent : List State) → Unexpired (clock_watched w sent).0 → (clock_watched w sent).0.clocked ≡ (clock_device w.clocked sent).0
unfolding clock_watched
clock-unexpired w sent h = ap (λ (b : Bool). cleared_if b (clock_device w.clocked sent).0) h

clock-sends : (w : Watched) (sent : List State) → (clock_watched w sent).1 ≡ (clock_device w.clocked sent).1
unfolding clock_watched
clock-sends w sent = refl

relay-unexpired : (ws : List Watched) (sent : List State) → All Unexpired (relay clock_watched ws sent).0
    → clocks_in (relay clock_watched ws sent).0 ≡ (relay clock_device (clocks_in ws) sent).0
unfolding relay
relay-unexpired [] sent h = refl
relay-unexpired (w ∷ ws) sent h = rw (clock-unexpired w sent h.0, ← clock-sends w sent, relay-unexpired ws (clock_watched w sent).1 h.1)

-- ---- many

-- no device expires while the chain is given these
abbrev Quiet : List Watched → List State → Type 0
Quiet ws [] = Unit {0}
Quiet ws (l ∷ ls) = All Unexpired (relay_one clock_watched ws l).0 × Quiet (relay_one clock_watched ws l).0 ls

one-unexpired : (ws : List Watched) (l : State) → All Unexpired (relay_one clock_watched ws l).0
    → clocks_in (relay_one clock_watched ws l).0 ≡ (relay_one clock_device (clocks_in ws) l).0
unfolding relay_one
one-unexpired ws l h = relay-unexpired ws (l ∷ []) h

quiet-relays : (ls : List State) (ws : List Watched) → Quiet ws ls → clocks_in (run_watched ws ls).0 ≡ (relays clock_device (clocks_in ws) ls).0
unfolding run
quiet-relays [] ws h = refl
quiet-relays (l ∷ ls) ws h =
    quiet-relays ls (relay_one clock_watched ws l).0 h.1
    ∙ ap (λ (cs : List Clocked). (relays clock_device cs ls).0) (one-unexpired ws l h.0)

quiet-clocked : (ws : List Watched) (ls : List State) → Quiet ws ls → clocks_in (run_watched ws ls).0 ≡ (run_clocked (clocks_in ws) ls).0
quiet-clocked ws ls h = rw (relays-clocked (clocks_in ws) ls) at (quiet-relays ls ws h)

unexpired-places : (ws : List Watched) → ((i : ℕ) → i < length ws → get_or (map (λ (w : Watched). expired w.watch) ws) i false ≡ false) → All Unexpired ws
unexpired-places [] h = tt
unexpired-places (w ∷ ws) h = (h 0 (omega arith), unexpired-places ws (λ i l. h (suc i) (omega arith)))

length-one : (ws : List Watched) (l : State) → length (relay_one clock_watched ws l).0 ≡ length ws
unfolding run
length-one ws l = length-relays clock_watched ws (l ∷ [])

calm-quiet : (ls : List State) (ws : List Watched) → Calm ws ls → Quiet ws ls
unfolding run
calm-quiet [] ws h = tt
calm-quiet (l ∷ ls) ws h =
    let us : List Watched = (relay_one clock_watched ws l).0 in
    let n : length us ≡ length ws = length-one ws l in
    let first : (i : ℕ) → i < length us → get_or (map (λ (w : Watched). expired w.watch) us) i false ≡ false =
    λ i m. let e : suc i - 1 ≡ i = omega arith in rw e at (h (suc i) 1 (omega arith) (omega arith) (omega arith) (omega arith)) in
    (unexpired-places us first, calm-quiet ls us (λ device clock a b c d. h device (suc clock) a (omega arith) (omega arith) (omega arith)))

-- Calm: while no device expires, the devices are those of a chain without watchdogs, whatever the states
pub calm-clocked : (ws : List Watched) (ls : List State) → Calm ws ls → clocks_in (run_watched ws ls).0 ≡ (run_clocked (clocks_in ws) ls).0
calm-clocked ws ls h = quiet-clocked ws ls (calm-quiet ls ws h)

-- ---- enabling bits that are clear

pub cleared-configuration : (b : Bool) (c : Clocked) → (registers_of (cleared_if b c)).configuration ≡ (registers_of c).configuration
unfolding cleared
cleared-configuration true c = refl
cleared-configuration false c = refl

-- a limit
abbrev Limited : Watched → Type 0
Limited w = 1 ≤ w.watch.limit

clock-limited : (w : Watched) (sent : List State) → Limited w → Limited (clock_watched w sent).0
unfolding clock_watched watching
clock-limited w sent h = h

pub clock-disabled : (w : Watched) (sent : List State) → Limited w → Disabled (clock_watched w sent).0 → Unexpired (clock_watched w sent).0
unfolding clock_watched watching expired
clock-disabled w sent m h =
    let c : Clocked = (clock_device w.clocked sent).0 in
    let e : enabled w.watch (registers_of c).configuration ≡ false = sym (ap (enabled w.watch) (cleared-configuration (expired (clock_watched w sent).0.watch) c)) ∙ h in
    rw (e, lt-leb w.watch.limit 0 (omega arith))

relay-disabled : (ws : List Watched) (sent : List State) → All Limited ws → All Disabled (relay clock_watched ws sent).0 → All Unexpired (relay clock_watched ws sent).0
unfolding relay
relay-disabled [] sent m h = tt
relay-disabled (w ∷ ws) sent m h = (clock-disabled w sent m.0 h.0, relay-disabled ws (clock_watched w sent).1 m.1 h.1)

relay-limited : (ws : List Watched) (sent : List State) → All Limited ws → All Limited (relay clock_watched ws sent).0
unfolding relay
relay-limited [] sent m = tt
relay-limited (w ∷ ws) sent m = (clock-limited w sent m.0, relay-limited ws (clock_watched w sent).1 m.1)

disabled-quiet : (ls : List State) (ws : List Watched) → All Limited ws → ((clock : ℕ) → 1 ≤ clock → clock ≤ length ls → All Disabled (run_watched ws (take clock ls)).0) → Quiet ws ls
unfolding run relay_one
disabled-quiet [] ws m h = tt
disabled-quiet (l ∷ ls) ws m h = (
  relay-disabled ws (l ∷ []) m (h 1 (omega arith) (omega arith)),
  disabled-quiet ls (relay clock_watched ws (l ∷ [])).0 (relay-limited ws (l ∷ []) m) (λ clock a b. h (suc clock) (omega arith) (omega arith)),
)

-- Disabled: where every enabling bit is clear at the end of every clock, limits from 1 on, the devices are those of a chain without watchdogs
pub disabled-clocked : (ws : List Watched) (ls : List State) → All (λ w. 1 ≤ w.watch.limit) ws
    → ((clock : ℕ) → 1 ≤ clock → clock ≤ length ls → All Disabled (run_watched ws (take clock ls)).0)
    → clocks_in (run_watched ws ls).0 ≡ (run_clocked (clocks_in ws) ls).0
disabled-clocked ws ls m h = quiet-clocked ws ls (disabled-quiet ls ws m h)
