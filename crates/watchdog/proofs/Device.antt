-- One device of a chain with watchdogs through a restore. Until its own individual slice arrives it stores none, from any phases: Four's cut
-- holds for any old values, and a store would leave MUX0 values that do not depend on them. So up to there it is the device of a chain without
-- watchdogs, started from cleared registers if it has expired; and so it stays while it does not expire. Where it holds a configuration with the
-- enabling bit clear it does not. Assumes nothing.
use mathlib.Core.Path.{◌≡◌, refl, sym, ap, ◌∙◌}
use mathlib.Core.Bool.{Bool, true, false, cond}
use mathlib.Core.List.{List, [], ◌∷◌, ◌++◌, map}
use mathlib.Core.Logic.{◌⊎◌, inl, inr}
use Prim.Native.Nat.{ℕ, zero, suc, ◌+◌, ◌-◌, ◌≤◌, ◌<◌}
use native.Mathlib.Omega.{arith}
use lib.Dec.{leb, leb→le, nleb→lt}
use lib.ListN
use lib.ListN.{length, length-map, take, get_or}
use borrow.Author.Tests.{lt-leb}
use Rattle.parts.specs.Parts.{Part}
use Rattle.parts.specs.Wire.{State, low, Edge, lows}
use Rattle.parts.specs.declared.command.Command.{Command}
use Rattle.parts.specs.declared.command.Command.TheVariants.{Individual, Configuration}
use Rattle.machine.specs.Machine.{run, relays}
use Rattle.machine.proofs.Machine.{length-relays}
use Rattle.watch.specs.Watch.{enabled, watching, expired}
use Rattle.model.specs.Lists.{Pairwise}
use Rattle.model.specs.Device.{Device, at, with_waiting, registers_in}
use Rattle.model.specs.Set.{Own}
use Rattle.model.specs.Restore.{pieces_states, states_until}
use Rattle.model.proofs.Lists.{pairwise-length, get_d_map}
use Rattle.model.proofs.Restore.{Ready}
use Rattle.clocked.specs.Clock.{Clocked, registers_of, run_clocked, devices_in}
use Rattle.clocked.proofs.Cut.{cut}
use Rattle.watchdog.specs.Watched.{Watched, clocks_in, cleared, cleared_if, clock_device, clock_watched, run_watched, expires, expired_within}
use Rattle.watchdog.specs.Faded.{faint}
use Rattle.watchdog.proofs.Places.{sent_to, place-through}
use Rattle.watchdog.proofs.Faint.{faint_clock, clock-faint, watched-faint, faint_watched, relays-clocked, clocked-faint, faint-clocks, cleared-faint, erased}
use Rattle.watchdog.proofs.Calm.{clock-disabled}
use Rattle.watchdog.proofs.Clear.{first, Commutes, Stores, clock-either, clock-cleared, cleared-twice}

-- ---- chains that are alike

-- the devices of the row, whatever is done to their individual values
pub ready-map : (w : Part) (f : Clocked → Clocked) → ((c : Clocked) → (registers_of (f c)).part ≡ (registers_of c).part) → (os : List Own) (cs : List Clocked)
    → Pairwise (Ready w) os (registers_in (devices_in cs)) → Pairwise (Ready w) os (registers_in (devices_in (map f cs)))
ready-map w f e [] [] b = tt
ready-map w f e [] (c ∷ cs) b = absurd b
ready-map w f e (o ∷ os) [] b = absurd b
ready-map w f e (o ∷ os) (c ∷ cs) b = ((b.0.0, e c ∙ b.0.1), ready-map w f e os cs b.1)

pub faint-map : (f : Clocked → Clocked) → ((c : Clocked) → faint (f c) ≡ faint c) → (cs : List Clocked) → map faint (map f cs) ≡ map faint cs
faint-map f e [] = refl
faint-map f e (c ∷ cs) = rw (e c, faint-map f e cs)

-- chains that are alike but for individual values stay so, device by device
pub faint-at : (cs ts : List Clocked) → map faint cs ≡ map faint ts → (i : ℕ) (c : Clocked) → faint (get_or cs i c) ≡ faint (get_or ts i c)
faint-at cs ts e i c = sym (ListN.get_or-map faint cs i c) ∙ ap (λ (us : List Clocked). get_or us i (faint c)) e ∙ ListN.get_or-map faint ts i c

pub run-alike : (cs ts : List Clocked) → map faint cs ≡ map faint ts → (ls : List State) → map faint (run_clocked cs ls).0 ≡ map faint (run_clocked ts ls).0
run-alike cs ts e ls =
    ap (λ r. r.0) (clocked-faint cs ls) ∙ ap (λ (us : List Clocked). (relays faint_clock us ls).0) e ∙ sym (ap (λ r. r.0) (clocked-faint ts ls))

pub cleared-part : (b : Bool) (c : Clocked) → (registers_of (cleared_if b c)).part ≡ (registers_of c).part
unfolding cleared
cleared-part true c = refl
cleared-part false c = refl

-- a device with other waiting MUX0 values
abbrev with_first : List ℕ → Clocked → Clocked
with_first v c = record {
  device =
      at (with_waiting (record { global = (registers_of c).waiting.global; mux0 = v; mux1 = (registers_of c).waiting.mux1 }) (registers_of c)) c.device.phase;
  position = c.position;
}

nothing-one : ◌≡◌ {A = List ℕ} [] (0 ∷ []) → ⊥
nothing-one e = omega (arith, ap length e)

-- ---- one device, at place i, from 0

module _ (w : Part) (os : List Own) (edge : Command → Edge) (gap tail : Command → List Bool) (last : List Bool) (ws : List Watched)
    (ready : Pairwise (Ready w) os (registers_in (devices_in (clocks_in ws)))) (i : ℕ) (z : Watched) (h : i < length os) where
  abbrev given : List State
  given = pieces_states w os edge gap tail ++ lows last

  abbrev cs : List Clocked
  cs = clocks_in ws

  abbrev c0 : Clocked
  c0 = z.clocked

  -- the clock of its individual slice
  abbrev clock_of : ℕ
  clock_of = states_until w os gap tail Individual (suc i)

  -- what it is sent in clock k, from 0
  abbrev sent : ℕ → List State
  sent k = sent_to faint_clock i (relays faint_clock (map faint cs) (take k given)).0 (get_or given k (low false) ∷ [])

  -- it after so many states, without watchdogs and with them
  abbrev four : List Clocked → ℕ → Clocked
  four ts k = get_or (run_clocked ts (take k given)).0 i c0

  abbrev watched : ℕ → Watched
  watched k = get_or (run_watched ws (take k given)).0 i z

  place : i < length cs
  place =
      let n : length (registers_in (devices_in cs)) ≡ length os = pairwise-length (Ready w) os (registers_in (devices_in cs)) ready in
      let m : length (registers_in (devices_in cs)) ≡ length (devices_in cs) = length-map (devices_in cs) (λ (d : Device). d.registers) in
      let q : length (devices_in cs) ≡ length cs = length-map cs (λ (c : Clocked). c.device) in
      omega arith

  place-watched : i < length ws
  place-watched = let q : length cs ≡ length ws = length-map ws (λ (u : Watched). u.clocked) in omega (arith, place)

  four-suc : (ts : List Clocked) → i < length ts → map faint ts ≡ map faint cs → (k : ℕ) → k < length given → four ts (suc k) ≡ (clock_device (four ts k) (sent k)).0
  four-suc ts p e k l =
      rw (relays-clocked ts (take (suc k) given), relays-clocked ts (take k given))
      at (place-through faint_clock clock_device faint clock-faint ts (map faint cs) e given i c0 p (low false) k l)

  watched-suc : (k : ℕ) → k < length given → watched (suc k) ≡ (clock_watched (watched k) (sent k)).0
  watched-suc k l = place-through faint_clock clock_watched faint_watched watched-faint ws (map faint cs) (faint-clocks ws) given i z place-watched (low false) k l

  clock-watched : (u : Watched) (x : List State) → (clock_watched u x).0.clocked ≡ cleared_if (expired (clock_watched u x).0.watch) (clock_device u.clocked x).0
  unfolding clock_watched
  clock-watched u x = refl

  watched-clear : (k : ℕ) → k < length given → (watched (suc k)).clocked ≡ cleared_if (expired (watched (suc k)).watch) (clock_device (watched k).clocked (sent k)).0
  watched-clear k l = rw (watched-suc k l) (clock-watched (watched k) (sent k))

  -- ---- before its individual slice has arrived

  -- with other waiting MUX0 values at the start
  abbrev other : List ℕ → List Clocked
  other v = map (with_first v) cs

  other_place : (v : List ℕ) → i < length (other v)
  other_place v = let n : length (other v) ≡ length cs = length-map cs (with_first v) in omega (arith, place)

  -- they still wait
  other-first : (v : List ℕ) (k : ℕ) → k < clock_of → k ≤ length given → first (four (other v) k) ≡ v
  other-first v k l m =
      let o : Own = get_or os i (record { configuration = 0; calibration = []; global = 0; individual = [] }) in
      let r : Pairwise (Ready w) os (registers_in (devices_in (other v))) = ready-map w (with_first v) (λ c. refl) os cs ready in
      let e : get_or (other v) i c0 ≡ with_first v (get_or cs i c0) = get_d_map (with_first v) cs i c0 c0 place in
      let a : leb clock_of k ≡ false = lt-leb clock_of k l in
      let g : first (four (other v) k) ≡ first (get_or (other v) i c0) = rw a at (cut w os edge gap tail last (other v) r i o c0 h k m).waiting.mux0 in
      g ∙ ap first e

  other-suc : (v : List ℕ) (k : ℕ) → suc k < clock_of → k < length given → Stores (four cs k) (sent k) → v ≡ first (clock_device (four cs k) (sent k)).0
  other-suc v k l m s =
      let e : map faint (other v) ≡ map faint cs = faint-map (with_first v) (λ c. refl) cs in
      let q : faint (four (other v) k) ≡ faint (four cs k) = faint-at (run_clocked (other v) (take k given)).0 (run_clocked cs (take k given)).0 (run-alike (other v) cs e (take k given)) i c0 in
      sym (other-first v (suc k) l (omega arith)) ∙ ap first (four-suc (other v) (other_place v) e k m) ∙ s (four (other v) k) q

  unstored : (k : ℕ) → suc k < clock_of → k < length given → Commutes (four cs k) (sent k)
  unstored k l m = by (clock-either (four cs k) (sent k))
    where
      by : Commutes (four cs k) (sent k) ⊎ Stores (four cs k) (sent k) → Commutes (four cs k) (sent k)
      by (inl e) = e
      by (inr s) = absurd (nothing-one (other-suc [] k l m s ∙ sym (other-suc (0 ∷ []) k l m s)))

  -- started from cleared registers
  abbrev cleared_all : Bool → List Clocked
  cleared_all b = map (cleared_if b) cs

  cleared-place : (b : Bool) → i < length (cleared_all b)
  cleared-place b = let n : length (cleared_all b) ≡ length cs = length-map cs (cleared_if b) in omega (arith, place)

  cleared-alike : (b : Bool) → map faint (cleared_all b) ≡ map faint cs
  cleared-alike b = faint-map (cleared_if b) (cleared-faint b) cs

  pub cleared-first : (b : Bool) → get_or (cleared_all b) i c0 ≡ cleared_if b (get_or cs i c0)
  cleared-first b = get_d_map (cleared_if b) cs i c0 c0 place

  four-clear : (b : Bool) (k : ℕ) → k < clock_of → k ≤ length given → four (cleared_all b) k ≡ cleared_if b (four cs k)
  unfolding run
  four-clear b zero l m = cleared-first b
  four-clear b (suc k) l m =
      four-suc (cleared_all b) (cleared-place b) (cleared-alike b) k (omega arith)
      ∙ ap (λ (c : Clocked). (clock_device c (sent k)).0) (four-clear b k (omega arith) (omega arith))
      ∙ clock-cleared b (four cs k) (sent k) (unstored k l (omega arith)) ∙ ap (cleared_if b) (sym (four-suc cs place refl k (omega arith)))

  -- it has expired within so many states
  abbrev has : ℕ → Bool
  has k = expired_within ws given k (suc i)

  expires-at : (k : ℕ) → expires ws given k (suc i) ≡ expired (watched k).watch
  expires-at k =
      let us : List Watched = (run_watched ws (take k given)).0 in
      let n : length us ≡ length ws = length-relays clock_watched ws (take k given) in
      let p : suc i - 1 ≡ i = omega arith in
      rw p (get_d_map (λ (u : Watched). expired u.watch) us i z false (omega (arith, place-watched)))

  watched-four : (k : ℕ) → k < clock_of → k ≤ length given → (watched k).clocked ≡ cleared_if (has k) (four cs k)
  unfolding run expired_within
  watched-four zero l m = sym (ListN.get_or-map (λ (u : Watched). u.clocked) ws i z)
  watched-four (suc k) l m =
      watched-clear k (omega arith)
      ∙ ap (λ (b : Bool). cleared_if b (clock_device (watched k).clocked (sent k)).0) (sym (expires-at (suc k)))
      ∙ ap (λ (c : Clocked). cleared_if (expires ws given (suc k) (suc i)) (clock_device c (sent k)).0) (watched-four k (omega arith) (omega arith))
      ∙ ap (cleared_if (expires ws given (suc k) (suc i))) (clock-cleared (has k) (four cs k) (sent k) (unstored k l (omega arith)))
      ∙ cleared-twice (expires ws given (suc k) (suc i)) (has k) (clock_device (four cs k) (sent k)).0
      ∙ ap (cleared_if (has (suc k))) (sym (four-suc cs place refl k (omega arith)))

  -- ---- from there on

  -- while it does not expire
  module _ (n : ℕ) (m : n ≤ length given) (calm : (clock : ℕ) → clock_of ≤ clock → clock ≤ n → expires ws given clock (suc i) ≡ false) where
    -- the clocks before its slice
    abbrev before : ℕ
    before = clock_of - 1

    abbrev since : ℕ → ℕ
    since zero = before
    since (suc j) = suc (since j)

    since-add : (j : ℕ) → since j ≡ before + j
    since-add zero = omega arith
    since-add (suc j) = omega (arith, since-add j)

    has-since : (j : ℕ) → since j ≤ n → has (since j) ≡ has before
    unfolding expired_within
    has-since zero l = refl
    has-since (suc j) l = rw (calm (since (suc j)) (omega (arith, since-add j)) l) (has-since j (omega arith))

    watched-since : (j : ℕ) → since j ≤ n → (watched (since j)).clocked ≡ four (cleared_all (has before)) (since j)
    watched-since zero l = watched-four before (omega arith) (omega arith) ∙ sym (four-clear (has before) before (omega arith) (omega arith))
    watched-since (suc j) l =
        let e : expired (watched (suc (since j))).watch ≡ false = sym (expires-at (suc (since j))) ∙ calm (suc (since j)) (omega (arith, since-add j)) l in
        watched-clear (since j) (omega arith)
        ∙ ap (λ (b : Bool). cleared_if b (clock_device (watched (since j)).clocked (sent (since j))).0) e
        ∙ ap (λ (c : Clocked). (clock_device c (sent (since j))).0) (watched-since j (omega arith))
        ∙ sym (four-suc (cleared_all (has before)) (cleared-place (has before)) (cleared-alike (has before)) (since j) (omega arith))

    -- Watched: after n states it is the device without watchdogs, started from cleared registers if it has expired within them
    pub watched-clocked : (watched n).clocked ≡ four (cleared_all (has n)) n
    watched-clocked = by (leb clock_of n) refl
      where
        by : (b : Bool) → leb clock_of n ≡ b → (watched n).clocked ≡ four (cleared_all (has n)) n
        by true e =
            let l : clock_of ≤ n = leb→le clock_of n (rw e tt) in
            let j : ℕ = n - before in
            let s : since j ≡ n = omega (arith, since-add j) in
            let a = rw s at (has-since j (omega arith)) in
            rw a (rw s at (watched-since j (omega arith)))
        by false e =
            let l : n < clock_of = nleb→lt clock_of n (rw e tt) in
            watched-four n l m ∙ sym (four-clear (has n) n l m)

  -- positions are those of the device without watchdogs, whatever expires
  pub watched-faintly : (b : Bool) (k : ℕ) → faint (watched k).clocked ≡ faint (four (cleared_all b) k)
  watched-faintly b k =
      let us : List Watched = (run_watched ws (take k given)).0 in
      ap faint (sym (ListN.get_or-map (λ (u : Watched). u.clocked) us i z))
      ∙ faint-at (clocks_in us) (run_clocked (cleared_all b) (take k given)).0 (erased ws (take k given) ∙ sym (run-alike (cleared_all b) cs (cleared-alike b) (take k given))) i c0

  -- ---- a watchdog whose enabling bit is clear

  watched-faint-four : (k : ℕ) → faint (watched k).clocked ≡ faint (four cs k)
  watched-faint-four k =
      let us : List Watched = (run_watched ws (take k given)).0 in
      ap faint (sym (ListN.get_or-map (λ (u : Watched). u.clocked) us i z)) ∙ faint-at (clocks_in us) (run_clocked cs (take k given)).0 (erased ws (take k given)) i c0

  -- the configuration is its own once that slice has arrived, else the old one
  watched-configuration : (o : Own) (k : ℕ) → k ≤ length given
      → (registers_of (watched k).clocked).configuration
      ≡ cond (leb (states_until w os gap tail Configuration (suc i)) k) (get_or os i o).configuration (registers_of (get_or ws i z).clocked).configuration
  watched-configuration o k l =
      let a : Bool = leb (states_until w os gap tail Configuration (suc i)) k in
      ap (λ (c : Clocked). (registers_of c).configuration) (watched-faint-four k) ∙ (cut w os edge gap tail last cs ready i o c0 h k l).configuration
      ∙ ap (λ (c : Clocked). cond a (get_or os i o).configuration (registers_of c).configuration) (ListN.get_or-map (λ (u : Watched). u.clocked) ws i z)

  -- no clock changes the bit and the limit
  watched-told : (k : ℕ) → k ≤ length given → ((watched k).watch.limit ≡ (get_or ws i z).watch.limit) × ((watched k).watch.bit ≡ (get_or ws i z).watch.bit)
  unfolding run clock_watched watching
  watched-told zero l = (refl, refl)
  watched-told (suc k) l = rw (watched-suc k (omega arith)) (watched-told k (omega arith))

  -- Idle: it does not expire in a clock at whose end it holds a configuration with the enabling bit clear
  pub watched-idle : (o : Own) (k : ℕ) → k < length given → 1 ≤ (get_or ws i z).watch.limit
      → enabled (get_or ws i z).watch
      (cond (leb (states_until w os gap tail Configuration (suc i)) (suc k)) (get_or os i o).configuration (registers_of (get_or ws i z).clocked).configuration) ≡ false
      → expires ws given (suc k) (suc i) ≡ false
  watched-idle o k l m e =
      let t = watched-told k (omega arith) in
      let u = watched-told (suc k) (omega arith) in
      let b : enabled (watched (suc k)).watch (registers_of (watched (suc k)).clocked).configuration ≡ false =
      rw (u.1, watched-configuration o (suc k) (omega arith)) e in
      expires-at (suc k)
      ∙ rw (watched-suc k l) (clock-disabled (watched k) (sent k) (rw t.0 m) (rw (watched-suc k l) at b))
