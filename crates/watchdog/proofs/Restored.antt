-- A restore of a chain with watchdogs. A device that expires in no clock from that of its own individual slice on is the device of a chain
-- without watchdogs, from cleared registers if it expired before (`watched-clocked`): what a whole restore leaves and what a cut leaves are
-- those of that chain, with 0 in place of old individual values. Assumes nothing.
use mathlib.Core.Path.{◌≡◌, refl, sym, ap, ◌∙◌}
use mathlib.Core.Bool.{Bool, true, false}
use mathlib.Core.List.{List, [], ◌∷◌, ◌++◌, map, append-nil}
use Prim.Native.Nat.{ℕ, zero, suc, ◌≤◌, ◌<◌}
use native.Mathlib.Omega.{arith}
use lib.Dec.{leb}
use lib.ListN.{length, length-map, take, get_or, get_or-map}
use lib.Seq.{take_all}
use Rattle.parts.specs.Parts.{Part}
use Rattle.parts.specs.Wire.{State, Edge, lows}
use Rattle.parts.specs.declared.command.Command.{Command}
use Rattle.parts.specs.declared.command.Command.TheVariants.{Individual}
use Rattle.machine.specs.Machine.{All}
use Rattle.machine.proofs.Machine.{length-relays}
use Rattle.model.specs.Lists.{Pairwise}
use Rattle.model.specs.Device.{Registers, Device, registers_in}
use Rattle.model.specs.Set.{Own}
use Rattle.model.specs.Restore.{pieces_states, states_until, RegistersHold}
use Rattle.model.proofs.Lists.{pairwise-length, pairwise-at}
use Rattle.model.proofs.Restore.{Ready}
use Rattle.clocked.specs.Clock.{Clocked, registers_of, length_in, Placed, Running, ReturnsWithin, next, run_clocked, devices_in, last_boundary}
use Rattle.clocked.specs.Cut.{CutClocked}
use Rattle.clocked.proofs.Cut.{cut}
use Rattle.clocked.proofs.Restored.{DueIn, restored-due, restored}
use Rattle.watchdog.specs.Watched.{Watched, clocks_in, cleared, cleared_if, clock_watched, run_watched, expires, expired_within, CalmFrom}
use Rattle.watchdog.specs.Faded.{faded, faint}
use Rattle.watchdog.proofs.Faint.{cleared-faint, erased}
use Rattle.watchdog.proofs.Device.{ready-map, faint-map, run-alike, cleared-part, cleared-first, watched-clocked, watched-faintly}

-- ---- what clearing leaves

cleared-faded : (b : Bool) (c : Clocked) → registers_of (cleared_if b c) ≡ faded b (registers_of c)
unfolding cleared
cleared-faded true c = refl
cleared-faded false c = refl

-- the next position, and when it returns to 0, are the same in devices that are alike but for individual values
next-alike : (c d : Clocked) → faint c ≡ faint d → next c ≡ next d
unfolding length_in
next-alike c d e = ap next e

all_alike : (P : Clocked → Type 0) → ((c : Clocked) → P c → P (faint c)) → ((c : Clocked) → P (faint c) → P c) → (cs ts : List Clocked) → map faint cs ≡ map faint ts → All P cs → All P ts
all_alike P to from cs ts e h = down ts (rw e at (up cs h))
  where
    up : (us : List Clocked) → All P us → All P (map faint us)
    up [] g = tt
    up (u ∷ us) g = (to u g.0, up us g.1)

    down : (us : List Clocked) → All P (map faint us) → All P us
    down [] g = tt
    down (u ∷ us) g = (from u g.0, down us g.1)

returns_alike : (n : ℕ) (cs ts : List Clocked) → map faint cs ≡ map faint ts → All (ReturnsWithin n) cs → All (ReturnsWithin n) ts
unfolding length_in
returns_alike n cs ts e h = all_alike (ReturnsWithin n) (λ c p. p) (λ c p. p) cs ts e h

placed_alike : (cs ts : List Clocked) → map faint cs ≡ map faint ts → All Placed cs → All Placed ts
unfolding length_in
placed_alike cs ts e h = all_alike Placed (λ c p. p) (λ c p. p) cs ts e h

last_boundary-alike : (f g : ℕ → Clocked) → ((n : ℕ) → next (f n) ≡ next (g n)) → (k : ℕ) → last_boundary f k ≡ last_boundary g k
unfolding last_boundary
last_boundary-alike f g e zero = refl
last_boundary-alike f g e (suc k) = rw (e k, last_boundary-alike f g e k)

-- related place by place
pairwise-places : {A B : Type 0} (R : A → B → Type 0) (xs : List A) (ys : List B) → length ys ≡ length xs → (a : A) (b : B)
    → ((i : ℕ) → i < length xs → R (get_or xs i a) (get_or ys i b)) → Pairwise R xs ys
pairwise-places R [] [] e a b h = tt
pairwise-places R [] (y ∷ ys) e a b h = absurd (omega arith)
pairwise-places R (x ∷ xs) [] e a b h = absurd (omega arith)
pairwise-places R (x ∷ xs) (y ∷ ys) e a b h = (h 0 (omega arith), pairwise-places R xs ys (omega arith) a b (λ i l. h (suc i) (omega arith)))

pub registers-at : (ts : List Clocked) (i : ℕ) (c : Clocked) → get_or (registers_in (devices_in ts)) i (registers_of c) ≡ registers_of (get_or ts i c)
registers-at ts i c =
    get_or-map (λ (d : Device). d.registers) (devices_in ts) i c.device ∙ ap (λ (d : Device). d.registers) (get_or-map (λ (c : Clocked). c.device) ts i c)

-- ---- the restore

-- devices of a row, in any phases, with any registers and watchdogs; os is each device's own
module _ (w : Part) (os : List Own) (edge : Command → Edge) (gap tail : Command → List Bool) (last : List Bool) (ws : List Watched)
    (ready : Pairwise (Ready w) os (registers_in (devices_in (clocks_in ws)))) where
  abbrev frames : List State
  frames = pieces_states w os edge gap tail

  -- the frames, and low clocks after them
  abbrev given : List State
  given = frames ++ lows last

  abbrev cleareds : Bool → List Clocked
  cleareds b = map (cleared_if b) (clocks_in ws)

  cleareds-ready : (b : Bool) → Pairwise (Ready w) os (registers_in (devices_in (cleareds b)))
  cleareds-ready b = ready-map w (cleared_if b) (cleared-part b) os (clocks_in ws) ready

  cleareds-alike : (b : Bool) → map faint (clocks_in ws) ≡ map faint (cleareds b)
  cleareds-alike b = sym (faint-map (cleared_if b) (cleared-faint b) (clocks_in ws))

  -- Cut: after k states, in the device at place i, from 0, that expires in no clock from that of its individual slice to the k-th
  pub cut-watched : (k i : ℕ) (o : Own) (z : Watched) → i < length os → k ≤ length (pieces_states w os edge gap tail ++ lows last)
      → ((clock : ℕ) → states_until w os gap tail Individual (suc i) ≤ clock → clock ≤ k → expires ws (pieces_states w os edge gap tail ++ lows last) clock (suc i) ≡ false)
      → let after : ℕ → Clocked = λ j. (get_or (run_watched ws (take j (pieces_states w os edge gap tail ++ lows last))).0 i z).clocked in
      CutClocked (λ c j. leb (states_until w os gap tail c (suc i)) j) k (last_boundary after k) (get_or os i o)
      (faded (expired_within ws (pieces_states w os edge gap tail ++ lows last) k (suc i)) (registers_of (get_or ws i z).clocked)) (registers_of (after k))
  cut-watched k i o z h l calm =
      let b : Bool = expired_within ws given k (suc i) in
      let after : ℕ → Clocked = λ j. (get_or (run_watched ws (take j given)).0 i z).clocked in
      let four : ℕ → Clocked = λ j. get_or (run_clocked (cleareds b) (take j given)).0 i z.clocked in
      let e : after k ≡ four k = watched-clocked w os edge gap tail last ws ready i z h k l calm in
      let f : registers_of (get_or (cleareds b) i z.clocked) ≡ faded b (registers_of (get_or ws i z).clocked) =
      ap registers_of (cleared-first w os edge gap tail last ws ready i z h b) ∙ cleared-faded b (get_or (clocks_in ws) i z.clocked)
      ∙ ap (λ (c : Clocked). faded b (registers_of c)) (get_or-map (λ (u : Watched). u.clocked) ws i z) in
      let n : last_boundary after k ≡ last_boundary four k =
      last_boundary-alike after four (λ j. next-alike (after j) (four j) (watched-faintly w os edge gap tail last ws ready i z h b j)) k in
      rw (n, e, ← f) (cut w os edge gap tail last (cleareds b) (cleareds-ready b) i o z.clocked h k l)

  module _ (some : 0 < length ws) (few : length ws < 1024) (running : Running w) (placed : All Placed (clocks_in ws))
      (calm : CalmFrom (states_until w os gap tail Individual) ws (pieces_states w os edge gap tail ++ lows last))
      (returns : All (ReturnsWithin (length last)) (clocks_in (run_watched ws (pieces_states w os edge gap tail)).0)) where
    length-cleareds : (b : Bool) → length (cleareds b) ≡ length ws
    length-cleareds b = length-map (clocks_in ws) (cleared_if b) ∙ length-map ws (λ (u : Watched). u.clocked)

    length-own : length os ≡ length ws
    length-own =
        let n : length (registers_in (devices_in (clocks_in ws))) ≡ length os = pairwise-length (Ready w) os (registers_in (devices_in (clocks_in ws))) ready in
        sym n ∙ length-map (devices_in (clocks_in ws)) (λ (d : Device). d.registers) ∙ length-map (clocks_in ws) (λ (c : Clocked). c.device)
        ∙ length-map ws (λ (u : Watched). u.clocked)

    -- without watchdogs, from cleared registers
    restored-four : (b : Bool) → Pairwise RegistersHold os (registers_in (devices_in (run_clocked (cleareds b) given).0))
    restored-four b =
        let n : length (cleareds b) ≡ length ws = length-cleareds b in
        let e : map faint (clocks_in (run_watched ws frames).0) ≡ map faint (run_clocked (cleareds b) frames).0 =
        erased ws frames ∙ run-alike (clocks_in ws) (cleareds b) (cleareds-alike b) frames in
        restored w os edge gap tail (cleareds b) (omega arith) (omega arith) running (cleareds-ready b)
        (placed_alike (clocks_in ws) (cleareds b) (cleareds-alike b) placed) last
        (returns_alike (length last) (clocks_in (run_watched ws frames).0) (run_clocked (cleareds b) frames).0 e returns)

    restored_at : (o : Own) (z : Watched) (i : ℕ) → i < length os
        → RegistersHold (get_or os i o) (get_or (registers_in (devices_in (clocks_in (run_watched ws given).0))) i (registers_of z.clocked))
    restored_at o z i h =
        let n : ℕ = length given in
        let b : Bool = expired_within ws given n (suc i) in
        let us : List Watched = (run_watched ws given).0 in
        let ts : List Clocked = (run_clocked (cleareds b) given).0 in
        let q : (clock : ℕ) → states_until w os gap tail Individual (suc i) ≤ clock → clock ≤ n → expires ws given clock (suc i) ≡ false =
        λ clock l m. calm (suc i) clock (omega arith) (omega (arith, length-own)) l m in
        let e : (get_or us i z).clocked ≡ get_or ts i z.clocked =
        rw (take_all n given (omega arith)) at (watched-clocked w os edge gap tail last ws ready i z h n (omega arith) q) in
        let f : get_or (registers_in (devices_in (clocks_in us))) i (registers_of z.clocked) ≡ get_or (registers_in (devices_in ts)) i (registers_of z.clocked) =
        registers-at (clocks_in us) i z.clocked ∙ ap registers_of (get_or-map (λ (u : Watched). u.clocked) us i z ∙ e) ∙ sym (registers-at ts i z.clocked) in
        rw f (pairwise-at RegistersHold os (registers_in (devices_in ts)) i o (registers_of z.clocked) h (restored-four b))

    length-ends : length (registers_in (devices_in (clocks_in (run_watched ws given).0))) ≡ length os
    length-ends =
        let us : List Watched = (run_watched ws given).0 in
        length-map (devices_in (clocks_in us)) (λ (d : Device). d.registers) ∙ length-map (clocks_in us) (λ (c : Clocked). c.device)
        ∙ length-map us (λ (u : Watched). u.clocked) ∙ length-relays clock_watched ws given ∙ sym length-own

    -- Restored: each device expires in no clock from that of its individual slice to the last, by which each position has next returned to 0
    pub restored-watched : Pairwise RegistersHold os (registers_in (devices_in (clocks_in (run_watched ws (pieces_states w os edge gap tail ++ lows last)).0)))
    restored-watched = by ws (omega arith)
      where
        by : (vs : List Watched) → 0 < length vs → Pairwise RegistersHold os (registers_in (devices_in (clocks_in (run_watched ws given).0)))
        by [] l = absurd (omega arith)
        by (z ∷ vs) l =
            let o : Own = record { configuration = 0; calibration = []; global = 0; individual = [] } in
            pairwise-places RegistersHold os (registers_in (devices_in (clocks_in (run_watched ws given).0))) length-ends o (registers_of z.clocked) (restored_at o z)

-- ---- what is due after the frames

module _ (w : Part) (os : List Own) (edge : Command → Edge) (gap tail : Command → List Bool) (ws : List Watched)
    (ready : Pairwise (Ready w) os (registers_in (devices_in (clocks_in ws)))) (some : 0 < length ws) (few : length ws < 1024) (running : Running w)
    (placed : All Placed (clocks_in ws)) (calm : CalmFrom (states_until w os gap tail Individual) ws (pieces_states w os edge gap tail)) (m : ℕ)
    (returns : All (ReturnsWithin m) (clocks_in (run_watched ws (pieces_states w os edge gap tail)).0)) where
  abbrev ends : List Watched
  ends = (run_watched ws (pieces_states w os edge gap tail)).0

  due-four : (b : Bool) → Pairwise (DueIn m) os (run_clocked (map (cleared_if b) (clocks_in ws)) (pieces_states w os edge gap tail)).0
  due-four b =
      let frames : List State = pieces_states w os edge gap tail in
      let cs : List Clocked = map (cleared_if b) (clocks_in ws) in
      let a : map faint (clocks_in ws) ≡ map faint cs = sym (faint-map (cleared_if b) (cleared-faint b) (clocks_in ws)) in
      let n : length cs ≡ length ws = length-map (clocks_in ws) (cleared_if b) ∙ length-map ws (λ (u : Watched). u.clocked) in
      let e : map faint (clocks_in ends) ≡ map faint (run_clocked cs frames).0 = erased ws frames ∙ run-alike (clocks_in ws) cs a frames in
      restored-due w os edge gap tail cs (omega arith) (omega arith) running (ready-map w (cleared_if b) (cleared-part b) os (clocks_in ws) ready)
      (placed_alike (clocks_in ws) cs a placed) m (returns_alike m (clocks_in ends) (run_clocked cs frames).0 e returns)

  length-due : (length os ≡ length ws) × (length (clocks_in ends) ≡ length os)
  length-due =
      let n : length os ≡ length ws =
      sym (pairwise-length (Ready w) os (registers_in (devices_in (clocks_in ws))) ready) ∙ length-map (devices_in (clocks_in ws)) (λ (d : Device). d.registers)
      ∙ length-map (clocks_in ws) (λ (c : Clocked). c.device) ∙ length-map ws (λ (u : Watched). u.clocked) in
      (n, length-map ends (λ (u : Watched). u.clocked) ∙ length-relays clock_watched ws (pieces_states w os edge gap tail) ∙ sym n)

  due-at : (o : Own) (z : Watched) (i : ℕ) → i < length os → DueIn m (get_or os i o) (get_or (clocks_in ends) i z.clocked)
  due-at o z i h =
      let frames : List State = pieces_states w os edge gap tail in
      let n : ℕ = length (frames ++ lows []) in
      let f : frames ++ lows [] ≡ frames = append-nil frames in
      let b : Bool = expired_within ws (frames ++ lows []) n (suc i) in
      let ts : List Clocked = (run_clocked (map (cleared_if b) (clocks_in ws)) frames).0 in
      let q : (clock : ℕ) → states_until w os gap tail Individual (suc i) ≤ clock → clock ≤ n → expires ws (frames ++ lows []) clock (suc i) ≡ false =
      λ clock l k. rw f (calm (suc i) clock (omega arith) (omega (arith, length-due.0)) l (rw f at k)) in
      let t : take n (frames ++ lows []) ≡ frames = take_all n (frames ++ lows []) (omega arith) ∙ f in
      let e : (get_or ends i z).clocked ≡ get_or ts i z.clocked = rw t at (watched-clocked w os edge gap tail [] ws ready i z h n (omega arith) q) in
      rw (get_or-map (λ (u : Watched). u.clocked) ends i z, e) (pairwise-at (DueIn m) os ts i o z.clocked h (due-four b))

  -- Due: each device expires in no clock of the frames from that of its individual slice on; then each device's own waits, and is active within m clocks
  pub due-watched : Pairwise (DueIn m) os (clocks_in (run_watched ws (pieces_states w os edge gap tail)).0)
  due-watched = by ws (omega arith)
    where
      by : (vs : List Watched) → 0 < length vs → Pairwise (DueIn m) os (clocks_in ends)
      by [] l = absurd (omega arith)
      by (z ∷ vs) l =
          let o : Own = record { configuration = 0; calibration = []; global = 0; individual = [] } in
          pairwise-places (DueIn m) os (clocks_in ends) length-due.1 o z.clocked (due-at o z)

-- ---- the premises of the two claims

-- devices that expire in no clock from one on expire in none from a later one on
pub calm-later : (from later : ℕ → ℕ) → ((device : ℕ) → from device ≤ later device) → (ws : List Watched) (ls : List State) → CalmFrom from ws ls → CalmFrom later ws ls
calm-later from later h ws ls calm device clock l m n k = calm device clock l m (omega (arith, h device)) k

-- a device that expires in no clock has expired within none
pub within-calm : (from : ℕ → ℕ) (ws : List Watched) (ls : List State) → CalmFrom from ws ls → (device : ℕ) → 1 ≤ device → device ≤ length ws → from device ≤ 1
    → (k : ℕ) → k ≤ length ls → expired_within ws ls k device ≡ false
unfolding expired_within
within-calm from ws ls calm device l m f zero h = refl
within-calm from ws ls calm device l m f (suc k) h = rw (calm device (suc k) l m (omega arith) h) (within-calm from ws ls calm device l m f k (omega arith))

-- and then old registers are old
pub faded-none : (r : Registers) → faded false r ≡ r
faded-none r = refl
