-- A run by its front is the late run, in which a device takes all that it is sent in a clock at once: each turn leaves what is still to come as it was. Between
-- turns the devices are those before the front, which pass and whose watchdogs have heard the high states at hand already, and the rest; what the first ones
-- send of the states left, after a header under way, goes into the rest.
use mathlib.Core.Path.{◌≡◌, refl, ap, sym, ◌∙◌, subst}
use mathlib.Core.Bool.{Bool, true, false, cond, true≢false}
use mathlib.Core.List.{List, [], ◌∷◌, ◌++◌, map, flatten, append_assoc}
use Prim.Native.Nat.{ℕ, zero, suc, ◌+◌, ◌-◌, ◌^◌, ◌<◌, ◌≤◌}
use native.Mathlib.Omega.{arith}
use lib.Dec.{ltb, leb}
use lib.ListN.{length, get_or, set, take, drop, length-map, length-append, length-drop, take-append-drop}
use lib.Seq.{set_at, set-get_or, get_or_at, get_or-drop, drop-drop, drop-append_seam, length-take-le}
use borrow.Author.Tests.{ltb-true, ltb-false, leb-true, leb-false}
use Rattle.machine.specs.Machine.{chain}
use Rattle.machine.proofs.Machine.{run-then, chain-empty, chain-nil, chain-devices}
use Rattle.parts.specs.Wire.{header, states_of}
use Rattle.parts.specs.declared.command.Command.{Command}
use Rattle.phases.specs.Phases.{phase_of, place_of}
use Rattle.device.specs.Judgement.{contents_fit, fits, place_fits}
use Rattle.phases.specs.declared.phase.Place.{Place}
use Rattle.phases.specs.declared.phase.Phase.{Phase}
use Rattle.phases.specs.declared.phase.Phase.TheVariants.{Hunting, Opening, Counting, Slice, Passing, Lost}
use Rattle.phases.specs.declared.phase.Sent.{Sent}
use Rattle.phases.specs.declared.phase.Sent.TheVariants.{Nothing, One, Header}
use Rattle.registers.specs.declared.registers.Registers.{Registers}
use Rattle.device.specs.declared.device.Device.{Device}
use Rattle.device.proofs.Places.{place-phase}
use Rattle.intake.specs.Intake.{Taken, stopped, high_taken, progress_of, highs_end}
use Rattle.intake.proofs.Settled.{Settles, settled-high}
use Rattle.watch.specs.Watch.{load_bit}
use Rattle.watch.specs.Kept.{listened}
use Rattle.watch.specs.declared.ear.Ear.{Ear}
use Rattle.watch.proofs.Ears.{Right, Loaded, right-none, right-later}
use Rattle.watch.proofs.Clocks.{listened-append, listened-bit}
use Rattle.watch.specs.declared.kept.Listened.{Listened}
use Rattle.turns.specs.Watching.{is_on, hearing, watched_turn}
use Rattle.turns.proofs.Onward.{watched_taken, Ahead, right_from, watched-turn, watched-ear}
use Rattle.calls.specs.Chain.{all_fit, blank}
use Rattle.cursor.specs.declared.cursor.Cursor.{Cursor}
use Rattle.cursor.specs.Cursor.{index_of, cursor, turn_by_state, next_turn}
use Rattle.turns.specs.Front.{is_passing, passes, phase_run, phase_taken, front_taken, slice_start, after_header, device_taken, put_all, put_end, high_count, front_after}
use Rattle.turns.specs.Front.{leave_cursor, leave_out, device_turn, front_watched, turn_taken, turned_out, Running, turning, turns, started, enough, front_run, Turned}
use Rattle.turns.proofs.LeavingStates.{put_full, length-put, put-append, high_count-fit, length-header-states, highs_end-high_count}
use Rattle.turns.proofs.Timed.{timed}
use Rattle.turns.proofs.Taking.{High, AllPass, passer, Takes, takes_none, takes, takes_low, Ending, quiet, sent, endings, ending-low}
use Rattle.turns.proofs.Hearing.{hearing-after, hearing-on}
use Rattle.turns.proofs.Late.{Packet, singles, step_late, run_late, relay_late, states_in, singles-none, singles-append, states-append, states-singles}
use Rattle.turns.proofs.Stores.{StoresLast, stores-last}
use Rattle.turns.proofs.Passing.{AllHigh, passed, passed-all, relay-pass}
use Rattle.turns.proofs.Served.{under_way, heard_before, ins-late, ServedStore, served-quiet, served-stores, served-passes}
use Rattle.turns.proofs.Turns.{no_way, owed, low-front, leave_turn, turn_within, turned-is, turned-out-is, within-later, next_turn-range, Good, measure, good_start, good-next, nearer-next, turns-on, turns-stop, near-start, under, IsNext, leave-under}
use Rattle.tables.specs.Lists.{all_below}
use Rattle.tables.proofs.Booleans.{and_left, and_right, and_both, cond_both}

abbrev Whole : Type 0
Whole = List Device × List Packet

-- what is written, and where it ends
abbrev wrote : List ℕ → ℕ → List ℕ → List ℕ × ℕ
wrote ws w xs = (put_all ws w xs, put_end (length ws) w (length xs))

abbrev header_states : Command → ℕ → List ℕ
header_states c n = states_of (header c n)

-- the devices a has run; what it sent, after q, goes into qs
abbrev joined : Whole → List Device → List Packet → Whole
joined a qs q = (a.0 ++ (relay_late qs (q ++ a.1)).0, (relay_late qs (q ++ a.1)).1)

abbrev mid : Whole → Device → List Packet → List Device → Whole
mid a e q qs = (a.0 ++ ((run_late e a.1).0 ∷ (relay_late qs (q ++ (run_late e a.1).1)).0), (relay_late qs (q ++ (run_late e a.1).1)).1)

here : (a : Whole) (e : Device) (qs : List Device) → joined a (e ∷ qs) [] ≡ mid a e [] qs
unfolding chain
here a e qs = refl

one-device : (e : Device) (xs : List Packet) → relay_late (e ∷ []) xs ≡ ((run_late e xs).0 ∷ [], (run_late e xs).1)
unfolding chain
one-device e xs = refl

moves-on : (ps : List Device) (e : Device) (qs : List Device) (q rest : List Packet) → joined (relay_late (ps ++ (e ∷ [])) rest) qs q ≡ mid (relay_late ps rest) e q qs
moves-on ps e qs q rest =
    ap (λ (a : Whole). joined a qs q) (chain-devices step_late ps (e ∷ []) rest)
    ∙ ap (λ (b : Whole). joined ((relay_late ps rest).0 ++ b.0, b.1) qs q) (one-device e (relay_late ps rest).1)
    ∙ ap (λ (ds : List Device). (ds, (relay_late qs (q ++ (run_late e (relay_late ps rest).1).1)).1))
    (append_assoc (relay_late ps rest).0 ((run_late e (relay_late ps rest).1).0 ∷ []) (relay_late qs (q ++ (run_late e (relay_late ps rest).1).1)).0)

-- ---- high states

high-all : (k : ℕ) (ss : List ℕ) → High (timed k ss) → AllHigh ss
unfolding timed
high-all k [] h = AllHigh.none
high-all k (s ∷ ss) (High.also e h) = AllHigh.also e (high-all (k + 1) ss h)

-- those at the front of a list
abbrev highs_of : List ℕ → List ℕ
highs_of xs = take (high_count xs) xs

highs-all : (xs : List ℕ) → AllHigh (highs_of xs)
unfolding high_count
highs-all [] = AllHigh.none
highs-all (x ∷ xs) = go (highs-all xs) (ltb x 2) refl
  where
    one : (n : ℕ) → suc n ≡ n + 1
    one n = omega arith

    go : AllHigh (highs_of xs) → (t : Bool) → ltb x 2 ≡ t → AllHigh (take (cond t 0 (high_count xs + 1)) (x ∷ xs))
    go r true e = AllHigh.none
    go r false e = subst (λ (n : ℕ). AllHigh (take n (x ∷ xs))) (one (high_count xs)) (AllHigh.also e r)

-- high states and more
highs-append : (hs xs : List ℕ) → AllHigh hs → high_count (hs ++ xs) ≡ length hs + high_count xs
unfolding high_count
highs-append [] xs AllHigh.none = omega arith
highs-append (h ∷ hs) xs (AllHigh.also e a) = ap (λ (t : Bool). cond t 0 (high_count (hs ++ xs) + 1)) e ∙ omega (arith, highs-append hs xs a)

highs_of-append : (hs xs : List ℕ) → AllHigh hs → highs_of (hs ++ xs) ≡ hs ++ highs_of xs
highs_of-append hs xs a = ap (λ (n : ℕ). take n (hs ++ xs)) (highs-append hs xs a) ∙ go hs
  where
    go : (ys : List ℕ) → take (length ys + high_count xs) (ys ++ xs) ≡ ys ++ highs_of xs
    go [] = let e : 0 + high_count xs ≡ high_count xs = omega arith in ap (λ (n : ℕ). take n xs) e
    go (y ∷ ys) =
        let e : length (y ∷ ys) + high_count xs ≡ suc (length ys + high_count xs) = omega arith in
        ap (λ (n : ℕ). take n (y ∷ ys ++ xs)) e ∙ ap (λ (zs : List ℕ). y ∷ zs) (go ys)

-- after them none is left
highs-over : (xs : List ℕ) → high_count (drop (high_count xs) xs) ≡ 0
unfolding high_count
highs-over [] = refl
highs-over (x ∷ xs) = go (highs-over xs) (ltb x 2) refl
  where
    one : (n : ℕ) → n + 1 ≡ suc n
    one n = omega arith

    go : high_count (drop (high_count xs) xs) ≡ 0 → (t : Bool) → ltb x 2 ≡ t → high_count (drop (cond t 0 (high_count xs + 1)) (x ∷ xs)) ≡ 0
    go r true e = ap (λ (t : Bool). cond t 0 (high_count xs + 1)) e
    go r false e = ap (λ (n : ℕ). high_count (drop n (x ∷ xs))) (one (high_count xs)) ∙ r

-- a low state stands first
highs-low : (s : ℕ) (xs : List ℕ) → ltb s 2 ≡ true → high_count (s ∷ xs) ≡ 0
unfolding high_count
highs-low s xs e = ap (λ (t : Bool). cond t 0 (high_count xs + 1)) e

-- ---- states at high load

below-drop : (k : ℕ) (xs : List ℕ) → all_below xs 4 ≡ true → all_below (drop k xs) 4 ≡ true
below-drop zero xs h = h
below-drop (suc k) [] h = h
below-drop (suc k) (x ∷ xs) h = below-drop k xs (and_right (ltb x 4) (all_below xs 4) h)

loaded-one : (s : ℕ) → ltb s 4 ≡ true → ltb s 2 ≡ false → load_bit s ≡ 1
loaded-one s h g = omega (arith, ltb-true s 4 h, ltb-false s 2 g)

highs-loaded : (xs : List ℕ) → all_below xs 4 ≡ true → Loaded (highs_of xs)
unfolding high_count
highs-loaded [] h = tt
highs-loaded (x ∷ xs) h = go (highs-loaded xs (and_right (ltb x 4) (all_below xs 4) h)) (ltb x 2) refl
  where
    one : (n : ℕ) → suc n ≡ n + 1
    one n = omega arith

    go : Loaded (highs_of xs) → (t : Bool) → ltb x 2 ≡ t → Loaded (take (cond t 0 (high_count xs + 1)) (x ∷ xs))
    go r true e = tt
    go r false e = subst (λ (n : ℕ). Loaded (take n (x ∷ xs))) (one (high_count xs)) (loaded-one x (and_left (ltb x 4) (all_below xs 4) h) e, r)

last-loaded : (init rest : List ℕ) (last : ℕ) → all_below (init ++ last ∷ rest) 4 ≡ true → AllHigh (init ++ last ∷ []) → load_bit last ≡ 1
last-loaded [] rest last h (AllHigh.also e a) = loaded-one last (and_left (ltb last 4) (all_below rest 4) h) e
last-loaded (x ∷ init) rest last h (AllHigh.also e a) = last-loaded init rest last (and_right (ltb x 4) (all_below (init ++ last ∷ rest) 4) h) a

-- a high state stands first
highs-some : (s : ℕ) (xs : List ℕ) → ltb s 2 ≡ false → high_count (s ∷ xs) ≡ high_count xs + 1
unfolding high_count
highs-some s xs e = ap (λ (t : Bool). cond t 0 (high_count xs + 1)) e

-- what a device has heard that passed high states, and then more of them
passed-append : (k : ℕ) (xs ys : List ℕ) (d : Device) → passed (k + length xs) ys (passed k xs d) ≡ passed k (xs ++ ys) d
passed-append k xs ys d =
    let r : Registers = d.registers in
    let a : Listened = listened (is_on r) k xs r.watch in
    ap (λ (o : Bool). hearing (listened o (k + length xs) ys a.watch) (hearing a d)) (hearing-on a r (listened-bit (is_on r) k xs r.watch))
    ∙ hearing-after a (listened (is_on r) (k + length xs) ys a.watch) d
    ∙ ap (λ (b : Listened). hearing b d) (sym (listened-append (is_on r) k xs ys r.watch))

passed_none : (k : ℕ) (d : Device) → passed k [] d ≡ d
unfolding listened
passed_none k d = refl

passeds-none : (k : ℕ) (hs : List ℕ) (ps : List Device) → hs ≡ [] → map (passed k hs) ps ≡ ps
passeds-none k hs [] e = refl
passeds-none k hs (p ∷ ps) e =
    ap (λ (xs : List ℕ). passed k xs p ∷ map (passed k hs) ps) e ∙ ap (λ (x : Device). x ∷ map (passed k hs) ps) (passed_none k p) ∙ ap (λ (qs : List Device). p ∷ qs) (passeds-none k hs ps e)

passeds-append : (k : ℕ) (xs ys : List ℕ) (ps : List Device) → map (passed (k + length xs) ys) (map (passed k xs) ps) ≡ map (passed k (xs ++ ys)) ps
passeds-append k xs ys [] = refl
passeds-append k xs ys (p ∷ ps) =
    ap (λ (x : Device). x ∷ map (passed (k + length xs) ys) (map (passed k xs) ps)) (passed-append k xs ys p) ∙ ap (λ (qs : List Device). passed k (xs ++ ys) p ∷ qs) (passeds-append k xs ys ps)

-- the states that a device takes go by the devices before it, which pass: there are none, or the states are high
goes_by : (low : Bool) (ps : List Device) (own rest : List ℕ) (k : ℕ) → AllPass ps → (low ≡ true → ps ≡ []) → (low ≡ false → AllHigh own)
    → relay_late ps (singles k (own ++ rest))
    ≡ ((relay_late (map (passed k own) ps) (singles (k + length own) rest)).0, singles k own ++ (relay_late (map (passed k own) ps) (singles (k + length own) rest)).1)
goes_by low ps own rest k a h g = ap (relay_late ps) (singles-append k own rest) ∙ by low refl
  where
    rest_of : List Packet
    rest_of = singles (k + length own) rest

    by : (b : Bool) → low ≡ b → relay_late ps (singles k own ++ rest_of) ≡ ((relay_late (map (passed k own) ps) rest_of).0, singles k own ++ (relay_late (map (passed k own) ps) rest_of).1)
    by true e =
        subst (λ (bs : List Device). relay_late bs (singles k own ++ rest_of) ≡ ((relay_late (map (passed k own) bs) rest_of).0, singles k own ++ (relay_late (map (passed k own) bs) rest_of).1))
        (sym (h e)) (chain-empty step_late _ ∙ ap (λ (y : Whole). (y.0, singles k own ++ y.1)) (sym (chain-empty step_late rest_of)))
    by false e = relay-pass ps k own rest_of a (g e)

-- a device takes what is under way and then states
takes-on : (ps qs : List Device) (d d0 e : Device) (ins out : List Packet) (own rest : List ℕ) (k : ℕ) (low : Bool) → AllPass ps → (low ≡ true → ps ≡ []) → (low ≡ false → AllHigh own)
    → run_late d ins ≡ (d0, []) → run_late d0 (singles k own) ≡ (e, out)
    → joined (relay_late ps (singles k (own ++ rest))) (d ∷ qs) ins ≡ mid (relay_late (map (passed k own) ps) (singles (k + length own) rest)) e out qs
unfolding chain
takes-on ps qs d d0 e ins out own rest k low a f g h x =
    let A : Whole = relay_late (map (passed k own) ps) (singles (k + length own) rest) in
    ap (λ (b : Whole). joined b (d ∷ qs) ins) (goes_by low ps own rest k a f g)
    ∙ ap (λ (y : Device × List Packet). (A.0 ++ (y.0 ∷ (relay_late qs y.1).0), (relay_late qs y.1).1))
    (run-then step_late d ins (singles k own ++ A.1) h (run-then step_late d0 (singles k own) A.1 x refl))

-- ---- what holds between turns
-- a record that passes has the numbers of that phase alone
abbrev pub Neat : Device → Type 0
Neat d = passes d ≡ true → d ≡ passer d.registers

abbrev pub AllNeat : List Device → Type 0
AllNeat [] = Unit {0}
AllNeat (d ∷ ds) = Neat d × AllNeat ds

neat-append : (ps qs : List Device) → AllPass ps → AllNeat qs → AllNeat (ps ++ qs)
neat-append [] qs AllPass.none h = h
neat-append (d ∷ ps) qs (AllPass.also a) h = (λ _. refl, neat-append ps qs a h)

no_more : (qs : List Device) → length qs ≡ 0 → qs ≡ []
no_more [] e = refl
no_more (q ∷ qs) e = absurd (omega (arith, e))

Small : Sent → Type 0
Small Nothing = Unit {0}
Small (One b) = Unit {0}
Small (Header c n) = n < 1024

small-header : (p : Sent) → Small p → (c : Command) (n : ℕ) → p ≡ Header c n → n < 1024
unfolding Small
small-header Nothing s c n e = absurd (no_way (ap is_header e))
  where
    is_header : Sent → Bool
    is_header Nothing = false
    is_header (One b) = false
    is_header (Header c n) = true
small-header (One b) s c n e = absurd (no_way (ap is_header e))
  where
    is_header : Sent → Bool
    is_header Nothing = false
    is_header (One b) = false
    is_header (Header c n) = true
small-header (Header a m) s c n e = subst (λ (x : ℕ). x < 1024) (ap count e) s
  where
    count : Sent → ℕ
    count Nothing = 0
    count (One b) = 0
    count (Header c n) = n

module _ (ss : List ℕ) (fin : List Device × (List ℕ × ℕ)) (short : length ss < 2 ^ 63) (below : all_below ss 4 ≡ true) where
  -- the states from a place on, each in its clock
  abbrev ahead : ℕ → List Packet
  ahead at = singles at (drop at ss)

  -- the high states at a place
  abbrev highs : ℕ → List ℕ
  highs at = highs_of (drop at ss)

  -- the devices before the front have heard these already: ps is what they are but for that
  record Invariant (ys : List Device) (ws : List ℕ) (f at w : ℕ) (p : Sent) : Type 0 where
    pub ps : List Device
    pub qs : List Device
    pub split : ys ≡ map (passed at (highs at)) ps ++ qs
    pub count : length ps ≡ f
    pub passing : AllPass ps
    pub neat : AllNeat qs
    pub small : Small p
    pub devices : (joined (relay_late ps (ahead at)) qs (under_way at p)).0 ≡ fin.0
    pub out : wrote ws w (states_in (joined (relay_late ps (ahead at)) qs (under_way at p)).1) ≡ fin.1

  pass-more : (ps : List Device) (r : Registers) → AllPass ps → AllPass (ps ++ (passer r ∷ []))
  pass-more [] r a = AllPass.also a
  pass-more (d ∷ ps) r (AllPass.also a) = AllPass.also (pass-more ps r a)

  left : (at k : ℕ) (hs rest : List ℕ) → drop at ss ≡ hs ++ rest → k ≡ at + length hs → drop k ss ≡ rest
  left at k hs rest e h =
      ap (λ (n : ℕ). drop n ss) h ∙ sym (drop-drop (length hs) at ss) ∙ ap (λ (xs : List ℕ). drop (length hs) xs) e ∙ drop-append_seam hs rest

  -- where a turn of the front device begins: the devices before it, the device with what is under way to it, those after it, the room, and
  -- the places of the front, the next state and the next one returned
  record Front : Type 0 where
    pub ps : List Device
    pub d : Device
    pub qs : List Device
    pub p : Sent
    pub ws : List ℕ
    pub f : ℕ
    pub at : ℕ
    pub w : ℕ
    pub end : ℕ
    pub ear : Ear
    pub count : length ps ≡ f
    pub passing : AllPass ps
    pub neat : AllNeat (d ∷ qs)
    pub small : Small p
    pub ends : end ≡ at + high_count (drop at ss)
    pub within : at ≤ length ss
    pub right : Right ss (at + 1) ear
    pub devices : (joined (relay_late ps (ahead at)) (d ∷ qs) (under_way at p)).0 ≡ fin.0
    pub out : wrote ws w (states_in (joined (relay_late ps (ahead at)) (d ∷ qs) (under_way at p)).1) ≡ fin.1

  -- the records before a turn
  abbrev records_of : Front → List Device
  records_of b = map (passed b.at (highs b.at)) b.ps ++ b.d ∷ b.qs

  -- what the turn makes of the front device that got so far
  abbrev watched_in : Front → Taken → Device
  watched_in b t = (watched_turn b.d b.p (progress_of t) b.ear ss b.at b.end).device

  -- the ear that it leaves is right
  abbrev RightAfter : Front → Taken → Type 0
  RightAfter b t = Right ss (t.at + 1) (watched_turn b.d b.p (progress_of t) b.ear ss b.at b.end).ear

  -- the front device became that
  InvariantTaken : Front → Taken → Type 0
  InvariantTaken b t = Invariant (set (records_of b) b.f (watched_in b t)) b.ws (front_after b.f t.sent) t.at b.w t.sent × RightAfter b t

  -- what those before the front have heard goes on over the states that were taken
  heard-on : (b : Front) (own rest : List ℕ) (k : ℕ) → drop b.at ss ≡ own ++ rest → k ≡ b.at + length own → AllHigh own
      → map (passed b.at (highs b.at)) b.ps ≡ map (passed k (highs k)) (map (passed b.at own) b.ps)
  heard-on b own rest k e h a =
      let r : drop k ss ≡ rest = left b.at k own rest e h in
      ap (λ (xs : List ℕ). map (passed b.at xs) b.ps) (ap highs_of e ∙ highs_of-append own rest a)
      ∙ sym (passeds-append b.at own (highs_of rest) b.ps)
      ∙ ap (λ (n : ℕ). map (passed n (highs_of rest)) (map (passed b.at own) b.ps)) (sym h)
      ∙ ap (λ (xs : List ℕ). map (passed k (highs_of xs)) (map (passed b.at own) b.ps)) (sym r)

  -- the same where low states may be among them, as there is then no device before the front
  heard-by : (low : Bool) (b : Front) (own rest : List ℕ) (k : ℕ) → (low ≡ true → b.ps ≡ []) → (low ≡ false → AllHigh own) → drop b.at ss ≡ own ++ rest → k ≡ b.at + length own
      → map (passed b.at (highs b.at)) b.ps ≡ map (passed k (highs k)) (map (passed b.at own) b.ps)
  heard-by low b own rest k z g e h = by low refl
    where
      by : (l : Bool) → low ≡ l → map (passed b.at (highs b.at)) b.ps ≡ map (passed k (highs k)) (map (passed b.at own) b.ps)
      by true q = subst (λ (bs : List Device). map (passed b.at (highs b.at)) bs ≡ map (passed k (highs k)) (map (passed b.at own) bs)) (sym (z q)) refl
      by false q = heard-on b own rest k e h (g q)

  count-heard : (b : Front) (k : ℕ) (hs : List ℕ) → length (map (passed k hs) b.ps) ≡ b.f
  count-heard b k hs = length-map b.ps (passed k hs) ∙ b.count

  -- it becomes e and sends nothing
  stays : (low : Bool) (b : Front) (e : Device) (k : ℕ) → (low ≡ true → b.ps ≡ []) → Neat (watched_in b (stopped e k Nothing)) → Settles b.d (stopped e k Nothing)
      → Takes low (after_header b.d b.p) (drop b.at ss) b.at (stopped e k Nothing) → InvariantTaken b (stopped e k Nothing)
  unfolding InvariantTaken Small Ahead
  stays low b e k z ne st x =
      let later : Right ss (k + 1) b.ear = right-later ss (b.at + 1) (k + 1) b.ear (omega (arith, x.far)) b.right in
      let same : watched_in b (stopped e k Nothing) ≡ (watched_taken b.d b.p (progress_of (stopped e k Nothing)) ss b.at b.end).device =
      watched-turn b.d b.p (progress_of (stopped e k Nothing)) b.ear ss b.at b.end short tt later in
      let q : List Device = map (passed b.at x.own) b.ps in
      let n : Device = watched_in b (stopped e k Nothing) in
      let g : low ≡ false → AllHigh x.own = λ f. high-all b.at x.own (x.high f) in
      let r : drop k ss ≡ x.rest = left b.at k x.own x.rest x.whole x.far in
      let m : joined (relay_late b.ps (ahead b.at)) (b.d ∷ b.qs) (under_way b.at b.p) ≡ joined (relay_late q (ahead k)) (n ∷ b.qs) [] =
      ap (λ (xs : List ℕ). joined (relay_late b.ps (singles b.at xs)) (b.d ∷ b.qs) (under_way b.at b.p)) x.whole
      ∙ takes-on b.ps b.qs b.d (hearing (heard_before b.d b.p b.at) (after_header b.d b.p)) n (under_way b.at b.p) [] x.own x.rest b.at low b.passing z g
      (ins-late b.d b.p b.at (small-header b.p b.small)) (served-quiet ss b.d b.p b.at b.end low e k st x ∙ ap (λ (y : Device). (y, [])) (sym same))
      ∙ ap (λ (y : ℕ). mid (relay_late q (singles y x.rest)) n [] b.qs) (sym x.far)
      ∙ ap (λ (xs : List ℕ). mid (relay_late q (singles k xs)) n [] b.qs) (sym r)
      ∙ sym (here (relay_late q (ahead k)) n b.qs) in (
        record {
          ps = q;
          qs = n ∷ b.qs;
          split = set_at (map (passed b.at (highs b.at)) b.ps) b.d b.qs n b.f (count-heard b b.at (highs b.at))
              ∙ ap (λ (xs : List Device). xs ++ n ∷ b.qs) (heard-by low b x.own x.rest k z g x.whole x.far);
          count = count-heard b b.at x.own;
          passing = passed-all b.ps b.at x.own b.passing;
          neat = (ne, b.neat.1);
          small = tt;
          devices = sym (ap (λ (y : Whole). y.0) m) ∙ b.devices;
          out = sym (ap (λ (y : Whole). wrote b.ws b.w (states_in y.1)) m) ∙ b.out;
        },
        watched-ear b.d b.p (progress_of (stopped e k Nothing)) b.ear ss b.at b.end later,
      )

  map_last : (f : Device → Device) (xs : List Device) (y : Device) → map f (xs ++ (y ∷ [])) ≡ map f xs ++ (f y ∷ [])
  map_last f [] y = refl
  map_last f (x ∷ xs) y = ap (λ (zs : List Device). f x ∷ zs) (map_last f xs y)

  high-front : (own rest : List ℕ) (at : ℕ) → drop at ss ≡ own ++ rest → AllHigh own → (k : ℕ) → k ≡ at + length own → at + high_count (drop at ss) - k ≡ high_count (drop k ss)
  high-front own rest at e a k h =
      let n : high_count (drop at ss) ≡ length own + high_count rest = ap high_count e ∙ highs-append own rest a in
      let m : high_count (drop k ss) ≡ high_count rest = ap high_count (left at k own rest e h) in
      omega (arith, n, m, h)

  -- the high states that follow, by where they end
  follow : (b : Front) (own rest : List ℕ) (k : ℕ) → drop b.at ss ≡ own ++ rest → AllHigh own → k ≡ b.at + length own → take (b.end - k) (drop k ss) ≡ highs k
  follow b own rest k e a h =
      ap (λ (n : ℕ). take (n - k) (drop k ss)) b.ends ∙ ap (λ (n : ℕ). take n (drop k ss)) (high-front own rest b.at e a k h)

  -- it stores, sends a header and passes then
  sends-on : (b : Front) (c : Command) (n : ℕ) (t : Taken) → t ≡ high_taken (after_header b.d b.p) (drop b.at ss) b.at → t.sent ≡ Header c n → t.device.place ≡ place_of Passing → n < 1024
      → Invariant (set (records_of b) b.f (watched_in b t)) b.ws (b.f + 1) t.at b.w (Header c n) × RightAfter b t
  unfolding Small Ahead
  sends-on b c n t i header-sent place few =
      let dd : Device = after_header b.d b.p in
      let l : StoresLast dd (drop b.at ss) b.at c n t =
      subst (StoresLast dd (drop b.at ss) b.at c n) (sym i) (stores-last (drop b.at ss) dd b.at c n (ap (λ (y : Taken). y.sent) (sym i) ∙ header-sent)) in
      let own : List ℕ = l.init ++ l.last ∷ [] in
      let k : ℕ = t.at in
      let v : ServedStore ss b.d b.p b.at b.end c n t own = served-stores ss b.d b.p b.at b.end c n t l header-sent place in
      let x : Device = passer v.registers in
      let q : List Device = map (passed b.at own) b.ps in
      let whole : drop b.at ss ≡ own ++ l.rest = l.whole ∙ sym (append_assoc l.init (l.last ∷ []) l.rest) in
      let far : k ≡ b.at + length own = omega (arith, l.far, length-append l.init (l.last ∷ [])) in
      let high : AllHigh own = high-all b.at own l.high in
      let r : drop k ss ≡ l.rest = left b.at k own l.rest whole far in
      let m : joined (relay_late b.ps (ahead b.at)) (b.d ∷ b.qs) (under_way b.at b.p) ≡ joined (relay_late (q ++ (x ∷ [])) (ahead k)) b.qs (under_way k (Header c n)) =
      ap (λ (xs : List ℕ). joined (relay_late b.ps (singles b.at xs)) (b.d ∷ b.qs) (under_way b.at b.p)) whole
      ∙ takes-on b.ps b.qs b.d (hearing (heard_before b.d b.p b.at) dd) x (under_way b.at b.p) (under_way k (Header c n)) own l.rest b.at false b.passing (λ e. absurd (true≢false (sym e))) (λ _. high)
      (ins-late b.d b.p b.at (small-header b.p b.small)) v.runs
      ∙ ap (λ (y : ℕ). mid (relay_late q (singles y l.rest)) x (under_way k (Header c n)) b.qs) (sym far)
      ∙ ap (λ (xs : List ℕ). mid (relay_late q (singles k xs)) x (under_way k (Header c n)) b.qs) (sym r)
      ∙ sym (moves-on q x b.qs (under_way k (Header c n)) (ahead k)) in
      let follows : take (b.end - k) (drop k ss) ≡ highs k = follow b own l.rest k whole high far in
      let stored : get_or ss (k - 1) 0 ≡ l.last =
      ap (λ (i : ℕ). get_or ss i 0) (omega (arith, l.far)) ∙ sym (get_or-drop b.at ss (length l.init) 0) ∙ ap (λ (xs : List ℕ). get_or xs (length l.init) 0) l.whole
      ∙ get_or_at l.init l.last l.rest 0 (length l.init) refl in
      let right-at : Right ss k b.ear = right-later ss (b.at + 1) k b.ear (omega (arith, l.far)) b.right in
      let clear-ahead : Ahead (Header c n) ss k b.end = (
        omega (arith, l.far),
        (
          omega (arith, b.ends, high_count-fit (drop b.at ss), length-drop b.at ss, b.within),
          (
            subst Loaded (sym follows) (highs-loaded (drop k ss) (below-drop k ss below)),
            ap load_bit stored ∙ last-loaded l.init l.rest l.last (ap (λ (xs : List ℕ). all_below xs 4) (sym l.whole) ∙ below-drop b.at ss below) high,
          ),
        ),
      ) in
      let same : watched_in b t ≡ (watched_taken b.d b.p (progress_of t) ss b.at b.end).device =
      watched-turn b.d b.p (progress_of t) b.ear ss b.at b.end short (subst (λ (y : Sent). Ahead y ss k b.end) (sym header-sent) clear-ahead)
      (subst (λ (y : Sent). Right ss (right_from y k) b.ear) (sym header-sent) right-at) in
      let h : watched_in b t ≡ passed k (highs k) x = same ∙ v.watched ∙ ap (λ (xs : List ℕ). passed k xs x) follows in (
        record {
          ps = q ++ (x ∷ []);
          qs = b.qs;
          split = set_at (map (passed b.at (highs b.at)) b.ps) b.d b.qs (watched_in b t) b.f (count-heard b b.at (highs b.at))
              ∙ ap (λ (y : Device). map (passed b.at (highs b.at)) b.ps ++ y ∷ b.qs) h
              ∙ ap (λ (xs : List Device). xs ++ passed k (highs k) x ∷ b.qs) (heard-on b own l.rest k whole far high)
              ∙ sym (append_assoc (map (passed k (highs k)) q) (passed k (highs k) x ∷ []) b.qs)
              ∙ ap (λ (xs : List Device). xs ++ b.qs) (sym (map_last (passed k (highs k)) q x));
          count = length-append q (x ∷ []) ∙ ap (λ (y : ℕ). y + 1) (count-heard b b.at own);
          passing = pass-more q v.registers (passed-all b.ps b.at own b.passing);
          neat = b.neat.1;
          small = few;
          devices = sym (ap (λ (y : Whole). y.0) m) ∙ b.devices;
          out = sym (ap (λ (y : Whole). wrote b.ws b.w (states_in y.1)) m) ∙ b.out;
        },
        watched-ear b.d b.p (progress_of t) b.ear ss b.at b.end (subst (λ (y : Sent). Right ss (right_from y k) b.ear) (sym header-sent) right-at),
      )

  -- what was heard leaves the place
  neat-watched : (b : Front) (e : Device) (k : ℕ) → passes e ≡ false → Neat (watched_in b (stopped e k Nothing))
  unfolding watched_turn
  neat-watched b e k p q = absurd (true≢false (sym q ∙ p))

  neat-same : (b : Front) → Neat (watched_in b (stopped b.d b.at Nothing))
  unfolding watched_turn
  neat-same b q = ap (λ (x : Place). record { registers = (watched_in b (stopped b.d b.at Nothing)).registers; place = x }) (ap (λ (y : Device). y.place) (b.neat.0 q))

  after_turn : (low : Bool) (b : Front) (t : Taken) → (low ≡ true → b.ps ≡ []) → (low ≡ false → t ≡ high_taken (after_header b.d b.p) (drop b.at ss) b.at)
      → (low ≡ true → t.sent ≡ Nothing) → Settles b.d t → Takes low (after_header b.d b.p) (drop b.at ss) b.at t → Ending t → InvariantTaken b t
  unfolding InvariantTaken
  after_turn low b t z i s st x (quiet {d = e} {k} p) = stays low b e k z (neat-watched b e k p) st x
  after_turn true b t z i s st x (sent {r} {k} {c} {n} few) = absurd (no_way (ap is_nothing (s refl)))
    where
      is_nothing : Sent → Bool
      is_nothing Nothing = true
      is_nothing (One y) = false
      is_nothing (Header y m) = false
  after_turn false b t z i s st x (sent {r} {k} {c} {n} few) = sends-on b c n (stopped (passer r) k (Header c n)) (i refl) refl refl few

  -- ---- the turn of a device, by what comes next

  not_low : (ps : List Device) → false ≡ true → ps ≡ []
  not_low ps e = absurd (true≢false (sym e))

  not-low-sent : {A : Type 0} → false ≡ true → A
  not-low-sent e = absurd (true≢false (sym e))

  -- a passing device moves the front on
  hands_on : (b : Front) → under_way b.at b.p ≡ [] → ((c : Command) (n : ℕ) → b.p ≡ Header c n → ⊥) → b.d ≡ passer b.d.registers → b.at < b.end
      → InvariantTaken b (stopped b.d b.at (One 0))
  unfolding InvariantTaken Small Ahead
  hands_on b i no_Header g some =
      let A : Whole = relay_late b.ps (ahead b.at) in
      let more : List Device = b.ps ++ (b.d ∷ []) in
      let P : Device → Device = passed b.at (highs b.at) in
      let n : Device = watched_in b (stopped b.d b.at (One 0)) in
      let zero_more : b.at ≡ b.at + 0 = omega arith in
      let follows : take (b.end - b.at) (drop b.at ss) ≡ highs b.at = follow b [] (drop b.at ss) b.at refl AllHigh.none zero_more in
      let clear-ahead : Ahead (One 0) ss b.at b.end = (
        some,
        (
          omega (arith, b.ends, high_count-fit (drop b.at ss), length-drop b.at ss, b.within),
          subst Loaded (sym follows) (highs-loaded (drop b.at ss) (below-drop b.at ss below)),
        ),
      ) in
      let h : n ≡ P b.d =
      watched-turn b.d b.p (progress_of (stopped b.d b.at (One 0))) b.ear ss b.at b.end short clear-ahead b.right
      ∙ served-passes ss b.d b.p b.at b.end 0 no_Header ∙ ap (λ (xs : List ℕ). passed b.at xs b.d) follows in
      let m : joined A (b.d ∷ b.qs) (under_way b.at b.p) ≡ joined (relay_late more (ahead b.at)) b.qs [] =
      ap (joined A (b.d ∷ b.qs)) i ∙ here A b.d b.qs ∙ sym (moves-on b.ps b.d b.qs [] (ahead b.at)) in (
        record {
          ps = more;
          qs = b.qs;
          split = set_at (map P b.ps) b.d b.qs n b.f (count-heard b b.at (highs b.at))
              ∙ ap (λ (y : Device). map P b.ps ++ y ∷ b.qs) h
              ∙ sym (append_assoc (map P b.ps) (P b.d ∷ []) b.qs)
              ∙ ap (λ (xs : List Device). xs ++ b.qs) (sym (map_last P b.ps b.d));
          count = length-append b.ps (b.d ∷ []) ∙ ap (λ (y : ℕ). y + 1) b.count;
          passing = subst (λ (y : Device). AllPass (b.ps ++ (y ∷ []))) (sym g) (pass-more b.ps b.d.registers b.passing);
          neat = b.neat.1;
          small = tt;
          devices = sym (ap (λ (y : Whole). y.0) m) ∙ b.devices;
          out = sym (ap (λ (y : Whole). wrote b.ws b.w (states_in y.1)) m) ∙ b.out;
        },
        watched-ear b.d b.p (progress_of (stopped b.d b.at (One 0))) b.ear ss b.at b.end b.right,
      )

  -- no header is under way
  fronts : (b : Front) (rest : List ℕ) → after_header b.d b.p ≡ b.d → under_way b.at b.p ≡ [] → ((c : Command) (n : ℕ) → b.p ≡ Header c n → ⊥) → drop b.at ss ≡ rest
      → ((s : ℕ) (xs : List ℕ) → rest ≡ s ∷ xs → ltb s 2 ≡ true → b.f ≡ 0)
      → InvariantTaken b (front_taken b.d rest b.at)
  fronts b [] dd i no_Header e z =
      stays false b b.d b.at (not_low b.ps) (neat-same b) refl
      (subst (λ (y : Device). Takes false y (drop b.at ss) b.at (stopped b.d b.at Nothing)) (sym dd) (takes_none false b.d (drop b.at ss) b.at))
  fronts b (s ∷ xs) dd i no_Header e z = go (ltb s 2) refl (passes b.d) refl
    where
      go : (low : Bool) → ltb s 2 ≡ low → (p : Bool) → passes b.d ≡ p
          → InvariantTaken b (cond low (phase_taken b.d (phase_run (phase_of b.d.place) (s ∷ xs) b.at)) (cond p (stopped b.d b.at (One 0)) (high_taken b.d (s ∷ xs) b.at)))
      go true h p g =
          let t = phase_taken b.d (phase_run (phase_of b.d.place) (s ∷ xs) b.at) in
          after_turn true b t (λ _. no_more b.ps (b.count ∙ z s xs refl h)) (λ q. absurd (true≢false q)) (λ _. refl) refl
          (subst (λ (y : Device). Takes true y (drop b.at ss) b.at t) (sym dd) (subst (λ (r : List ℕ). Takes true b.d r b.at t) (sym e) (takes_low b.d s xs b.at h))) (ending-low b.d s xs b.at h)
      go false h true g = hands_on b i no_Header (b.neat.0 g) (omega (arith, b.ends, ap high_count e ∙ highs-some s xs h))
      go false h false g =
          let t = high_taken b.d (s ∷ xs) b.at in
          after_turn false b t (not_low b.ps)
          (λ _. ap (λ (r : List ℕ). high_taken b.d r b.at) (sym e) ∙ ap (λ (y : Device). high_taken y (drop b.at ss) b.at) (sym dd)) (λ q. not-low-sent q) (settled-high (s ∷ xs) b.d b.at)
          (subst (λ (y : Device). Takes false y (drop b.at ss) b.at t) (sym dd) (subst (λ (r : List ℕ). Takes false b.d r b.at t) (sym e) (takes b.d (s ∷ xs) b.at))) (endings b.d (s ∷ xs) b.at g)

  -- whatever is under way
  serves : (b : Front) (p : Sent) → b.p ≡ p → ((s : ℕ) (xs : List ℕ) → drop b.at ss ≡ s ∷ xs → owed p ≡ 0 → ltb s 2 ≡ true → b.f ≡ 0)
      → InvariantTaken b (device_taken b.d p (drop b.at ss) b.at)
  serves b Nothing i z =
      fronts b (drop b.at ss) (ap (after_header b.d) i) (ap (under_way b.at) i) (λ c n e. no_way (ap is_header (sym i ∙ e))) refl (λ s xs e h. z s xs e refl h)
    where
      is_header : Sent → Bool
      is_header Nothing = false
      is_header (One x) = false
      is_header (Header c n) = true
  serves b (One x) i z =
      fronts b (drop b.at ss) (ap (after_header b.d) i) (ap (under_way b.at) i) (λ c n e. no_way (ap is_header (sym i ∙ e))) refl (λ s xs e h. z s xs e refl h)
    where
      is_header : Sent → Bool
      is_header Nothing = false
      is_header (One x) = false
      is_header (Header c n) = true
  serves b (Header c n) i z =
      let dd = slice_start b.d c n in
      let same : after_header b.d b.p ≡ dd = ap (after_header b.d) i in
      let t = high_taken dd (drop b.at ss) b.at in
      after_turn false b t (not_low b.ps) (λ _. ap (λ (y : Device). high_taken y (drop b.at ss) b.at) (sym same)) (λ q. not-low-sent q) (settled-high (drop b.at ss) dd b.at)
      (subst (λ (y : Device). Takes false y (drop b.at ss) b.at t) (sym same) (takes dd (drop b.at ss) b.at)) (endings dd (drop b.at ss) b.at refl)

  -- ---- the cursor of the next turn
  reset : (ys : List Device) (ws : List ℕ) (f at w : ℕ) → high_count (drop at ss) ≡ 0 → Invariant ys ws f at w Nothing → Invariant ys ws 0 at w Nothing
  unfolding Small chain
  reset ys ws f at w z h =
      let sp : ys ≡ h.ps ++ h.qs = h.split ∙ ap (λ (xs : List Device). xs ++ h.qs) (passeds-none at (highs at) h.ps (ap (λ (n : ℕ). take n (drop at ss)) z)) in
      let m : joined (relay_late h.ps (ahead at)) h.qs [] ≡ relay_late ys (ahead at) =
      sym (chain-devices step_late h.ps h.qs (ahead at)) ∙ ap (λ (b : List Device). relay_late b (ahead at)) (sym sp) in
      record {
        ps = [];
        qs = ys;
        split = refl;
        count = refl;
        passing = AllPass.none;
        neat = subst AllNeat (sym sp) (neat-append h.ps h.qs h.passing h.neat);
        small = tt;
        devices = sym (ap (λ (b : Whole). b.0) m) ∙ h.devices;
        out = sym (ap (λ (b : Whole). wrote ws w (states_in b.1)) m) ∙ h.out;
      }

  abbrev InvariantAt : List Device → List ℕ → Cursor → Type 0
  InvariantAt ys ws c = Invariant ys ws c.front c.at c.written c.pending

  turn_by_state-holds : (n : ℕ) (ys : List Device) (ws : List ℕ) (f at w : ℕ) (rest : List ℕ) → drop at ss ≡ rest → Invariant ys ws f at w Nothing → InvariantAt ys ws (turn_by_state n f at w rest)
  turn_by_state-holds n ys ws f at w [] e h = h
  turn_by_state-holds n ys ws f at w (s ∷ xs) e h =
      cond_both (InvariantAt ys ws) (ltb s 2) (cursor n 0 0 at w Nothing true) (cursor n f (index_of n f) at w Nothing true)
      (λ l. reset ys ws f at w (ap high_count e ∙ highs-low s xs l) h) (λ _. h)

  one_none : (ys : List Device) (ws : List ℕ) (f at w b : ℕ) → Invariant ys ws f at w (One b) → Invariant ys ws f at w Nothing
  unfolding Small
  one_none ys ws f at w b h = record { ps = h.ps; qs = h.qs; split = h.split; count = h.count; passing = h.passing; neat = h.neat; small = tt; devices = h.devices; out = h.out }

  next_turn-holds : (n : ℕ) (ys : List Device) (ws : List ℕ) (f at w : ℕ) (p : Sent) (rest : List ℕ) → drop at ss ≡ rest → Invariant ys ws f at w p → InvariantAt ys ws (next_turn n f at w p rest)
  next_turn-holds n ys ws f at w Nothing rest e h = turn_by_state-holds n ys ws f at w rest e h
  next_turn-holds n ys ws f at w (One b) rest e h = turn_by_state-holds n ys ws f at w rest e (one_none ys ws f at w b h)
  next_turn-holds n ys ws f at w (Header c k) rest e h = h

  -- ---- what leaves the chain
  full-or-not : (room w k : ℕ) (P : ℕ → Type 0) → (w + k ≤ room → P (w + k)) → (room < w + k → P room) → P (put_end room w k)
  full-or-not room w k P a b = go (leb (w + k) room) refl
    where
      go : (t : Bool) → leb (w + k) room ≡ t → P (cond t (w + k) room)
      go true e = a (leb-true (w + k) room e)
      go false e = b (leb-false (w + k) room e)

  fill-put : (ws : List ℕ) (room w k : ℕ) (xs : List ℕ) → length ws ≡ room → put_all ws (w + k) xs ≡ put_all ws (put_end room w k) xs
  fill-put ws room w k xs e =
      full-or-not room w k (λ (n : ℕ). put_all ws (w + k) xs ≡ put_all ws n xs) (λ h. refl)
      (λ h. put_full ws (w + k) xs (omega (arith, e, h)) ∙ sym (put_full ws room xs (omega (arith, e))))

  fill-fill : (room w a b : ℕ) → put_end room w (a + b) ≡ put_end room (put_end room w a) b
  fill-fill room w a b =
      full-or-not room w a (λ (n : ℕ). put_end room w (a + b) ≡ put_end room n b)
      (λ h. full-or-not room w (a + b) (λ (x : ℕ). x ≡ put_end room (w + a) b)
      (λ g. full-or-not room (w + a) b (λ (y : ℕ). w + (a + b) ≡ y) (λ i. omega arith) (λ i. omega (arith, g, i)))
      (λ g. full-or-not room (w + a) b (λ (y : ℕ). room ≡ y) (λ i. omega (arith, g, i)) (λ i. refl)))
      (λ h. full-or-not room w (a + b) (λ (x : ℕ). x ≡ put_end room room b)
      (λ g. absurd (omega (arith, g, h)))
      (λ g. full-or-not room room b (λ (y : ℕ). room ≡ y) (λ i. omega (arith, i)) (λ i. refl)))

  wrote-append : (ws : List ℕ) (w : ℕ) (xs ys : List ℕ) (k : ℕ) → length xs ≡ k → wrote ws w (xs ++ ys) ≡ wrote (put_all ws w xs) (put_end (length ws) w k) ys
  wrote-append ws w xs ys k e =
      ap (λ (zs : List ℕ). (zs, put_end (length ws) w (length (xs ++ ys))))
      (put-append ws w xs ys ∙ ap (λ (n : ℕ). put_all (put_all ws w xs) (w + n) ys) e ∙ fill-put (put_all ws w xs) (length ws) w k ys (length-put ws w xs))
      ∙ ap (λ (n : ℕ). (put_all (put_all ws w xs) (put_end (length ws) w k) ys, put_end (length ws) w n)) (length-append xs ys ∙ ap (λ (n : ℕ). n + length ys) e)
      ∙ ap (λ (n : ℕ). (put_all (put_all ws w xs) (put_end (length ws) w k) ys, n)) (fill-fill (length ws) w k (length ys))
      ∙ ap (λ (n : ℕ). (put_all (put_all ws w xs) (put_end (length ws) w k) ys, put_end n (put_end (length ws) w k) (length ys))) (sym (length-put ws w xs))

  last_out : (a : Whole) (q : List Packet) → joined a [] q ≡ (a.0 ++ [], q ++ a.1)
  unfolding chain
  last_out a q = refl

  header-joined : (t : ℕ) (c : Command) (n : ℕ) (xs : List Packet) → header_states c n ++ states_in xs ≡ states_in (under_way t (Header c n) ++ xs)
  unfolding flatten
  header-joined t c n xs = refl

  leaves : (ys : List Device) (ws : List ℕ) (f at w : ℕ) (c : Command) (n : ℕ) → (h : Invariant ys ws f at w (Header c n)) → h.qs ≡ []
      → Invariant ys (put_all ws w (header_states c n)) f at (put_end (length ws) w 24) Nothing
  unfolding Small
  leaves ys ws f at w c n h e =
      let A : Whole = relay_late h.ps (ahead at) in
      let q : List Packet = under_way at (Header c n) in
      let m : joined A h.qs q ≡ (A.0 ++ [], q ++ A.1) = ap (λ (b : List Device). joined A b q) e ∙ last_out A q in
      let k : joined A h.qs [] ≡ (A.0 ++ [], A.1) = ap (λ (b : List Device). joined A b []) e ∙ last_out A [] in
      record {
        ps = h.ps;
        qs = h.qs;
        split = h.split;
        count = h.count;
        passing = h.passing;
        neat = h.neat;
        small = tt;
        devices = ap (λ (b : Whole). b.0) k ∙ sym (ap (λ (b : Whole). b.0) m) ∙ h.devices;
        out =
            ap (λ (b : Whole). wrote (put_all ws w (header_states c n)) (put_end (length ws) w 24) (states_in b.1)) k
            ∙ sym (wrote-append ws w (header_states c n) (states_in A.1) 24 (length-header-states c n))
            ∙ ap (wrote ws w) (header-joined at c n A.1)
            ∙ sym (ap (λ (b : Whole). wrote ws w (states_in b.1)) m) ∙ h.out;
      }

  all_pass : (ys : List Device) (ws : List ℕ) (f at w : ℕ) → (h : Invariant ys ws f at w Nothing) → h.qs ≡ []
      → Invariant ys (put_all ws w (take (high_count (drop at ss)) (drop at ss))) f (at + high_count (drop at ss)) (put_end (length ws) w (high_count (drop at ss))) Nothing
  unfolding Small
  all_pass ys ws f at w h e =
      let many : ℕ = high_count (drop at ss) in
      let hs : List ℕ = highs at in
      let k : ℕ = at + many in
      let len : length hs ≡ many = length-take-le many (drop at ss) (high_count-fit (drop at ss)) in
      let rest-is : drop k ss ≡ drop many (drop at ss) = sym (drop-drop many at ss) in
      let q : List Device = map (passed at hs) h.ps in
      let B : Whole = relay_late q (ahead k) in
      let over : highs k ≡ [] = ap highs_of rest-is ∙ ap (λ (n : ℕ). take n (drop many (drop at ss))) (highs-over (drop at ss)) in
      let whole : ahead at ≡ singles at hs ++ ahead k =
      ap (singles at) (sym (take-append-drop many (drop at ss)) ∙ ap (λ (r : List ℕ). hs ++ r) (sym rest-is)) ∙ singles-append at hs (drop k ss)
      ∙ ap (λ (n : ℕ). singles at hs ++ singles (at + n) (drop k ss)) len in
      let m : joined (relay_late h.ps (ahead at)) h.qs [] ≡ (B.0 ++ [], singles at hs ++ B.1) =
      ap (λ (b : List Device). joined (relay_late h.ps (ahead at)) b []) e ∙ last_out (relay_late h.ps (ahead at)) []
      ∙ ap (λ (a : Whole). (a.0 ++ [], a.1))
      (ap (λ (r : List Packet). relay_late h.ps r) whole ∙ relay-pass h.ps at hs (ahead k) h.passing (highs-all (drop at ss))) in
      let n : joined B h.qs [] ≡ (B.0 ++ [], B.1) = ap (λ (b : List Device). joined B b []) e ∙ last_out B [] in
      record {
        ps = q;
        qs = h.qs;
        split = h.split ∙ ap (λ (xs : List Device). xs ++ h.qs) (sym (passeds-none k (highs k) q over));
        count = length-map h.ps (passed at hs) ∙ h.count;
        passing = passed-all h.ps at hs h.passing;
        neat = h.neat;
        small = tt;
        devices = ap (λ (b : Whole). b.0) n ∙ sym (ap (λ (b : Whole). b.0) m) ∙ h.devices;
        out = ap (λ (b : Whole). wrote (put_all ws w hs) (put_end (length ws) w many) (states_in b.1)) n
            ∙ sym (wrote-append ws w hs (states_in B.1) many len)
            ∙ ap (wrote ws w) (sym (states-append (singles at hs) B.1 ∙ ap (λ (xs : List ℕ). xs ++ states_in B.1) (states-singles at hs)))
            ∙ sym (ap (λ (b : Whole). wrote ws w (states_in b.1)) m) ∙ h.out;
      }

  -- ---- a whole turn
  -- an invariant at a cursor under which p is under way
  abbrev InvariantUnder : List Device → List ℕ → Sent → Cursor → Type 0
  InvariantUnder ys ws p c = Invariant ys ws c.front c.at c.written p

  index-turn_by_state : (p : Sent) (c : Cursor) (rest : List ℕ) → under p c ≡ turn_by_state c.count c.front c.at c.written rest → ltb c.front c.count ≡ true
      → c.going ≡ true → c.index ≡ c.front
  index-turn_by_state p c [] e l v = absurd (no_way (sym (ap (λ (x : Cursor). x.going) e) ∙ v))
  index-turn_by_state p c (s ∷ xs) e l v = go (ltb s 2) refl
    where
      first : Cursor
      first = cursor c.count 0 0 c.at c.written Nothing true

      front : Cursor
      front = cursor c.count c.front (index_of c.count c.front) c.at c.written Nothing true

      go : (t : Bool) → ltb s 2 ≡ t → c.index ≡ c.front
      go true h =
          let q : under p c ≡ first = e ∙ ap (λ (t : Bool). cond t first front) h in
          ap (λ (x : Cursor). x.index) q ∙ sym (ap (λ (x : Cursor). x.front) q)
      go false h =
          let q : under p c ≡ front = e ∙ ap (λ (t : Bool). cond t first front) h in
          ap (λ (x : Cursor). x.index) q ∙ ap (λ (t : Bool). cond t c.front 0) l

  index_is : (p : Sent) (c : Cursor) (rest : List ℕ) → IsNext p c rest → ltb c.front c.count ≡ true → c.going ≡ true → c.index ≡ c.front
  index_is Nothing c rest e l v = index-turn_by_state Nothing c rest e l v
  index_is (One b) c rest e l v = index-turn_by_state (One b) c rest e l v
  index_is (Header k m) c rest e l v = ap (λ (x : Cursor). x.index) e ∙ ap (λ (t : Bool). cond t c.front 0) l

  -- what the turn of a device leaves
  abbrev Turns : List Device → List ℕ → Cursor → Device → Type 0
  Turns ys ws c x =
      InvariantAt (set ys c.index (device_turn x c ss).device) ws (device_turn x c ss).cursor
      × Right ss ((device_taken x c.pending (drop c.at ss) c.at).at + 1) (front_watched x c ss).ear

  device-holds : (ys : List Device) (ws : List ℕ) (c : Cursor) → (h : InvariantAt ys ws c) → IsNext c.pending c (drop c.at ss) → c.index ≡ c.front
      → c.end ≡ highs_end (drop c.at ss) c.at → c.at ≤ length ss → Right ss (c.at + 1) c.ear → (qs : List Device) → h.qs ≡ qs → 0 < length qs
      → Turns ys ws c (get_or ys c.index blank)
  unfolding InvariantTaken watched_turn
  device-holds ys ws c h e j en wi ri [] q l = absurd (omega (arith, l))
  device-holds ys ws c h e j en wi ri (d ∷ qs) q l =
      let f : ℕ = c.front in
      let at : ℕ = c.at in
      let p : Sent = c.pending in
      let heard : List Device = map (passed at (highs at)) h.ps in
      let many : length heard ≡ f = length-map h.ps (passed at (highs at)) ∙ h.count in
      let sp : ys ≡ heard ++ d ∷ qs = h.split ∙ ap (λ (b : List Device). heard ++ b) q in
      let dd : get_or ys c.index blank ≡ d =
      ap (λ (k : ℕ). get_or ys k blank) j ∙ ap (λ (b : List Device). get_or b f blank) sp ∙ get_or_at heard d qs blank f many in
      let t : Taken = device_taken d p (drop at ss) at in
      let b : Front = record {
        ps = h.ps;
        d = d;
        qs = qs;
        p = p;
        ws = ws;
        f = f;
        at = at;
        w = c.written;
        end = c.end;
        ear = c.ear;
        count = h.count;
        passing = h.passing;
        neat = subst AllNeat q h.neat;
        small = h.small;
        ends = en ∙ highs_end-high_count (drop at ss) at;
        within = wi;
        right = ri;
        devices = ap (λ (b : List Device). (joined (relay_late h.ps (ahead at)) b (under_way at p)).0) (sym q) ∙ h.devices;
        out = ap (λ (b : List Device). wrote ws c.written (states_in (joined (relay_late h.ps (ahead at)) b (under_way at p)).1)) (sym q) ∙ h.out;
      } in
      let n : Device = (front_watched d c ss).device in
      let served : Invariant (set (heard ++ d ∷ qs) f n) ws (front_after f t.sent) t.at c.written t.sent × Right ss (t.at + 1) (front_watched d c ss).ear =
      serves b p refl (λ s xs r k u. low-front p c s xs (e ∙ ap (λ (y : List ℕ). next_turn c.count f at c.written p y) r) k u) in
      let next-holds : InvariantAt (set (heard ++ d ∷ qs) f n) ws (device_turn d c ss).cursor =
      next_turn-holds c.count (set (heard ++ d ∷ qs) f n) ws (front_after f t.sent) t.at c.written t.sent (drop t.at ss) refl served.0 in
      subst (Turns ys ws c) (sym dd) (
        subst (λ (k : ℕ). InvariantAt (set ys k (device_turn d c ss).device) ws (device_turn d c ss).cursor) (sym j)
            (subst (λ (b : List Device). InvariantAt (set b f (device_turn d c ss).device) ws (device_turn d c ss).cursor) (sym sp) next-holds),
        served.1,
      )

  leave-holds : (ys : List Device) (ws : List ℕ) (p : Sent) (c : Cursor) → (h : InvariantUnder ys ws p c) → h.qs ≡ []
      → InvariantAt ys (leave_out (under p c) ss ws) (leave_cursor p (under p c) ss (length ws))
  unfolding one_none
  leave-holds ys ws Nothing c h e =
      let many : ℕ = high_count (drop c.at ss) in
      next_turn-holds c.count ys _ c.front (c.at + many) _ Nothing (drop (c.at + many) ss) refl (all_pass ys ws c.front c.at c.written h e)
  leave-holds ys ws (One b) c h e =
      let many : ℕ = high_count (drop c.at ss) in
      next_turn-holds c.count ys _ c.front (c.at + many) _ Nothing (drop (c.at + many) ss) refl
      (all_pass ys ws c.front c.at c.written (one_none ys ws c.front c.at c.written b h) (one-qs ys ws c.front c.at c.written b h e))
    where
      one-qs : (ys : List Device) (ws : List ℕ) (f at w b : ℕ) (h : Invariant ys ws f at w (One b)) → h.qs ≡ [] → (one_none ys ws f at w b h).qs ≡ []
      one-qs ys ws f at w b h e = e
  leave-holds ys ws (Header k m) c h e =
      next_turn-holds c.count ys _ c.front c.at _ Nothing (drop c.at ss) refl (leaves ys ws c.front c.at c.written k m h e)

  turn_holds : (ys : List Device) (ws : List ℕ) (c : Cursor) → length ys ≡ c.count → InvariantAt ys ws c → IsNext c.pending c (drop c.at ss)
      → c.end ≡ highs_end (drop c.at ss) c.at → c.at ≤ length ss → Right ss (c.at + 1) c.ear → 0 < c.count → c.going ≡ true
      → InvariantAt (set ys c.index (turn_within (get_or ys c.index blank) c ss (length ws)).device) (cond (ltb c.front c.count) ws (leave_out c ss ws))
      (turn_within (get_or ys c.index blank) c ss (length ws)).cursor
      × Right ss ((turn_within (get_or ys c.index blank) c ss (length ws)).cursor.at + 1) (turn_taken (get_or ys c.index blank) c ss).ear
  turn_holds ys ws c l h e en wi ri some v = go (ltb c.front c.count) refl
    where
      long : length h.ps + length h.qs ≡ c.count
      long =
          ap (λ (n : ℕ). n + length h.qs) (sym (length-map h.ps (passed c.at (highs c.at))))
          ∙ sym (length-append (map (passed c.at (highs c.at)) h.ps) h.qs) ∙ sym (ap length h.split) ∙ l

      d : Device
      d = get_or ys c.index blank

      go : (t : Bool) → ltb c.front c.count ≡ t
          → InvariantAt (set ys c.index (cond t (device_turn d c ss) (leave_turn d c ss (length ws))).device) (cond t ws (leave_out c ss ws))
          (cond t (device_turn d c ss) (leave_turn d c ss (length ws))).cursor
          × Right ss ((cond t (device_turn d c ss) (leave_turn d c ss (length ws))).cursor.at + 1)
          (cond t (front_watched d c ss) (record { device = d; at = c.at; sent = Nothing; ear = c.ear })).ear
      go true q =
          let t : Taken = device_taken d c.pending (drop c.at ss) c.at in
          let both = device-holds ys ws c h e (index_is c.pending c (drop c.at ss) e q v) en wi ri h.qs refl (omega (arith, long, h.count, ltb-true c.front c.count q)) in (
            both.0,
            subst (λ (k : ℕ). Right ss (k + 1) (front_watched d c ss).ear)
                (sym (next_turn-range c.count (front_after c.front t.sent) t.at c.written t.sent (drop t.at ss) some).at) both.1,
          )
      go false q =
          let later : c.at ≤ (leave_cursor c.pending c ss (length ws)).at =
          subst (λ (t : Bool). c.at ≤ (cond t (device_turn d c ss) (leave_turn d c ss (length ws))).cursor.at) q (within-later d c ss (length ws) some) in (
            subst (λ (b : List Device). InvariantAt b (leave_out c ss ws) (leave_cursor c.pending c ss (length ws))) (sym (set-get_or ys c.index blank))
                (subst (InvariantAt ys (leave_out c ss ws)) (leave-under c.pending c ss (length ws))
                (leave-holds ys ws c.pending c h (no_more h.qs (omega (arith, long, h.count, ltb-false c.front c.count q))))),
            right-later ss (c.at + 1) ((leave_cursor c.pending c ss (length ws)).at + 1) c.ear (omega (arith, later)) ri,
          )

  -- ---- the end
  abbrev Ended : List Device → List ℕ → ℕ → Type 0
  Ended ys ws w = (ys ≡ fin.0) × ((ws, w) ≡ fin.1)

  ends-empty : (ys : List Device) (ws : List ℕ) (f at w : ℕ) → Invariant ys ws f at w Nothing → drop at ss ≡ [] → w ≤ length ws → Ended ys ws w
  unfolding put_all high_count flatten
  ends-empty ys ws f at w h e l =
      let over : highs at ≡ [] = ap highs_of e in
      let m : joined (relay_late h.ps (ahead at)) h.qs [] ≡ (h.ps ++ h.qs, []) =
      ap (λ (r : List ℕ). joined (relay_late h.ps (singles at r)) h.qs []) e ∙ ap (λ (r : List Packet). joined (relay_late h.ps r) h.qs []) (singles-none at)
      ∙ ap (λ (a : Whole). joined a h.qs []) (chain-nil step_late h.ps) ∙ ap (λ (b : Whole). (h.ps ++ b.0, b.1)) (chain-nil step_late h.qs) in (
        h.split ∙ ap (λ (xs : List Device). xs ++ h.qs) (passeds-none at (highs at) h.ps over) ∙ sym (ap (λ (b : Whole). b.0) m) ∙ h.devices,
        ap (λ (k : ℕ). (ws, k)) (full-or-not (length ws) w 0 (λ (k : ℕ). w ≡ k) (λ g. omega arith) (λ g. absurd (omega (arith, g, l))))
            ∙ sym (ap (λ (b : Whole). wrote ws w (states_in b.1)) m) ∙ h.out,
      )

  ends-turn_by_state : (ys : List Device) (ws : List ℕ) (p : Sent) (c : Cursor) (rest : List ℕ) → InvariantUnder ys ws Nothing c → drop c.at ss ≡ rest
      → under p c ≡ turn_by_state c.count c.front c.at c.written rest → c.going ≡ false → c.written ≤ length ws → Ended ys ws c.written
  ends-turn_by_state ys ws p c [] h r e v l = ends-empty ys ws c.front c.at c.written h r l
  ends-turn_by_state ys ws p c (s ∷ xs) h r e v l =
      absurd
      (no_way (sym v ∙ ap (λ (x : Cursor). x.going) e
      ∙ cond_both (λ (x : Cursor). x.going ≡ true) (ltb s 2) (cursor c.count 0 0 c.at c.written Nothing true)
      (cursor c.count c.front (index_of c.count c.front) c.at c.written Nothing true) (λ _. refl) (λ _. refl)))

  end-holds : (ys : List Device) (ws : List ℕ) (p : Sent) (c : Cursor) → InvariantUnder ys ws p c → IsNext p c (drop c.at ss) → c.going ≡ false
      → c.written ≤ length ws → Ended ys ws c.written
  end-holds ys ws Nothing c h e v l = ends-turn_by_state ys ws Nothing c (drop c.at ss) h refl e v l
  end-holds ys ws (One b) c h e v l =
      ends-turn_by_state ys ws (One b) c (drop c.at ss) (one_none ys ws c.front c.at c.written b h) refl e v l
  end-holds ys ws (Header k m) c h e v l = absurd (no_way (sym v ∙ ap (λ (x : Cursor). x.going) e))

  -- ---- turn after turn
  abbrev Same : Running → Type 0
  Same r = Ended r.devices r.out r.cursor.written

  finish : (t n room : ℕ) (r : Running) → Good n ss room r → InvariantAt r.devices r.out r.cursor → r.cursor.going ≡ false → Same (turns t ss r)
  finish t n room r good h e =
      subst Same (sym (turns-stop t ss r e))
      (end-holds r.devices r.out r.cursor.pending r.cursor h good.next e
      (subst (λ (m : ℕ). r.cursor.written ≤ m) (sym good.out) good.written))

  -- between turns
  abbrev Holds : Running → Type 0
  Holds r = InvariantAt r.devices r.out r.cursor × Right ss (r.cursor.at + 1) r.cursor.ear

  turns_same : (n room : ℕ) (r : Running) → 0 < n → Good n ss room r → Holds r → r.cursor.going ≡ true → Holds (turning ss r)
  turns_same n room r some good h e =
      let d : Device = get_or r.devices r.cursor.index blank in
      let w : r.cursor.written ≤ length r.out = subst (λ (m : ℕ). r.cursor.written ≤ m) (sym good.out) good.written in
      let u : Turned = turn_within d r.cursor ss (length r.out) in
      let more : 0 < r.cursor.count = subst (λ (m : ℕ). 0 < m) (sym good.count) some in
      let both = turn_holds r.devices r.out r.cursor (good.devices ∙ sym good.count) h.0 good.next good.end good.at h.1 more e in
      subst (λ (t : Turned). InvariantAt (set r.devices r.cursor.index t.device) (turned_out r.cursor ss r.out) t.cursor
      × Right ss (t.cursor.at + 1) (turn_taken d r.cursor ss).ear)
      (sym (turned-is d r.cursor ss (length r.out) good.at w))
      (subst (λ (os : List ℕ). InvariantAt (set r.devices r.cursor.index u.device) os u.cursor) (sym (turned-out-is r.cursor ss r.out good.at w)) both.0, both.1)

  by-going : (t n room : ℕ) (r : Running) → 0 < n → n < 1024 → Good n ss room r → Holds r → (g : Bool) → r.cursor.going ≡ g
      → (r.cursor.going ≡ true → Same (turns t ss r)) → Same (turns t ss r)
  by-going t n room r some few good h false e k = finish t n room r good h.0 e
  by-going t n room r some few good h true e k = k e

  turns-all : (t n room : ℕ) (r : Running) → 0 < n → n < 1024 → Good n ss room r → measure (length ss) n r.cursor ≤ t → Holds r → Same (turns t ss r)
  turns-all zero n room r some few good near h = by-going zero n room r some few good h r.cursor.going refl (λ e. absurd (omega (arith, near, nearer-next n ss room r some few good e)))
  turns-all (suc t) n room r some few good near h =
      by-going (suc t) n room r some few good h r.cursor.going refl (λ e. subst Same (sym (turns-on t ss r e))
      (turns-all t n room (turning ss r) some few (good-next n ss room r some good) (omega (arith, near, nearer-next n ss room r some few good e)) (turns_same n room r some good h e)))

-- records that fit are neat
fits-neat : (d : Device) → fits d ≡ true → Neat d
fits-neat d h p =
    let q : place_of (phase_of d.place) ≡ d.place = place-phase d.place d.registers (and_left (place_fits d.place d.registers) _ (and_left (contents_fit d) _ h)) in
    ap (λ (x : Place). record { registers = d.registers; place = x }) (sym q ∙ ap place_of (is-passing (phase_of d.place) p))
  where
    is-passing : (p : Phase) → is_passing p ≡ true → p ≡ Passing
    is-passing (Hunting x) e = absurd (no_way e)
    is-passing (Opening x) e = absurd (no_way e)
    is-passing (Counting x y) e = absurd (no_way e)
    is-passing (Slice x y z) e = absurd (no_way e)
    is-passing Passing e = refl
    is-passing Lost e = absurd (no_way e)

pub all-neat : (ds : List Device) → all_fit ds ≡ true → AllNeat ds
all-neat [] h = tt
all-neat (d ∷ ds) h = let both = and_both (fits d) (all_fit ds) h in (fits-neat d both.0, all-neat ds both.1)

-- a run by its front: the devices, what is written, and where it ends are those of the late run
pub front-run-same : (ds : List Device) (ss os : List ℕ) → 0 < length ds → length ds < 1024 → AllNeat ds → length ss < 2 ^ 63 → all_below ss 4 ≡ true
    → let w : Whole = relay_late ds (singles 0 ss) in
    ((front_run ds ss os).devices ≡ w.0) × ((front_run ds ss os).out ≡ put_all os 0 (states_in w.1)) ×
    ((front_run ds ss os).cursor.written ≡ put_end (length os) 0 (length (states_in w.1)))
unfolding front_run chain Small
front-run-same ds ss os some few ne short below =
    let w : Whole = relay_late ds (singles 0 ss) in
    let fin : List Device × (List ℕ × ℕ) = (w.0, (put_all os 0 (states_in w.1), put_end (length os) 0 (length (states_in w.1)))) in
    let all = turns-all ss fin short below (enough ss) (length ds) (length os) (started ds ss os) some few (good_start ds ss os some) (near-start ds ss few) (
      next_turn-holds ss fin short below (length ds) ds os 0 0 0 Nothing ss refl
          (record { ps = []; qs = ds; split = refl; count = refl; passing = AllPass.none; neat = ne; small = tt; devices = refl; out = refl }),
      right-none ss ((started ds ss os).cursor.at + 1),
    ) in
    (all.0, ap (λ (x : List ℕ × ℕ). x.0) all.1, ap (λ (x : List ℕ × ℕ). x.1) all.1)
