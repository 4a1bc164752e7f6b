-- Demand 3. The calls of a restore are one run of the records; by the link that is a run of the model's chain with its clocks and its watchdogs, and
-- the theorems of `watchdog` speak of its devices. What settles after the last frame brings what is due nearer by its low clocks. Said of devices that
-- may expire up to their own individual slice, from which the two claims of request Five follow. Assumes nothing.
use mathlib.Core.Path.{◌≡◌, refl, sym, ap, subst, ◌∙◌}
use mathlib.Core.Bool.{Bool, true, false, cond}
use mathlib.Core.List.{List, [], ◌∷◌, ◌++◌, map, flatten, append-nil, append_assoc, map-append}
use Prim.Native.Nat.{ℕ, zero, suc, ◌+◌, ◌-◌, ◌≤◌, ◌<◌}
use native.Mathlib.Omega.{arith}
use lib.Dec.{eqb, leb}
use lib.Seq.{drop_at, take-take}
use lib.ListN
use lib.ListN.{drop, length, length-map, length-append, length-take, take, get_or}
use borrow.Author.Tests.{le-ltb, le-leb, leb-true}
use Rattle.bits.specs.Bits.{bytes_of}
use Rattle.tables.specs.Lists.{all_below}
use Rattle.parts.specs.Parts.{Part, part_of, restore_order}
use Rattle.tables.specs.Refusals.{first}
use Rattle.parts.specs.Wire.{State, Edge, lows, state_at, state_code, states_of, clocked, data_bit, return_of}
use Rattle.tables.proofs.Rows.{clear, none}
use Rattle.tables.proofs.Booleans.{and_both, cond_both}
use Rattle.parts.specs.declared.command.Command.{Command}
use Rattle.parts.specs.declared.command.Command.TheVariants.{Individual, Calibration, Global, Configuration}
use Rattle.serial.specs.States.{data_bits}
use Rattle.serial.specs.States as serial
use Rattle.frames.specs.Frames.{tail_bits, frame_length, told_rows}
use Rattle.frame_writer.specs.Writing.{write_table, write_refusal}
use Rattle.return_reader.specs.Returns as reader
use Rattle.frames.specs.declared.told.Told.{Told}
use Rattle.frames.specs.declared.told.Tail.{Tail}
use Rattle.frame_laws.proofs.Returns.{return_read_lem}
use Rattle.positions.proofs.Fits.{length_most}
use Rattle.watch.specs.Watch.{is_bit, is_limit}
use Rattle.watch.specs.declared.watch.Watch.{Watch}
use Rattle.device.specs.Run.{clock_record}
use Rattle.device.proofs.Kept.{watch-of}
use Rattle.device.specs.declared.device.Device.{Device}
use Rattle.calls.specs.Chain.{blank}
use Rattle.calls.specs.Calls.{room_for, run_refusal, run_devices, returned}
use Rattle.calls.specs.History.{Call, run, refusal_of, after, after_calls, states_given, answers, Runs, Settles}
use Rattle.calls.specs.Expiry.{expires, expired_within, CalmFrom, CalmCalls, Calm}
use Rattle.model.specs.Lists.{All, Pairwise}
use Rattle.model.specs.Device.{Registers, step_device, run_chain, registers_in, faults, fault}
use Rattle.model.specs.Device as model
use Rattle.model.specs.Set.{Set, Own, Proper, own_from, owned, slice_of}
use Rattle.model.specs.Restore.{Piece, piece_states, piece_of, pieces_of, pieces_states, states_in, returns_of}
use Rattle.model.proofs.Lists.{take-map, get_d_map, flatten-take-suc, how_many-le, all-below, length-flatten-take}
use Rattle.model.proofs.Cut.{length-states}
use Rattle.machine.specs.Machine.{relay_one}
use Rattle.machine.proofs.Machine.{run-append, chain-append, length-chain}
use Rattle.model.proofs.Wire.{codes-below, map-state_at-state_code, bits-clocked}
use Rattle.model.proofs.Frame.{quiet-sends}
use Rattle.model.proofs.Set.{owned-proper, length-owned}
use Rattle.model.proofs.Restore.{send_pieces, pieces-sent, sent-four, Ready}
use Rattle.clocked.specs.Clock.{Clocked, Placed, devices_in, last_boundary}
use Rattle.clocked.specs.Clock as clock
use Rattle.clocked.specs.Cut.{CutClocked}
use Rattle.clocked.proofs.Lengths.{running-row}
use Rattle.clocked.proofs.Erase.{returned as erased-returned}
use Rattle.clocked.proofs.Restored.{DueIn, settled}
use Rattle.watchdog.specs.Watched.{Watched, clocks_in, run_watched}
use Rattle.watchdog.specs.Watched as watchdog
use Rattle.watchdog.specs.Faded.{faded}
use Rattle.watchdog.proofs.Faint.{returned as watched-returned}
use Rattle.watchdog.proofs.Device.{watched-idle}
use Rattle.watchdog.proofs.Restored.{cut-watched, due-watched}
use Rattle.watchdog.proofs.Still.{expires-early}
use Rattle.link.specs.View.{registers_of, device_of, clocked_of, watched_of, registers_at, registers_all, Holds}
use Rattle.link.specs.Restore.{told, set_byte, written_frame, frame_size, frame_part, restore_part, restore_states, restore_then, gap_after, tails_of, arrival}
use Rattle.link.proofs.View.{Sound, configuration-same}
use Rattle.link.proofs.Device.{through-agree, through-sent, through-keep}
use Rattle.link.proofs.Calls.{Whole, own-refusal, whole-runs, ran, calls-append}
use Rattle.link.proofs.Frames.{accepted-writable, writable-proper, part-states, restore-states, restore-part}
use Rattle.link.proofs.Expiry.{expires-same, within_same, calm-same, clocks-seen, calm-front, calm-back, calm-later, calm-split, calm-ran, calm-pieces}
use Rattle.link.proofs.Records.{registers-all, ready_of, placed-all, holds_of, Due, low-due, settles-due, take-sent, data_bits-state_at}
use Rattle.claims.specs.Claims.{start, ReturnsWithin, Waited, RestorePremises, DemandThree, DemandThreeExpired, DemandThreeEach, Counted, Clear, Short, Restorable, LongestWait}
use Rattle.claims.proofs.Sent.{quiet_states, length-quiet, take-then, take-gap}
use Rattle.claims.proofs.Chains.{whole-premises, length-start}

-- returns as states, one after the other, and as their data bits
codes-flatten : (rs : List (List Bool)) → map state_code (flatten (map clocked rs)) ≡ flatten (map states_of rs)
unfolding flatten
codes-flatten [] = refl
codes-flatten (r ∷ rs) = rw (map-append state_code (clocked r) (flatten (map clocked rs)), codes-flatten rs)

bits-flatten : (rs : List (List Bool)) → data_bits (flatten (map states_of rs)) ≡ flatten rs
unfolding flatten
bits-flatten [] = refl
bits-flatten (r ∷ rs) =
    map-append (λ s. data_bit (state_at s)) (states_of r) (flatten (map states_of rs))
    ∙ rw (data_bits-state_at (states_of r), map-state_at-state_code, bits-clocked, bits-flatten rs)

lows-below : (bs : List Bool) → all_below (quiet_states bs) 2 ≡ true
lows-below [] = refl
lows-below (true ∷ bs) = lows-below bs
lows-below (false ∷ bs) = lows-below bs

taken : {A : Type 0} (k : ℕ) (xs : List A) → k ≤ length xs → length (take k xs) ≡ k
taken k xs h = length-take k xs ∙ omega arith

-- the states of calls one after the other
states_given-append : (ds : List Device) (cs es : List Call) → states_given ds (cs ++ es) ≡ states_given ds cs ++ states_given (after_calls ds cs) es
unfolding states_given after_calls
states_given-append ds [] es = refl
states_given-append ds (c ∷ cs) es = rw (states_given-append (after ds c) cs es, append_assoc)

-- ---- records, seen

registers-seen : (d : Device) → clock.registers_of (clocked_of d) ≡ registers_of d.registers
unfolding device_of
registers-seen d = refl

returns-seen : (m : ℕ) (ds : List Device) → All (ReturnsWithin m) ds → All (clock.ReturnsWithin m) (map clocked_of ds)
unfolding device_of clock.length_in
returns-seen m [] h = tt
returns-seen m (d ∷ ds) h = (h.0, returns-seen m ds h.1)

-- what holds of every element holds at a place
all-place : {A : Type 0} (P : A → Type 0) (xs : List A) (i : ℕ) (z : A) → i < length xs → All P xs → P (get_or xs i z)
all-place P [] i z h a = absurd (omega arith)
all-place P (x ∷ xs) zero z h a = a.0
all-place P (x ∷ xs) (suc i) z h a = all-place P xs i z (omega arith) a.1

own-from : (p : Part) (n configuration global : ℕ) (calibration individual : List ℕ) → All (λ o. o.configuration ≡ configuration) (own_from p n configuration global calibration individual)
unfolding own_from
own-from p zero configuration global calibration individual = tt
own-from p (suc n) configuration global calibration individual = (refl, own-from p n configuration global _ _)

owned-configuration : (s : Set) → All (λ o. o.configuration ≡ s.configuration) (owned s)
unfolding owned
owned-configuration s = own-from (part_of s.part) s.devices s.configuration s.global s.calibration s.individual

-- the last boundary of devices that are the same after every number of clocks
last-same : (after later : ℕ → Clocked) → ((j : ℕ) → after j ≡ later j) → (k : ℕ) → last_boundary after k ≡ last_boundary later k
unfolding last_boundary
last-same after later e zero = refl
last-same after later e (suc k) = rw (e k, last-same after later e k)

-- ---- the calls of a restore

module _ {p bit limit : ℕ} {records : List Device} {earlier during : List Call} {s : Set} {tail : Command → Tail} (b : RestorePremises p bit limit records earlier during s tail) where
  abbrev now : List Device
  now = start p bit limit records earlier

  pub whole : Whole s.part now
  whole = rw b.part (whole-premises p bit limit records earlier b.accepted)

  pub devices : s.devices ≡ length now
  devices = b.devices ∙ sym (length-start p bit limit records earlier)

  proper : Proper s
  proper = writable-proper b.writable

  abbrev dogs : List Watched
  dogs = map watched_of now

  pub dogs-ready : Pairwise (Ready (part_of s.part)) (owned s) (registers_in (devices_in (clocks_in dogs)))
  dogs-ready = rw (clocks-seen now) (ready_of s.part (owned s) now (owned-proper s proper) (length-owned s ∙ devices) whole.one_part)

  placed : All Placed (clocks_in dogs)
  placed = rw (clocks-seen now) (placed-all now whole.sound)

  some : 0 < length dogs
  some = rw length-map whole.some_device

  few : length dogs < 1024
  few = rw length-map (let h = whole.few_devices in omega arith)

  -- states given to the chain, seen in the model
  seen-run : (ls : List State) → map watched_of (run_devices now (map state_code ls)) ≡ (run_watched dogs ls).0
  seen-run ls =
      ap (λ (x : List Watched × List State). x.0)
      (rw map-state_at-state_code at (through-agree now (map state_code ls) whole.sound (all-below 4 (map state_code ls) (codes-below ls))))

  -- the runs, seen in the model
  seen : (ls : List State) → states_given now during ≡ map state_code ls → map watched_of (after_calls now during) ≡ (run_watched dogs ls).0
  seen ls e = ap (λ (x : List Device × List ℕ). map watched_of x.0) (ran now during b.runs) ∙ ap (λ (ss : List ℕ). map watched_of (run_devices now ss)) e ∙ seen-run ls

  sent : (ls : List State) → states_given now during ≡ map state_code ls → answers now during ≡ map state_code (run_chain (devices_in (clocks_in dogs)) ls).1
  sent ls e =
      ap (λ (x : List Device × List ℕ). x.1) (ran now during b.runs)
      ∙ ap (λ (ss : List ℕ). returned now ss) e
      ∙ through-sent now ls whole.sound
      ∙ ap (map state_code) (watched-returned dogs ls ∙ erased-returned (clocks_in dogs) ls)

  -- expiries of the records are those of the model's devices
  pub calm-model : (from : ℕ → ℕ) → ((device : ℕ) → 1 ≤ from device) → (ls : List State) → CalmFrom from now (map state_code ls) → watchdog.CalmFrom from dogs ls
  calm-model from f ls c =
      rw map-state_at-state_code at (calm-same now (map state_code ls) whole.sound (all-below 4 (map state_code ls) (codes-below ls)) from f c)

  -- frames and then low clocks, as states
  then-lows : (ls : List State) (last : List Bool) (ss : List ℕ) → ss ≡ map state_code ls → ss ++ quiet_states last ≡ map state_code (ls ++ lows last)
  then-lows ls last ss e = rw e (sym (map-append state_code ls (lows last)))

  module _ (edge : Command → Edge) (gap : Command → List Bool) where
    abbrev pieces : List Piece
    pieces = pieces_of (part_of s.part) (owned s) edge gap (tails_of tail)

    abbrev model_states : List State
    model_states = pieces_states (part_of s.part) (owned s) edge gap (tails_of tail)

    -- the clock of each device's individual slice
    abbrev own_clock : ℕ → ℕ
    own_clock device = arrival s gap tail Individual device

    own-after : (device : ℕ) → 1 ≤ own_clock device
    own-after device = omega arith

    -- the states of a frame, with the clocks before it, and of all four
    length-frame : (c : Command) → length (frame_part s edge gap tail c) ≡ states_in (part_of s.part) (owned s) gap (tails_of tail) c
    length-frame c =
        let x : Piece = piece_of (part_of s.part) (owned s) edge gap (tails_of tail) c in
        ap (λ (ss : List ℕ). length ss) (part-states b.writable edge gap c) ∙ length-map (piece_states x) state_code ∙ length-states x

    length-frames : length (restore_states s edge gap tail)
        ≡ length (frame_part s edge gap tail Configuration)
        + (length (frame_part s edge gap tail Calibration) + (length (frame_part s edge gap tail Global) + length (frame_part s edge gap tail Individual)))
    unfolding flatten
    length-frames = rw (length-append, length-append, length-append, append-nil)

    -- every individual slice arrives within them, and after the configuration frame
    own-within : (device : ℕ) → own_clock device ≤ length (restore_states s edge gap tail)
    own-within device =
        let n = length-flatten-take device (map (slice_of (part_of s.part) Individual) (owned s)) in
        omega (arith, length-frames, length-frame Configuration, length-frame Calibration, length-frame Global, length-frame Individual, n)

    pub configuration-before : (device : ℕ) → length (frame_part s edge gap tail Configuration) + 1 ≤ arrival s gap tail Individual device
    configuration-before device = omega (arith, length-frame Configuration)

    pub configuration-within : (device : ℕ) → arrival s gap tail Configuration device ≤ length (frame_part s edge gap tail Configuration)
    configuration-within device =
        let n = length-flatten-take device (map (slice_of (part_of s.part) Configuration) (owned s)) in
        omega (arith, length-frame Configuration, n)

    -- after the last frame each device's own is due within so many clocks
    frames-due : (m : ℕ) → All (ReturnsWithin m) (run_devices now (restore_states s edge gap tail)) → CalmFrom own_clock now (restore_states s edge gap tail)
        → Due (owned s) m (run_devices now (restore_states s edge gap tail))
    frames-due m l calm =
        let ends : List Device = run_devices now (restore_states s edge gap tail) in
        let r : restore_states s edge gap tail ≡ map state_code model_states = restore-states b.writable edge gap in
        let e : clocks_in (run_watched dogs model_states).0 ≡ map clocked_of ends =
        ap clocks_in (sym (ap (λ (ss : List ℕ). map watched_of (run_devices now ss)) r ∙ seen-run model_states)) ∙ clocks-seen ends in
        subst (Pairwise (DueIn m) (owned s)) e
        (due-watched (part_of s.part) (owned s) edge gap (tails_of tail) dogs dogs-ready some few (running-row s.part) placed
        (calm-model own_clock own-after model_states (rw r at calm)) m (subst (All (clock.ReturnsWithin m)) (sym e) (returns-seen m ends l)))

    -- Restored
    pub held : (last : List Bool) → states_given now during ≡ restore_states s edge gap tail ++ quiet_states last → (later : List Call) → Settles (after_calls now during) later
        → Waited now (restore_states s edge gap tail) (during ++ later) → CalmCalls (λ device. arrival s gap tail Individual device) now (during ++ later)
        → Pairwise Holds (owned s) (after_calls now (during ++ later))
    held last e later r l calm =
        let after : List Device = after_calls now during in
        let rs : List ℕ = restore_states s edge gap tail in
        let frames : ℕ = length rs in
        let more : ℕ = length (states_given after later) in
        let m : ℕ = length (states_given now (during ++ later)) - frames in
        let before : length (states_given now during) ≡ frames + length last =
        ap (λ (ss : List ℕ). length ss) e ∙ length-append rs (quiet_states last) ∙ ap (λ (n : ℕ). frames + n) (length-quiet last) in
        let given : length (states_given now (during ++ later)) ≡ frames + length last + more =
        ap (λ (ss : List ℕ). length ss) (states_given-append now during later) ∙ length-append (states_given now during) (states_given after later) ∙ ap (λ (n : ℕ). n + more) before in
        let over : m - length last - more ≡ 0 = omega (arith, given) in
        let c = calm-split own_clock now during later calm in
        let q : CalmFrom own_clock now (rs ++ quiet_states last) = rw e at (calm-ran own_clock now during b.runs c.0) in
        let within : (device : ℕ) → own_clock device ≤ frames = λ device. own-within device in
        let x : after ≡ run_devices (run_devices now rs) (quiet_states last) =
        ap (λ (y : List Device × List ℕ). y.0) (ran now during b.runs) ∙ ap (λ (ss : List ℕ). run_devices now ss) e ∙ ap (λ (y : List Device × List ℕ). y.0) (run-append (relay_one clock_record) now rs (quiet_states last)) in
        let o : All Sound (run_devices now rs) = through-keep now rs whole.sound (rw (restore-states b.writable edge gap) (all-below 4 (map state_code model_states) (codes-below model_states))) in
        let d : Due (owned s) (m - length last) after =
        rw (x, ← length-quiet last)
        (low-due (owned s) (λ device. own_clock device - frames) (λ device. omega (arith, within device)) m (run_devices now rs) (quiet_states last) o (lows-below last)
        (calm-back now rs (quiet_states last) own_clock q) (frames-due m l (calm-front now rs (quiet_states last) own_clock q))) in
        let w = whole-runs s.part now during whole b.runs in
        let z : Due (owned s) 0 (after_calls after later) =
        subst (λ (n : ℕ). Due (owned s) n (after_calls after later)) over
        (settles-due (owned s) (λ device. own_clock device - length (states_given now during)) (λ device. omega (arith, before, within device)) s.part (m - length last) after later w r c.1 d) in
        rw (calls-append now during later) (holds_of (owned s) (after_calls after later) (settled (owned s) (map clocked_of (after_calls after later)) z))

    -- Returned: the states of the first j returns
    returned-all : (last : List Bool) (j : ℕ) → states_given now during ≡ restore_part s edge gap tail j ++ quiet_states last
        → answers now during ≡ flatten (map states_of (take j (returns_of (tails_of tail) (registers_all now))))
    returned-all last j e =
        let ds : List model.Device = devices_in (clocks_in dogs) in
        let n : length ds ≡ length dogs = length-map (clocks_in dogs) (λ (c : Clocked). c.device) ∙ length-map dogs (λ (w : Watched). w.clocked) in
        let m : length (registers_in ds) ≡ length ds = length-map ds (λ (d : model.Device). d.registers) in
        let one : 0 < length ds = omega (arith, n, some) in
        let rs : List (List Bool) = returns_of (tails_of tail) (registers_in ds) in
        let ls : List State = flatten (map piece_states (take j pieces)) in
        let f = e ∙ then-lows ls last (restore_part s edge gap tail j) (restore-part b.writable edge gap j) in
        let q : (run_chain ds (ls ++ lows last)).1 ≡ (run_chain ds ls).1 =
        rw (chain-append step_device ds ls (lows last), quiet-sends last (run_chain ds ls).0 (rw length-chain one), append-nil) in
        let t : (send_pieces ds (take j pieces)).1 ≡ map clocked (take j rs) =
        take-sent ds pieces j
        ∙ ap (λ (x : List model.Device × List (List State)). take j x.1) (sent-four (part_of s.part) (owned s) edge gap (tails_of tail) ds one (omega (arith, n, m, few)) dogs-ready)
        ∙ take-map clocked j rs in
        let r : registers_in ds ≡ registers_all now = ap (λ (cs : List Clocked). registers_in (devices_in cs)) (clocks-seen now) ∙ registers-all now in
        sent (ls ++ lows last) f
        ∙ ap (λ (l : List State). map state_code l) (q ∙ pieces-sent ds (take j pieces) one ∙ ap (λ (l : List (List State)). flatten l) t)
        ∙ codes-flatten (take j rs)
        ∙ ap (λ (r : List Registers). flatten (map states_of (take j (returns_of (tails_of tail) r)))) r

    -- the device at place i, from 0, after so many states
    abbrev device_after : List Bool → ℕ → ℕ → Clocked
    device_after last i j = clocked_of (get_or (run_devices now (take j (restore_then s edge gap tail last))) i blank)

    then-states : (last : List Bool) → restore_then s edge gap tail last ≡ map state_code (model_states ++ lows last)
    then-states last = then-lows model_states last (restore_states s edge gap tail) (restore-states b.writable edge gap)

    then-taken : (last : List Bool) (j : ℕ) → take j (restore_then s edge gap tail last) ≡ map state_code (take j (model_states ++ lows last))
    then-taken last j = ap (take j) (then-states last) ∙ take-map state_code j (model_states ++ lows last)

    after-seen : (last : List Bool) (i j : ℕ) → device_after last i j ≡ (get_or (run_watched dogs (take j (model_states ++ lows last))).0 i (watched_of blank)).clocked
    after-seen last i j =
        ap (λ (w : Watched). w.clocked)
        (sym (ListN.get_or-map watched_of (run_devices now (take j (restore_then s edge gap tail last))) i blank)
        ∙ ap (λ (ss : List ℕ). get_or (map watched_of (run_devices now ss)) i (watched_of blank)) (then-taken last j)
        ∙ ap (λ (ws : List Watched). get_or ws i (watched_of blank)) (seen-run (take j (model_states ++ lows last))))

    -- Cut
    cut_at : (last : List Bool) (k i : ℕ) (o : Own) → states_given now during ≡ take k (restore_then s edge gap tail last) → i < s.devices
        → k ≤ length (restore_then s edge gap tail last) → CalmCalls (λ device. arrival s gap tail Individual device) now during
        → CutClocked (λ c j. leb (arrival s gap tail c (suc i)) j) k (last_boundary (device_after last i) k) (get_or (owned s) i o)
        (faded (expired_within now (restore_then s edge gap tail last) k (suc i)) (registers_of (get_or now i blank).registers))
        (registers_of (get_or (after_calls now during) i blank).registers)
    cut_at last k i o e h l calm =
        let ls : List State = model_states ++ lows last in
        let z : Watched = watched_of blank in
        let n : length dogs ≡ s.devices = length-map now watched_of ∙ sym devices in
        let m : ℕ → Clocked = λ j. (get_or (run_watched dogs (take j ls)).0 i z).clocked in
        let t : k ≤ length ls = rw (then-states last, length-map) at l in
        let old : clock.registers_of (get_or dogs i z).clocked ≡ registers_of (get_or now i blank).registers =
        ap (λ (w : Watched). clock.registers_of w.clocked) (ListN.get_or-map watched_of now i blank) ∙ registers-seen (get_or now i blank) in
        let f : states_given now during ≡ map state_code (take k ls) = e ∙ then-taken last k in
        let new : clock.registers_of (m k) ≡ registers_of (get_or (after_calls now during) i blank).registers =
        ap (λ (ws : List Watched). clock.registers_of (get_or ws i z).clocked) (sym (seen (take k ls) f))
        ∙ ap (λ (w : Watched). clock.registers_of w.clocked) (ListN.get_or-map watched_of (after_calls now during) i blank) ∙ registers-seen (get_or (after_calls now during) i blank) in
        let c : watchdog.CalmFrom own_clock dogs (take k ls) = calm-model own_clock own-after (take k ls) (rw f at (calm-ran own_clock now during b.runs calm)) in
        let q : (clock : ℕ) → own_clock (suc i) ≤ clock → clock ≤ k → watchdog.expires dogs ls clock (suc i) ≡ false =
        λ clock x y. rw (take-take clock k ls y) at (c (suc i) clock (omega arith) (omega arith) x (omega (arith, taken k ls t))) in
        let has : watchdog.expired_within dogs ls k (suc i) ≡ expired_within now (restore_then s edge gap tail last) k (suc i) =
        rw (then-states last) (rw map-state_at-state_code at (within_same now (map state_code ls) whole.sound (all-below 4 (map state_code ls) (codes-below ls)) k (suc i) (omega arith) (omega (arith, devices)))) in
        let g = cut-watched (part_of s.part) (owned s) edge gap (tails_of tail) last dogs dogs-ready k i o z (rw (length-owned s) h) t q in
        let was : Registers = registers_of (get_or now i blank).registers in
        let is : Registers = registers_of (get_or (after_calls now during) i blank).registers in
        let C : Bool → Registers → Registers → Type 0 =
        λ x r n. CutClocked (λ c j. leb (arrival s gap tail c (suc i)) j) k (last_boundary m k) (get_or (owned s) i o) (faded x r) n in
        let had : Bool = watchdog.expired_within dogs ls k (suc i) in
        let g1 = subst (C had (clock.registers_of (get_or dogs i z).clocked)) new g in
        let g2 = subst (λ (r : Registers). C had r is) old g1 in
        rw (last-same (device_after last i) m (after-seen last i) k) (subst (λ (x : Bool). C x was is) has g2)

    -- a chain in which none expires has expired within none
    pub unexpired : (last : List Bool) (k device : ℕ) → states_given now during ≡ take k (restore_then s edge gap tail last) → 1 ≤ device → device ≤ s.devices
        → k ≤ length (restore_then s edge gap tail last) → Calm now during → expired_within now (restore_then s edge gap tail last) k device ≡ false
    unfolding expired_within
    unexpired last k device e h l t calm = within k (omega arith)
      where
        ss : List ℕ
        ss = restore_then s edge gap tail last

        q : CalmFrom (λ device. 1) now (take k ss)
        q = rw e at (calm-ran (λ device. 1) now during b.runs calm)

        one : (j : ℕ) → 1 ≤ j → j ≤ k → expires now ss j device ≡ false
        one j x y = rw (take-take j k ss y) at (q device j h (omega (arith, devices)) x (omega (arith, taken k ss t)) x)

        within : (j : ℕ) → j ≤ k → expired_within now ss j device ≡ false
        within zero y = refl
        within (suc j) y = rw (one (suc j) (omega arith) y) (within j (omega arith))

    -- ---- watchdogs that do not expire

    own-configuration : (i : ℕ) (o : Own) → i < length now → (get_or (owned s) i o).configuration ≡ s.configuration
    own-configuration i o h = all-place (λ o. o.configuration ≡ s.configuration) (owned s) i o (rw (length-owned s, devices) h) (owned-configuration s)

    sound-at : (i : ℕ) → i < length now → Sound (get_or now i blank)
    sound-at i h = all-place Sound now i blank h whole.sound

    limit-at : (i : ℕ) → i < length now → 1 ≤ (get_or now i blank).registers.watch.limit
    limit-at i h =
        let w : Watch = (get_or now i blank).registers.watch in
        let f = and_both (is_bit w.bit) _ (watch-of (get_or now i blank) (sound-at i h).fit) in
        let g = and_both (is_limit w.limit) _ f.1 in
        leb-true 1 w.limit (and_both (leb 1 w.limit) (leb w.limit 2000000) g.0).0

    -- as the model's devices do
    expires-model : (last : List Bool) (clock i : ℕ) → i < length now → watchdog.expires dogs (model_states ++ lows last) clock (suc i) ≡ expires now (restore_then s edge gap tail last) clock (suc i)
    expires-model last clock i h =
        let ls : List State = model_states ++ lows last in
        rw (then-states last)
        (rw map-state_at-state_code at (expires-same now (map state_code ls) whole.sound (all-below 4 (map state_code ls) (codes-below ls)) clock (suc i) (omega arith) (omega arith)))

    -- at the end of each of its clocks from one on each device holds a configuration with the enabling bit clear
    pub calm-clear : (last : List Bool) (from : ℕ → ℕ)
        → ((i clock : ℕ) → i < length now → from (suc i) ≤ clock
        → Clear (cond (leb (arrival s gap tail Configuration (suc i)) clock) s.configuration (get_or now i blank).registers.configuration) (get_or now i blank))
        → CalmFrom from now (restore_then s edge gap tail last)
    calm-clear last from f device clock h l m n x = by device clock h l m n x
      where
        z : Watched
        z = watched_of blank

        o : Own
        o = record { configuration = 0; calibration = []; global = 0; individual = [] }

        by : (device clock : ℕ) → 1 ≤ device → device ≤ length now → 1 ≤ clock → clock ≤ length (restore_then s edge gap tail last) → from device ≤ clock
            → expires now (restore_then s edge gap tail last) clock device ≡ false
        by zero clock h l m n x = absurd (omega arith)
        by (suc i) zero h l m n x = absurd (omega arith)
        by (suc i) (suc k) h l m n x =
            let d : Device = get_or now i blank in
            let g : get_or dogs i z ≡ watched_of d = ListN.get_or-map watched_of now i blank in
            let t : suc k ≤ length (model_states ++ lows last) = rw (then-states last, length-map) at n in
            let c : Clear (cond (leb (arrival s gap tail Configuration (suc i)) (suc k)) (get_or (owned s) i o).configuration (device_of d).registers.configuration) d =
            rw (own-configuration i o (omega arith), configuration-same d) (f i (suc k) (omega arith) x) in
            sym (expires-model last (suc k) i (omega arith))
            ∙ watched-idle (part_of s.part) (owned s) edge gap (tails_of tail) last dogs dogs-ready i z (rw (length-owned s, devices) (omega arith)) o k (omega arith)
            (rw g (limit-at i (omega arith))) (rw g c)

    -- counts and clocks together are fewer than the limit
    pub calm-short : (last : List Bool) (from : ℕ → ℕ) → All (Short (length (restore_then s edge gap tail last))) now → CalmFrom from now (restore_then s edge gap tail last)
    calm-short last from f device clock h l m n x = by device h l
      where
        z : Watched
        z = watched_of blank

        by : (device : ℕ) → 1 ≤ device → device ≤ length now → expires now (restore_then s edge gap tail last) clock device ≡ false
        by zero h l = absurd (omega arith)
        by (suc i) h l =
            let d : Device = get_or now i blank in
            let e : suc i - 1 ≡ i = omega arith in
            let a : length dogs ≡ length now = length-map now watched_of in
            let g : get_or dogs i z ≡ watched_of d = ListN.get_or-map watched_of now i blank in
            let q = all-place (Short (length (restore_then s edge gap tail last))) now i blank (omega arith) f in
            sym (expires-model last clock i (omega arith))
            ∙ expires-early dogs (model_states ++ lows last) clock (suc i) z h (omega arith) (rw (e, g) (omega (arith, q.0))) (rw (e, g) (omega (arith, q.1)))

-- ---- the claim

-- a place among frames and the clocks between them, in the claim's terms
in-gap : (s : Set) (edge : Command → Edge) (gap : Command → List Bool) (tail : Command → Tail) (last : List Bool) (j k : ℕ) → length (restore_part s edge gap tail j) ≤ k
    → k ≤ length (restore_part s edge gap tail j) + length (gap_after gap last j)
    → take k (restore_then s edge gap tail last) ≡ restore_part s edge gap tail j ++ quiet_states (take (k - length (restore_part s edge gap tail j)) (gap_after gap last j))
unfolding frame_part
in-gap s edge gap tail last j k h l = take-gap gap (λ c. serial.frame_states (edge c) (written_frame s c (tail c)) (frame_size s c (tail c))) restore_order last j k h l

-- each device may expire up to its own individual slice
pub demand-three-each : DemandThreeEach
demand-three-each p bit limit records earlier during s edge gap tail last k b e = record {
  restored = λ h later r w c. held b edge gap (take (k - length (restore_states s edge gap tail)) last) (e ∙ take-then k (restore_states s edge gap tail) last h) later r w c;
  returned = λ j h l. returned-all b edge gap (take (k - length (restore_part s edge gap tail j)) (gap_after gap last j)) j (e ∙ in-gap s edge gap tail last j k h l);
  cut = cuts;
}
  where
    now : List Device
    now = start p bit limit records earlier

    cuts : (device : ℕ) (o : Own) → 1 ≤ device → device ≤ s.devices → k ≤ length (restore_then s edge gap tail last)
        → CalmCalls (λ device. arrival s gap tail Individual device) now during
        → CutClocked (λ c j. leb (arrival s gap tail c device) j) k
        (last_boundary (λ j. clocked_of (get_or (run_devices now (take j (restore_then s edge gap tail last))) (device - 1) blank)) k) (get_or (owned s) (device - 1) o)
        (faded (expired_within now (restore_then s edge gap tail last) k device) (registers_at now device)) (registers_at (after_calls now during) device)
    cuts zero o h l t c = absurd (omega arith)
    cuts (suc i) o h l t c =
        let j : suc i - 1 ≡ i = omega arith in
        rw j (cut_at b edge gap last k i o e l t c)

-- up to the last clock of the configuration frame
pub demand-three-expired : DemandThreeExpired
demand-three-expired p bit limit records earlier during s edge gap tail last k b e =
    let now : List Device = start p bit limit records earlier in
    let x = demand-three-each p bit limit records earlier during s edge gap tail last k b e in
    let later : (cs : List Call) → CalmCalls (λ device. length (frame_part s edge gap tail Configuration) + 1) now cs → CalmCalls (λ device. arrival s gap tail Individual device) now cs =
    λ cs c. calm-later (λ device. length (frame_part s edge gap tail Configuration) + 1) (λ device. arrival s gap tail Individual device) (λ device. configuration-before b edge gap device) now cs c in
    record {
      restored = λ h calls r w c. x.restored h calls r w (later (during ++ calls) c);
      returned = x.returned;
      cut = λ device o h l t c. x.cut device o h l t (later during c);
    }

-- in no clock: what stands for old registers is old
pub demand-three : DemandThree
demand-three p bit limit records earlier during s edge gap tail last k b e =
    let now : List Device = start p bit limit records earlier in
    let x = demand-three-each p bit limit records earlier during s edge gap tail last k b e in
    let later : (cs : List Call) → CalmCalls (λ device. 1) now cs → CalmCalls (λ device. arrival s gap tail Individual device) now cs =
    λ cs c. calm-later (λ device. 1) (λ device. arrival s gap tail Individual device) (λ device. omega arith) now cs c in
    record {
      restored = λ h calls r w c. x.restored h calls r w (later (during ++ calls) c);
      returned = x.returned;
      cut = λ device o h l t c.
          rw (unexpired b edge gap last k device e h l t c) at (x.cut device o h l t (later during c));
    }

-- ---- each frame's own return

answers-append : (ds : List Device) (cs es : List Call) → answers ds (cs ++ es) ≡ answers ds cs ++ answers (after_calls ds cs) es
unfolding answers after_calls
answers-append ds [] es = refl
answers-append ds (c ∷ cs) es = rw (answers-append (after ds c) cs es, append_assoc)

runs-front : (ds : List Device) (cs es : List Call) → Runs ds (cs ++ es) → Runs ds cs
runs-front ds [] es r = tt
runs-front ds (c ∷ cs) es r = (r.0, runs-front (after ds c) cs es r.1)

told-zero : (t : Told) (tail : Tail) (byte : ℕ) (bytes values : List ℕ) (room : ℕ) → write_refusal t tail byte bytes values room ≡ 0
    → first (told_rows t.part t.devices tail) ≡ 0
unfolding write_refusal
told-zero t tail byte bytes values room e =
    let c = clear (write_table t tail byte bytes values room) refl e in
    none (told_rows t.part t.devices tail) (c.0, (c.1.0, (c.1.1.0, tt)))

pub counted : Counted
counted p bit limit records earlier former during s edge gap tail last j b l e f =
    let ds : List Device = start p bit limit records earlier in
    let now : List Device = after_calls ds former in
    let c : Command = get_or restore_order j Individual in
    let rs : List (List Bool) = returns_of (tails_of tail) (registers_all ds) in
    let flags : Command → ℕ = λ k. faults k (registers_all ds) in
    let b' : RestorePremises p bit limit records earlier former s tail =
    record { accepted = b.accepted; writable = b.writable; devices = b.devices; part = b.part; runs = runs-front ds former during b.runs } in
    let x = ap (λ (a : List ℕ). data_bits a) (returned-all b' edge gap [] j (e ∙ sym (append-nil (restore_part s edge gap tail j)))) ∙ bits-flatten (take j rs) in
    let n : flatten (take (suc j) (map (frame_part s edge gap tail) restore_order)) ≡ restore_part s edge gap tail j ++ frame_part s edge gap tail c =
    flatten-take-suc (map (frame_part s edge gap tail) restore_order) j (rw length-map l) ∙ rw (get_d_map (frame_part s edge gap tail) restore_order j Individual [] l) in
    let g : states_given ds (former ++ during) ≡ restore_part s edge gap tail (suc j) ++ quiet_states last = rw (states_given-append ds former during, e, f, n, append_assoc) in
    let y = ap (λ (a : List ℕ). data_bits a) (returned-all b edge gap last (suc j) g) ∙ bits-flatten (take (suc j) rs) in
    let r : flatten (take (suc j) rs) ≡ flatten (take j rs) ++ return_of c (flags c) (tail_bits (tail c)) =
    flatten-take-suc rs j (rw length-map l) ∙ rw (get_d_map (λ (k : Command). return_of k (flags k) (tail_bits (tail k))) restore_order j Individual [] l) in
    let k : data_bits (answers ds former) ++ data_bits (answers now during) ≡ flatten (take j rs) ++ return_of c (flags c) (tail_bits (tail c)) =
    sym (map-append (λ s. data_bit (state_at s)) (answers ds former) (answers now during)) ∙ ap (λ (a : List ℕ). data_bits a) (sym (answers-append ds former during)) ∙ y ∙ r in
    let z : data_bits (answers now during) ≡ return_of c (flags c) (tail_bits (tail c)) =
    sym (drop_at (data_bits (answers ds former)) (data_bits (answers now during)) _ refl) ∙ ap (drop (length (data_bits (answers ds former)))) k
    ∙ drop_at (flatten (take j rs)) (return_of c (flags c) (tail_bits (tail c))) (length (data_bits (answers ds former))) (ap (λ (a : List Bool). length a) (sym x)) in
    let m : flags c ≤ s.devices = rw (devices b) (rw length-map at (how_many-le (fault c) (registers_all ds))) in
    ap (λ (a : List Bool). reader.return_read s.part s.devices c (tail c) (bytes_of a)) z
    ∙ return_read_lem s.part s.devices c (tail c) (flags c)
    (told-zero (told s c) (tail c) (set_byte s c) s.calibration s.individual (frame_length (told s c) (tail c)) (b.writable.accepted c))
    (accepted-writable b.writable c).tail-low m

-- ---- the claims can be met

All-any : (P : Device → Type 0) → ((d : Device) → P d) → (ds : List Device) → All P ds
All-any P h [] = tt
All-any P h (d ∷ ds) = (h d, All-any P h ds)

-- any states can be given: one run of them, with the room that it needs
run-accepted : (p : ℕ) (ds : List Device) (ss out : List ℕ) → Whole p ds → all_below ss 4 ≡ true → room_for (length ss) ≤ length out → refusal_of ds (run ss out) ≡ 0
run-accepted p ds ss out w a l = own-refusal p ds (run ss out) w ∙ rw (le-ltb (length out) (room_for (length ss)) l, a)

states_given-one : (ds : List Device) (ss out : List ℕ) → refusal_of ds (run ss out) ≡ 0 → states_given ds (run ss out ∷ []) ≡ ss ++ []
unfolding states_given refusal_of
states_given-one ds ss out e = rw e

-- whatever it holds, a device waits for at most one frame
pub longest-wait : LongestWait
longest-wait d = omega (arith, length_most d.registers)

pub restorable : Restorable
restorable p bit limit records earlier s edge gap tail last out room fresh writable devices part l n m =
    let ss : List ℕ = restore_states s edge gap tail in
    let zs : List ℕ = quiet_states last in
    let now : List Device = start p bit limit records earlier in
    let during : List Call = run ss out ∷ [] in
    let later : List Call = run zs room ∷ [] in
    let b : RestorePremises p bit limit records earlier during s tail = record { accepted = fresh; writable = writable; devices = devices; part = part; runs = (tt, tt) } in
    let a : all_below ss 4 ≡ true = rw (restore-states writable edge gap) (codes-below (pieces_states (part_of s.part) (owned s) edge gap (tails_of tail))) in
    let r = run-accepted _ now ss out (whole b) a l in
    let e = states_given-one now ss out r in
    let w : Whole s.part (after_calls now during) = whole-runs s.part now during (whole b) b.runs in
    let q : refusal_of (after_calls now during) (run zs room) ≡ 0 =
    run-accepted _ (after_calls now during) zs room w (codes-below (lows last)) (rw (length-quiet last, n) m) in
    let f = states_given-one (after_calls now during) zs room q in
    let settles : Settles (after_calls now during) later =
    (cond_both (λ (xs : List ℕ). all_below xs 2 ≡ true) (eqb (run_refusal (after_calls now during) zs (length room)) 0) zs [] (λ _. lows-below last) (λ _. refl), tt) in
    let all : states_given now (during ++ later) ≡ restore_then s edge gap tail last = rw (states_given-append now during later, e, f, append-nil ss, append-nil zs) in
    let given : length (states_given now (during ++ later)) ≡ length ss + 524288 = rw (all, length-append ss zs, length-quiet last, n) in
    let enough : length (states_given now (during ++ later)) - length ss ≡ 524288 = omega (arith, given) in
    let waited : Waited now ss (during ++ later) = rw enough (All-any (ReturnsWithin 524288) longest-wait (run_devices now ss)) in
    let pieces : (from : ℕ → ℕ) → CalmFrom from now (restore_then s edge gap tail last) → CalmCalls from now (during ++ later) =
    λ from c. calm-pieces from now (during ++ later) (tt, (tt, tt)) (rw all c) in
    let within : (device : ℕ) → arrival s gap tail Configuration device ≤ length (frame_part s edge gap tail Configuration) = λ device. configuration-within b edge gap device in
    record {
      restore_accepted = r;
      wait_accepted = q;
      premises = b;
      given = e;
      settles = settles;
      waited = waited;
      restored = λ c. held b edge gap [] e later settles waited c;
      cleared = λ c. pieces (λ device. length (frame_part s edge gap tail Configuration) + 1)
          (calm-clear b edge gap last (λ device. length (frame_part s edge gap tail Configuration) + 1)
          (λ i clock h x. rw (le-leb (arrival s gap tail Configuration (suc i)) clock (omega (arith, within (suc i)))) (all-place (Clear s.configuration) now i blank h c)));
      clear = λ c d. pieces (λ device. 1)
          (calm-clear b edge gap last (λ device. 1)
          (λ i clock h x. cond_both (λ (k : ℕ). Clear k (get_or now i blank)) (leb (arrival s gap tail Configuration (suc i)) clock) _ _
          (λ _. all-place (Clear s.configuration) now i blank h c) (λ _. all-place (λ d. Clear d.registers.configuration d) now i blank h d)));
      short = λ c. pieces (λ device. 1) (calm-short b edge gap last (λ device. 1) c);
    }
