-- The run that looks at a device only where it is sent something, every device then brought up to its last clock, is the run clock by clock of
-- calls/specs/Chain. One clock of one device: within it by the view through `by_clock`, with another watchdog; then the watchdog's own clock. Then
-- by induction on the devices, and on the states. Assumes nothing.
use mathlib.Core.Path.{◌≡◌, refl, sym, ap, subst, ◌∙◌}
use mathlib.Core.Bool.{Bool, true, false, cond, ◌&&◌, ◌||◌, or-true}
use mathlib.Core.List.{List, [], ◌∷◌, ◌++◌, map}
use Prim.Native.Nat.{ℕ, ◌+◌, ◌-◌, ◌%◌, ◌^◌, ◌<◌}
use native.Mathlib.Omega.{arith}
use lib.Dec.{leb}
use lib.ListN.{length}
use borrow.Author.Tests.{le-ltb, le-leb, leb-true}
use Rattle.machine.specs.Machine.{and_then, relay, relay_one, relays, All}
use Rattle.machine.specs.Machine as machine
use Rattle.machine.proofs.Machine.{run-nil, run-view, run_holds, run-keeps, chain-nil, chain-append}
use Rattle.parts.specs.declared.command.Command.{Command}
use Rattle.phases.specs.declared.phase.Place.{Place}
use Rattle.phases.specs.declared.phase.Sent.{Sent}
use Rattle.phases.specs.declared.phase.Sent.TheVariants.{Nothing, One, Header}
use Rattle.watch.specs.declared.watch.Watch.{Watch}
use Rattle.watch.specs.Watch.{is_limit, is_bit, line_fits, watch_fits, enabled}
use Rattle.watch.specs.Kept.{run_on, watch_by, expired_by, watch_in}
use Rattle.watch.proofs.Clocks.{EarlyWatch, early-watch-first, early-watch-next, early-watch-in, watch-clock, watch-idle, expired-by}
use Rattle.registers.specs.Held.{with_slice, with_watch, showing, cleared}
use Rattle.registers.specs.declared.registers.Registers.{Registers}
use Rattle.positions.specs.Positions.{length_in, placed_at, refit, refitted, ticked}
use Rattle.positions.specs.Running.{has_ended, shown_by, position_by, by_clock, dated}
use Rattle.positions.proofs.Brought.{Early, by_next, early-next, early-first, by_first, dated-by, dated-early}
use Rattle.storing.specs.Stored.{stored}
use Rattle.device.specs.Step.{step, ticked_device, sent_states}
use Rattle.device.specs.Judgement.{fits}
use Rattle.device.specs.Run.{step_record, under_watch, watched, clock_record}
use Rattle.device.specs.declared.device.Device.{Device}
use Rattle.device.specs.declared.device.Stepped.{Stepped}
use Rattle.device.proofs.Shown.{shown, stored-shown, step-shown}
use Rattle.device.proofs.Position.{step-watch}
use Rattle.device.proofs.Kept.{parts-of, watch-of}
use Rattle.calls.specs.Chain.{through, all_fit}
use Rattle.tables.proofs.Booleans.{and_both, and_left, and_right, both-and, or-first}
use Rattle.intake.specs.Intake.{dated_by, dated_step, step_in}
use Rattle.turns.specs.Watching.{is_on, cleared_if, watched_by}
use Rattle.turns.specs.Ending.{by_clock_device}
use Rattle.turns.proofs.Timed.{Timed, stamp, stamped, states, step_timed, run_timed, states-stamped}
use Rattle.turns.proofs.Late.{Packet, packet, singles, before, acted, step_late, relay_late, states_in, singles-none, singles-cons, states-packet, states-append, in_clock, relay-packet}
use Rattle.turns.proofs.Acts.{run-seen, reads_same, Acts, stays, passes, moves, stores, acts, rewatched, step-watched}

-- its position has not run on over 2 ^ 64
abbrev pub EarlyDevice : ℕ → Device → Type 0
EarlyDevice t d = Early t d.registers

-- a device by clock t, but for its watchdog
abbrev brought : ℕ → Device → Device
brought t d = record { registers = by_clock t d.registers; place = d.place }

-- ---- one state within a clock

-- a frame whose length stays leaves the position
refit-same : (m n : ℕ) → refit m m n ≡ n
refit-same m n = let h : m ≡ m = refl in ap (λ (b : Bool). cond b (n % m) n) (le-ltb m m (omega arith))

module _ (t : ℕ) where
  -- a state of clock t acts on a device
  unfoldable pub step_at : Device → ℕ → Device × List ℕ
  step_at d s = ((step_in t d s).device, sent_states (step d s).sent)

  -- what registers show by clock t: a value that waited, or an active one
  abbrev shows : {A : Type 0} → Registers → (Registers → A) → (Registers → A) → A
  shows r waits active = cond (has_ended t r) (waits r) (active r)

  -- other registers, showing that, at the position by clock t
  abbrev seen : Registers → Registers → Registers
  seen r q = shown (shows r (λ x. x.waiting) (λ x. x.active)) (shows r (λ x. x.waiting0) (λ x. x.active0)) (shows r (λ x. x.waiting1) (λ x. x.active1)) (position_by t r) q

  -- what became of the record, by clock t
  abbrev now : Registers → Stepped → Registers
  now r x = by_clock t (dated_step t r x).device.registers

  seen-slice : (r : Registers) (slice : List ℕ) → by_clock t (with_slice r slice) ≡ refitted (by_clock t r) (seen r (with_slice r slice))
  unfolding by_clock
  seen-slice r slice = ap (λ (n : ℕ). placed_at (shown_by t r (with_slice r slice)) n) (sym (refit-same (length_in r) (position_by t r)))

  -- a store leaves what is active
  seen-store : (r : Registers) (slice : List ℕ) (c : Command) → t < 2 ^ 63
      → by_clock t (dated t r (stored (with_slice r slice) c)) ≡ refitted (by_clock t r) (seen r (stored (with_slice r slice) c))
  unfolding by_clock
  seen-store r slice c h =
      let new : Registers = stored (with_slice r slice) c in
      let ended : Bool = has_ended t r in
      dated-by t r new h
      ∙ ap (λ (z : Registers).
      placed_at (showing new new.overtemperature new.openled (cond ended r.waiting z.active) (cond ended r.waiting0 z.active0) (cond ended r.waiting1 z.active1))
      (refit (length_in r) (length_in new) (position_by t r))) (stored-shown r.active r.active0 r.active1 r.position (with_slice r slice) c)

  seen-acts : (r : Registers) {q : Registers} {x y : Stepped} → t < 2 ^ 63 → Acts r q x y → now r x ≡ refitted (by_clock t r) (seen r x.device.registers)
  seen-acts r h (stays p) = seen-slice r r.slice
  seen-acts r h (passes p s) = seen-slice r r.slice
  seen-acts r h (moves slice p) = seen-slice r slice
  seen-acts r h (stores slice c n) = seen-store r slice c h

  same_place_lem : (r : Registers) (x : Stepped) → (dated_step t r x).device.place ≡ x.device.place
  same_place_lem r x = go x.sent
    where
      go : (y : Sent) → (dated_by y t r x.device).place ≡ x.device.place
      go Nothing = refl
      go (One s) = refl
      go (Header c n) = refl

  -- the record and what is sent, by what became of each
  abbrev both : Registers → Stepped → Device × List ℕ
  both q x = (record { registers = q; place = x.device.place }, sent_states x.sent)

  agree : t < 2 ^ 63 → (d : Device) (s : ℕ) → (brought t (step_at d s).0, (step_at d s).1) ≡ step_record (brought t d) s
  unfolding step_at step_record by_clock
  agree h d s =
      let r : Registers = d.registers in
      let x : Stepped = step d s in
      let ended : Bool = has_ended t r in
      ap (λ (p : Place). (record { registers = now r x; place = p }, sent_states x.sent)) (same_place_lem r x)
      ∙ ap (λ (q : Registers). both q x) (seen-acts r h (acts r r (reads_same r) d.place s))
      ∙ ap (λ (y : Stepped). both (refitted (by_clock t r) y.device.registers) y)
      (sym (step-shown (cond ended r.waiting r.active) (cond ended r.waiting0 r.active0) (cond ended r.waiting1 r.active1) (position_by t r) d s))

  keep-acts : (r : Registers) {q : Registers} {x y : Stepped} → t < 2 ^ 63 → Early t r → Acts r q x y → Early t (dated_step t r x).device.registers
  keep-acts r h e (stays p) = e
  keep-acts r h e (passes p s) = e
  keep-acts r h e (moves slice p) = e
  keep-acts r h e (stores slice c n) = dated-early t r (stored (with_slice r slice) c) h

  keep : t < 2 ^ 63 → (d : Device) (s : ℕ) → EarlyDevice t d → EarlyDevice t (step_at d s).0
  unfolding step_at
  keep h d s e = keep-acts d.registers h e (acts d.registers d.registers (reads_same d.registers) d.place s)

  -- states of one clock: what they make of the device, by that clock
  run-stamped : (d : Device) (ss : List ℕ) → ((machine.run step_at d ss).0, stamped t (machine.run step_at d ss).1) ≡ run_timed d (stamped t ss)
  unfolding step_at step_timed
  run-stamped d ss = run-view step_timed step_at (λ (e : Device). e) (stamp t) (λ _. Unit {0}) (λ e s u. tt) (λ e s u. refl) d ss tt

  run-brought : t < 2 ^ 63 → (d : Device) (ss : List ℕ)
      → (brought t (run_timed d (stamped t ss)).0, states (run_timed d (stamped t ss)).1) ≡ machine.run step_record (brought t d) ss
  run-brought h d ss =
      ap (λ (x : Device × List Timed). (brought t x.0, states x.1)) (sym (run-stamped d ss))
      ∙ ap (λ (os : List ℕ). (brought t (machine.run step_at d ss).0, os)) (states-stamped t (machine.run step_at d ss).1)
      ∙ run-seen step_record step_at (brought t) (agree h) d ss

  run-early : t < 2 ^ 63 → (d : Device) (ss : List ℕ) → EarlyDevice t d → EarlyDevice t (run_timed d (stamped t ss)).0
  run-early h d ss e =
      subst (λ (x : Device × List Timed). EarlyDevice t x.0) (run-stamped d ss) (run_holds step_at (EarlyDevice t) (keep h) d ss e)

-- no state changes the watchdog
dated-watch : (y : Sent) (t : ℕ) (r : Registers) (d : Device) → (dated_by y t r d).registers.watch ≡ d.registers.watch
unfolding dated
dated-watch Nothing t r d = refl
dated-watch (One s) t r d = refl
dated-watch (Header c n) t r d = refl

timed-watch : (d : Device) (x : Timed) → (step_timed d x).0.registers.watch ≡ d.registers.watch
unfolding step_timed
timed-watch d x = let y : Stepped = step d x.state in dated-watch y.sent x.clock d.registers y.device ∙ step-watch d x.state

run-watch : (d : Device) (xs : List Timed) → (run_timed d xs).0.registers.watch ≡ d.registers.watch
run-watch d xs = run-keeps step_timed (λ (e : Device). e.registers.watch) timed-watch d xs

-- ---- one clock of one device

-- position and watchdog have not run on over 2 ^ 64, and the limit is in range
abbrev Fit : ℕ → Device → Type 0
Fit t d = EarlyDevice t d × EarlyWatch t d.registers.watch × (is_limit d.registers.watch.limit ≡ true)

-- cleared, then by a clock, or the other way round
cleared_by : (b : Bool) (t : ℕ) (r : Registers) (w : Watch) → cleared_if b (with_watch (by_clock t r) w) ≡ with_watch (by_clock t (cleared_if b r)) w
unfolding by_clock
cleared_by true t r w = go (has_ended t r) refl
  where
    go : (z : Bool) → has_ended t r ≡ z → cleared (with_watch (placed_at (shown_by t r r) (position_by t r)) w)
        ≡ with_watch (placed_at (shown_by t (cleared r) (cleared r)) (position_by t (cleared r))) w
    go true e = rw e
    go false e = rw e
cleared_by false t r w = refl

cleared-early : (b : Bool) (t : ℕ) (r : Registers) → Early t r → Early t (cleared_if b r)
cleared-early true t r e = e
cleared-early false t r e = e

cleared-watch : (b : Bool) (r : Registers) → (cleared_if b r).watch ≡ r.watch
cleared-watch true r = refl
cleared-watch false r = refl

-- the end of a clock in which these states were sent
end-clock : (on : Bool) (t : ℕ) (sent : List ℕ) (w : Watch) (q : Registers) → t + 1 < 2 ^ 63 → EarlyWatch t w → is_limit w.limit ≡ true
    → watched_by (t + 1) (with_watch q (watch_in on (enabled w q.configuration) (t + 1) sent w)) ≡ watched sent (with_watch (by_clock (t + 1) q) (watch_by on t w))
unfolding watched watched_by by_clock
end-clock on t sent w q h e l =
    let now : Bool = enabled w q.configuration in
    let v : Watch = watch_in on now (t + 1) sent w in
    let z : Registers = by_clock (t + 1) q in
    ap (λ (b : Bool). cond b (cleared (with_watch z (watch_by now (t + 1) v))) (with_watch z (watch_by now (t + 1) v))) (expired-by now (t + 1) v (omega arith) l)
    ∙ ap (λ (u : Watch). under_watch z u) (watch-clock on now t q.configuration sent w refl h e)

by-watch : (t : ℕ) (r : Registers) (w : Watch) → by_clock t (with_watch r w) ≡ with_watch (by_clock t r) w
unfolding by_clock
by-watch t r w = refl

-- a packet of clock t
abbrev of : ℕ → List ℕ → Packet
of t ss = record { clock = t; states = ss }

-- the clock before
less_one : (t : ℕ) → t + 1 - 1 ≡ t
less_one t = omega arith

-- a device cleared if it has expired ticks as the device does by clock t
ticks-late : (t : ℕ) (r : Registers) → t < 2 ^ 63 → Early t r
    → ticked (watched_by t r) ≡ with_watch (by_clock (t + 1) (cleared_if (expired_by (is_on r) (t + 1 - 1) r.watch) r)) (watch_by (is_on r) t r.watch)
unfolding watched_by
ticks-late t r h e =
    ap ticked (cleared_by (expired_by (is_on r) t r.watch) t r v ∙ ap (λ (n : ℕ). with_watch (by_clock t (cleared_if (expired_by (is_on r) n r.watch) r)) v) (sym (less_one t)))
    ∙ ap ticked (sym (by-watch t q v)) ∙ sym (by_next t (with_watch q v) h (cleared-early (expired_by (is_on r) (t + 1 - 1) r.watch) t r e)) ∙ by-watch (t + 1) q v
  where
    v : Watch
    v = watch_by (is_on r) t r.watch

    q : Registers
    q = cleared_if (expired_by (is_on r) (t + 1 - 1) r.watch) r

clock-late : (t : ℕ) (d : Device) (ss : List ℕ) → t + 1 < 2 ^ 63 → Fit t d
    → (by_clock_device (t + 1) (step_late d (of (t + 1) ss)).0, states (acted (of (t + 1) ss) d).1) ≡ clock_record (by_clock_device t d) ss
unfolding step_late clock_record
clock-late t d ss h f =
    ap (λ (q : Registers). (record { registers = q; place = ran.0.place }, states ran.1)) ends
    ∙ ap ending (sym runs ∙ ap (λ (e : Device). machine.run step_record e ss) (sym ticks))
  where
    r : Registers
    r = d.registers

    w : Watch
    w = r.watch

    v : Watch
    v = watch_by (is_on r) t w

    first : Device
    first = before (t + 1) d

    ran : Device × List Timed
    ran = run_timed first (stamped (t + 1) ss)

    ending : Device × List ℕ → Device × List ℕ
    ending y = (record { registers = watched ss y.0.registers; place = y.0.place }, y.1)

    ticks : ticked_device (by_clock_device t d) ≡ rewatched v (brought (t + 1) first)
    ticks = ap (λ (q : Registers). record { registers = q; place = d.place }) (ticks-late t r (omega arith) f.0)

    runs : machine.run step_record (rewatched v (brought (t + 1) first)) ss ≡ (rewatched v (brought (t + 1) ran.0), states ran.1)
    runs =
        sym (run-seen step_record step_record (rewatched v) (step-watched v) (brought (t + 1) first) ss)
        ∙ ap (λ (y : Device × List ℕ). (rewatched v y.0, y.1)) (sym (run-brought (t + 1) h first ss))

    ends : watched_by (t + 1) (with_watch ran.0.registers (watch_in (is_on r) (is_on ran.0.registers) (t + 1) ss w))
        ≡ watched ss (with_watch (by_clock (t + 1) ran.0.registers) v)
    ends =
        ap (λ (u : Watch). watched_by (t + 1) (with_watch ran.0.registers (watch_in (is_on r) (enabled u ran.0.registers.configuration) (t + 1) ss w)))
        (run-watch first (stamped (t + 1) ss) ∙ cleared-watch (expired_by (is_on r) (t + 1 - 1) w) r)
        ∙ end-clock (is_on r) t ss w ran.0.registers h f.1 f.2

-- ---- a clock in which nothing is sent

-- one that has expired has expired a clock later
expired-next : (on : Bool) (t : ℕ) (w : Watch) → t + 1 < 2 ^ 63 → EarlyWatch t w → expired_by on t w ≡ true → expired_by on (t + 1) w ≡ true
expired-next on t w h e x =
    let some : (on && over t) ≡ true = and_right (leb 1 t) (on && over t) x in
    both-and (leb 1 (t + 1)) (on && over (t + 1)) (le-leb 1 (t + 1) (omega arith))
    (both-and on (over (t + 1)) (and_left on (over t) some) (go (leb w.limit (run_on t w.din.still)) refl (and_right on (over t) some)))
  where
    over : ℕ → Bool
    over n = leb w.limit (run_on n w.din.still) || leb w.limit (run_on n w.loadi.still)

    go : (z : Bool) → leb w.limit (run_on t w.din.still) ≡ z → (z || leb w.limit (run_on t w.loadi.still)) ≡ true → over (t + 1) ≡ true
    go true f g =
        or-first (leb w.limit (run_on (t + 1) w.loadi.still))
        (le-leb w.limit (run_on (t + 1) w.din.still) (omega (arith, e.0.0, e.0.1, leb-true w.limit (run_on t w.din.still) f)))
    go false f g =
        rw (le-leb w.limit (run_on (t + 1) w.loadi.still) (omega (arith, e.1.0, e.1.1, leb-true w.limit (run_on t w.loadi.still) g)))
        (or-true (leb w.limit (run_on (t + 1) w.din.still)))

-- who is cleared later need not be cleared now
cleared-late : (t : ℕ) (r : Registers) → expired_by (is_on r) t r.watch ≡ true → watched_by t (cleared r) ≡ watched_by t r
unfolding watched_by by_clock
cleared-late t r e = rw e

idle-late : (t : ℕ) (d : Device) → t + 1 < 2 ^ 63 → Fit t d → by_clock_device (t + 1) (step_late d (of (t + 1) [])).0 ≡ by_clock_device (t + 1) d
unfolding step_late
idle-late t d h f =
    ap (λ (y : Device × List Timed). record { registers = heard y.0.registers; place = y.0.place }) (run-nil step_timed (before (t + 1) d))
    ∙ ap (λ (q : Registers). record { registers = q; place = d.place })
    (go (expired_by (is_on r) (t + 1 - 1) w) (λ x. expired-next (is_on r) t w h f.1 (ap (λ (n : ℕ). expired_by (is_on r) n w) (sym (less_one t)) ∙ x)))
  where
    r : Registers
    r = d.registers

    w : Watch
    w = r.watch

    heard : Registers → Registers
    heard q = watched_by (t + 1) (with_watch q (watch_in (is_on r) (is_on q) (t + 1) [] w))

    go : (b : Bool) → (b ≡ true → expired_by (is_on r) (t + 1) w ≡ true) → heard (cleared_if b r) ≡ watched_by (t + 1) r
    go true k = ap (λ (u : Watch). watched_by (t + 1) (with_watch (cleared r) u)) (watch-idle (is_on r) (t + 1) w) ∙ cleared-late (t + 1) r (k refl)
    go false k = ap (λ (u : Watch). watched_by (t + 1) (with_watch r u)) (watch-idle (is_on r) (t + 1) w)

-- ---- one clock of a chain

in-late : (t : ℕ) (d : Device) (ss : List ℕ) → t + 1 < 2 ^ 63 → Fit t d
    → (by_clock_device (t + 1) (in_clock (t + 1) d ss).0, (in_clock (t + 1) d ss).1) ≡ clock_record (by_clock_device t d) ss
unfolding in_clock
in-late t d [] h f =
    ap (λ (e : Device). (e, [])) (sym (idle-late t d h f))
    ∙ ap (λ (y : Device × List Timed). (by_clock_device (t + 1) (step_late d (of (t + 1) [])).0, states y.1)) (sym (run-nil step_timed (before (t + 1) d)))
    ∙ clock-late t d [] h f
in-late t d (s ∷ ss) h f = clock-late t d (s ∷ ss) h f

fit-late : (t : ℕ) (d : Device) (ss : List ℕ) → t + 1 < 2 ^ 63 → Fit t d → Fit (t + 1) (in_clock (t + 1) d ss).0
unfolding in_clock step_late
fit-late t d [] h f = (early-next t d.registers (omega arith) f.0, early-watch-next t d.registers.watch h f.1, f.2)
fit-late t d (s ∷ ss) h f =
    let r : Registers = d.registers in
    let b : Bool = expired_by (is_on r) (t + 1 - 1) r.watch in (
      run-early (t + 1) h (before (t + 1) d) (s ∷ ss) (cleared-early b (t + 1) r (early-next t r (omega arith) f.0)),
      early-watch-in (is_on r) (is_on (acted (of (t + 1) (s ∷ ss)) d).0.registers) t (s ∷ ss) r.watch h f.1,
      f.2,
    )

relay-late : (t : ℕ) (ds : List Device) (ss : List ℕ) → t + 1 < 2 ^ 63 → All (Fit t) ds
    → (map (by_clock_device (t + 1)) (relay (in_clock (t + 1)) ds ss).0, (relay (in_clock (t + 1)) ds ss).1) ≡ relay clock_record (map (by_clock_device t) ds) ss
unfolding relay
relay-late t [] ss h f = refl
relay-late t (d ∷ ds) ss h f = rw (← in-late t d ss h f.0, ← relay-late t ds (in_clock (t + 1) d ss).1 h f.1)

relay-fit : (t : ℕ) (ds : List Device) (ss : List ℕ) → t + 1 < 2 ^ 63 → All (Fit t) ds → All (Fit (t + 1)) (relay (in_clock (t + 1)) ds ss).0
unfolding relay
relay-fit t [] ss h f = tt
relay-fit t (d ∷ ds) ss h f = (fit-late t d ss h f.0, relay-fit t ds (in_clock (t + 1) d ss).1 h f.1)

-- ---- clock by clock

abbrev Ended : List Device × List Packet → ℕ → List Device × List ℕ
Ended x t = (map (by_clock_device t) x.0, states_in x.1)

by-clocks : (t : ℕ) (ds : List Device) (ss : List ℕ) → t + length ss < 2 ^ 63 → All (Fit t) ds
    → Ended (relay_late ds (singles t ss)) (t + length ss) ≡ relays clock_record (map (by_clock_device t) ds) ss
unfolding machine.run relay_one
by-clocks t ds [] h f =
    let k : t + 0 ≡ t = omega arith in
    ap (λ (xs : List Packet). Ended (relay_late ds xs) (t + 0)) (singles-none t) ∙ ap (λ (x : List Device × List Packet). Ended x (t + 0)) (chain-nil step_late ds)
    ∙ ap (λ (n : ℕ). (map (by_clock_device n) ds, states_in [])) k ∙ ap (λ (os : List ℕ). (map (by_clock_device t) ds, os)) (states-packet t [])
by-clocks t ds (s ∷ ss) h f =
    let l : t + 1 < 2 ^ 63 = omega (arith, h) in
    let n : ℕ = t + length (s ∷ ss) in
    let k : n ≡ t + 1 + length ss = omega arith in
    let one : List Device × List ℕ = relay (in_clock (t + 1)) ds (s ∷ []) in
    let rest : List Device × List Packet = relay_late one.0 (singles (t + 1) ss) in
    ap (λ (xs : List Packet). Ended (relay_late ds xs) n) (singles-cons t s ss)
    ∙ ap (λ (x : List Device × List Packet). Ended x n) (chain-append step_late ds (packet (t + 1) (s ∷ [])) (singles (t + 1) ss))
    ∙ ap (λ (x : List Device × List Packet). Ended (and_then x (λ es. relay_late es (singles (t + 1) ss))) n) (relay-packet (t + 1) ds (s ∷ []))
    ∙ ap (λ (os : List ℕ). (map (by_clock_device n) rest.0, os)) (states-append (packet (t + 1) one.1) rest.1)
    ∙ ap (λ (os : List ℕ). (map (by_clock_device n) rest.0, os ++ states_in rest.1)) (states-packet (t + 1) one.1)
    ∙ ap (λ (m : ℕ). (map (by_clock_device m) rest.0, one.1 ++ states_in rest.1)) k
    ∙ ap (λ (x : List Device × List ℕ). (x.0, one.1 ++ x.1)) (by-clocks (t + 1) one.0 ss (omega (arith, h)) (relay-fit t ds (s ∷ []) l f))
    ∙ ap (λ (x : List Device × List ℕ). and_then x (λ es. relays clock_record es ss)) (relay-late t ds (s ∷ []) l f)

-- records that fit, from the first clock on
fit-start : (ds : List Device) → all_fit ds ≡ true → All (Fit 0) ds
fit-start [] h = tt
fit-start (d ∷ ds) h =
    let b = and_both (fits d) (all_fit ds) h in
    let w : Watch = d.registers.watch in
    let v : watch_fits w ≡ true = watch-of d b.0 in (
      (
        early-first d.registers (parts-of d b.0).1,
        early-watch-first w v,
        and_left (is_limit w.limit) (line_fits w.din && line_fits w.loadi) (and_right (is_bit w.bit) (is_limit w.limit && (line_fits w.din && line_fits w.loadi)) v),
      ),
      fit-start ds b.1,
    )

fit-first : (ds : List Device) → all_fit ds ≡ true → map (by_clock_device 0) ds ≡ ds
unfolding watched_by
fit-first [] h = refl
fit-first (d ∷ ds) h =
    let b = and_both (fits d) (all_fit ds) h in
    ap (λ (r : Registers). record { registers = with_watch r d.registers.watch; place = d.place } ∷ map (by_clock_device 0) ds) (by_first d.registers (parts-of d b.0).1)
    ∙ ap (λ (es : List Device). d ∷ es) (fit-first ds b.1)

pub run-by-clock : (ds : List Device) (ss : List ℕ) → length ss < 2 ^ 63 → all_fit ds ≡ true
    → (map (by_clock_device (length ss)) (relay_late ds (singles 0 ss)).0, states_in (relay_late ds (singles 0 ss)).1) ≡ through ds ss
run-by-clock ds ss h f =
    let k : 0 + length ss ≡ length ss = omega arith in
    ap (Ended (relay_late ds (singles 0 ss))) (sym k) ∙ by-clocks 0 ds ss (omega (arith, h)) (fit-start ds f)
    ∙ ap (λ (es : List Device). relays clock_record es ss) (fit-first ds f)
