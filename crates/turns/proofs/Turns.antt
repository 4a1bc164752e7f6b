-- Each turn keeps the cursor in range and takes a run nearer to its end: it takes a state, or moves the front on, or the header under way is
-- taken. The measure is 2048 for each state left, 1024 for a header under way, and the devices after the front.
use mathlib.Core.Path.{◌≡◌, refl, ap, sym, ◌∙◌, subst}
use mathlib.Core.Bool.{Bool, true, false, cond, true≢false}
use mathlib.Core.List.{List, [], ◌∷◌}
use Prim.Native.Nat.{ℕ, zero, suc, ◌+◌, ◌-◌, ◌*◌, ◌<◌, ◌≤◌}
use native.Mathlib.Omega.{arith}
use lib.Dec.{ltb, leb}
use lib.ListN.{length, get_or, drop, length-set, length-drop}
use lib.Seq.{drop-drop}
use borrow.Author.Tests.{ltb-true, ltb-false, leb-true, le-leb}
use Rattle.phases.specs.Phases.{phase_of, heard}
use Rattle.device.specs.declared.device.Stepped.{Stepped}
use Rattle.phases.specs.declared.phase.Phase.{Phase}
use Rattle.phases.specs.declared.phase.Sent.{Sent}
use Rattle.phases.specs.declared.phase.Sent.TheVariants.{Nothing, One, Header}
use Rattle.device.specs.declared.device.Device.{Device}
use Rattle.intake.specs.Intake.{Taken, stopped, step_in, unless_sent, high_taken, highs_end}
use Rattle.intake.proofs.Phases.{high-cons}
use Rattle.calls.specs.Chain.{blank}
use Rattle.cursor.specs.declared.cursor.Cursor.{Cursor}
use Rattle.turns.specs.declared.front.PhaseRun.{PhaseRun}
use Rattle.cursor.specs.Cursor.{index_of, cursor, turn_by_state, next_turn, begin_run, halted}
use Rattle.turns.specs.Front.{passes, phase_run, phase_taken, front_taken, slice_start, device_taken, put_end, high_count, front_after, leaving, leave_cursor, leave_out}
use Rattle.turns.specs.Front.{device_turn, within, turned, turned_out, Running, turning, turns, started, enough, Turned, turn_taken, front_watched, cursor_to, on_to, cursor_after, leave_after, leave_room}
use Rattle.turns.specs.Watching.{watched_turn}
use Rattle.turns.specs.declared.turning.Turn.{Turn}
use Rattle.watch.specs.declared.ear.Ear.{Ear}
use Rattle.turns.proofs.LeavingStates.{high_count-within, length-put}
use Rattle.turns.proofs.Phases.{phase_run-low, phase_run-along}
use Rattle.tables.proofs.Booleans.{cond_both}

pub no_way : false ≡ true → ⊥
no_way e = true≢false (sym e)

-- ---- what the cursor of a next turn is
abbrev pub owed : Sent → ℕ
owed Nothing = 0
owed (One b) = 0
owed (Header c n) = 1

abbrev pub measure : ℕ → ℕ → Cursor → ℕ
measure len n c = 2048 * (len - c.at) + 1024 * owed c.pending + (n - c.front)

-- what holds of both ways that the next state can go, holds
turn_by_state-has : (n f at w : ℕ) (rest : List ℕ) (P : Cursor → Type 0) → P (cursor n f 0 at w Nothing false) → P (cursor n 0 0 at w Nothing true) → P (cursor n f (index_of n f) at w Nothing true)
    → P (turn_by_state n f at w rest)
turn_by_state-has n f at w [] P a b c = a
turn_by_state-has n f at w (s ∷ ss) P a b c =
    cond_both P (ltb s 2) (cursor n 0 0 at w Nothing true) (cursor n f (index_of n f) at w Nothing true) (λ _. b) (λ _. c)

loose : (len n f at w : ℕ) (p : Sent) (rest : List ℕ) → measure len n (next_turn n f at w p rest) ≤ 2048 * (len - at) + 1024 * owed p + n
loose len n f at w Nothing rest = turn_by_state-has n f at w rest (λ (c : Cursor). measure len n c ≤ 2048 * (len - at) + 0 + n) (omega arith) (omega arith) (omega arith)
loose len n f at w (One b) rest = turn_by_state-has n f at w rest (λ (c : Cursor). measure len n c ≤ 2048 * (len - at) + 0 + n) (omega arith) (omega arith) (omega arith)
loose len n f at w (Header c k) rest = omega arith

index-within : (n f : ℕ) → 0 < n → index_of n f < n
index-within n f h = go (ltb f n) refl
  where
    go : (t : Bool) → ltb f n ≡ t → cond t f 0 < n
    go true e = ltb-true f n e
    go false e = h

-- what every cursor of a next turn has
pub record InRange (n k w : ℕ) (c : Cursor) : Type 0 where
  pub count : c.count ≡ n
  pub index : c.index < n
  pub at : c.at ≡ k
  pub written : c.written ≡ w

pub next_turn-range : (n f at w : ℕ) (p : Sent) (rest : List ℕ) → 0 < n → InRange n at w (next_turn n f at w p rest)
next_turn-range n f at w Nothing rest h =
    turn_by_state-has n f at w rest (InRange n at w) (record { count = refl; index = h; at = refl; written = refl }) (record { count = refl; index = h; at = refl; written = refl })
    (record { count = refl; index = index-within n f h; at = refl; written = refl })
next_turn-range n f at w (One b) rest h =
    turn_by_state-has n f at w rest (InRange n at w) (record { count = refl; index = h; at = refl; written = refl }) (record { count = refl; index = h; at = refl; written = refl })
    (record { count = refl; index = index-within n f h; at = refl; written = refl })
next_turn-range n f at w (Header c k) rest h = record { count = refl; index = index-within n f h; at = refl; written = refl }

-- a cursor under which p is under way, but for where high states end
abbrev pub under : Sent → Cursor → Cursor
under p c = cursor c.count c.front c.index c.at c.written p c.going

-- it is that of its own next turn, the states ahead being `rest`
abbrev pub IsNext : Sent → Cursor → List ℕ → Type 0
IsNext p c rest = under p c ≡ next_turn c.count c.front c.at c.written p rest

-- the cursor of a next turn is that of its own numbers
abbrev pub again : Cursor → List ℕ → Cursor
again c rest = next_turn c.count c.front c.at c.written c.pending rest

turn_by_state-self : (n f at w : ℕ) (rest : List ℕ) → again (turn_by_state n f at w rest) rest ≡ turn_by_state n f at w rest
turn_by_state-self n f at w [] = refl
turn_by_state-self n f at w (s ∷ ss) = go (ltb s 2) refl
  where
    go : (t : Bool) → ltb s 2 ≡ t
        → again (cond t (cursor n 0 0 at w Nothing true) (cursor n f (index_of n f) at w Nothing true)) (s ∷ ss) ≡ cond t (cursor n 0 0 at w Nothing true) (cursor n f (index_of n f) at w Nothing true)
    go true e = ap (λ (u : Bool). cond u (cursor n 0 0 at w Nothing true) (cursor n 0 (index_of n 0) at w Nothing true)) e
    go false e = ap (λ (u : Bool). cond u (cursor n 0 0 at w Nothing true) (cursor n f (index_of n f) at w Nothing true)) e

next_turn-self : (n f at w : ℕ) (p : Sent) (rest : List ℕ) → again (next_turn n f at w p rest) rest ≡ next_turn n f at w p rest
next_turn-self n f at w Nothing rest = turn_by_state-self n f at w rest
next_turn-self n f at w (One b) rest = turn_by_state-self n f at w rest
next_turn-self n f at w (Header c k) rest = refl

next_turn-under : (n f at w : ℕ) (p : Sent) (rest : List ℕ) → under (next_turn n f at w p rest).pending (next_turn n f at w p rest) ≡ next_turn n f at w p rest
next_turn-under n f at w Nothing rest = turn_by_state-has n f at w rest (λ (c : Cursor). under c.pending c ≡ c) refl refl refl
next_turn-under n f at w (One b) rest = turn_by_state-has n f at w rest (λ (c : Cursor). under c.pending c ≡ c) refl refl refl
next_turn-under n f at w (Header c k) rest = refl

-- so one that is that of its own next turn is so with any end of high states
is-next : (c : Cursor) (rest : List ℕ) → c ≡ again c rest → IsNext c.pending c rest
is-next c rest e =
    subst (λ (k : Cursor). under k.pending k ≡ k) (sym e) (next_turn-under c.count c.front c.at c.written c.pending rest) ∙ e

-- ---- where high states end

highs-on : (m : ℕ) (xs : List ℕ) (i : ℕ) → i + m < highs_end xs i → highs_end (drop m xs) (i + m) ≡ highs_end xs i
unfolding highs_end
highs-on zero xs i h = let e : i + 0 ≡ i = omega arith in ap (highs_end xs) e
highs-on (suc m) [] i h = absurd (omega (arith, h))
highs-on (suc m) (s ∷ xs) i h = go (λ g. highs-on m xs (i + 1) g) (ltb s 2) refl h
  where
    go : (i + 1 + m < highs_end xs (i + 1) → highs_end (drop m xs) (i + 1 + m) ≡ highs_end xs (i + 1)) → (t : Bool) → ltb s 2 ≡ t → i + suc m < cond t i (highs_end xs (i + 1))
        → highs_end (drop m xs) (i + suc m) ≡ cond t i (highs_end xs (i + 1))
    go on true e l = absurd (omega (arith, l))
    go on false e l = let q : i + suc m ≡ i + 1 + m = omega arith in ap (highs_end (drop m xs)) q ∙ on (omega (arith, l))

-- those at a later place before their end are the same
highs-later : (ss : List ℕ) (i j : ℕ) → i ≤ j → j < highs_end (drop i ss) i → highs_end (drop j ss) j ≡ highs_end (drop i ss) i
highs-later ss i j l h =
    let e : i + (j - i) ≡ j = omega (arith, l) in
    ap (λ (n : ℕ). highs_end (drop n ss) n) (sym e) ∙ ap (λ (xs : List ℕ). highs_end xs (i + (j - i))) (sym (drop-drop (j - i) i ss))
    ∙ highs-on (j - i) (drop i ss) i (omega (arith, h, l))

-- ---- a device takes at least what it owes

by-sent : (s : Sent) (t : Taken) (d : Device) (k : ℕ) (P : Taken → Type 0) → P t → ((x : Sent) → P (stopped d k x)) → P (unless_sent s t (stopped d k s))
by-sent Nothing t d k P a b = a
by-sent (One x) t d k P a b = b (One x)
by-sent (Header c n) t d k P a b = b (Header c n)

owed-one : (s : Sent) → owed s ≤ 1
owed-one Nothing = omega arith
owed-one (One b) = omega arith
owed-one (Header c n) = omega arith

-- between what it owes and the states at hand
record Far (ss : List ℕ) (k : ℕ) (t : Taken) : Type 0 where
  pub owes : k + owed t.sent ≤ t.at
  pub ends : t.at ≤ k + length ss

high-far : (d : Device) (ss : List ℕ) (k : ℕ) → Far ss k (high_taken d ss k)
unfolding high_taken
high-far d [] k = record { owes = omega arith; ends = omega arith }
high-far d (s ∷ ss) k =
    let x : Stepped = step_in (k + 1) d s in
    let rest : Taken = high_taken x.device ss (k + 1) in
    let next : Far ss (k + 1) rest = high-far x.device ss (k + 1) in
    cond_both (Far (s ∷ ss) k) (ltb s 2) (stopped d k Nothing) (unless_sent x.sent rest (stopped x.device (k + 1) x.sent))
    (λ _. record { owes = omega arith; ends = omega arith })
    (λ _. by-sent x.sent rest x.device (k + 1) (Far (s ∷ ss) k)
    (record { owes = omega (arith, next.owes); ends = omega (arith, next.ends) }) (λ x. record { owes = omega (arith, owed-one x); ends = omega arith }))

-- a high state is taken
high-on : (d : Device) (s : ℕ) (ss : List ℕ) (k : ℕ) → ltb s 2 ≡ false → k + 1 ≤ (high_taken d (s ∷ ss) k).at
high-on d s ss k e =
    let x : Stepped = step_in (k + 1) d s in
    subst (λ (t : Taken). k + 1 ≤ t.at) (sym (high-cons d s ss k e))
    (by-sent x.sent (high_taken x.device ss (k + 1)) x.device (k + 1) (λ (t : Taken). k + 1 ≤ t.at)
    (omega (arith, (high-far x.device ss (k + 1)).owes)) (λ y. omega arith))

-- and a low one
low-on : (p : Phase) (s : ℕ) (ss : List ℕ) (k : ℕ) → ltb s 2 ≡ true → k + 1 ≤ (phase_run p (s ∷ ss) k).at
low-on p s ss k e = subst (λ (q : PhaseRun). k + 1 ≤ q.at) (sym (phase_run-low p s ss k e)) (phase_run-along (heard p s) ss (k + 1)).starts

phase_run-far : (d : Device) (ss : List ℕ) (k : ℕ) → Far ss k (phase_taken d (phase_run (phase_of d.place) ss k))
phase_run-far d ss k = let a = phase_run-along (phase_of d.place) ss k in record { owes = omega (arith, a.starts); ends = a.ends }

front-far : (d : Device) (ss : List ℕ) (k : ℕ) → Far ss k (front_taken d ss k)
front-far d [] k = record { owes = omega arith; ends = omega arith }
front-far d (s ∷ ss) k =
    let taken : Taken = high_taken d (s ∷ ss) k in
    cond_both (Far (s ∷ ss) k) (ltb s 2) (phase_taken d (phase_run (phase_of d.place) (s ∷ ss) k)) (cond (passes d) (stopped d k (One 0)) taken)
    (λ _. phase_run-far d (s ∷ ss) k)
    (λ _. cond_both (Far (s ∷ ss) k) (passes d) (stopped d k (One 0)) taken (λ _. record { owes = omega arith; ends = omega arith })
    (λ _. high-far d (s ∷ ss) k))

device-far : (d : Device) (p : Sent) (ss : List ℕ) (k : ℕ) → Far ss k (device_taken d p ss k)
device-far d Nothing ss k = front-far d ss k
device-far d (One b) ss k = front-far d ss k
device-far d (Header c n) ss k = high-far (slice_start d c n) ss k

device-at : (d : Device) (p : Sent) (ss : List ℕ) (k : ℕ) → k ≤ length ss → (device_taken d p (drop k ss) k).at ≤ length ss
device-at d p ss k h = omega (arith, (device-far d p (drop k ss) k).ends, length-drop k ss)

-- ---- a run that turns well
pub record Good (n : ℕ) (ss : List ℕ) (room : ℕ) (r : Running) : Type 0 where
  pub devices : length r.devices ≡ n
  pub out : length r.out ≡ room
  pub count : r.cursor.count ≡ n
  pub index : r.cursor.index < n
  pub at : r.cursor.at ≤ length ss
  pub written : r.cursor.written ≤ room
  pub next : IsNext r.cursor.pending r.cursor (drop r.cursor.at ss)
  pub end : r.cursor.end ≡ highs_end (drop r.cursor.at ss) r.cursor.at

out-length : (c : Cursor) (ss os : List ℕ) → length (turned_out c ss os) ≡ length os
unfolding turned_out
out-length c ss os =
    cond_both (λ (xs : List ℕ). length xs ≡ length os) (ltb c.front c.count) os (leave_room c ss os) (λ _. refl)
    (λ _. cond_both (λ (xs : List ℕ). length xs ≡ length os) (within c ss (length os)) (leave_out c ss os) os
    (λ _. length-put os c.written (leaving c.pending (drop c.at ss))) (λ _. refl))

put_end-within : (room w k : ℕ) → put_end room w k ≤ room
put_end-within room w k = go (leb (w + k) room) refl
  where
    go : (t : Bool) → leb (w + k) room ≡ t → cond t (w + k) room ≤ room
    go true e = leb-true (w + k) room e
    go false e = omega arith

-- a cursor that a turn leaves: that of the next turn, in range
record Fit (n : ℕ) (ss : List ℕ) (room : ℕ) (c : Cursor) : Type 0 where
  pub count : c.count ≡ n
  pub index : c.index < n
  pub at : c.at ≤ length ss
  pub written : c.written ≤ room
  pub next : c ≡ again c (drop c.at ss)

next_turn-fit : (n f at w room : ℕ) (p : Sent) (ss : List ℕ) → 0 < n → at ≤ length ss → w ≤ room → Fit n ss room (next_turn n f at w p (drop at ss))
next_turn-fit n f at w room p ss h a b =
    let k : InRange n at w (next_turn n f at w p (drop at ss)) = next_turn-range n f at w p (drop at ss) h in
    record {
      count = k.count;
      index = k.index;
      at = subst (λ (x : ℕ). x ≤ length ss) (sym k.at) a;
      written = subst (λ (x : ℕ). x ≤ room) (sym k.written) b;
      next = sym (next_turn-self n f at w p (drop at ss)) ∙ ap (λ (x : ℕ). again (next_turn n f at w p (drop at ss)) (drop x ss)) (sym k.at);
    }

leave-fit : (p : Sent) (c : Cursor) (ss : List ℕ) (room : ℕ) → 0 < c.count → c.at ≤ length ss → c.written ≤ room → Fit c.count ss room (leave_cursor p c ss room)
leave-fit Nothing c ss room h a b = next_turn-fit c.count c.front _ _ room Nothing ss h (high_count-within ss c.at a) (put_end-within room c.written _)
leave-fit (One x) c ss room h a b = next_turn-fit c.count c.front _ _ room Nothing ss h (high_count-within ss c.at a) (put_end-within room c.written _)
leave-fit (Header k m) c ss room h a b = next_turn-fit c.count c.front c.at _ room Nothing ss h a (put_end-within room c.written _)

-- a turn whose cursor is within the states and the room
abbrev pub leave_turn : Device → Cursor → List ℕ → ℕ → Turned
leave_turn d c ss room = record { device = d; cursor = leave_cursor c.pending c ss room }

abbrev pub turn_within : Device → Cursor → List ℕ → ℕ → Turned
turn_within d c ss room = cond (ltb c.front c.count) (device_turn d c ss) (leave_turn d c ss room)

within-fit : (d : Device) (c : Cursor) (ss : List ℕ) (room : ℕ) → 0 < c.count → c.at ≤ length ss → c.written ≤ room → Fit c.count ss room (turn_within d c ss room).cursor
within-fit d c ss room h a b =
    let t : Taken = device_taken d c.pending (drop c.at ss) c.at in
    cond_both (λ (u : Turned). Fit c.count ss room u.cursor) (ltb c.front c.count) (device_turn d c ss) (leave_turn d c ss room)
    (λ _. next_turn-fit c.count (front_after c.front t.sent) t.at c.written room t.sent ss h (device-at d c.pending ss c.at a) b)
    (λ _. leave-fit c.pending c ss room h a b)

-- a cursor within the states and the room
within-is : (c : Cursor) (ss : List ℕ) (room : ℕ) → c.at ≤ length ss → c.written ≤ room → within c ss room ≡ true
within-is c ss room a b = rw (le-leb c.at (length ss) a, le-leb c.written room b)

pub turned-is : (d : Device) (c : Cursor) (ss : List ℕ) (room : ℕ) → c.at ≤ length ss → c.written ≤ room → turned d c ss room ≡ turn_within d c ss room
unfolding turned
turned-is d c ss room a b =
    ap (λ (t : Bool). cond (ltb c.front c.count) (device_turn d c ss) (record { device = d; cursor = cond t (leave_cursor c.pending c ss room) halted })) (within-is c ss room a b)

pub turned-out-is : (c : Cursor) (ss os : List ℕ) → c.at ≤ length ss → c.written ≤ length os → turned_out c ss os ≡ cond (ltb c.front c.count) os (leave_out c ss os)
unfolding turned_out
turned-out-is c ss os a b = ap (λ (t : Bool). cond (ltb c.front c.count) os (cond t (leave_out c ss os) os)) (within-is c ss (length os) a b)

-- first the record, then the cursor
pub turned-device : (d : Device) (c : Cursor) (ss : List ℕ) (room : ℕ) → (turn_taken d c ss).device ≡ (turned d c ss room).device
unfolding turned
turned-device d c ss room = go (ltb c.front c.count)
  where
    go : (t : Bool) → (cond t (front_watched d c ss) (record { device = d; at = c.at; sent = Nothing; ear = c.ear })).device
        ≡ (cond t (device_turn d c ss) (record { device = d; cursor = leave_after c ss room })).device
    go true = refl
    go false = refl

pub turned-cursor : (d : Device) (c : Cursor) (ss : List ℕ) (room : ℕ)
    → cursor_after c (turn_taken d c ss).at (turn_taken d c ss).sent (turn_taken d c ss).ear ss room ≡ on_to c (turn_taken d c ss).ear ss (turned d c ss room).cursor
unfolding turned watched_turn
turned-cursor d c ss room = go (ltb c.front c.count)
  where
    taken : Bool → Turn
    taken t = cond t (front_watched d c ss) (record { device = d; at = c.at; sent = Nothing; ear = c.ear })

    go : (t : Bool) → on_to c (taken t).ear ss (cond t (cursor_to c (taken t).at (taken t).sent ss) (leave_after c ss room))
        ≡ on_to c (taken t).ear ss (cond t (device_turn d c ss) (record { device = d; cursor = leave_after c ss room })).cursor
    go true = refl
    go false = refl

turned-fit : (d : Device) (c : Cursor) (ss : List ℕ) (room : ℕ) → 0 < c.count → c.at ≤ length ss → c.written ≤ room → Fit c.count ss room (turned d c ss room).cursor
turned-fit d c ss room h a b =
    subst (λ (t : Turned). Fit c.count ss room t.cursor) (sym (turned-is d c ss room a b)) (within-fit d c ss room h a b)

-- a turn does not go back
pub within-later : (d : Device) (c : Cursor) (ss : List ℕ) (room : ℕ) → 0 < c.count → c.at ≤ (turn_within d c ss room).cursor.at
within-later d c ss room h =
    let t : Taken = device_taken d c.pending (drop c.at ss) c.at in
    cond_both (λ (u : Turned). c.at ≤ u.cursor.at) (ltb c.front c.count) (device_turn d c ss) (leave_turn d c ss room)
    (λ _. omega (arith, (next_turn-range c.count (front_after c.front t.sent) t.at c.written t.sent (drop t.at ss) h).at, (device-far d c.pending (drop c.at ss) c.at).owes))
    (λ _. leaves c.pending)
  where
    at_of : (at w : ℕ) → (next_turn c.count c.front at w Nothing (drop at ss)).at ≡ at
    at_of at w = (next_turn-range c.count c.front at w Nothing (drop at ss) h).at

    leaves : (p : Sent) → c.at ≤ (leave_cursor p c ss room).at
    leaves Nothing = omega (arith, at_of (c.at + high_count (drop c.at ss)) (put_end room c.written (high_count (drop c.at ss))))
    leaves (One b) = omega (arith, at_of (c.at + high_count (drop c.at ss)) (put_end room c.written (high_count (drop c.at ss))))
    leaves (Header k m) = omega (arith, at_of c.at (put_end room c.written 24))

turned-later : (d : Device) (c : Cursor) (ss : List ℕ) (room : ℕ) → 0 < c.count → c.at ≤ length ss → c.written ≤ room → c.at ≤ (turned d c ss room).cursor.at
turned-later d c ss room h a b = subst (λ (t : Turned). c.at ≤ t.cursor.at) (sym (turned-is d c ss room a b)) (within-later d c ss room h)

-- the end of high states that a cursor goes on with is that at its place
end_on : (c k : Cursor) (e : Ear) (ss : List ℕ) → c.end ≡ highs_end (drop c.at ss) c.at → c.at ≤ k.at → (on_to c e ss k).end ≡ highs_end (drop k.at ss) k.at
end_on c k ear ss e l = go (ltb k.at c.end) refl
  where
    go : (t : Bool) → ltb k.at c.end ≡ t → cond t c.end (highs_end (drop k.at ss) k.at) ≡ highs_end (drop k.at ss) k.at
    go true h = e ∙ sym (highs-later ss c.at k.at l (omega (arith, ltb-true k.at c.end h, e)))
    go false h = refl

pub good-next : (n : ℕ) (ss : List ℕ) (room : ℕ) (r : Running) → 0 < n → Good n ss room r → Good n ss room (turning ss r)
good-next n ss room r h g =
    let d : Device = get_or r.devices r.cursor.index blank in
    let c : Cursor = (turned d r.cursor ss (length r.out)).cursor in
    let some : 0 < r.cursor.count = subst (λ (m : ℕ). 0 < m) (sym g.count) h in
    let w : r.cursor.written ≤ length r.out = subst (λ (m : ℕ). r.cursor.written ≤ m) (sym g.out) g.written in
    let f : Fit n ss room c =
    subst (λ (m : ℕ). Fit m ss room c) g.count
    (subst (λ (m : ℕ). Fit r.cursor.count ss m c) g.out
    (turned-fit d r.cursor ss (length r.out) some g.at w)) in
    record {
      devices = length-set r.devices r.cursor.index _ ∙ g.devices;
      out = out-length r.cursor ss r.out ∙ g.out;
      count = f.count;
      index = f.index;
      at = f.at;
      written = f.written;
      next = is-next c (drop c.at ss) f.next;
      end = end_on r.cursor c (turn_taken d r.cursor ss).ear ss g.end (turned-later d r.cursor ss (length r.out) some g.at w);
    }

pub good_start : (ds : List Device) (ss os : List ℕ) → 0 < length ds → Good (length ds) ss (length os) (started ds ss os)
good_start ds ss os h =
    let c : Cursor = turn_by_state (length ds) 0 0 0 ss in
    let f : Fit (length ds) ss (length os) c = next_turn-fit (length ds) 0 0 0 (length os) Nothing ss h (omega arith) (omega arith) in
    let k : c.at ≡ 0 = (next_turn-range (length ds) 0 0 0 Nothing ss h).at in
    record {
      devices = refl;
      out = refl;
      count = f.count;
      index = f.index;
      at = f.at;
      written = f.written;
      next = is-next c (drop c.at ss) f.next;
      end = ap (λ (n : ℕ). highs_end (drop n ss) n) (sym k);
    }

-- ---- a turn takes a run nearer to its end
Live : Sent → List ℕ → Type 0
Live Nothing [] = ⊥
Live Nothing (s ∷ ss) = Unit {0}
Live (One b) [] = ⊥
Live (One b) (s ∷ ss) = Unit {0}
Live (Header c n) rest = Unit {0}

lives : (p : Sent) (c : Cursor) (rest : List ℕ) → IsNext p c rest → c.going ≡ true → Live p rest
unfolding Live
lives Nothing c [] e h = no_way (sym (ap (λ (x : Cursor). x.going) e) ∙ h)
lives Nothing c (s ∷ ss) e h = tt
lives (One b) c [] e h = no_way (sym (ap (λ (x : Cursor). x.going) e) ∙ h)
lives (One b) c (s ∷ ss) e h = tt
lives (Header k n) c rest e h = tt

module _ (d : Device) (n f at w : ℕ) (ss : List ℕ) (far : at ≤ length ss) (few : n < 1024) where
  Nearer : ℕ → Taken → Type 0
  Nearer o t = measure (length ss) n (next_turn n (front_after f t.sent) t.at w t.sent (drop t.at ss)) < 2048 * (length ss - at) + 1024 * o + (n - f)

  nearer : (o : ℕ) (t : Taken) → at + owed t.sent ≤ t.at → t.at ≤ length ss → (o ≡ 1) → Nearer o t
  unfolding Nearer
  nearer o t a b one = omega (arith, few, far, loose (length ss) n (front_after f t.sent) t.at w t.sent (drop t.at ss))

  nearer-on : (t : Taken) → at + 1 ≤ t.at → t.at ≤ length ss → Nearer 0 t
  unfolding Nearer
  nearer-on t a b = omega (arith, few, far, owed-one t.sent, loose (length ss) n (front_after f t.sent) t.at w t.sent (drop t.at ss))

  moves-on : (s : ℕ) (rest : List ℕ) → drop at ss ≡ s ∷ rest → ltb s 2 ≡ false → f < n → Nearer 0 (stopped d at (One 0))
  unfolding Nearer
  moves-on s rest e h l =
      let before : ℕ = 2048 * (length ss - at) + 1024 * 0 + (n - f) in
      subst (λ (r : List ℕ). measure (length ss) n (turn_by_state n (f + 1) at w r) < before) (sym e)
      (subst (λ (t : Bool). measure (length ss) n (cond t (cursor n 0 0 at w Nothing true) (cursor n (f + 1) (index_of n (f + 1)) at w Nothing true)) < before)
      (sym h) (omega (arith, l)))

  some_left : (s : ℕ) (rest : List ℕ) → drop at ss ≡ s ∷ rest → at + 1 + length rest ≡ length ss
  some_left s rest e = omega (arith, far, sym (length-drop at ss) ∙ ap length e)

  -- a passing device moves the front on at a high state; any other state is taken
  front-nearer : (s : ℕ) (rest : List ℕ) → drop at ss ≡ s ∷ rest → f < n → Nearer 0 (front_taken d (s ∷ rest) at)
  front-nearer s rest e l = go (ltb s 2) refl (passes d)
    where
      go : (low : Bool) → ltb s 2 ≡ low → (p : Bool)
          → Nearer 0 (cond low (phase_taken d (phase_run (phase_of d.place) (s ∷ rest) at)) (cond p (stopped d at (One 0)) (high_taken d (s ∷ rest) at)))
      go true h p =
          nearer-on (phase_taken d (phase_run (phase_of d.place) (s ∷ rest) at)) (low-on (phase_of d.place) s rest at h) (omega (arith, some_left s rest e, (phase_run-far d (s ∷ rest) at).ends))
      go false h true = moves-on s rest e h l
      go false h false = nearer-on (high_taken d (s ∷ rest) at) (high-on d s rest at h) (omega (arith, some_left s rest e, (high-far d (s ∷ rest) at).ends))

  device-nearer : (p : Sent) (rest : List ℕ) → drop at ss ≡ rest → Live p rest → f < n → Nearer (owed p) (device_taken d p (drop at ss) at)
  unfolding Live
  device-nearer Nothing [] e v l = absurd v
  device-nearer Nothing (s ∷ rest) e v l = subst (λ (r : List ℕ). Nearer 0 (front_taken d r at)) (sym e) (front-nearer s rest e l)
  device-nearer (One b) [] e v l = absurd v
  device-nearer (One b) (s ∷ rest) e v l = subst (λ (r : List ℕ). Nearer 0 (front_taken d r at)) (sym e) (front-nearer s rest e l)
  device-nearer (Header c k) rest e v l =
      nearer 1 (high_taken (slice_start d c k) (drop at ss) at) (high-far (slice_start d c k) (drop at ss) at).owes (device-at d (Header c k) ss at far) refl

high-turns : (s : ℕ) (rest : List ℕ) → ltb s 2 ≡ false → 1 ≤ high_count (s ∷ rest)
unfolding high_count
high-turns s rest h = subst (λ (t : Bool). 1 ≤ cond t 0 (high_count rest + 1)) (sym h) (omega arith)

-- at a low state the front is the first device
low-turn_by_state : (p : Sent) (c : Cursor) (s : ℕ) (xs : List ℕ) → under p c ≡ turn_by_state c.count c.front c.at c.written (s ∷ xs) → ltb s 2 ≡ true → c.front ≡ 0
low-turn_by_state p c s xs e h =
    ap (λ (x : Cursor). x.front)
    (e ∙ ap (λ (t : Bool). cond t (cursor c.count 0 0 c.at c.written Nothing true)
    (cursor c.count c.front (index_of c.count c.front) c.at c.written Nothing true)) h)

-- where all devices pass, a state that comes next is high
leave-high : (c : Cursor) (s : ℕ) (rest : List ℕ) → IsNext Nothing c (s ∷ rest) → 0 < c.count → c.count ≤ c.front → ltb s 2 ≡ false
leave-high c s rest e h l = go (ltb s 2) refl
  where
    go : (t : Bool) → ltb s 2 ≡ t → t ≡ false
    go false q = refl
    go true q = absurd (omega (arith, low-turn_by_state Nothing c s rest e q, h, l))

-- where high states end does not matter to what leaves
pub leave-under : (p : Sent) (c : Cursor) (ss : List ℕ) (room : ℕ) → leave_cursor p (under p c) ss room ≡ leave_cursor p c ss room
leave-under Nothing c ss room = refl
leave-under (One b) c ss room = refl
leave-under (Header k n) c ss room = refl

leave-nearer : (p : Sent) (c : Cursor) (ss rest : List ℕ) (room : ℕ) → c.at ≤ length ss → 0 < c.count → c.count < 1024 → drop c.at ss ≡ rest
    → IsNext p c rest → c.going ≡ true → c.count ≤ c.front
    → measure (length ss) c.count (leave_cursor p (under p c) ss room) < measure (length ss) c.count (under p c)
leave-nearer Nothing c ss [] room far h few e q v l = absurd (no_way (sym (ap (λ (x : Cursor). x.going) q) ∙ v))
leave-nearer Nothing c ss (s ∷ rest) room far h few e q v l =
    let many : ℕ = high_count (drop c.at ss) in
    let one : 1 ≤ many = subst (λ (r : List ℕ). 1 ≤ high_count r) (sym e) (high-turns s rest (leave-high c s rest q h l)) in
    omega (
      arith,
      few,
      one,
      high_count-within ss c.at far,
      loose (length ss) c.count c.front (c.at + many) (put_end room c.written many) Nothing (drop (c.at + many) ss),
    )
leave-nearer (One b) c ss [] room far h few e q v l = absurd (no_way (sym (ap (λ (x : Cursor). x.going) q) ∙ v))
leave-nearer (One b) c ss (s ∷ rest) room far h few e q v l =
    absurd (no_one (under (One b) c) b refl (subst (λ (x : Cursor). x.pending ≡ Nothing) (sym q)
    (turn_by_state-has c.count c.front c.at c.written (s ∷ rest) (λ (x : Cursor). x.pending ≡ Nothing) refl refl refl)))
  where
    no_one : (x : Cursor) (b : ℕ) → x.pending ≡ One b → x.pending ≡ Nothing → ⊥
    no_one x b y z = let w : ◌≡◌ {A = ℕ} 0 1 = cc in omega (arith, w)
leave-nearer (Header k n) c ss rest room far h few e q v l =
    omega (arith, few, loose (length ss) c.count c.front c.at (put_end room c.written 24) Nothing (drop c.at ss))

-- a low state next, and no header under way: the front is the first device
pub low-front : (p : Sent) (c : Cursor) (s : ℕ) (xs : List ℕ) → IsNext p c (s ∷ xs) → owed p ≡ 0 → ltb s 2 ≡ true → c.front ≡ 0
low-front Nothing c s xs e k h = low-turn_by_state Nothing c s xs e h
low-front (One b) c s xs e k h = low-turn_by_state (One b) c s xs e h
low-front (Header n m) c s xs e k h = absurd (omega (arith, k))

turned-nearer : (d : Device) (c : Cursor) (ss : List ℕ) (room : ℕ) → c.at ≤ length ss → 0 < c.count → c.count < 1024
    → IsNext c.pending c (drop c.at ss) → c.going ≡ true
    → measure (length ss) c.count (turn_within d c ss room).cursor < measure (length ss) c.count c
unfolding Nearer
turned-nearer d c ss room far h few q v = go (ltb c.front c.count) refl
  where
    go : (t : Bool) → ltb c.front c.count ≡ t
        → measure (length ss) c.count (cond t (device_turn d c ss) (leave_turn d c ss room)).cursor < measure (length ss) c.count c
    go true e =
        device-nearer d c.count c.front c.at c.written ss far few c.pending (drop c.at ss) refl
        (lives c.pending c (drop c.at ss) q v) (ltb-true c.front c.count e)
    go false e =
        subst (λ (k : Cursor). measure (length ss) c.count k < measure (length ss) c.count c) (leave-under c.pending c ss room)
        (leave-nearer c.pending c ss (drop c.at ss) room far h few refl q v (ltb-false c.front c.count e))

pub nearer-next : (n : ℕ) (ss : List ℕ) (room : ℕ) (r : Running) → 0 < n → n < 1024 → Good n ss room r → r.cursor.going ≡ true
    → measure (length ss) n (turning ss r).cursor < measure (length ss) n r.cursor
nearer-next n ss room r h few good v =
    let c : Cursor = r.cursor in
    let d : Device = get_or r.devices c.index blank in
    let w : c.written ≤ length r.out = subst (λ (m : ℕ). r.cursor.written ≤ m) (sym good.out) good.written in
    subst (λ (t : Turned). measure (length ss) n t.cursor < measure (length ss) n r.cursor) (sym (turned-is d c ss (length r.out) good.at w))
    (subst (λ (m : ℕ). measure (length ss) m (turn_within d r.cursor ss (length r.out)).cursor < measure (length ss) m r.cursor) good.count
    (turned-nearer d c ss (length r.out) good.at (subst (λ (m : ℕ). 0 < m) (sym good.count) h)
    (subst (λ (m : ℕ). m < 1024) (sym good.count) few) good.next v))

pub turns-on : (t : ℕ) (ss : List ℕ) (r : Running) → r.cursor.going ≡ true → turns (suc t) ss r ≡ turns t ss (turning ss r)
unfolding turns
turns-on t ss r e = ap (λ (b : Bool). cond b (turns t ss (turning ss r)) r) e

pub turns-stop : (t : ℕ) (ss : List ℕ) (r : Running) → r.cursor.going ≡ false → turns t ss r ≡ r
unfolding turns
turns-stop zero ss r e = refl
turns-stop (suc t) ss r e = ap (λ (b : Bool). cond b (turns t ss (turning ss r)) r) e

pub near-start : (ds : List Device) (ss : List ℕ) → length ds < 1024 → measure (length ss) (length ds) (begin_run (length ds) ss) ≤ enough ss
near-start ds ss few = omega (arith, few, loose (length ss) (length ds) 0 0 0 Nothing ss)
