-- Inside: line states through a lent chain by its front, the first device that is not passing: only that device can change, but for its
-- position. What one turn does, and turn after turn, until the states are over; what follows then is in Ending. These definitions are what the
-- functions inside a run answer; that the whole is the run clock by clock of calls/specs/Chain is in proofs/Same and proofs/ByClock.
use Rattle.std.specs.Prelude.{ℕ, zero, suc, ◌+◌, ◌*◌, ◌%◌, Bool, true, false, ◌&&◌, ◌||◌, cond, List, [], ◌∷◌, eqb, ltb, leb, length, get_or, set, take, drop}
use Rattle.parts.specs.Wire.{header, states_of}
use Rattle.parts.specs.declared.command.Command.{Command}
use Rattle.phases.specs.Phases.{pushed, phase_of, heard, in_header, headed}
use Rattle.device.specs.Step.{at}
use Rattle.phases.specs.declared.phase.Phase.{Phase}
use Rattle.phases.specs.declared.phase.Phase.TheVariants.{Hunting, Opening, Counting, Slice, Passing, Lost}
use Rattle.phases.specs.declared.phase.Sent.{Sent}
use Rattle.phases.specs.declared.phase.Sent.TheVariants.{Nothing, One, Header}
use Rattle.device.specs.declared.device.Device.{Device}
use Rattle.intake.specs.Intake.{Taken, stopped, high_taken, progress_of, highs_end}
use Rattle.calls.specs.Chain.{blank}
use Rattle.cursor.specs.declared.cursor.Cursor.{Cursor}
use Rattle.cursor.specs.Cursor.{with_ahead, next_turn, halted, begin_run}
use Rattle.watch.specs.declared.ear.Ear.{Ear}
use Rattle.turns.specs.Watching.{watched_turn}
use Rattle.turns.specs.declared.turning.Turn.{Turn}
use Rattle.turns.specs.declared.front.PhaseRun.{PhaseRun}
use Rattle.turns.specs.declared.front.Heard.{Heard}

-- ---- one device

-- the phase is passing
abbrev pub is_passing : Phase → Bool
is_passing (Hunting window) = false
is_passing (Opening read) = false
is_passing (Counting c read) = false
is_passing (Slice c count taken) = false
is_passing Passing = true
is_passing Lost = false

-- the phase is lost
abbrev pub is_lost : Phase → Bool
is_lost (Hunting window) = false
is_lost (Opening read) = false
is_lost (Counting c read) = false
is_lost (Slice c count taken) = false
is_lost Passing = false
is_lost Lost = true

-- the device is passing
abbrev pub passes : Device → Bool
passes d = is_passing (phase_of d.place)

-- a phase goes on at a state without a register being touched: at any low one, and at a high one unless it is of the device's slice or passed on
abbrev pub phase_only : Phase → ℕ → Bool
phase_only p s = ltb s 2 || (in_header p || is_lost p)

-- a phase by one state, low or high, that stores and sends nothing
abbrev pub phase_step : Phase → ℕ → Phase
phase_step p s = cond (ltb s 2) (heard p s) (headed p (s % 2))

-- as long as it does; i counts along
unfoldable pub phase_run : Phase → List ℕ → ℕ → PhaseRun
phase_run p [] i = record { phase = p; at = i }
phase_run p (s ∷ ss) i = cond (phase_only p s) (phase_run (phase_step p s) ss (i + 1)) (record { phase = p; at = i })

-- low states, heard one after the other: the window after them, and where they end
unfoldable pub hear_all : ℕ → List ℕ → ℕ → Heard
hear_all w [] i = record { window = w; at = i }
hear_all w (s ∷ ss) i = cond (ltb s 2) (hear_all (pushed w s 512) ss (i + 1)) (record { window = w; at = i })

-- the phase after low states that began at place i
abbrev pub hunts_on : Phase → ℕ → Heard → Phase
hunts_on p i h = cond (eqb h.at i) p (Hunting h.window)

-- the device whose phase went on alone
abbrev pub phase_taken : Device → PhaseRun → Taken
phase_taken d q = stopped (at d.registers q.phase) q.at Nothing

-- the front device, no header being under way: from a low state on as long as its phase alone goes on; from a high one on until it sends, a
-- low one or the end. A passing device takes no high state: `One 0` says that the front moves on
abbrev pub front_taken : Device → List ℕ → ℕ → Taken
front_taken d [] i = stopped d i Nothing
front_taken d (s ∷ ss) i =
    cond (ltb s 2) (phase_taken d (phase_run (phase_of d.place) (s ∷ ss) i)) (cond (passes d) (stopped d i (One 0)) (high_taken d (s ∷ ss) i))

-- after a header any device stands before the first bit of its slice
abbrev pub slice_start : Device → Command → ℕ → Device
slice_start d c n = at d.registers (Slice c n 0)

-- what the device of a turn takes: by the header under way, or by the next state
abbrev pub device_taken : Device → Sent → List ℕ → ℕ → Taken
device_taken d (Header c n) ss i = high_taken (slice_start d c n) ss i
device_taken d Nothing ss i = front_taken d ss i
device_taken d (One s) ss i = front_taken d ss i

-- the device after the header that is under way, if one is
abbrev pub after_header : Device → Sent → Device
after_header d (Header c n) = slice_start d c n
after_header d Nothing = d
after_header d (One s) = d

-- such a device at a low state, which after a header it leaves to the first device
abbrev pub low_taken : Device → Sent → List ℕ → ℕ → Taken
low_taken d (Header c n) ss i = stopped d i Nothing
low_taken d Nothing ss i = phase_taken d (phase_run (phase_of d.place) ss i)
low_taken d (One s) ss i = phase_taken d (phase_run (phase_of d.place) ss i)

-- a device that sent, or passes, is no longer the front
abbrev pub front_after : ℕ → Sent → ℕ
front_after front Nothing = front
front_after front (One s) = front + 1
front_after front (Header c n) = front + 1

-- ---- what is returned

-- states are written from place w on, and those past the end are dropped
unfoldable pub put_all : List ℕ → ℕ → List ℕ → List ℕ
put_all os w [] = os
put_all os w (x ∷ xs) = put_all (set os w x) (w + 1) xs

-- where k states written from place w on end
abbrev pub put_end : ℕ → ℕ → ℕ → ℕ
put_end room w k = cond (leb (w + k) room) (w + k) room

-- how many high states stand at the front
unfoldable pub high_count : List ℕ → ℕ
high_count [] = 0
high_count (s ∷ ss) = cond (ltb s 2) 0 (high_count ss + 1)

-- what leaves a chain whose devices all pass: a header that the last one sent, or the high states
abbrev pub leaving : Sent → List ℕ → List ℕ
leaving (Header c n) ss = states_of (header c n)
leaving Nothing ss = take (high_count ss) ss
leaving (One s) ss = take (high_count ss) ss

-- ---- a turn

-- what one turn makes of its device and of the cursor
pub record Turned : Type 0 where
  pub device : Device
  pub cursor : Cursor

-- what the front device takes, and what its watchdog hears
abbrev pub front_watched : Device → Cursor → List ℕ → Turn
front_watched d c ss = watched_turn d c.pending (progress_of (device_taken d c.pending (drop c.at ss) c.at)) c.ear ss c.at c.end

-- what the device of a turn takes: the front device what is its own, and none takes anything where all pass
abbrev pub turn_taken : Device → Cursor → List ℕ → Turn
turn_taken d c ss = cond (ltb c.front c.count) (front_watched d c ss) (record { device = d; at = c.at; sent = Nothing; ear = c.ear })

-- the cursor after the front device took the states before a place and sent
abbrev pub cursor_to : Cursor → ℕ → Sent → List ℕ → Cursor
cursor_to c at s ss = next_turn c.count (front_after c.front s) at c.written s (drop at ss)

-- the front device's turn
abbrev pub device_turn : Device → Cursor → List ℕ → Turned
device_turn d c ss =
    let t : Taken = device_taken d c.pending (drop c.at ss) c.at in
    record { device = (front_watched d c ss).device; cursor = cursor_to c t.at t.sent ss }

-- the cursor after k states left the chain, the next state being at a place
abbrev pub leave_to : Cursor → ℕ → ℕ → List ℕ → ℕ → Cursor
leave_to c at k ss room = next_turn c.count c.front at (put_end room c.written k) Nothing (drop at ss)

-- the cursor after high states that every device passes
abbrev pub passed_to : Cursor → List ℕ → ℕ → Cursor
passed_to c ss room = leave_to c (c.at + high_count (drop c.at ss)) (high_count (drop c.at ss)) ss room

-- the cursor after what leaves the chain
abbrev pub leave_cursor : Sent → Cursor → List ℕ → ℕ → Cursor
leave_cursor (Header k n) c ss room = leave_to c c.at 24 ss room
leave_cursor Nothing c ss room = passed_to c ss room
leave_cursor (One s) c ss room = passed_to c ss room

-- the room after what leaves the chain
abbrev pub leave_out : Cursor → List ℕ → List ℕ → List ℕ
leave_out c ss os = put_all os c.written (leaving c.pending (drop c.at ss))

-- the cursor is within the states and the room; one that is not halts
abbrev pub within : Cursor → List ℕ → ℕ → Bool
within c ss room = leb c.at (length ss) && leb c.written room

-- the cursor where every device is passing
abbrev pub leave_after : Cursor → List ℕ → ℕ → Cursor
leave_after c ss room = cond (within c ss room) (leave_cursor c.pending c ss room) halted

-- the room where every device is passing
abbrev pub leave_room : Cursor → List ℕ → List ℕ → List ℕ
leave_room c ss os = cond (within c ss (length os)) (leave_out c ss os) os

-- the next cursor k, with an ear, and where the high states at its next state end: where those of c do, or looked for anew
abbrev pub on_to : Cursor → Ear → List ℕ → Cursor → Cursor
on_to c e ss k = with_ahead k (cond (ltb k.at c.end) c.end (highs_end (drop k.at ss) k.at)) e

-- the cursor after a turn whose device took the states before a place, sent, and left an ear
abbrev pub cursor_after : Cursor → ℕ → Sent → Ear → List ℕ → ℕ → Cursor
cursor_after c at s e ss room = on_to c e ss (cond (ltb c.front c.count) (cursor_to c at s ss) (leave_after c ss room))

-- a turn of any device with any cursor, but for what the next cursor knows of the high states ahead
unfoldable pub turned : Device → Cursor → List ℕ → ℕ → Turned
turned d c ss room =
    cond (ltb c.front c.count) (device_turn d c ss) (record { device = d; cursor = leave_after c ss room })

-- the room after a turn
unfoldable pub turned_out : Cursor → List ℕ → List ℕ → List ℕ
turned_out c ss os = cond (ltb c.front c.count) os (leave_room c ss os)

-- ---- turn after turn, as long as there are states

-- a run in progress: records, cursor, room
pub record Running : Type 0 where
  pub devices : List Device
  pub cursor : Cursor
  pub out : List ℕ

-- a run by its records, cursor and room
abbrev pub now_at : List Device → Cursor → List ℕ → Running
now_at ds c os = record { devices = ds; cursor = c; out = os }

-- the turn of the device that the cursor names
abbrev pub turn_at : List Device → Cursor → List ℕ → List ℕ → Turned
turn_at ds c ss os =
    let d : Device = get_or ds c.index blank in
    let t : Turned = turned d c ss (length os) in
    record { device = t.device; cursor = on_to c (turn_taken d c ss).ear ss t.cursor }

-- one turn
abbrev pub turning : List ℕ → Running → Running
turning ss r =
    now_at (set r.devices r.cursor.index (turn_at r.devices r.cursor ss r.out).device)
    (turn_at r.devices r.cursor ss r.out).cursor (turned_out r.cursor ss r.out)

-- at most k turns
unfoldable pub turns : ℕ → List ℕ → Running → Running
turns zero ss r = r
turns (suc k) ss r = cond r.cursor.going (turns k ss (turning ss r)) r

-- a run that begins
abbrev pub started : List Device → List ℕ → List ℕ → Running
started ds ss os = now_at ds (begin_run (length ds) ss) os

-- enough turns: two for each state, and one for each device before each of them
abbrev pub enough : List ℕ → ℕ
enough ss = 2048 * length ss + 1024

-- turn after turn until the states are over
unfoldable pub front_run : List Device → List ℕ → List ℕ → Running
front_run ds ss os = turns (enough ss) ss (started ds ss os)
