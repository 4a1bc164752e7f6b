-- Inside: where a run through a lent chain stands, by its numbers: how many devices there are, the front (the first that is not passing), the
-- device of the next turn, the next state, where the high states at it end and what watchdogs go by there, the states returned so far, and a
-- header that is under way.
use Rattle.std.specs.Prelude.{ℕ, Bool, true, false, cond, List, [], ◌∷◌, ltb}
use Rattle.watch.specs.Ear.{no_ear}
use Rattle.watch.specs.declared.ear.Ear.{Ear}
use Rattle.intake.specs.Intake.{highs_end}
use Rattle.phases.specs.declared.phase.Sent.{Sent}
use Rattle.phases.specs.declared.phase.Sent.TheVariants.{Nothing, One, Header}
use Rattle.cursor.specs.declared.cursor.Cursor.{Cursor}

-- the device of the next turn; where all pass, the first one, which then stays as it is
abbrev pub index_of : ℕ → ℕ → ℕ
index_of count front = cond (ltb front count) front 0

-- a cursor by its numbers; where high states end is not yet looked for
abbrev pub cursor : ℕ → ℕ → ℕ → ℕ → ℕ → Sent → Bool → Cursor
cursor count front index at written pending going =
    record { count = count; front = front; index = index; at = at; end = 0; ear = no_ear; written = written; pending = pending; going = going }

-- a cursor with another end of high states, and what watchdogs go by that pass them
abbrev pub with_ahead : Cursor → ℕ → Ear → Cursor
with_ahead c end ear =
    record { count = c.count; front = c.front; index = c.index; at = c.at; end = end; ear = ear; written = c.written; pending = c.pending; going = c.going }

-- no header is under way: the next state says whose turn it is, and a low one is the first device's
abbrev pub turn_by_state : ℕ → ℕ → ℕ → ℕ → List ℕ → Cursor
turn_by_state count front at written [] = cursor count front 0 at written Nothing false
turn_by_state count front at written (s ∷ ss) =
    cond (ltb s 2) (cursor count 0 0 at written Nothing true)
    (cursor count front (index_of count front) at written Nothing true)

-- by the header under way, or by the next state
abbrev pub next_turn : ℕ → ℕ → ℕ → ℕ → Sent → List ℕ → Cursor
next_turn count front at written (Header c n) ss = cursor count front (index_of count front) at written (Header c n) true
next_turn count front at written Nothing ss = turn_by_state count front at written ss
next_turn count front at written (One s) ss = turn_by_state count front at written ss

-- a cursor at its end
abbrev pub halted : Cursor
halted = cursor 0 0 0 0 0 Nothing false

-- where an accepted run begins
abbrev pub begin_run : ℕ → List ℕ → Cursor
begin_run count ss = with_ahead (turn_by_state count 0 0 0 ss) (highs_end ss 0) no_ear
