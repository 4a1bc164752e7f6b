-- Inside: a watchdog within a run, as the run keeps it: counts less the clocks of the run that were over when they were written, modulo 2 ^ 64,
-- and as if they had no end. So a watchdog is looked at only where its device is sent something, and at the end. That this is the watchdog clock by
-- clock is in proofs/Clocks.
use Rattle.std.specs.Prelude.{ℕ, ◌+◌, ◌-◌, ◌%◌, ◌^◌, min, Bool, false, cond, not, ◌&&◌, ◌||◌, List, [], ◌∷◌, map, ◌==◌, nat_le}
use Rattle.watch.specs.declared.watch.Line.{Line}
use Rattle.watch.specs.declared.watch.Watch.{Watch}
use Rattle.watch.specs.declared.kept.Listened.{Listened}
use Rattle.watch.specs.Watch.{line, with_lines, data_bit, load_bit, last_of, moved}

-- ---- a number that grows by one with every clock

-- by clock t
abbrev pub run_on : ℕ → ℕ → ℕ
run_on t n = (n + t) % 2 ^ 64

-- one that is n at clock t, as the run keeps it
abbrev pub kept_from : ℕ → ℕ → ℕ
kept_from t n = (n + (2 ^ 64 - t)) % 2 ^ 64

-- ---- by a clock

-- a count by clock t, `on` being whether the bit is set since the clock in which it was written; at clock 0 it is what it was
abbrev pub still_by : Bool → ℕ → ℕ → ℕ
still_by on t n = cond (t == 0) n (cond on (min (run_on t n) 2000000) 0)

-- a line
abbrev pub line_by : Bool → ℕ → Line → Line
line_by on t l = line (still_by on t l.still) l.level

-- a watchdog
abbrev pub watch_by : Bool → ℕ → Watch → Watch
watch_by on t w = with_lines w (line_by on t w.din) (line_by on t w.loadi)

-- it has expired in a clock of the run up to t, since its counts were written: counts grow, so clock t tells
abbrev pub expired_by : Bool → ℕ → Watch → Bool
expired_by on t w = nat_le 1 t && (on && (nat_le w.limit (run_on t w.din.still) || nat_le w.limit (run_on t w.loadi.still)))

-- ---- a clock in which something is sent

-- the count of a line that changes in clock t or not, where the bit is set at its end, and set before it or not
abbrev pub still_in : Bool → ℕ → Bool → ℕ → ℕ
still_in before t change n = cond change (kept_from t 0) (cond (nat_le 2 t && not before) (kept_from t 1) n)

-- a line that takes these levels in clock t, the bit being set before it or not, and set at its end or not
abbrev pub line_in : Bool → Bool → ℕ → List ℕ → Line → Line
line_in before on t bs l = line (cond on (still_in before t (moved l.level bs) l.still) l.still) (last_of l.level bs)

-- a watchdog whose device is sent these states in clock t
abbrev pub watch_in : Bool → Bool → ℕ → List ℕ → Watch → Watch
watch_in before on t sent w =
    with_lines w (line_in before on t (map data_bit sent) w.din) (line_in before on t (map load_bit sent) w.loadi)

-- a line that changes in clock t, and stands at this level then
abbrev pub moved_line : Bool → ℕ → ℕ → Line → Line
moved_line on t level l = line (cond on (kept_from t 0) l.still) level

-- both lines change in clock t, and stand at these levels then
abbrev pub moved_in : Bool → ℕ → ℕ → ℕ → Watch → Watch
moved_in on t data_level load_level w = with_lines w (moved_line on t data_level w.din) (moved_line on t load_level w.loadi)

-- ---- one state in each of many clocks, while the configuration stays

-- t clocks being over: what it is after them, and whether it expired in one of the clocks before the last of them
unfoldable pub listened : Bool → ℕ → List ℕ → Watch → Listened
listened on t [] w = record { watch = w; expired = false }
listened on t (s ∷ ss) w =
    let r : Listened = listened on (t + 1) ss (watch_in on on (t + 1) (s ∷ []) w) in
    record { watch = r.watch; expired = expired_by on t w || r.expired }
