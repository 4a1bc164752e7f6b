-- Inside: many clocks of a device at once. No claim reads the rule of levels, counts and limit; these closed forms pin it, beside the worked
-- examples. Clocks in which a device is sent nothing; and a stretch of clocks with one state each, by three numbers for each line, each told from
-- the last level back to the first, so that one walk serves every device that saw a part of the stretch up to its end. The laws are in
-- proofs/Idle, proofs/Stretch and proofs/Silent.
use Rattle.std.specs.Prelude.{ℕ, zero, suc, min, max, ◌+◌, ◌-◌, Bool, false, ◌||◌, cond, List, [], ◌∷◌, map, eqb, leb, length}
use Rattle.bits.specs.Bits.{digit}
use Rattle.parts.specs.Wire.{State}
use Rattle.watch.specs.declared.watch.Line.{Line}
use Rattle.watch.specs.declared.watch.Watch.{Watch}
use Rattle.watch.specs.Watch.{line, with_lines, data_bit, load_bit, last_of, moved, enabled, watching, expired}
use Rattle.clocked.specs.Clock.{registers_of, aged}
use Rattle.watchdog.specs.Watched.{Watched, cleared_if, clock_watched}

-- the configuration that a device holds
abbrev pub configuration_of : Watched → ℕ
configuration_of w = (registers_of w.clocked).configuration

-- what a device sends in each of its clocks
unfoldable pub sends_over : Watched → List (List State) → List (List State)
sends_over w [] = []
sends_over w (sent ∷ clocks) = (clock_watched w sent).1 ∷ sends_over (clock_watched w sent).0 clocks

-- ---- nothing is sent

-- a line after n clocks, one or more
abbrev pub idle_line : Bool → ℕ → Line → Line
idle_line on n l = line (cond on (min (l.still + n) 2000000) 0) l.level

-- a watchdog after n clocks, one or more
unfoldable pub idle_watch : ℕ → ℕ → Watch → Watch
idle_watch n configuration s = with_lines s (idle_line (enabled s configuration) n s.din) (idle_line (enabled s configuration) n s.loadi)

-- a device after n clocks: counts only grow, so the last clock tells whether it has expired
unfoldable pub aged_watched : ℕ → Watched → Watched
aged_watched zero w = w
aged_watched (suc n) w = record {
  clocked = cleared_if (expired (idle_watch (suc n) (configuration_of w) w.watch)) (aged (suc n) w.clocked);
  watch = idle_watch (suc n) (configuration_of w) w.watch;
}

-- ---- one state in each clock

-- a clock for each state
abbrev pub singly : List State → List (List State)
singly ls = map (λ l. l ∷ []) ls

-- a watchdog after a stretch, under one configuration
unfoldable pub watch_over : ℕ → List ℕ → Watch → Watch
watch_over configuration [] s = s
watch_over configuration (x ∷ xs) s = watch_over configuration xs (watching configuration (x ∷ []) s)

-- it has expired in one of its clocks
unfoldable pub ever_over : ℕ → List ℕ → Watch → Bool
ever_over configuration [] s = false
ever_over configuration (x ∷ xs) s = expired (watching configuration (x ∷ []) s) || ever_over configuration xs (watching configuration (x ∷ []) s)

-- ---- the three numbers of a stretch, for a line that stood at a level before it

-- how many levels come before the first change
abbrev pub lead : ℕ → List ℕ → ℕ
lead level [] = 0
lead level (b ∷ bs) = cond (eqb level b) (suc (lead b bs)) 0

-- how many come after the last change, where there is one
abbrev pub trail : ℕ → List ℕ → ℕ
trail level [] = 0
trail level (b ∷ bs) = cond (moved b bs) (trail b bs) (length bs)

-- how many come between two changes, or after the last, at most
abbrev pub longest : ℕ → List ℕ → ℕ
longest level [] = 0
longest level (b ∷ bs) = cond (eqb level b) (longest b bs) (max (lead b bs) (longest b bs))

-- ---- a stretch of one clock or more, with the bit set

-- a count that goes on for so many clocks, if any
abbrev pub on_for : ℕ → ℕ → ℕ
on_for n zero = 0
on_for n (suc k) = n + suc k

-- a line after it
abbrev pub line_over : List ℕ → Line → Line
line_over bs l = line (min (cond (moved l.level bs) (trail l.level bs) (l.still + length bs)) 2000000) (last_of l.level bs)

-- the highest of its counts on the way
abbrev pub peak : List ℕ → Line → ℕ
peak bs l = min (max (on_for l.still (lead l.level bs)) (longest l.level bs)) 2000000

-- a line that takes 1 in each of n clocks: it stands still, but for the first where it was at 0
abbrev pub raised : ℕ → Line → Line
raised n l = line (min (cond (eqb l.level 1) (l.still + n) (n - 1)) 2000000) 1

-- a watchdog after bits at high load
abbrev pub passed_watch : List Bool → Watch → Watch
passed_watch bs s = with_lines s (line_over (map digit bs) s.din) (raised (length bs) s.loadi)

-- it has expired on the way: of load, the last clock tells
abbrev pub passed_expired : List Bool → Watch → Bool
passed_expired bs s = leb s.limit (peak (map digit bs) s.din) || leb s.limit (raised (length bs) s.loadi).still

-- ---- and with the bit clear

-- levels follow the lines, and nothing is counted
abbrev pub unwatched : List ℕ → Watch → Watch
unwatched xs s = with_lines s (line 0 (last_of s.din.level (map data_bit xs))) (line 0 (last_of s.loadi.level (map load_bit xs)))
