-- Inside: a watchdog over a block of 64 states, one in each clock, the bit being set: what the block leaves of its lines, and whether a count may
-- come to the limit in it. That this is what it hears clock by clock is in proofs/ByBlock.
use Rattle.std.specs.Prelude.{ℕ, Bool, true, false, cond, ◌||◌, List, map, ◌==◌, slice_index}
use Rattle.watch.specs.declared.watch.Line.{Line}
use Rattle.watch.specs.declared.watch.Watch.{Watch}
use Rattle.watch.specs.declared.kept.Listened.{Listened}
use Rattle.watch.specs.Watch.{line, with_lines, data_bit, load_bit}
use Rattle.watch.specs.Kept.{run_on, kept_from, listened}
use Rattle.watch.specs.Ear.{last_change, comes_to}

-- the level of the data line or of the load line in a state
abbrev pub bit_of : Bool → ℕ → ℕ
bit_of din s = cond din (data_bit s) (load_bit s)

-- the clock of the last change of a line that stood at a level, t clocks being over before the block, 0 where there is none
abbrev pub change_in : ℕ → Bool → List ℕ → ℕ → ℕ
change_in level din block t = last_change level (map (bit_of din) block) t

-- a count, by that clock
abbrev pub count_by : ℕ → ℕ → ℕ
count_by c n = cond (c == 0) n (kept_from c 0)

-- what the block leaves of a line
abbrev pub line_over : Bool → List ℕ → ℕ → Line → Line
line_over din block t l = line (count_by (change_in l.level din block t) l.still) (bit_of din (slice_index block 63))

-- of a watchdog
abbrev pub watch_over : List ℕ → ℕ → Watch → Watch
watch_over block t w = with_lines w (line_over true block t w.din) (line_over false block t w.loadi)

-- t clocks being over, a count that goes on may be at the limit at a question of the block: the last is asked 63 clocks later
abbrev pub may_expire : ℕ → Watch → Bool
may_expire t w = comes_to w.limit (run_on t w.din.still) 63 || comes_to w.limit (run_on t w.loadi.still) 63

-- states after others, t clocks being over
abbrev pub heard_on : Listened → ℕ → List ℕ → Listened
heard_on before t ss = record { watch = (listened true t ss before.watch).watch; expired = before.expired || (listened true t ss before.watch).expired }
