-- The watchdog of a device: it watches its data line and its load line, each by itself. At the end of each clock, by what the device was sent in
-- it and by the configuration that it then holds, a count goes on where nothing changed. Where a count is then at the limit, the watchdog has
-- expired. docs/RULES.md, "The watchdog".
use Rattle.std.specs.Prelude.{ℕ, suc, ◌/◌, ◌%◌, ◌^◌, min, Bool, false, cond, not, ◌&&◌, ◌||◌, List, [], ◌∷◌, map, ◌==◌, nat_le, nat_lt}
use Rattle.watch.specs.declared.watch.Line.{Line}
use Rattle.watch.specs.declared.watch.Watch.{Watch}

-- a line by its count and its level
abbrev pub line : ℕ → ℕ → Line
line still level = record { still = still; level = level }

-- a watchdog by its lines, all else as it was
abbrev pub with_lines : Watch → Line → Line → Watch
with_lines w din loadi = record { din = din; loadi = loadi; limit = w.limit; bit = w.bit }

-- ---- what is in range

-- a configuration bit that may enable it: 1, 2, 3, 5, 6 or 7
abbrev pub is_bit : ℕ → Bool
is_bit b = nat_le 1 b && (nat_le b 7 && not (b == 4))

-- a limit: 1 to 2,000,000 clocks
abbrev pub is_limit : ℕ → Bool
is_limit n = nat_le 1 n && nat_le n 2000000

-- a level is 0 or 1, and a count at most 2,000,000
abbrev pub line_fits : Line → Bool
line_fits l = nat_lt l.level 2 && nat_le l.still 2000000

-- all of it; a count that is not 0 while the bit is clear is in range
abbrev pub watch_fits : Watch → Bool
watch_fits w = is_bit w.bit && (is_limit w.limit && (line_fits w.din && line_fits w.loadi))

-- told a bit and a limit, levels and counts 0
abbrev pub fresh_watch : ℕ → ℕ → Watch
fresh_watch bit limit = record { din = line 0 0; loadi = line 0 0; limit = limit; bit = bit }

-- ---- the end of a clock

-- the data bit of a line state
abbrev pub data_bit : ℕ → ℕ
data_bit s = s % 2

-- its load bit
abbrev pub load_bit : ℕ → ℕ
load_bit s = s / 2

-- where a line stands that stood at a level and took these
unfoldable pub last_of : ℕ → List ℕ → ℕ
last_of level [] = level
last_of level (b ∷ bs) = last_of b bs

-- a line that stood at a level changed while it took these
unfoldable pub moved : ℕ → List ℕ → Bool
moved level [] = false
moved level (b ∷ bs) = not (level == b) || moved b bs

-- a configuration has the enabling bit
abbrev pub enabled : Watch → ℕ → Bool
enabled w configuration = configuration / 2 ^ w.bit % 2 == 1

-- a count at the end of a clock: one more, up to 2,000,000, where nothing changed, else 0, and 0 while the bit is clear
abbrev pub counted : Bool → Bool → ℕ → ℕ
counted on change n = cond on (cond change 0 (min (suc n) 2000000)) 0

-- a line at the end of a clock in which it took these levels
abbrev pub line_after : Bool → List ℕ → Line → Line
line_after on bs l = line (counted on (moved l.level bs) l.still) (last_of l.level bs)

-- the end of a clock in which a device was sent these states, by the configuration that it then holds; levels follow the lines also while the
-- bit is clear
unfoldable pub watching : ℕ → List ℕ → Watch → Watch
watching configuration sent w =
    with_lines w (line_after (enabled w configuration) (map data_bit sent) w.din) (line_after (enabled w configuration) (map load_bit sent) w.loadi)

-- a count is at or over the limit
unfoldable pub expired : Watch → Bool
expired w = nat_le w.limit w.din.still || nat_le w.limit w.loadi.still
