-- What a caller knows of a chain by its calls and their answers alone: the part and the watchdog's bit and limit that the last accepted fresh was
-- told, and the flag of each device and kind that the last accepted setting gave, 0 after a fresh. No record is looked at, only whether a call was accepted. Then what a
-- call is refused for on a chain whose records no call is refused for.
use Rattle.std.specs.Prelude.{ℕ, Bool, false, not, ◌&&◌, cond, List, [], ◌∷◌, eqb, leb, ltb, length}
use Rattle.tables.specs.Lists.{all_below}
use Rattle.tables.specs.Refusals.{Row, ◌when◌}
use Rattle.registers.specs.declared.registers.Registers.{Registers}
use Rattle.device.specs.declared.device.Device.{Device}
use Rattle.calls.specs.Calls.{fresh_table, room_for}
use Rattle.calls.specs.History.{Call, fresh, run, fault, refusal_of, after}

-- the flag of a kind that a record holds: 0 overtemperature, else open LED
abbrev pub flag_in : Registers → ℕ → ℕ
flag_in r kind = cond (eqb kind 0) r.overtemperature r.openled

-- a call is accepted
abbrev pub is_accepted : List Device → Call → Bool
is_accepted ds c = eqb (refusal_of ds c) 0

-- the part told, by one call more
abbrev pub part_by : List Device → ℕ → Call → ℕ
part_by ds p (fresh q bit limit) = cond (is_accepted ds (fresh q bit limit)) q p
part_by ds p (run ss out) = p
part_by ds p (fault device kind flag) = p

-- the part told to the last accepted fresh of a list of calls, or p
unfoldable pub part_told : List Device → ℕ → List Call → ℕ
part_told ds p [] = p
part_told ds p (c ∷ cs) = part_told (after ds c) (part_by ds p c) cs

-- the watchdog's bit and limit told, by one call more
abbrev pub watch_by : List Device → ℕ × ℕ → Call → ℕ × ℕ
watch_by ds w (fresh q bit limit) = cond (is_accepted ds (fresh q bit limit)) (bit, limit) w
watch_by ds w (run ss out) = w
watch_by ds w (fault device kind flag) = w

-- those told to the last accepted fresh of a list of calls, or w
unfoldable pub watch_told : List Device → ℕ × ℕ → List Call → ℕ × ℕ
watch_told ds w [] = w
watch_told ds w (c ∷ cs) = watch_told (after ds c) (watch_by ds w c) cs

-- a device's flag of a kind, by one call more
abbrev pub flag_by : List Device → ℕ → ℕ → Bool → Call → Bool
flag_by ds device kind old (fresh q bit limit) = cond (is_accepted ds (fresh q bit limit)) false old
flag_by ds device kind old (run ss out) = old
flag_by ds device kind old (fault n k flag) = cond (is_accepted ds (fault n k flag) && (eqb n device && eqb k kind)) flag old

-- the flag that the last accepted setting of a list of calls gave, false after an accepted fresh, or `old`
unfoldable pub flag_told : List Device → ℕ → ℕ → Bool → List Call → Bool
flag_told ds device kind old [] = old
flag_told ds device kind old (c ∷ cs) = flag_told (after ds c) device kind (flag_by ds device kind old c) cs

-- what a call on n records is refused for beside what they hold
abbrev pub own_table : ℕ → Call → List Row
own_table n (fresh part bit limit) = fresh_table part bit limit n
own_table n (run ss out) = (5 when ltb (length out) (room_for (length ss))) ∷ (13 when not (all_below ss 4)) ∷ []
own_table n (fault device kind flag) = (13 when not (leb 1 device && (leb device n && ltb kind 2))) ∷ []
