-- The three calls on a lent chain: when each is refused, what it leaves in the records, and what a run answers and leaves in the room that
-- it is lent. For any records, states and room. A refused call changes no record and no lent byte.
use Rattle.std.specs.Prelude.{ℕ, ◌+◌, ◌-◌, Bool, not, ◌&&◌, List, [], ◌∷◌, ◌++◌, leb, ltb, length, get_or, set, replicate}
use Rattle.bits.specs.Bits.{digit, over}
use Rattle.parts.specs.Parts.{known, is_count}
use Rattle.tables.specs.Refusals.{Row, ◌when◌, first, content}
use Rattle.watch.specs.Watch.{is_bit, is_limit}
use Rattle.device.specs.Step.{fresh_device, faulted}
use Rattle.tables.specs.Lists.{all_below}
use Rattle.device.specs.declared.device.Device.{Device}
use Rattle.calls.specs.Chain.{through, all_known, same_parts, all_fit, blank}

-- a lent chain is judged by its records: parts under 1 and 4, count under 2
abbrev pub chain_rows : List Device → List Row
chain_rows ds = (1 when not (all_known ds)) ∷ (2 when not (is_count (length ds))) ∷ (4 when not (same_parts ds)) ∷ []

-- ---- make fresh: told the part, the watchdog's bit and its limit, it takes the records whatever they hold

-- when it is refused
abbrev pub fresh_table : ℕ → ℕ → ℕ → ℕ → List Row
fresh_table part bit limit n = (1 when not (known part)) ∷ (2 when not (is_count n)) ∷ (13 when not (is_bit bit && is_limit limit)) ∷ []

-- the number, or 0
unfoldable pub fresh_refusal : ℕ → ℕ → ℕ → ℕ → ℕ
fresh_refusal part bit limit n = first (fresh_table part bit limit n)

-- every record becomes that of a fresh device
abbrev pub fresh_devices : ℕ → ℕ → ℕ → List Device → List Device
fresh_devices part bit limit ds = replicate (length ds) (fresh_device part bit limit)

-- the records afterwards
abbrev pub fresh_after : ℕ → ℕ → ℕ → List Device → List Device
fresh_after part bit limit ds = content (fresh_refusal part bit limit (length ds)) ds (fresh_devices part bit limit ds)

-- ---- run: line states, and room for the states returned

-- n states may return n + 23
abbrev pub room_for : ℕ → ℕ
room_for n = n + 23

-- when it is refused: the records, the room, a state
abbrev pub run_table : List Device → List ℕ → ℕ → List Row
run_table ds ss room = chain_rows ds ++ (5 when ltb room (room_for (length ss))) ∷ (13 when not (all_below ss 4 && all_fit ds)) ∷ []

-- the number, or 0
unfoldable pub run_refusal : List Device → List ℕ → ℕ → ℕ
run_refusal ds ss room = first (run_table ds ss room)

-- the states that the last device sends
abbrev pub returned : List Device → List ℕ → List ℕ
returned ds ss = (through ds ss).1

-- the devices after the states
abbrev pub run_devices : List Device → List ℕ → List Device
run_devices ds ss = (through ds ss).0

-- the records afterwards
abbrev pub run_after : List Device → List ℕ → ℕ → List Device
run_after ds ss room = content (run_refusal ds ss room) ds (run_devices ds ss)

-- what the lent room holds afterwards: the states returned, from its first place on
abbrev pub run_room : List Device → List ℕ → List ℕ → List ℕ
run_room ds ss out = content (run_refusal ds ss (length out)) out (over (returned ds ss) out)

-- ---- set fault: a device's number, 1 to N, the kind, 0 overtemperature or 1 open LED, and the flag

-- when it is refused: the records, the device, the kind
abbrev pub fault_table : List Device → ℕ → ℕ → List Row
fault_table ds device kind = chain_rows ds ++ (13 when not (leb 1 device && (leb device (length ds) && (ltb kind 2 && all_fit ds)))) ∷ []

-- the number, or 0
unfoldable pub fault_refusal : List Device → ℕ → ℕ → ℕ
fault_refusal ds device kind = first (fault_table ds device kind)

-- that device alone has its flag set
abbrev pub fault_devices : List Device → ℕ → ℕ → Bool → List Device
fault_devices ds device kind flag = set ds (device - 1) (faulted (get_or ds (device - 1) blank) kind (digit flag))

-- the records afterwards
abbrev pub fault_after : List Device → ℕ → ℕ → Bool → List Device
fault_after ds device kind flag = content (fault_refusal ds device kind) ds (fault_devices ds device kind flag)
