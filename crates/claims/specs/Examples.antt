-- The lettered examples of docs/RULES.md, a to z, of where load rises 2a to 2i, of a device's clock 4a to 4i, and of its watchdog 5a to 5l, as lists in
-- the order of their letters and with the numbers given there.
use Rattle.std.specs.Prelude.{ℕ, zero, suc, ◌-◌, ◌≡◌, Bool, true, false, ◌&&◌, List, [], ◌∷◌, ◌++◌, map, leb, ℤ, pos, neg_ℤ, length, take, replicate, Ok}
use Rattle.bits.specs.Bits.{bits, fields, bytes_of}
use Rattle.parts.specs.Parts.{part_of}
use Rattle.tables.specs.Refusals.{first}
use Rattle.parts.specs.Wire.{State, lows, highs, state_code, Edge, early, exact, late, header, frame, states_at, states_of}
use Rattle.parts.specs.declared.command.Command.{Command}
use Rattle.parts.specs.declared.command.Command.TheVariants.{Individual, Calibration, Global, Configuration}
use Rattle.serial.specs.States.{data_bits}
use Rattle.frame_writer.specs.Writing.{written, written_out}
use Rattle.frames.specs.Frames.{told_of, tail_of, no_tail, field_count}
use Rattle.frame_reader.specs.Reading.{read_refusal}
use Rattle.frames.specs.declared.told.Told.{Told}
use Rattle.frames.specs.declared.told.Tail.{Tail}
use Rattle.phases.specs.Phases.{place_of}
use Rattle.phases.specs.declared.phase.Phase.{Phase}
use Rattle.phases.specs.declared.phase.Phase.TheVariants.{Hunting, Opening, Slice, Passing, Lost}
use Rattle.registers.specs.Held.{holding, showing, zeros, bank_bytes}
use Rattle.registers.specs.declared.registers.Registers.{Registers}
use Rattle.positions.specs.Positions.{placed_at}
use Rattle.device.specs.Step.{at, faulted, fresh_device}
use Rattle.watch.specs.Watch.{line, expired}
use Rattle.watch.specs.declared.watch.Watch.{Watch}
use Rattle.device.specs.Run.{run, clock_record}
use Rattle.device.specs.declared.device.Device.{Device}
use Rattle.calls.specs.Calls.{returned}
use Rattle.calls.specs.Chain.{through}
use Rattle.calls.specs.Expiry.{expires}
use Rattle.subframes.specs.Subframes.{is_on}
use Rattle.subframes.specs.Answers.{on_answer, lead_answer}
use Rattle.schedule.specs.Light.{is_even}
use Rattle.schedule.specs.Answers.{lit_rows, lit_answer}
use Rattle.sets.specs.Sets.{set_of}
use Rattle.current.specs.Answers.{current, current_out}

-- what a frame is told by, at configuration 0
abbrev told : ℕ → ℕ → Command → Told
told part devices command = told_of part devices command 0

-- 0, 1, .. up to below n
abbrev count : ℕ → List ℕ
count zero = []
count (suc n) = count n ++ n ∷ []

-- a list again and again
abbrev times : ℕ → List ℕ → List ℕ
times zero xs = []
times (suc n) xs = xs ++ times n xs

-- a fresh device of a part, its watchdog enabled by bit 1, with the longest limit
abbrev new : ℕ → Device
new part = fresh_device part 1 2000000

-- three devices of a part, of which the first and the last have open LEDs
abbrev pub three_devices : ℕ → List Device
three_devices part = faulted (new part) 1 1 ∷ new part ∷ faulted (new part) 1 1 ∷ []

-- a calibration frame for them, each with these bytes, and with the tail 0xA5 in 8 bits
unfoldable pub three_states : List ℕ → List ℕ
three_states bytes = states_of (frame Calibration 0 (fields 8 (times 3 bytes)) (bits 8 0xA5))

-- a calibration frame for two 6974, with the bytes 1 to 3 and 4 to 6, sent with an edge
unfoldable pub two_states : Edge → List ℕ
two_states edge = states_at edge (frame Calibration 0 (fields 8 (1 ∷ 2 ∷ 3 ∷ 4 ∷ 5 ∷ 6 ∷ [])) [])

-- a device of a part, by its configuration and its position; the global byte 7 waits and 9 is active
abbrev pub placed : ℕ → ℕ → ℕ → Device
placed part configuration position =
    let r : Registers = (new part).registers in
    let q : Registers = holding r configuration r.calibration 7 r.waiting0 r.waiting1 r.slice in
    at (placed_at (showing q 0 0 9 q.active0 q.active1) position) (Hunting 0)

-- the 48 states of a frame for one device of three banks, of which the last stores these bytes
unfoldable pub one_states : Command → List ℕ → List ℕ
one_states command bytes = states_of (frame command 0 (fields 8 bytes) [])

-- a watchdog that bit 1 enables: its limit, the levels of data and load, and their counts
abbrev pub dog : ℕ → ℕ → ℕ → ℕ → ℕ → Watch
dog limit data_level load_level data_count load_count = record { din = line data_count data_level; loadi = line load_count load_level; limit = limit; bit = 1 }

-- a 6974 with a configuration, a phase, the fields that have come of a slice, a position and a watchdog; the values 1 wait in MUX0 and 2 in MUX1, 3 and
-- 4 are active; the global byte 7 waits and 9 is active
abbrev pub guarded : ℕ → Phase → List ℕ → ℕ → Watch → Device
guarded configuration phase slots position w =
    let r : Registers = holding (zeros 6974 w) configuration (replicate 3 0) 7 (replicate 24 1) (replicate 24 2) (slots ++ replicate (48 - length slots) 0) in
    at (placed_at (showing r 0 0 9 (replicate 24 3) (replicate 24 4)) position) phase

-- one whose slice of three bytes lacks its last bit
abbrev pub nearly : ℕ → Command → List ℕ → Watch → Device
nearly configuration command slots w = guarded configuration (Slice command 0 23) slots 10 w

-- one that waits for SYNC, its enabling bit set
abbrev pub idle : ℕ → Watch → Device
idle position w = guarded 0x02 (Hunting 0) [] position w

-- ---- what an example says

pub data Example : Type 0 where
  -- from a byte, bytes and values the writer writes this frame, and the reader accepts it
  sends : Told → Tail → ℕ → List ℕ → List ℕ → List ℕ → Example
  -- the reader refuses this frame with a number
  refuses : Told → Tail → List ℕ → ℕ → Example
  -- a chain that is given these states returns these bytes
  returns : List Device → List ℕ → List ℕ → Example
  -- of a part at configuration 0 and a global byte, a subframe is ON or off
  subframe : ℕ → ℕ → ℕ → Bool → Example
  -- the lead of the subframes from one to another, both included
  lead : ℕ → ℕ → ℕ → ℕ → ℤ → Example
  -- an output of a part, by its value and whether it is even, is lit from one clock to another, both included, and at no other
  lit : ℕ → ℕ → Bool → ℕ → ℕ → Example
  -- is lit at no clock
  dark : ℕ → ℕ → Bool → Example
  -- whether an output of a part is lit is refused with a number, or answered where it is 0
  output : ℕ → ℕ → ℕ → Example
  -- one device of a part, by its configuration, calibration bytes, global byte and values, and the sign that it is: total, average and remainder
  draws : ℕ → ℕ → List ℕ → ℕ → List ℕ → ℕ → ℕ → ℕ → Example
  -- a fresh device of any part, given these line states, comes to a phase
  comes : List State → Phase → Example
  -- of two fresh 6974, given so many states of that frame with an edge, each holds these calibration bytes
  holds : Edge → ℕ → List (List ℕ) → Example
  -- what the first of them sends on of it
  passes : Edge → List ℕ → Example
  -- a chain that is given these states: its devices are at these positions, these global bytes wait, and these are active
  stands : List Device → List ℕ → List ℕ → List ℕ → List ℕ → Example
  -- a device that is given these states by the single step is at a position
  steps : Device → List ℕ → ℕ → Example
  -- a device that is sent these states in one clock has this watchdog at its end, and has expired in it or not
  watches : Device → List ℕ → Watch → Bool → Example
  -- each of its values that wait, MUX0 and MUX1, and each that is active is this
  shows : Device → List ℕ → ℕ → ℕ → ℕ → ℕ → Example
  -- its phase, its calibration bytes and its position; the global byte that waits, and the active one
  stays : Device → List ℕ → Phase → List ℕ → ℕ → ℕ → ℕ → Example
  -- a chain that is given these states has these watchdogs
  guards : List Device → List ℕ → List Watch → Example
  -- in each clock of these states device 1 of a chain expires or not
  expiring : List Device → List ℕ → List Bool → Example

-- what is answered of every output of a parity with a value, at every clock of every ON subframe, in every phase that there is
abbrev pub Lights : ℕ → ℕ → Bool → (ℕ → Bool) → Type 0
Lights part value even said =
    (configuration global output s clock phase : ℕ)
    → first (lit_rows part configuration value output s clock phase) ≡ 0
    → is_on (part_of part) configuration global s ≡ true
    → is_even output ≡ even
    → lit_answer part configuration global value output s clock phase ≡ Ok (said clock)

-- the registers of a device that was sent these states in one clock
abbrev pub after : Device → List ℕ → Registers
after d sent = (clock_record d sent).0.registers

-- the lent lists have room for what the frame holds
abbrev pub Says : Example → Type 0
Says (sends t tail byte bytes values bs) =
    (written t tail byte bytes values (length bs) ≡ Ok (length bs))
    × (written_out t tail byte bytes values (replicate (length bs) 0) ≡ bs)
    × (read_refusal t tail bs (field_count t) (field_count t) ≡ 0)
Says (refuses t tail bs n) = read_refusal t tail bs (field_count t) (field_count t) ≡ n
Says (returns ds states bs) = bytes_of (data_bits (returned ds states)) ≡ bs
Says (subframe part global s b) = on_answer part 0 global s ≡ Ok b
Says (lead part global from to z) = lead_answer part 0 global from (suc to - from) ≡ Ok z
Says (lit part value even from to) = Lights part value even (λ clock. leb from clock && leb clock to)
Says (dark part value even) = Lights part value even (λ clock. false)
Says (output part number n) = first (lit_rows part 0 0 number 0 0 0) ≡ n
Says (draws part configuration bytes global values total average remainder) =
    (current (set_of part 1 configuration bytes global values) 3 ≡ record { total = total; average = average; remainder = remainder; refusal = 0 })
    × (current_out (set_of part 1 configuration bytes global values) (replicate 3 0) ≡ total ∷ average ∷ remainder ∷ [])
Says (comes states phase) = (part bit limit : ℕ) → (run (fresh_device part bit limit) (map state_code states)).0.place ≡ place_of phase
Says (holds edge states bytes) = map (λ d. bank_bytes d.registers) (through (new 6974 ∷ new 6974 ∷ []) (take states (two_states edge))).0 ≡ bytes
Says (passes edge states) = (run (new 6974) (two_states edge)).1 ≡ states
Says (stands ds states positions waiting active) =
    (map (λ d. d.registers.position) (through ds states).0 ≡ positions)
    × (map (λ d. d.registers.waiting) (through ds states).0 ≡ waiting)
    × (map (λ d. d.registers.active) (through ds states).0 ≡ active)
Says (steps d states position) = (run d states).0.registers.position ≡ position
Says (watches d sent w has) = ((after d sent).watch ≡ w) × (expired (after d sent).watch ≡ has)
Says (shows d sent waiting0 waiting1 active0 active1) =
    ((after d sent).waiting0 ≡ replicate 24 waiting0)
    × ((after d sent).waiting1 ≡ replicate 24 waiting1)
    × ((after d sent).active0 ≡ replicate 24 active0)
    × ((after d sent).active1 ≡ replicate 24 active1)
Says (stays d sent phase bytes position waiting active) =
    ((clock_record d sent).0.place ≡ place_of phase)
    × ((after d sent).calibration ≡ bytes)
    × ((after d sent).position ≡ position)
    × ((after d sent).waiting ≡ waiting)
    × ((after d sent).active ≡ active)
Says (guards ds states ws) = map (λ d. d.registers.watch) (through ds states).0 ≡ ws
Says (expiring ds states said) = map (λ clock. expires ds states (suc clock) 1) (count (length said)) ≡ said

-- all that stands under one letter
abbrev pub All-say : List Example → Type 0
All-say [] = Unit {0}
All-say (e ∷ es) = Says e × All-say es

-- ---- the list

pub data Letter : Type 0 where
  a b c d e f g h i j k l m n o p q r s t u v w x y z : Letter

infix 10 ◌says◌
pub data Lettered : Type 0 where
  ◌says◌ : Letter → List Example → Lettered

-- each of a list holds
abbrev pub Each : List Lettered → Type 0
Each [] = Unit {0}
Each ((letter says es) ∷ rest) = All-say es × Each rest

-- a to z
abbrev pub examples : List Lettered
examples =
    (a says sends (told 6974 1 Configuration) no_tail 0x00 [] [] (0xE8 ∷ 0xFC ∷ 0x00 ∷ 0x00 ∷ 0x00 ∷ 0x00 ∷ []) ∷ [])
    ∷ (b says sends (told 6974 2 Configuration) no_tail 0x01 [] [] (0xE8 ∷ 0xFC ∷ 0x00 ∷ 0x01 ∷ 0x01 ∷ 0x01 ∷ 0x01 ∷ 0x01 ∷ 0x01 ∷ []) ∷ [])
    ∷ (c says sends (told 6974 1 Calibration) no_tail 0 (0xA9 ∷ 0x10 ∷ 0x01 ∷ []) [] (0xE8 ∷ 0x54 ∷ 0x00 ∷ 0xA9 ∷ 0x10 ∷ 0x01 ∷ []) ∷ [])
    ∷ (d says sends (told 6974 1 Global) no_tail 96 [] [] (0xE8 ∷ 0xA8 ∷ 0x00 ∷ 0x60 ∷ 0x60 ∷ 0x60 ∷ []) ∷ [])
    ∷ (e says sends (told 6974 1 Individual) no_tail 0 [] (replicate 24 2560) (0xE8 ∷ 0x00 ∷ 0x00 ∷ times 12 (0xA0 ∷ 0x0A ∷ 0x00 ∷ [])) ∷ [])
    ∷ (f says sends (told 6975 1 Individual) no_tail 0 [] (replicate 24 1)
    (0xE8 ∷ 0x00 ∷ 0x00 ∷ times 6 (0x00 ∷ 0x04 ∷ 0x00 ∷ 0x10 ∷ 0x00 ∷ 0x40 ∷ 0x01 ∷ [])) ∷ [])
    ∷ (g says returns (three_devices 6974) (three_states (0xA9 ∷ 0x10 ∷ 0x01 ∷ [])) (0xE8 ∷ 0x54 ∷ 0x02 ∷ 0xA5 ∷ []) ∷ [])
    ∷ (h says sends (told 6974 1 Configuration) (tail_of 0b101 3) 0x00 [] [] (0xE8 ∷ 0xFC ∷ 0x00 ∷ 0x00 ∷ 0x00 ∷ 0x00 ∷ 0xA0 ∷ [])
    ∷ refuses (told 6974 1 Configuration) (tail_of 0b101 3) (0xE8 ∷ 0xFC ∷ 0x00 ∷ 0x00 ∷ 0x00 ∷ 0x00 ∷ 0xA1 ∷ []) 11 ∷ [])
    ∷ (i says subframe 6974 96 0 false
    ∷ subframe 6974 96 1 true ∷ subframe 6974 96 2 true ∷ subframe 6974 96 3 true
    ∷ subframe 6974 96 4 false
    ∷ lead 6974 96 0 0 (neg_ℤ (pos 97)) ∷ lead 6974 96 1 3 (pos 93) ∷ [])
    ∷ (j says lit 6974 2560 true 16 2559 ∷ lit 6974 2560 false 1536 4079 ∷ [])
    ∷ (k says dark 6975 32 true ∷ dark 6975 32 false ∷ lit 6975 33 true 32 32 ∷ lit 6975 33 false 16351 16351 ∷ [])
    ∷ (l says sends (told 6972 1 Configuration) no_tail 0x00 [] [] (0xE8 ∷ 0xFC ∷ 0x00 ∷ 0x00 ∷ 0x00 ∷ []) ∷ [])
    ∷ (m says sends (told 6972 1 Calibration) no_tail 0 (0xA9 ∷ 0x10 ∷ []) [] (0xE8 ∷ 0x54 ∷ 0x00 ∷ 0xA9 ∷ 0x10 ∷ []) ∷ [])
    ∷ (n says sends (told 6972 1 Global) no_tail 96 [] [] (0xE8 ∷ 0xA8 ∷ 0x00 ∷ 0x60 ∷ 0x60 ∷ []) ∷ [])
    ∷ (o says sends (told 6972 1 Individual) no_tail 0 [] (replicate 16 2560) (0xE8 ∷ 0x00 ∷ 0x00 ∷ times 8 (0xA0 ∷ 0x0A ∷ 0x00 ∷ [])) ∷ [])
    ∷ (p says sends (told 6973 1 Individual) no_tail 0 [] (replicate 16 1)
    (0xE8 ∷ 0x00 ∷ 0x00 ∷ times 4 (0x00 ∷ 0x04 ∷ 0x00 ∷ 0x10 ∷ 0x00 ∷ 0x40 ∷ 0x01 ∷ [])) ∷ [])
    ∷ (q says returns (three_devices 6972) (three_states (0xA9 ∷ 0x10 ∷ [])) (0xE8 ∷ 0x54 ∷ 0x02 ∷ 0xA5 ∷ []) ∷ [])
    ∷ (r says lit 6972 2560 true 16 2559
    ∷ lit 6972 2560 false 1536 4079 ∷ dark 6973 32 true ∷ dark 6973 32 false
    ∷ lit 6973 33 true 32 32
    ∷ lit 6973 33 false 16351 16351 ∷ [])
    ∷ (s says output 6972 16 13 ∷ output 6974 16 0 ∷ [])
    ∷ (t says draws 6974 0x00 (0xA9 ∷ 0x10 ∷ 0x01 ∷ []) 96 (replicate 24 2560) 559669824000 1067485 248320 ∷ [])
    ∷ (u says draws 6974 0x00 (replicate 3 0) 0 (replicate 23 0 ++ 17 ∷ []) 48000 0 48000 ∷ [])
    ∷ (v says draws 6974 0x00 (replicate 3 0xFF) 127 (replicate 24 16) 0 0 0 ∷ [])
    ∷ (w says draws 6974 0x01 (replicate 3 0xA9) 63 (times 24 (2560 ∷ 16 ∷ [])) 682850304000 1302433 311296 ∷ [])
    ∷ (x says draws 6975 0x00 (0xA9 ∷ 0 ∷ 0 ∷ []) 31 (33 ∷ replicate 23 0) 5592000 10 349120
    ∷ draws 6975 0x11 (replicate 3 0) 3 (0 ∷ 16383 ∷ replicate 46 0) 12533760000 23906 131072 ∷ [])
    ∷ (y says draws 6972 0x00 (0xA9 ∷ 0 ∷ []) 96 (replicate 16 2560) 806191056000 1537687 214144 ∷ [])
    ∷ (z says draws 6974 0x08 (1 ∷ 2 ∷ 3 ∷ []) 5 (replicate 24 1000) 7013952000 13378 27136 ∷ [])
    ∷ []

-- device 1 stores at the 48th state and device 2 at the 72nd
abbrev stores : Edge → List Example
stores edge =
    holds edge 47 (replicate 3 0 ∷ replicate 3 0 ∷ [])
    ∷ holds edge 48 ((1 ∷ 2 ∷ 3 ∷ []) ∷ replicate 3 0 ∷ [])
    ∷ holds edge 71 ((1 ∷ 2 ∷ 3 ∷ []) ∷ replicate 3 0 ∷ [])
    ∷ holds edge 72 ((1 ∷ 2 ∷ 3 ∷ []) ∷ (4 ∷ 5 ∷ 6 ∷ []) ∷ [])
    ∷ []

-- SYNC at low load; the command three times, the count and the slice of device 2 at high
abbrev sent_on : List ℕ
sent_on = map state_code (lows (bits 8 0xE8) ++ highs (bits 6 0b010101 ++ (bits 10 0 ++ fields 8 (4 ∷ 5 ∷ 6 ∷ []))))

-- 2a to 2i
abbrev pub edge_examples : List Lettered
edge_examples =
    (a says comes (lows (bits 7 0b1110100) ++ highs (bits 1 1)) Lost ∷ [])
    ∷ (b says comes (highs (bits 1 0) ++ (lows (bits 7 0b1110100) ++ highs (bits 1 0))) (Opening 0b1) ∷ [])
    ∷ (c says comes (lows (bits 9 0b111010001) ++ highs (bits 1 0)) (Opening 0b110) ∷ [])
    ∷ (d says comes (lows (bits 10 0b1110100011) ++ highs (bits 1 1)) Lost ∷ [])
    ∷ (e says comes (lows (bits 3 0b111) ++ (highs (bits 1 0) ++ (lows (bits 4 0b0100) ++ highs (bits 1 0)))) Lost ∷ [])
    ∷ (f says comes (lows (bits 9 0b011010001) ++ highs (bits 1 1)) Lost ∷ [])
    ∷ (g says stores early ++ (stores exact ++ stores late))
    ∷ (h says comes (lows (bits 9 0b111101000) ++ highs (bits 1 1)) (Opening 0b11) ∷ [])
    ∷ (i says passes early sent_on ∷ passes exact sent_on ∷ passes late sent_on ∷ [])
    ∷ []

-- of one device after that frame: its position, the global byte that waits, the active one
abbrev comes_to : ℕ → ℕ → ℕ → Command → List ℕ → ℕ → ℕ → ℕ → Example
comes_to part configuration from command bytes position waiting active =
    stands (placed part configuration from ∷ []) (one_states command bytes) (position ∷ []) (waiting ∷ []) (active ∷ [])

-- 4a to 4i
abbrev pub clock_examples : List Lettered
clock_examples =
    -- a return to 0 on the clock of a store: the old waiting values become active, the new ones wait
    (a says comes_to 6974 0x00 524240 Global (replicate 3 5) 0 5 7 ∷ [])
    -- two devices, a configuration frame of 72 states
    ∷ (b says stands (new 6974 ∷ new 6974 ∷ []) (states_of (frame Configuration 0 (fields 8 (replicate 6 0)) [])) (72 ∷ 72 ∷ []) (0 ∷ 0 ∷ []) (0 ∷ 0 ∷ []) ∷ [])
    -- a 6975 at 200,001 when GLB4 is stored
    ∷ (c says comes_to 6975 0x00 199953 Configuration (replicate 3 0x10) 68929 7 9 ∷ [])
    -- at 131,072: 0, and nothing becomes active
    ∷ (d says comes_to 6975 0x00 131024 Configuration (replicate 3 0x10) 0 7 9 ∷ [])
    -- GLB4 cleared on the return from 131,071: a boundary
    ∷ (e says comes_to 6975 0x10 131024 Configuration (replicate 3 0x00) 0 7 7 ∷ [])
    -- one clock earlier, and then a low state: no boundary
    ∷ (f says comes_to 6975 0x10 131023 Configuration (replicate 3 0x00) 131071 7 9
    ∷ stands (placed 6975 0x10 131023 ∷ []) (one_states Configuration (replicate 3 0x00) ++ 0 ∷ []) (131072 ∷ []) (7 ∷ []) (9 ∷ []) ∷ [])
    -- copies that differ at 200,001
    ∷ (g says comes_to 6975 0x00 199953 Configuration (0x10 ∷ 0x12 ∷ 0x10 ∷ []) 200001 7 9 ∷ [])
    -- GLB4 on a 6974 at 200,001
    ∷ (h says comes_to 6974 0x00 199953 Configuration (replicate 3 0x10) 200001 7 9 ∷ [])
    -- the single step through the same configuration at 200,000
    ∷ (i says steps (placed 6975 0x00 200000) (one_states Configuration (replicate 3 0x10)) 68928 ∷ [])
    ∷ []

-- a device whose individual slice, each value 5, lacks its last bit, with both lines still for so many clocks, of a limit of 10
abbrev stored : ℕ → Device
stored still = guarded 0x02 (Slice Individual 0 287) (replicate 23 5 ++ 2 ∷ []) 10 (dog 10 1 1 still still)

-- 5a to 5l, bit 1
abbrev pub watch_examples : List Lettered
watch_examples =
    -- limit 1, configuration 0x03: expiry on its last bit, counts 1 and 1
    (a says watches (nearly 0x00 Configuration (0x03 ∷ 0x03 ∷ 0x01 ∷ []) (dog 1 1 1 0 0)) (3 ∷ []) (dog 1 1 1 1 1) true
    ∷ shows (nearly 0x00 Configuration (0x03 ∷ 0x03 ∷ 0x01 ∷ []) (dog 1 1 1 0 0)) (3 ∷ []) 0 0 0 0
    ∷ guards (guarded 0x00 (Hunting 0) [] 10 (dog 1 0 0 0 0) ∷ []) (one_states Configuration (replicate 3 0x03)) (dog 1 1 1 1 1 ∷ []) ∷ [])
    -- count 9 of limit 10, a still line, the bit cleared on this clock: no expiry, counts 0
    ∷ (b says watches (nearly 0x02 Configuration [] (dog 10 0 1 9 9)) (2 ∷ []) (dog 10 0 1 0 0) false
    ∷ shows (nearly 0x02 Configuration [] (dog 10 0 1 9 9)) (2 ∷ []) 1 2 3 4 ∷ [])
    -- boundary and expiry in one clock: active values 0, and the global byte that waited is active
    ∷ (c says shows (idle 524287 (dog 10 0 0 9 9)) [] 0 0 0 0 ∷ stays (idle 524287 (dog 10 0 0 9 9)) [] (Hunting 0) (replicate 3 0) 0 7 7 ∷ [])
    -- store and expiry: the slice just stored is 0; without the expiry it waits
    ∷ (d says shows (stored 9) (3 ∷ []) 0 0 0 0 ∷ shows (stored 8) (3 ∷ []) 5 2 3 4 ∷ [])
    -- a burst onto levels 0 and 1 with counts 500: counts 0, levels 0 and 1
    ∷ (e says watches (idle 10 (dog 1000 0 1 500 500)) (states_of (header Calibration 0)) (dog 1000 0 1 0 0) false ∷ [])
    -- two devices, states 0 1 0 1 0: device 2 counts 5 and 5, device 1 0 and 5
    ∷ (f says guards (idle 10 (dog 100 0 0 0 0) ∷ idle 10 (dog 100 0 0 0 0) ∷ []) (0 ∷ 1 ∷ 0 ∷ 1 ∷ 0 ∷ []) (dog 100 0 0 0 5 ∷ dog 100 0 0 5 5 ∷ []) ∷ [])
    -- bit clear, states 1 3 3: levels 1 and 1; the bit then set, state 3: counts 1 and 1
    ∷ (g says guards (guarded 0x00 (Hunting 0) [] 10 (dog 100 0 0 0 0) ∷ []) (1 ∷ 3 ∷ 3 ∷ []) (dog 100 1 1 0 0 ∷ [])
    ∷ guards (idle 10 (dog 100 1 1 0 0) ∷ []) (3 ∷ []) (dog 100 1 1 1 1 ∷ []) ∷ [])
    -- limit 3, four still clocks: expiry on the third and the fourth
    ∷ (h says expiring (idle 10 (dog 3 0 0 0 0) ∷ []) (replicate 4 0) (false ∷ false ∷ true ∷ true ∷ []) ∷ [])
    -- limit 4, states 1 0 1 0: expiry on the fourth, by the load line alone
    ∷ (i says expiring (idle 10 (dog 4 0 0 0 0) ∷ []) (1 ∷ 0 ∷ 1 ∷ 0 ∷ []) (false ∷ false ∷ false ∷ true ∷ []) ∷ [])
    -- MUX1 is cleared while D0 is 0, and global bytes are not
    ∷ (j says shows (idle 10 (dog 10 0 0 9 9)) (0 ∷ []) 0 0 0 0 ∷ stays (idle 10 (dog 10 0 0 9 9)) (0 ∷ []) (Hunting 0) (replicate 3 0) 11 7 9 ∷ [])
    -- count 2,000,000 stays, and expires again
    ∷ (k says watches (idle 10 (dog 2000000 0 0 2000000 2000000)) (0 ∷ []) (dog 2000000 0 0 2000000 2000000) true ∷ [])
    -- an expiry within a calibration frame leaves that frame, the global bytes, the calibration and the position
    ∷ (l says shows (nearly 0x02 Calibration (1 ∷ 2 ∷ 1 ∷ []) (dog 10 1 1 9 9)) (3 ∷ []) 0 0 0 0
    ∷ stays (nearly 0x02 Calibration (1 ∷ 2 ∷ 1 ∷ []) (dog 10 1 1 9 9)) (3 ∷ []) Passing (1 ∷ 2 ∷ 3 ∷ []) 11 7 9 ∷ [])
    ∷ []
