-- Frames and returns as bits, and as line states. docs/RULES.md, "The set and the wire" and "One device, clock by clock".
use Rattle.std.specs.Prelude.{ℕ, ◌+◌, ◌%◌, Bool, cond, List, [], ◌++◌, map, eqb, ltb, take, drop}
use Rattle.bits.specs.Bits.{bits, digit}
use Rattle.parts.specs.Parts.{code}
use Rattle.parts.specs.declared.command.Command.{Command}

-- SYNC
abbrev pub sync : List Bool
sync = bits 8 0xE8

-- C1 C0 three times, and the count
unfoldable pub command_count : Command → ℕ → List Bool
command_count c n = bits 2 (code c) ++ (bits 2 (code c) ++ (bits 2 (code c) ++ bits 10 n))

-- SYNC, C1 C0 three times, and the count: 24 bits
unfoldable pub header : Command → ℕ → List Bool
header c n = sync ++ command_count c n

-- header, slices, tail
unfoldable pub frame : Command → ℕ → List Bool → List Bool → List Bool
frame c n slices tail = header c n ++ (slices ++ tail)

-- what comes back: the header with the count of faults, and the tail
abbrev pub return_of : Command → ℕ → List Bool → List Bool
return_of c n tail = frame c n [] tail

-- a line state: the data bit at low or at high load
pub data State : Type 0 where
  low high : Bool → State

-- the data bit of a line state
abbrev pub data_bit : State → Bool
data_bit (low b) = b
data_bit (high b) = b

-- the number of a line state: data bit plus twice the load bit
abbrev pub state_code : State → ℕ
state_code (low b) = digit b
state_code (high b) = 2 + digit b

-- the line state of a number; of a number over 3, by its lowest bit, at high load
abbrev pub state_at : ℕ → State
state_at s = cond (ltb s 2) (low (eqb (s % 2) 1)) (high (eqb (s % 2) 1))

-- bits at low load
abbrev pub lows : List Bool → List State
lows bs = map low bs

-- bits at high load
abbrev pub highs : List Bool → List State
highs bs = map high bs

-- where load rises in a frame (no edge zone of light): with SYNC's last bit, with the first command bit, or with the second
pub data Edge : Type 0 where
  early exact late : Edge

-- the edge of a number; of a number over 2, late
abbrev pub edge_at : ℕ → Edge
edge_at n = cond (eqb n 0) early (cond (eqb n 1) exact late)

-- bits at low load before it
abbrev pub low_clocks : Edge → ℕ
low_clocks early = 7
low_clocks exact = 8
low_clocks late = 9

-- the clocks of a frame or of a header that is sent with an edge
unfoldable pub clocked_at : Edge → List Bool → List State
clocked_at e bs = lows (take (low_clocks e) bs) ++ highs (drop (low_clocks e) bs)

-- with the exact edge, which every device sends: SYNC at low load and the rest at high
abbrev pub clocked : List Bool → List State
clocked bs = clocked_at exact bs

-- the clocks with an edge, as numbers
abbrev pub states_at : Edge → List Bool → List ℕ
states_at e bs = map state_code (clocked_at e bs)

-- with the exact edge, as numbers
abbrev pub states_of : List Bool → List ℕ
states_of bs = states_at exact bs
