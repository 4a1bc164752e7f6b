-- Between packed bits and line states, for any input. A frame of n bits goes onto the wire with load rising at one of three edges;
-- returned states come back as their data bits, packed as a frame is. Refusals by the numbers of docs/RULES.md: 4 the bytes are not those of n
-- bits, 5 the output is too short, 13 a number that is none of the edges, or a line state over 3.
use Rattle.std.specs.Prelude.{ℕ, ◌%◌, Bool, not, List, [], ◌∷◌, map, eqb, ltb, length, take, get_or, Result, Ok, Err}
use Rattle.bits.specs.Bits.{fields, bytes_of, bytes_for, over}
use Rattle.tables.specs.Lists.{all_below}
use Rattle.tables.specs.Refusals.{Row, ◌when◌, first, answer, content}
use Rattle.parts.specs.Wire.{Edge, edge_at, states_at, state_at, data_bit}

-- the states of the first n bits of a packed frame that is sent with an edge
unfoldable pub frame_states : Edge → List ℕ → ℕ → List ℕ
frame_states e frame n = states_at e (take n (fields 8 frame))

-- when a frame of n bits is refused: the edge is told by its number
abbrev pub frame_rows : ℕ → ℕ → ℕ → ℕ → List Row
frame_rows long n edge room = (4 when not (eqb long (bytes_for n))) ∷ (5 when ltb room n) ∷ (13 when not (ltb edge 3)) ∷ []

-- how many states were written, or the refusal
unfoldable pub clocked_answer : List ℕ → ℕ → ℕ → List ℕ → Result ℕ ℕ
clocked_answer frame n edge out = answer (first (frame_rows (length frame) n edge (length out))) Err (Ok n)

-- what the lent list of states holds afterwards
unfoldable pub clocked_out : List ℕ → ℕ → ℕ → List ℕ → List ℕ
clocked_out frame n edge out =
    content (first (frame_rows (length frame) n edge (length out))) out (over (frame_states (edge_at edge) frame n) out)

-- the data bits of line states
abbrev pub data_bits : List ℕ → List Bool
data_bits states = map (λ s. data_bit (state_at s)) states

-- the data bit of the state at a place, 0 past the last one
abbrev pub digit_at : List ℕ → ℕ → ℕ
digit_at states at = get_or states at 0 % 2

-- when returned states are refused
abbrev pub state_rows : List ℕ → ℕ → List Row
state_rows states room = (5 when ltb room (bytes_for (length states))) ∷ (13 when not (all_below states 4)) ∷ []

-- how many bytes were written, or the refusal
unfoldable pub data_bytes_answer : List ℕ → List ℕ → Result ℕ ℕ
data_bytes_answer states out = answer (first (state_rows states (length out))) Err (Ok (bytes_for (length states)))

-- what the lent bytes hold afterwards
unfoldable pub data_bytes_out : List ℕ → List ℕ → List ℕ
data_bytes_out states out = content (first (state_rows states (length out))) out (over (bytes_of (data_bits states)) out)
