-- Laws of headers, frames and line states, for any edge: a frame's states are its header's and then the slices and the tail at high load; the
-- numbers of line states are the line states. An edge lies within SYNC and the command bits. Assumes nothing.
use mathlib.Core.Path.{◌≡◌, refl, sym, ap, ◌∙◌}
use mathlib.Core.Bool.{Bool, true, false}
use mathlib.Core.List.{List, [], ◌∷◌, ◌++◌, map, flatten, append_assoc, map-append}
use Prim.Native.Nat.{ℕ, zero, suc, ◌≤◌, ◌<◌}
use native.Mathlib.Omega.{arith}
use lib.ListN.{length, length-map, length-append, take, drop, take-append-drop}
use lib.Seq.{take-append-le, drop-append-le}
use Rattle.tables.specs.Lists.{all_below}
use Rattle.machine.specs.Machine.{All}
use Rattle.bits.specs.Bits.{bits}
use Rattle.bits.proofs.Laws.{length-bits}
use Rattle.parts.specs.Parts.{code}
use Rattle.parts.specs.Wire.{State, low, high, data_bit, state_code, state_at, lows, highs, sync, command_count, header, frame, return_of}
use Rattle.parts.specs.Wire.{Edge, early, exact, late, low_clocks, clocked, clocked_at}
use Rattle.parts.specs.declared.command.Command.{Command}
use Rattle.model.specs.Device.{header_states, frame_states}

-- C1 C0 three times
abbrev pub pairs : Command → List Bool
pairs c = bits 2 (code c) ++ (bits 2 (code c) ++ bits 2 (code c))

-- SYNC and the command bits
abbrev pub opening : Command → List Bool
opening c = sync ++ pairs c

-- the states of a header that is sent with an edge
abbrev pub header_at : Edge → Command → ℕ → List State
header_at e c n = clocked_at e (header c n)

clocked-append : (e : Edge) (xs ys : List Bool) → low_clocks e ≤ length xs → clocked_at e (xs ++ ys) ≡ clocked_at e xs ++ highs ys
unfolding clocked_at
clocked-append e xs ys h = rw (take-append-le (low_clocks e) xs ys h, drop-append-le (low_clocks e) xs ys h, map-append, append_assoc)

low-le : (e : Edge) (bs : List Bool) → 9 ≤ length bs → low_clocks e ≤ length bs
low-le early bs h = omega arith
low-le exact bs h = omega arith
low-le late bs h = omega arith

length-opening : (c : Command) → length (opening c) ≡ 14
unfolding bits
length-opening c = refl

header-opening : (c : Command) (n : ℕ) → header c n ≡ opening c ++ bits 10 n
unfolding header command_count
header-opening c n = rw (append_assoc, append_assoc, append_assoc)

pub header-states : (e : Edge) (c : Command) (n : ℕ) → header_at e c n ≡ clocked_at e (opening c) ++ highs (bits 10 n)
header-states e c n = rw (header-opening c n) (clocked-append e (opening c) (bits 10 n) (low-le e (opening c) (omega (arith, length-opening c))))

-- what a device sends
pub header-exact : (c : Command) (n : ℕ) → header_states c n ≡ header_at exact c n
unfolding header_states
header-exact c n = refl

length-header : (c : Command) (n : ℕ) → length (header c n) ≡ 24
length-header c n = rw (header-opening, length-append, length-opening, length-bits)

pub frame-states : (e : Edge) (c : Command) (n : ℕ) (ss : List (List Bool)) (tail : List Bool) → frame_states e c n ss tail ≡ header_at e c n ++ highs (flatten ss ++ tail)
unfolding frame_states frame
frame-states e c n ss tail = clocked-append e (header c n) (flatten ss ++ tail) (low-le e (header c n) (omega (arith, length-header c n)))

-- ---- data bits

bits-lows : (bs : List Bool) → map data_bit (lows bs) ≡ bs
bits-lows [] = refl
bits-lows (b ∷ bs) = rw (bits-lows bs)

bits-highs : (bs : List Bool) → map data_bit (highs bs) ≡ bs
bits-highs [] = refl
bits-highs (b ∷ bs) = rw (bits-highs bs)

pub bits-clocked : (e : Edge) (bs : List Bool) → map data_bit (clocked_at e bs) ≡ bs
unfolding clocked_at
bits-clocked e bs = map-append data_bit (lows (take (low_clocks e) bs)) (highs (drop (low_clocks e) bs)) ∙ rw (bits-lows, bits-highs, take-append-drop)

pub length-header_at : (e : Edge) (c : Command) (n : ℕ) → length (header_at e c n) ≡ 24
length-header_at e c n = sym (length-map (header_at e c n) data_bit) ∙ ap length (bits-clocked e (header c n)) ∙ length-header c n

pub length-header_states : (c : Command) (n : ℕ) → length (header_states c n) ≡ 24
length-header_states c n = rw header-exact (length-header_at exact c n)

-- a return: a frame without slices, with the exact edge
pub return-states : (c : Command) (n : ℕ) (tail : List Bool) → frame_states exact c n [] tail ≡ clocked (return_of c n tail)
unfolding frame_states flatten
return-states c n tail = refl

-- ---- line states as numbers

state_at-state_code : (l : State) → state_at (state_code l) ≡ l
state_at-state_code (low false) = refl
state_at-state_code (low true) = refl
state_at-state_code (high false) = refl
state_at-state_code (high true) = refl

state_code-state_at : (s : ℕ) → s < 4 → state_code (state_at s) ≡ s
state_code-state_at zero h = refl
state_code-state_at (suc zero) h = refl
state_code-state_at (suc (suc zero)) h = refl
state_code-state_at (suc (suc (suc zero))) h = refl
state_code-state_at (suc (suc (suc (suc s)))) h = absurd (omega arith)

-- a state's number is below 4
pub codes-below : (ls : List State) → all_below (map state_code ls) 4 ≡ true
codes-below [] = refl
codes-below (low false ∷ ls) = codes-below ls
codes-below (low true ∷ ls) = codes-below ls
codes-below (high false ∷ ls) = codes-below ls
codes-below (high true ∷ ls) = codes-below ls

pub map-state_code-state_at : (ss : List ℕ) → All (λ s. s < 4) ss → map state_code (map state_at ss) ≡ ss
map-state_code-state_at [] h = refl
map-state_code-state_at (s ∷ ss) h = rw (state_code-state_at s h.0, map-state_code-state_at ss h.1)

pub map-state_at-state_code : (ls : List State) → map state_at (map state_code ls) ≡ ls
map-state_at-state_code [] = refl
map-state_at-state_code (l ∷ ls) = rw (state_at-state_code l, map-state_at-state_code ls)
