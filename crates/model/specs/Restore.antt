-- A restore: the four frames of a set, each with any edge, any tail and any clocks at low load before it; what a device then holds and the
-- chain returns; and when a slice has fully arrived. Said over any list of what is each device's own.
use Rattle.std.specs.Prelude.{ℕ, ◌+◌, ◌≡◌, Bool, true, false, ◌&&◌, cond, length, take}
use mathlib.Core.List.{List, ◌++◌, map, flatten}
use Rattle.parts.specs.Parts.{Part, restore_order}
use Rattle.parts.specs.Wire.{State, Edge, lows, return_of}
use Rattle.parts.specs.declared.command.Command.{Command}
use Rattle.parts.specs.declared.command.Command.TheVariants.{Individual, Calibration, Global, Configuration}
use Rattle.model.specs.Device.{Registers, multiplexed, evens, odds, frame_states, faults}
use Rattle.model.specs.Set.{Own, slice_of}

-- a frame from the host, the clocks at low load before it, and the edge that it is sent with
pub record Piece : Type 0 where
  pub gap : List Bool
  pub edge : Edge
  pub kind : Command
  pub slices : List (List Bool)
  pub tail : List Bool

-- its line states
unfoldable pub piece_states : Piece → List State
piece_states p = lows p.gap ++ frame_states p.edge p.kind 0 p.slices p.tail

module _ (w : Part) (os : List Own) (edge : Command → Edge) (gap tail : Command → List Bool) where
  -- the frame of a command
  abbrev pub piece_of : Command → Piece
  piece_of c = record { gap = gap c; edge = edge c; kind = c; slices = map (slice_of w c) os; tail = tail c }

  -- the four frames in restore order
  unfoldable pub pieces_of : List Piece
  pieces_of = map piece_of restore_order

  -- all the states of a restore
  abbrev pub pieces_states : List State
  pieces_states = flatten (map piece_states pieces_of)

-- when a slice has arrived; no edge is asked for, since it moves a load bit and no state
module _ (w : Part) (os : List Own) (gap tail : Command → List Bool) where
  -- how many states a frame has, with the clocks before it
  abbrev pub states_in : Command → ℕ
  states_in c = length (gap c) + (24 + (length (flatten (map (slice_of w c) os)) + length (tail c)))

  -- how many states come before a frame's own
  abbrev pub states_before : Command → ℕ
  states_before Configuration = 0
  states_before Calibration = states_in Configuration
  states_before Global = states_in Configuration + states_in Calibration
  states_before Individual = states_in Configuration + states_in Calibration + states_in Global

  -- how many states give the frame's header and the slices of the devices 1 to `device`: its slice has then fully arrived
  abbrev pub states_until : Command → ℕ → ℕ
  states_until c device = states_before c + (length (gap c) + (24 + length (flatten (take device (map (slice_of w c) os)))))

-- the four returns of a chain with these registers
abbrev pub returns_of : (Command → List Bool) → List Registers → List (List Bool)
returns_of tail rs = map (λ c. return_of c (faults c rs) (tail c)) restore_order

-- the values that are in use: MUX1 only while D0 is 1
abbrev pub InUse : Bool → List ℕ → List ℕ → List ℕ → Type 0
InUse true vs mux0 mux1 = (mux0 ≡ evens vs) × (mux1 ≡ odds vs)
InUse false vs mux0 mux1 = mux0 ≡ vs

-- the registers in use hold the values of the device's own slices
pub record RegistersHold (o : Own) (r : Registers) : Type 0 where
  pub configuration : r.configuration ≡ o.configuration
  pub calibration : r.calibration ≡ o.calibration
  pub global : r.active.global ≡ o.global
  pub individual : InUse (multiplexed o.configuration) o.individual r.active.mux0 r.active.mux1

-- what a cut leaves in one device: each group new where its slice had fully arrived, else old; what is active old
pub record CutFields (arrived : Command → Bool) (o : Own) (old new : Registers) : Type 0 where
  pub part : new.part ≡ old.part
  pub configuration : new.configuration ≡ cond (arrived Configuration) o.configuration old.configuration
  pub calibration : new.calibration ≡ cond (arrived Calibration) o.calibration old.calibration
  pub global : new.waiting.global ≡ cond (arrived Global) o.global old.waiting.global
  pub mux0 : new.waiting.mux0 ≡ cond (arrived Individual) (cond (multiplexed o.configuration) (evens o.individual) o.individual) old.waiting.mux0
  pub mux1 : new.waiting.mux1 ≡ cond (arrived Individual && multiplexed o.configuration) (odds o.individual) old.waiting.mux1
  pub active : new.active ≡ old.active
