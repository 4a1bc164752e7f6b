-- A restore as a caller makes it: the four frames that the writer writes from a set, put onto the wire in restore order, each with any edge,
-- any tail and any clocks at low load before it. What then comes back, and when a slice has arrived, is said in model/specs/Restore.
use Rattle.std.specs.Prelude.{ℕ, ◌+◌, ◌<◌, ◌≡◌, Bool, true, take, get_or}
use mathlib.Core.List.{List, [], ◌∷◌, ◌++◌, map, flatten}
use Rattle.tables.specs.Lists.{all_below}
use Rattle.parts.specs.Parts.{part_of, restore_order}
use Rattle.parts.specs.Wire.{Edge, state_code, lows}
use Rattle.parts.specs.declared.command.Command.{Command}
use Rattle.parts.specs.declared.command.Command.TheVariants.{Individual, Calibration, Global, Configuration}
use Rattle.serial.specs.States.{frame_states}
use Rattle.frames.specs.Frames.{told_of, slices_bits, tail_bits, frame_of, frame_length}
use Rattle.frame_writer.specs.Writing.{settings, write_refusal}
use Rattle.frames.specs.declared.told.Told.{Told}
use Rattle.frames.specs.declared.told.Tail.{Tail}
use Rattle.model.specs.Set.{Set, owned}
use Rattle.model.specs.Restore.{states_until}

-- ---- the frames

-- what the writer is told of a set's frame
abbrev pub told : Set → Command → Told
told s c = told_of s.part s.devices c s.configuration

-- the byte that it is given: the global one for a global frame, else the configuration
abbrev pub set_byte : Set → Command → ℕ
set_byte s Individual = s.configuration
set_byte s Calibration = s.configuration
set_byte s Global = s.global
set_byte s Configuration = s.configuration

-- the number under which it refuses them, or 0, where its output has `room` bytes
abbrev pub write_number : Set → Command → Tail → ℕ → ℕ
write_number s c tail room = write_refusal (told s c) tail (set_byte s c) s.calibration s.individual room

-- the bytes that it writes
abbrev pub written_frame : Set → Command → Tail → List ℕ
written_frame s c tail = frame_of (told s c) tail (settings (told s c) (set_byte s c) s.calibration s.individual)

-- a set whose bytes are bytes, and whose four frames the writer accepts where its output has room for them
pub record Writable (s : Set) (tail : Command → Tail) : Type 0 where
  pub configuration : s.configuration < 256
  pub calibration : all_below s.calibration 256 ≡ true
  pub accepted : (c : Command) → write_number s c (tail c) (frame_length (told s c) (tail c)) ≡ 0

-- ---- their states

-- bits of a frame
abbrev pub frame_size : Set → Command → Tail → ℕ
frame_size s c tail = 24 + slices_bits (told s c) + tail.length

module _ (s : Set) (edge : Command → Edge) (gap : Command → List Bool) (tail : Command → Tail) where
  -- clocks at low load with any data, and then the frame, sent with its edge
  unfoldable pub frame_part : Command → List ℕ
  frame_part c = map state_code (lows (gap c)) ++ frame_states (edge c) (written_frame s c (tail c)) (frame_size s c (tail c))

  -- the first j frames of a restore
  abbrev pub restore_part : ℕ → List ℕ
  restore_part j = flatten (take j (map frame_part restore_order))

  -- all four
  abbrev pub restore_states : List ℕ
  restore_states = flatten (map frame_part restore_order)

  -- all four, and any clocks at low load after them
  abbrev pub restore_then : List Bool → List ℕ
  restore_then last = restore_states ++ map state_code (lows last)

-- the clocks at low load after the first j frames: those before the next frame, or those after the last
abbrev pub gap_after : (Command → List Bool) → List Bool → ℕ → List Bool
gap_after gap last j = get_or (map gap restore_order ++ last ∷ []) j []

-- ---- tails, and when a slice has arrived

-- the bits of each frame's tail
abbrev pub tails_of : (Command → Tail) → Command → List Bool
tails_of tail c = tail_bits (tail c)

-- how many states give a frame's header and the slices of the devices 1 to `device`, whichever edge it is sent with
abbrev pub arrival : Set → (Command → List Bool) → (Command → Tail) → Command → ℕ → ℕ
arrival s gap tail c device = states_until (part_of s.part) (owned s) gap (tails_of tail) c device
