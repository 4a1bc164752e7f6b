-- For a configuration frame the told configuration is ignored: whatever it is, the answers and the lent lists are the same. They compute.
-- Assumes nothing.
use mathlib.Core.Path.{◌≡◌, refl}
use mathlib.Core.List.{List}
use Prim.Native.Nat.{ℕ}
use Rattle.parts.specs.declared.command.Command.TheVariants.{Configuration}
use Rattle.frames.specs.Frames.{frame_bits, frame_of}
use Rattle.frame_writer.specs.Writing.{write_refusal, written, written_out}
use Rattle.frame_reader.specs.Reading.{held_fields, read_refusal, read, read_bytes, read_values}
use Rattle.frames.specs.declared.told.Told.{Told}
use Rattle.frames.specs.declared.told.Tail.{Tail}

-- a configuration frame that is told a configuration
abbrev configured : ℕ → ℕ → ℕ → Told
configured part devices g = record { part = part; devices = devices; command = Configuration; configuration = g }

module _ (part devices g k : ℕ) (tail : Tail) where
  pub write-ignores : (byte : ℕ) (bytes values out : List ℕ) (room : ℕ)
      → (written (configured part devices g) tail byte bytes values room ≡ written (configured part devices k) tail byte bytes values room)
      × (written_out (configured part devices g) tail byte bytes values out ≡ written_out (configured part devices k) tail byte bytes values out)
  unfolding written written_out write_refusal frame_of frame_bits
  write-ignores byte bytes values out room = (refl, refl)

  pub read-ignores : (frame bytes values : List ℕ) (b v : ℕ)
      → (read (configured part devices g) tail frame b v ≡ read (configured part devices k) tail frame b v)
      × (read_bytes (configured part devices g) tail frame bytes v ≡ read_bytes (configured part devices k) tail frame bytes v)
      × (read_values (configured part devices g) tail frame b values ≡ read_values (configured part devices k) tail frame b values)
  unfolding read read_bytes read_values read_refusal held_fields
  read-ignores frame bytes values b v = (refl, refl, refl)
