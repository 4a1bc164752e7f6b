-- What "read back" and "written again" say.
use Rattle.std.specs.Prelude.{ℕ, ◌≡◌, List, length, take, Result, Ok, Err}
use Rattle.bits.specs.Bits.{over}
use Rattle.frames.specs.Frames.{field_count}
use Rattle.frame_writer.specs.Writing.{written, written_out}
use Rattle.frame_reader.specs.Reading.{found, bytes_found, values_found, read, read_bytes, read_values}
use Rattle.frames.specs.declared.told.Told.{Told}
use Rattle.frames.specs.declared.told.Tail.{Tail}
use Rattle.frame_reader.specs.declared.answer.Read.{Read}
use Rattle.frame_reader.specs.declared.answer.Read.TheVariants as R

-- the reader, lent two lists, accepts a frame and gives the fields vs
pub record ReadBack (t : Told) (tail : Tail) (frame vs bytes values : List ℕ) : Type 0 where
  pub answers : read t tail frame (length bytes) (length values) ≡ Ok (found t t.command vs)
  pub bytes-held : read_bytes t tail frame bytes (length values) ≡ bytes_found t.command vs bytes
  pub values-held : read_values t tail frame (length bytes) values ≡ values_found t.command vs values

-- the byte that a reader answered, if it is one
abbrev pub byte_of : Result Read ℕ → ℕ
byte_of (Ok (R.Byte b)) = b
byte_of (Ok (R.Bytes n)) = 0
byte_of (Ok (R.Values n)) = 0
byte_of (Err n) = 0

-- what a reader answered and left in the two lists: the byte, the bytes, the values
abbrev pub byte_read : Told → Tail → List ℕ → List ℕ → List ℕ → ℕ
byte_read t tail frame bytes values = byte_of (read t tail frame (length bytes) (length values))

-- the bytes that it left in the lent list
abbrev pub bytes_read : Told → Tail → List ℕ → List ℕ → List ℕ → List ℕ
bytes_read t tail frame bytes values = take (field_count t) (read_bytes t tail frame bytes (length values))

-- the values that it left in the lent list
abbrev pub values_read : Told → Tail → List ℕ → List ℕ → List ℕ → List ℕ
values_read t tail frame bytes values = take (field_count t) (read_values t tail frame (length bytes) values)

-- the writer, given a byte, bytes and values, accepts and writes this frame
pub record WrittenAgain (t : Told) (tail : Tail) (frame : List ℕ) (byte : ℕ) (bytes values out : List ℕ) : Type 0 where
  pub answers : written t tail byte bytes values (length out) ≡ Ok (length frame)
  pub out-held : written_out t tail byte bytes values out ≡ over frame out
