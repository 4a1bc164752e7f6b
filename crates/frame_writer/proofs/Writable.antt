-- What the writer knows of a call that it accepts: no row applies, so what is told is right, the list has its length, there is room, and
-- each field and the tail are within their widths. Assumes nothing.
use mathlib.Core.Path.{◌≡◌, refl}
use mathlib.Core.Bool.{false}
use mathlib.Core.List.{List, ◌++◌}
use Prim.Native.Nat.{ℕ, ◌^◌, ◌<◌, ◌≤◌}
use native.Mathlib.Omega.{arith}
use lib.Pow.{pow_pos}
use lib.ListN.{length, get_or, length-replicate}
use borrow.Author.Tests.{ltb-true, ltb-false, eqb-true, not-false}
use Rattle.parts.specs.Parts.{part_of, limit, field_width}
use Rattle.parts.specs.declared.command.Command.{Command}
use Rattle.parts.specs.declared.command.Command.TheVariants.{Individual, Calibration, Global, Configuration}
use Rattle.tables.proofs.Rows as rows
use Rattle.frames.specs.Frames.{field_count, frame_length, tail_high, told_rows}
use Rattle.frames.specs.declared.told.Told.{Told}
use Rattle.frames.specs.declared.told.Tail.{Tail}
use Rattle.frames.proofs.Tests.{below_all, below-replicate}
use Rattle.tables.proofs.Booleans.{or-none}
use Rattle.frames.proofs.Accepted.{ToldAccepted, told_accepted}
use Rattle.frame_writer.specs.Writing.{settings_of, list_wrong, value_high, write_rows, write_refusal}

pub record Writable (t : Told) (tail : Tail) (byte : ℕ) (bytes values : List ℕ) (room : ℕ) : Type 0 where
  pub told : ToldAccepted t.part t.devices tail
  pub list : list_wrong t.command (field_count t) (length bytes) (length values) ≡ false
  pub wide : frame_length t tail ≤ room
  pub value : value_high t t.command byte values ≡ false
  pub tail-low : tail.number < 2 ^ tail.length

pub writable : (t : Told) (tail : Tail) (byte : ℕ) (bytes values : List ℕ) (room : ℕ) → write_refusal t tail byte bytes values room ≡ 0
    → Writable t tail byte bytes values room
unfolding write_refusal
writable t tail byte bytes values room e =
    let c = rows.clear (told_rows t.part t.devices tail ++ write_rows t tail byte bytes values room) refl e in
    let d = c.1.1.1 in
    let six = or-none (value_high t t.command byte values) (tail_high tail) d.1.1.0 in
    record {
      told = told_accepted t.part t.devices tail (c.0, (c.1.0, (c.1.1.0, tt)));
      list = d.0;
      wide = ltb-false room (frame_length t tail) d.1.0;
      value = six.0;
      tail-low = ltb-true tail.number (2 ^ tail.length) (not-false _ six.1);
    }

pub length-settings_of : (t : Told) (c : Command) (byte : ℕ) (bytes values : List ℕ) → list_wrong c (field_count t) (length bytes) (length values) ≡ false
    → length (settings_of t c byte bytes values) ≡ field_count t
length-settings_of t Individual byte bytes values e = eqb-true (length values) (field_count t) (not-false _ e)
length-settings_of t Calibration byte bytes values e = eqb-true (length bytes) (field_count t) (not-false _ e)
length-settings_of t Global byte bytes values e = length-replicate (field_count t) byte
length-settings_of t Configuration byte bytes values e = length-replicate (field_count t) byte

pub settings_of-below : (t : Told) (c : Command) (byte : ℕ) (bytes values : List ℕ) → value_high t c byte values ≡ false → byte < 256
    → ((i : ℕ) → get_or bytes i 0 < 256) → (i : ℕ) → get_or (settings_of t c byte bytes values) i 0 < 2 ^ field_width (part_of t.part) c
settings_of-below t Individual byte bytes values e b f i = below_all values (limit (part_of t.part)) (pow_pos (part_of t.part).width) (not-false _ e) i
settings_of-below t Calibration byte bytes values e b f i = f i
settings_of-below t Global byte bytes values e b f i = below-replicate (field_count t) byte 256 (omega arith) b i
settings_of-below t Configuration byte bytes values e b f i = below-replicate (field_count t) byte 256 (omega arith) b i
