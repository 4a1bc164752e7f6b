-- A header with a count of at most N, and the tail, packed, is what the return reader accepts, and it gives the count. Assumes nothing.
use mathlib.Core.Path.{◌≡◌, refl, ap, sym}
use mathlib.Core.Bool.{not}
use mathlib.Core.List.{List, []}
use Prim.Native.Nat.{ℕ, ◌^◌, ◌<◌, ◌≤◌}
use native.Mathlib.Omega.{arith}
use borrow.Author.Tests.{lt-ltb, le-ltb}
use Rattle.bits.specs.Bits.{fields, bytes_of}
use Rattle.tables.specs.Refusals.{first}
use Rattle.parts.specs.Wire.{return_of}
use Rattle.tables.proofs.Rows as rows
use Rattle.parts.specs.declared.command.Command.{Command}
use Rattle.frames.specs.Frames.{tail_bits, told_rows}
use Rattle.return_reader.specs.Returns.{count_of, return_table, return_refusal, return_read}
use Rattle.frames.specs.declared.told.Tail.{Tail}
use Rattle.std.specs.Prelude.{Ok, Err}
use Rattle.frames.proofs.Accepted.{told_accepted}
use Rattle.frame_laws.proofs.Packed as packed

pub return_read_lem : (part devices : ℕ) (c : Command) (tail : Tail) (n : ℕ) → first (told_rows part devices tail) ≡ 0
    → tail.number < 2 ^ tail.length → n ≤ devices
    → return_read part devices c tail (bytes_of (return_of c n (tail_bits tail))) ≡ Ok n
unfolding return_read return_refusal
return_read_lem part devices c tail n told low few = sym (rows.accepted Err refl refused (ap Ok (sym counted))) where
  f : List ℕ
  f = bytes_of (return_of c n (tail_bits tail))

  clear : rows.Clear (told_rows part devices tail)
  clear = rows.clear (told_rows part devices tail) refl told

  counted : count_of (fields 8 f) ≡ n
  counted = packed.packed-count c n [] tail 0 refl (omega (arith, (told_accepted part devices tail clear).few))

  refused : first (return_table part devices c tail f) ≡ 0
  refused =
      rows.none (return_table part devices c tail f) (
        clear.0,
        (
          clear.1.0,
          (
            clear.1.1.0,
            (
              rows.agrees refl refl (packed.packed-long c n [] tail 0 refl),
              (
                ap not (lt-ltb tail.number (2 ^ tail.length) low),
                (
                  rows.agrees refl refl (packed.packed-sync c n [] tail 0 refl),
                  (
                    rows.agrees refl refl (packed.packed-pairs c n [] tail 0 refl),
                    (
                      le-ltb devices (count_of (fields 8 f)) (omega (arith, counted)),
                      (
                        rows.agrees refl refl (packed.packed-unused c n [] tail 0 refl),
                        (rows.agrees refl refl (packed.packed-tail c n [] tail 0 refl low), tt),
                      ),
                    ),
                  ),
                ),
              ),
            ),
          ),
        ),
      )
