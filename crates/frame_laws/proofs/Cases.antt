-- A command, or an answer of the frame reader, under a `_`: the tag says which cases are left, and what holds of each of them holds of it. Assumes
-- nothing.
use Prim.Native.Nat.{ℕ}
use mathlib.Core.List.{[], ◌∷◌}
use mathlib.Core.Logic.{⊎_elim}
use native.Mathlib.Omega.{arith}
use types.Run.{OneOf}
use denote.Enum.Declared.{tag_of}
use Rattle.parts.specs.declared.command.Command.{Command}
use Rattle.parts.specs.declared.command.Command.TheVariants.{Individual, Calibration, Global, Configuration}
use Rattle.parts.specs.contracts.command.Command as commands
use Rattle.frame_reader.specs.declared.answer.Read.{Read}
use Rattle.frame_reader.specs.declared.answer.Read.TheVariants as R
use Rattle.frame_reader.specs.contracts.answer.Read as reads

-- of four cases, the tag is not the first's
not_first : OneOf (1 ∷ 2 ∷ 3 ∷ []) 0 → ⊥
not_first h = ⊎_elim (λ e. omega arith) (λ i. ⊎_elim (λ e. omega arith) (λ e. omega arith) i) h

-- what holds of the three commands whose fields are bytes
pub byte-command : (P : Command → Type 0) → P Calibration → P Global → P Configuration → (c : Command) → OneOf (1 ∷ 2 ∷ 3 ∷ []) (tag_of commands.the_type c) → P c
byte-command P p q r Individual h = absurd (not_first h)
byte-command P p q r Calibration h = p
byte-command P p q r Global h = q
byte-command P p q r Configuration h = r

-- what holds of the two answers that hold no byte: a refusal is none of the reader's enum any more
pub read-no-byte : (P : Read → Type 0) → ((n : ℕ) → P (R.Bytes n)) → ((n : ℕ) → P (R.Values n)) → (read : Read) → OneOf (1 ∷ 2 ∷ []) (tag_of reads.the_type read) → P read
read-no-byte P p q (R.Byte b) h = absurd (⊎_elim (λ e. omega arith) (λ e. omega arith) h)
read-no-byte P p q (R.Bytes n) h = p n
read-no-byte P p q (R.Values n) h = q n
