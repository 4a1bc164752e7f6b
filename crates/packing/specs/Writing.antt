-- Inside: what the writer's private functions promise: how much further the bits reach that stand in the lent bytes and in the accumulator.
use Rattle.std.specs.Prelude.{◌≡◌, ℕ, ◌+◌, ◌*◌, ◌≤◌, Bool, List, ◌++◌, take, drop}
use Rattle.bits.specs.Bits.{bits, fields}
use Rattle.packing.specs.declared.writer.Writer.{Writer}

-- what is written so far: the `at` bytes that are stored, and the `have` low bits of `acc` that wait
unfoldable pub written_bits : List ℕ → ℕ → ℕ → ℕ → List Bool
written_bits out at have acc = fields 8 (take at out) ++ bits have acc

-- a writer at `p` on the bytes `before` went on by n bits, bs, to `r` on `after`: past its whole bytes nothing changed
pub record Pushed (before after : List ℕ) (p r : Writer) (n : ℕ) (bs : List Bool) : Type 0 where
  pub said : written_bits after r.at r.have r.acc ≡ written_bits before p.at p.have p.acc ++ bs
  pub rest : drop r.at after ≡ drop r.at before
  pub forward : p.at ≤ r.at
  pub count : 8 * r.at + r.have ≡ 8 * p.at + p.have + n

-- n bytes stored from `at` on, which say bs: those before are as they were, and those after too
pub record Stored (before after : List ℕ) (at n : ℕ) (bs : List Bool) : Type 0 where
  pub said : fields 8 (take (at + n) after) ≡ fields 8 (take at before) ++ bs
  pub rest : drop (at + n) after ≡ drop (at + n) before
