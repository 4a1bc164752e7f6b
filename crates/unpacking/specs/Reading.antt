-- Inside: what the reader's private functions promise. The numbers that they give are the next ones of the bits ahead.
use Rattle.std.specs.Prelude.{◌≡◌, ℕ, ◌+◌, ◌*◌, ◌^◌, ◌≤◌, ◌<◌, Bool, List, ◌++◌, length, get_or, drop}
use lib.Dec.{lit<}
use Rattle.bits.specs.Bits.{bits, fields}
use Rattle.unpacking.specs.declared.reader.Reader.{Reader}
use Rattle.unpacking.specs.declared.reader.Taken.{Taken}

-- what is ahead: the `have` low bits of `acc` that are taken in, and the bytes from `at` on
unfoldable pub ahead : List ℕ → ℕ → ℕ → ℕ → List Bool
ahead src at have acc = bits have acc ++ fields 8 (drop at src)

-- a reader at the byte `at`, with no bits taken in
abbrev pub from : ℕ → Reader
from at = record { at = at; acc = 0; have = 0; few = lit< tt }

-- a reader at `p` read the numbers vs of w bits each, and is at `r`
pub record Pulled (src : List ℕ) (p r : Reader) (w : ℕ) (vs : List ℕ) : Type 0 where
  pub said : ahead src p.at p.have p.acc ≡ fields w vs ++ ahead src r.at r.have r.acc
  pub below : (i : ℕ) → get_or vs i 0 < 2 ^ w
  pub count : 8 * r.at + p.have ≡ 8 * p.at + length vs * w + r.have
  pub within : r.at ≤ length src

-- a reader at `p` took bytes in until it had w bits, and is at `r`
pub record Filled (src : List ℕ) (p : Reader) (r : Taken) (w : ℕ) : Type 0 where
  pub said : ahead src r.at r.have r.acc ≡ ahead src p.at p.have p.acc
  pub count : 8 * r.at + p.have ≡ 8 * p.at + r.have
  pub enough : w ≤ r.have
  pub small : r.have < w + 32
  pub within : r.at ≤ length src

-- x is the n bytes of src from `at` on
pub record Loaded (src : List ℕ) (at n x : ℕ) : Type 0 where
  pub said : bits (8 * n) x ++ fields 8 (drop (at + n) src) ≡ fields 8 (drop at src)
