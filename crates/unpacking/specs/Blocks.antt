-- Inside: what the functions promise that unpack a list in groups of four values, a word of 64 bits for each.
use Rattle.std.specs.Prelude.{ℕ, zero, suc, ◌+◌, ◌-◌, ◌*◌, ◌/◌, ◌%◌, ◌^◌, List, [], ◌∷◌, length}
use Rattle.bits.specs.Bits.{fields, split}
use Rattle.bits.specs.Words.{high_bits}

-- the mask of w bits for each of two numbers, 32 bits apart
abbrev pub two_masks : ℕ → ℕ
two_masks w = (2 ^ w - 1) * (2 ^ 32 + 1)

-- the n values that stand side by side in x, 16 bits to each, the first one lowest
unfoldable pub apart : ℕ → ℕ → List ℕ
apart zero x = []
apart (suc n) x = x % 2 ^ 16 ∷ apart n (x / 2 ^ 16)

-- the values of w bits of each word's group: the four of its high bits
abbrev pub group_values : ℕ → List ℕ → List ℕ
group_values w words = split w (4 * length words) (fields (4 * w) (high_bits (4 * w) words))
