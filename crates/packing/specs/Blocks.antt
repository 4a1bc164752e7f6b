-- Inside: what the functions promise that pack a list in groups of four values, a word of 64 bits for each.
use Rattle.std.specs.Prelude.{◌≡◌, ℕ, ◌+◌, ◌-◌, ◌*◌, ◌^◌, Bool, List, ◌++◌, map, take, drop, replicate}
use Rattle.bits.specs.Bits.{fields}
use Rattle.bits.specs.Groups.{groups}
use Rattle.bits.specs.Words.{group_numbers, side_by_side}

-- the mask of w bits for each of four values side by side
unfoldable pub four_masks : ℕ → ℕ
four_masks w = side_by_side (replicate 4 (2 ^ w - 1))

-- the words of k groups of four values of w bits: each group's number in the high bits
unfoldable pub group_words : ℕ → ℕ → List ℕ → List ℕ
group_words w k vs = map (λ g. g * 2 ^ (64 - 4 * w)) (group_numbers w (groups 4 k vs))

-- n bytes laid from `at` on, which say bs: those before are as they were, and those from `end` on too
pub record Laid (before after : List ℕ) (at n end : ℕ) (bs : List Bool) : Type 0 where
  pub said : fields 8 (take (at + n) after) ≡ fields 8 (take at before) ++ bs
  pub rest : drop end after ≡ drop end before
