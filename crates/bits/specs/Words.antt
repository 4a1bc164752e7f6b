-- Inside: groups of values as numbers, for the private functions of packing and unpacking. The laws are in proofs/Groups.
use Rattle.std.specs.Prelude.{ℕ, ◌+◌, ◌-◌, ◌*◌, ◌/◌, ◌^◌, List, [], ◌∷◌, map}
use Rattle.bits.specs.Bits.{number, fields}

-- the number that each group's fields say
unfoldable pub group_numbers : ℕ → List (List ℕ) → List ℕ
group_numbers w gs = map (λ g. number (fields w g)) gs

-- the high n bits of each word of 64 bits, as a number
unfoldable pub high_bits : ℕ → List ℕ → List ℕ
high_bits n words = map (λ x. x / 2 ^ (64 - n)) words

-- values side by side, 16 bits to each, the first one lowest
abbrev pub side_by_side : List ℕ → ℕ
side_by_side [] = 0
side_by_side (v ∷ vs) = side_by_side vs * 2 ^ 16 + v
