-- Values in groups: how many values of a width are whole bytes, a list cut into groups, and the groups' bytes. The laws are in
-- proofs/Groups.
use Rattle.std.specs.Prelude.{ℕ, zero, suc, ◌*◌, ◌/◌, ◌%◌, cond, eqb, length, take, drop}
use mathlib.Core.List.{List, [], ◌∷◌, map, flatten}
use Rattle.bits.specs.Bits.{fields, bytes_of}

-- as many values of w bits as are whole bytes: two of 12 bits are three, four of 14 are seven
abbrev pub group_size : ℕ → ℕ
group_size w = cond (eqb (w % 8) 0) 1 (cond (eqb (2 * w % 8) 0) 2 (cond (eqb (4 * w % 8) 0) 4 8))

-- k groups of n values each, from the front of vs
unfoldable pub groups : ℕ → ℕ → List ℕ → List (List ℕ)
groups n zero vs = []
groups n (suc k) vs = take n vs ∷ groups n k (drop n vs)

-- all of vs in groups of so many values as are whole bytes
abbrev pub in_groups : ℕ → List ℕ → List (List ℕ)
in_groups w vs = groups (group_size w) (length vs / group_size w) vs

-- the bytes of each group, one group after the other
unfoldable pub group_bytes : ℕ → List (List ℕ) → List ℕ
group_bytes w gs = flatten (map (λ g. bytes_of (fields w g)) gs)
