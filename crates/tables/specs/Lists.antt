-- Tests of whole lists.
use Rattle.std.specs.Prelude.{ℕ, Bool, true, ◌&&◌, List, [], ◌∷◌, eqb, ltb}
use Rattle.std.specs.Int.Bits.{bit_or}

-- each passes a test
abbrev pub every : {A : Type 0} → (A → Bool) → List A → Bool
every f [] = true
every f (x ∷ xs) = f x && every f xs

-- each number is below m
abbrev pub all_below : List ℕ → ℕ → Bool
all_below [] m = true
all_below (x ∷ xs) m = ltb x m && all_below xs m

-- each number is b
abbrev pub all_same : List ℕ → ℕ → Bool
all_same [] b = true
all_same (x ∷ xs) b = eqb x b && all_same xs b

-- the bits of a number and of each of a list
abbrev pub or_all : List ℕ → ℕ → ℕ
or_all [] bits = bits
or_all (x ∷ xs) bits = or_all xs (bit_or bits x)
