-- Inside: four states as one word, and their data bits.
use Rattle.std.specs.Prelude.{ℕ, ◌+◌, ◌*◌, ◌/◌, ◌%◌, Bool, ◌&&◌, cond, eqb, Option, Some, None}

-- the first state lowest
abbrev pub word_of : ℕ → ℕ → ℕ → ℕ → ℕ
word_of a b c d = a + b * 0x100 + c * 0x10000 + d * 0x1000000

-- a state at high load: 2 or 3
abbrev pub high_state : ℕ → Bool
high_state s = eqb (s / 2) 1

-- the data bits of four states at high load, the first one on top; none where one of them is anything else
unfoldable pub four_bits : ℕ → ℕ → ℕ → ℕ → Option ℕ
four_bits a b c d =
    cond (high_state a && (high_state b && (high_state c && high_state d))) (Some (((a % 2 * 2 + b % 2) * 2 + c % 2) * 2 + d % 2)) None
