-- docs/RULES.md, "Light": which subframes of a frame are ON, and the lead of a window of subframes.
-- A frame has S subframes and a level g below S. All is said for any S and g, any row and any configuration; closed forms are laws (proofs/).
use Rattle.std.specs.Prelude.{ℕ, zero, suc, ◌+◌, ◌*◌, ◌/◌, ◌%◌, Bool, ltb, ℤ, pos, ◌-ℤ◌}
use Rattle.bits.specs.Bits.{digit}
use Rattle.parts.specs.Parts.{Part, subframes}

-- how many of the n numbers from `from` on pass a test
unfoldable pub how_many_from : (ℕ → Bool) → ℕ → ℕ → ℕ
how_many_from f from zero = 0
how_many_from f from (suc n) = how_many_from f from n + digit (f (from + n))

-- s(g + 1) div S
abbrev pub on_first : ℕ → ℕ → ℕ → ℕ
on_first S g s = s * (g + 1) / S

-- subframe s is ON
abbrev pub on : ℕ → ℕ → ℕ → Bool
on S g s = ltb (on_first S g s) (on_first S g (s + 1))

-- the ON subframes of a window of w subframes
abbrev pub on_count : ℕ → ℕ → ℕ → ℕ → ℕ
on_count S g from w = how_many_from (on S g) from w

-- the lead of a window: S times its ON count less w(g + 1)
abbrev pub lead : ℕ → ℕ → ℕ → ℕ → ℤ
lead S g from w = pos (S * on_count S g from w) -ℤ pos (w * (g + 1))

-- ---- by part, configuration and global byte

-- g: any byte, modulo S
abbrev pub level : Part → ℕ → ℕ → ℕ
level p configuration global = global % subframes p configuration

-- subframe s is ON
abbrev pub is_on : Part → ℕ → ℕ → ℕ → Bool
is_on p configuration global s = on (subframes p configuration) (level p configuration global) s

-- the lead of a window
abbrev pub lead_of : Part → ℕ → ℕ → ℕ → ℕ → ℤ
lead_of p configuration global from w = lead (subframes p configuration) (level p configuration global) from w
