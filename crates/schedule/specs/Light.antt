-- docs/RULES.md, "Light": the clocks at which an output is lit.
-- A subframe has P clocks, of which the first and last e are the edge zones. All is said for any row and any configuration. Lit clocks are
-- said twice, clock by clock and as one run; that these agree, and every other closed form, is a law (proofs/).
use Rattle.std.specs.Prelude.{ℕ, zero, suc, ◌+◌, ◌-◌, ◌%◌, min, max, Bool, ◌&&◌, cond, eqb, ltb, leb}
use Rattle.parts.specs.Parts.{Part}
use Rattle.subframes.specs.Subframes.{is_on}

-- the sum of f over the n numbers from 0 on
unfoldable pub total : (ℕ → ℕ) → ℕ → ℕ
total f zero = 0
total f (suc n) = total f n + f n

-- ---- clocks of an ON subframe

-- the number in an output's name: in wire order 7 to 0 of each bank, as Z7 to Z0, Y7 to Y0
abbrev pub name_number : ℕ → ℕ
name_number output = 7 - output % 8

-- the number in its name is even
abbrev pub is_even : ℕ → Bool
is_even output = eqb (name_number output % 2) 0

-- an even output is lit before clock v, an odd one from clock P - v on
abbrev pub lit_by : Part → ℕ → ℕ → ℕ → Bool
lit_by p v output c = cond (is_even output) (ltb c v) (leb (p.clocks - v) c)

-- both only outside the edge zones
abbrev pub lit_at : Part → ℕ → ℕ → ℕ → Bool
lit_at p v output c = leb p.edge c && (ltb c (p.clocks - p.edge) && lit_by p v output c)

-- ---- the same as one run of clocks

-- c lies in the run of clocks from `from` on and before `to`
abbrev pub in_run : ℕ → ℕ → ℕ → Bool
in_run from to c = leb from c && ltb c to

-- the clock at which the run of an even or an odd output begins
abbrev pub lit_from : Part → ℕ → Bool → ℕ
lit_from p v even = cond even p.edge (max p.edge (p.clocks - v))

-- the clock after its last; where that is not after the clock at which it begins, no clock is lit
abbrev pub lit_to : Part → ℕ → Bool → ℕ
lit_to p v even = cond even (min v (p.clocks - p.edge)) (p.clocks - p.edge)

-- how many clocks are lit, even or odd
abbrev pub lit_count : Part → ℕ → ℕ
lit_count p v = min v (p.clocks - p.edge) - p.edge

-- ---- by part, configuration and global byte

-- an output with value v is lit at clock c of subframe s
abbrev pub is_lit : Part → ℕ → ℕ → ℕ → ℕ → ℕ → ℕ → Bool
is_lit p configuration global v output s c = is_on p configuration global s && lit_at p v output c

-- an output with value v is lit at some clock of subframe s
abbrev pub is_lit_in : Part → ℕ → ℕ → ℕ → ℕ → ℕ → Bool
is_lit_in p configuration global v output s =
    is_on p configuration global s && ltb (lit_from p v (is_even output)) (lit_to p v (is_even output))

-- the first such clock, or 0
abbrev pub lit_first : Part → ℕ → ℕ → ℕ → ℕ → ℕ → ℕ
lit_first p configuration global v output s = cond (is_lit_in p configuration global v output s) (lit_from p v (is_even output)) 0

-- the clock after the last such clock, or 0
abbrev pub lit_end : Part → ℕ → ℕ → ℕ → ℕ → ℕ → ℕ
lit_end p configuration global v output s = cond (is_lit_in p configuration global v output s) (lit_to p v (is_even output)) 0
