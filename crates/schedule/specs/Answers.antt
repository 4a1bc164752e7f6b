-- What the questions about light answer, for any input: the refusal of their table, or the answer of Light.
use Rattle.std.specs.Prelude.{ℕ, Bool, not, ◌||◌, List, [], ◌∷◌, ltb, leb, Result, Ok, Err}
use Rattle.tables.specs.Refusals.{Row, ◌when◌, first, answer}
use Rattle.parts.specs.Parts.{Part, known, part_of, multiplex, subframes, limit, outputs}
use Rattle.schedule.specs.Light.{is_lit, lit_first, lit_end}
use Rattle.schedule.specs.declared.output.Clocks.{Clocks}

-- an output, a subframe, a clock or a phase that the part and its configuration do not have: MUX1 only where multiplexed
unfoldable pub position_over : Part → ℕ → ℕ → ℕ → ℕ → ℕ → Bool
position_over p configuration output subframe clock phase =
    leb (outputs p) output || (leb (subframes p configuration) subframe || (leb p.clocks clock || ltb (multiplex configuration) phase))

-- ---- the table of refusals

-- is an output lit
abbrev pub lit_rows : ℕ → ℕ → ℕ → ℕ → ℕ → ℕ → ℕ → List Row
lit_rows part configuration value output subframe clock phase =
    (1 when not (known part)) ∷ (6 when leb (limit (part_of part)) value) ∷ (13 when position_over (part_of part) configuration output subframe clock phase) ∷ []

-- ---- the answers

-- is an output with a value lit at a clock of a subframe, in a phase
unfoldable pub lit_answer : ℕ → ℕ → ℕ → ℕ → ℕ → ℕ → ℕ → ℕ → Result Bool ℕ
lit_answer part configuration global value output subframe clock phase =
    answer (first (lit_rows part configuration value output subframe clock phase)) Err
    (Ok (is_lit (part_of part) configuration global value output subframe clock))

-- the clocks from one on and before another
abbrev pub clocks : ℕ → ℕ → Clocks
clocks first end = record { first = first; end = end }

-- the first and the end clock of an output with a value in a subframe
abbrev pub lit_run : Part → ℕ → ℕ → ℕ → ℕ → ℕ → Clocks
lit_run p configuration global value output subframe =
    clocks (lit_first p configuration global value output subframe) (lit_end p configuration global value output subframe)

-- at which clocks of a subframe is it lit, in a phase: refused as the question about clock 0, which every part has
unfoldable pub lit_clocks_answer : ℕ → ℕ → ℕ → ℕ → ℕ → ℕ → ℕ → Result Clocks ℕ
lit_clocks_answer part configuration global value output subframe phase =
    answer (first (lit_rows part configuration value output subframe 0 phase)) Err
    (Ok (lit_run (part_of part) configuration global value output subframe))
