-- The lines of the bench program, as the bytes of their text (ASCII). docs/RULES.md, "The bench program".
use Rattle.std.specs.Prelude.{ℕ, zero, suc, ◌+◌, ◌/◌, ◌%◌, cond, List, [], ◌∷◌, ◌++◌, ltb, Result, Ok, Err}
use Rattle.parts.specs.declared.command.Command.{Command}
use Rattle.parts.specs.declared.command.Command.TheVariants.{Individual, Calibration, Global, Configuration}
use Rattle.frame_reader.specs.declared.answer.Read.{Read}

-- a number in decimal, in at most so many digits
unfoldable pub digits_in : ℕ → ℕ → List ℕ
digits_in zero n = []
digits_in (suc k) n = cond (ltb n 10) ((48 + n) ∷ []) (digits_in k (n / 10) ++ ((48 + n % 10) ∷ []))

-- a number in decimal: 20 digits hold every u64
abbrev pub decimal : ℕ → List ℕ
decimal n = digits_in 20 n

-- a text and a number behind it
abbrev pub labelled : List ℕ → ℕ → List ℕ
labelled text number = text ++ decimal number

-- the line's end
abbrev pub newline : List ℕ
newline = 10 ∷ []

-- "part "
abbrev pub part_text : List ℕ
part_text = 112 ∷ 97 ∷ 114 ∷ 116 ∷ 32 ∷ []

-- " devices "
abbrev pub devices_text : List ℕ
devices_text = 32 ∷ 100 ∷ 101 ∷ 118 ∷ 105 ∷ 99 ∷ 101 ∷ 115 ∷ 32 ∷ []

-- " multiplexed "
abbrev pub multiplexed_text : List ℕ
multiplexed_text = 32 ∷ 109 ∷ 117 ∷ 108 ∷ 116 ∷ 105 ∷ 112 ∷ 108 ∷ 101 ∷ 120 ∷ 101 ∷ 100 ∷ 32 ∷ []

-- "individual bits ", "calibration bits ", "global bits ", "configuration bits "
abbrev pub name_text : Command → List ℕ
name_text Individual = 105 ∷ 110 ∷ 100 ∷ 105 ∷ 118 ∷ 105 ∷ 100 ∷ 117 ∷ 97 ∷ 108 ∷ 32 ∷ 98 ∷ 105 ∷ 116 ∷ 115 ∷ 32 ∷ []
name_text Calibration = 99 ∷ 97 ∷ 108 ∷ 105 ∷ 98 ∷ 114 ∷ 97 ∷ 116 ∷ 105 ∷ 111 ∷ 110 ∷ 32 ∷ 98 ∷ 105 ∷ 116 ∷ 115 ∷ 32 ∷ []
name_text Global = 103 ∷ 108 ∷ 111 ∷ 98 ∷ 97 ∷ 108 ∷ 32 ∷ 98 ∷ 105 ∷ 116 ∷ 115 ∷ 32 ∷ []
name_text Configuration =
    99 ∷ 111 ∷ 110 ∷ 102 ∷ 105 ∷ 103 ∷ 117 ∷ 114 ∷ 97 ∷ 116 ∷ 105 ∷ 111 ∷ 110 ∷ 32 ∷ 98 ∷ 105 ∷ 116 ∷ 115 ∷ 32 ∷ []

-- " accepted" and the line's end
abbrev pub accepted_text : List ℕ
accepted_text = 32 ∷ 97 ∷ 99 ∷ 99 ∷ 101 ∷ 112 ∷ 116 ∷ 101 ∷ 100 ∷ 10 ∷ []

-- "refused "
abbrev pub refused_text : List ℕ
refused_text = 114 ∷ 101 ∷ 102 ∷ 117 ∷ 115 ∷ 101 ∷ 100 ∷ 32 ∷ []

-- the line of refused arguments: refused 1
abbrev pub refused_line : ℕ → List ℕ
refused_line number = labelled refused_text number ++ newline

-- the line of left-over input: trailing refused 4
abbrev pub trailing_line : List ℕ
trailing_line =
    116 ∷ 114 ∷ 97 ∷ 105 ∷ 108 ∷ 105 ∷ 110 ∷ 103 ∷ 32 ∷ 114 ∷ 101 ∷ 102 ∷ 117 ∷ 115 ∷ 101 ∷ 100 ∷ 32 ∷ 52 ∷ 10 ∷ []

-- the first line: part 6974 devices 1 multiplexed 0
abbrev pub part_line : ℕ → ℕ → ℕ → List ℕ
part_line part devices mux =
    labelled part_text part ++ (labelled devices_text devices ++ (labelled multiplexed_text mux ++ newline))

-- how a frame's line ends, by what the reader answers: accepted, or refused 4
abbrev pub ending : Result Read ℕ → List ℕ
ending (Err number) = labelled (32 ∷ refused_text) number ++ newline
ending (Ok read) = accepted_text

-- a frame's line, with the bits that it should have: configuration bits 48 accepted
abbrev pub frame_line : Command → ℕ → Result Read ℕ → List ℕ
frame_line c bits answer = labelled (name_text c) bits ++ ending answer
