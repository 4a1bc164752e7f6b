-- What a question about a part's row answers: the number, or the refusal of a part that is not known.
use Rattle.std.specs.Prelude.{ℕ, not, List, [], ◌∷◌}
use Rattle.tables.specs.Refusals.{Row, ◌when◌, first, answer}
use Rattle.parts.specs.Parts.{known}
use Rattle.answers.specs.Answers.{accepted, refused}
use Rattle.answers.specs.declared.answer.Answer.{Answer}

-- when a question about a part is refused: 1
abbrev pub part_rows : ℕ → List Row
part_rows part = (1 when not (known part)) ∷ []

-- a number of a part's row
abbrev pub of_part : ℕ → ℕ → Answer
of_part part number = answer (first (part_rows part)) refused (accepted number)
