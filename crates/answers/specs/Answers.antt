-- What an operation for C and Rust answers in numbers: what was asked for, or the number of a refusal.
use Rattle.std.specs.Prelude.{ℕ, Result, Ok, Err}
use Rattle.answers.specs.declared.answer.Answer.{Answer}

-- what was asked for
abbrev pub accepted : ℕ → Answer
accepted value = record { value = value; refusal = 0 }

-- the refusal's number alone
abbrev pub refused : ℕ → Answer
refused number = record { value = 0; refusal = number }

-- an answer in numbers: what was asked for, or the refusal
abbrev pub of_answer : Result ℕ ℕ → Answer
of_answer (Ok value) = accepted value
of_answer (Err number) = refused number
