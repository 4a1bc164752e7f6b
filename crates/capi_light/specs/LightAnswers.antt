-- What the questions about light answer in numbers.
use Rattle.std.specs.Prelude.{ℕ, ℤ, pos, Bool, Result, Ok, Err}
use Rattle.bits.specs.Bits.{digit}
use Rattle.schedule.specs.declared.output.Clocks.{Clocks as LitClocks}
use Rattle.answers.specs.Answers.{accepted, refused}
use Rattle.answers.specs.declared.answer.Answer.{Answer}
use Rattle.capi_light.specs.declared.light.Clocks.{Clocks}
use Rattle.capi_light.specs.declared.light.Signed.{Signed}

-- yes is 1, no is 0
abbrev pub of_asked : Result Bool ℕ → Answer
of_asked (Ok holds) = accepted (digit holds)
of_asked (Err number) = refused number

-- a lead
abbrev pub of_lead : Result ℤ ℕ → Signed
of_lead (Ok value) = record { value = value; refusal = 0 }
of_lead (Err number) = record { value = pos 0; refusal = number }

-- a run of clocks
abbrev pub of_clocks : Result LitClocks ℕ → Clocks
of_clocks (Ok clocks) = record { first = clocks.first; end = clocks.end; refusal = 0 }
of_clocks (Err number) = record { first = 0; end = 0; refusal = number }
