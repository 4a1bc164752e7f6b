-- What a step of one device answers in numbers: the next device, what it sends on, and the refusal.
use Rattle.std.specs.Prelude.{ℕ}
use Rattle.parts.specs.Parts.{code}
use Rattle.phases.specs.declared.phase.Sent.{Sent}
use Rattle.phases.specs.declared.phase.Sent.TheVariants as S
use Rattle.device.specs.declared.device.Device.{Device}
use Rattle.device.specs.Judgement.{Answer as Judged}
use Rattle.capi_device.specs.declared.steps.Stepped.{Stepped}

-- a step as numbers: what was sent, and the refusal
abbrev pub step_numbers : Device → ℕ → ℕ → ℕ → ℕ → ℕ → Stepped
step_numbers device count command state sent refusal =
    record { device = device; count = count; command = command; state = state; sent = sent; refusal = refusal }

-- what is sent on: nothing, one state, or the 24 states of a header
abbrev pub of_sent : Device → Sent → ℕ → Stepped
of_sent d S.Nothing refusal = step_numbers d 0 0 0 0 refusal
of_sent d (S.One state) refusal = step_numbers d 0 0 state 1 refusal
of_sent d (S.Header c count) refusal = step_numbers d count (code c) 0 24 refusal

-- a judged step
abbrev pub of_step : Judged → Stepped
of_step s = of_sent s.device s.sent s.refusal
