-- What a run of line states through a lent chain answers. When it is refused and what comes back is said in calls/specs/Calls.
use Rattle.std.specs.Prelude.{ℕ, cond, List, eqb, length, Result, Ok, Err}
use Rattle.device.specs.declared.device.Device.{Device}
use Rattle.calls.specs.Calls.{run_refusal, returned}
use Rattle.cursor.specs.declared.entry.Ran.{Ran}

-- how many states were returned, or the refusal's number
abbrev pub answered : Result ℕ ℕ → Ran
answered (Ok n) = record { returned = n; refusal = 0 }
answered (Err refusal) = record { returned = 0; refusal = refusal }

-- the same by both numbers, the refusal's 0 where there is none
abbrev pub ran : ℕ → ℕ → Ran
ran refusal n = record { returned = cond (eqb refusal 0) n 0; refusal = refusal }

-- how many states came back, 0 where the run is refused, and the refusal's number, 0 where it is not
abbrev pub run_answer : List Device → List ℕ → ℕ → Ran
run_answer ds ss room = ran (run_refusal ds ss room) (length (returned ds ss))
