-- Lists of calls on one lent chain: what each leaves, the states that the accepted runs were given, joined, and those that they wrote into
-- the room that each was lent. Then the calls that docs/RULES.md allows during a restore and after it.
use Rattle.std.specs.Prelude.{ℕ, ◌≡◌, Bool, true, List, [], ◌∷◌, ◌++◌, length, take}
use Rattle.tables.specs.Lists.{all_below}
use Rattle.tables.specs.Refusals.{Row, content}
use Rattle.device.specs.declared.device.Device.{Device}
use Rattle.calls.specs.Calls.{fresh_table, run_table, fault_table, fresh_refusal, run_refusal, fault_refusal}
use Rattle.calls.specs.Calls.{fresh_devices, fresh_after, run_devices, run_after, run_room, returned, fault_devices, fault_after}

-- fresh: the part, the watchdog's bit and its limit. run: states, and the lent room as it is. fault: device, kind, flag
pub data Call : Type 0 where
  fresh : ℕ → ℕ → ℕ → Call
  run : List ℕ → List ℕ → Call
  fault : ℕ → ℕ → Bool → Call

-- what a call is refused for, in the order of the numbers
abbrev pub table_of : List Device → Call → List Row
table_of ds (fresh part bit limit) = fresh_table part bit limit (length ds)
table_of ds (run ss out) = run_table ds ss (length out)
table_of ds (fault device kind flag) = fault_table ds device kind

-- the number under which a call is refused, or 0
unfoldable pub refusal_of : List Device → Call → ℕ
refusal_of ds (fresh part bit limit) = fresh_refusal part bit limit (length ds)
refusal_of ds (run ss out) = run_refusal ds ss (length out)
refusal_of ds (fault device kind flag) = fault_refusal ds device kind

-- what an accepted call makes of the records
abbrev pub effect : List Device → Call → List Device
effect ds (fresh part bit limit) = fresh_devices part bit limit ds
effect ds (run ss out) = run_devices ds ss
effect ds (fault device kind flag) = fault_devices ds device kind flag

-- the records that a call leaves
unfoldable pub after : List Device → Call → List Device
after ds (fresh part bit limit) = fresh_after part bit limit ds
after ds (run ss out) = run_after ds ss (length out)
after ds (fault device kind flag) = fault_after ds device kind flag

-- the records that a list of calls leaves
unfoldable pub after_calls : List Device → List Call → List Device
after_calls ds [] = ds
after_calls ds (c ∷ cs) = after_calls (after ds c) cs

-- the states that an accepted run is given
abbrev pub given : List Device → Call → List ℕ
given ds (fresh part bit limit) = []
given ds (run ss out) = content (run_refusal ds ss (length out)) [] ss
given ds (fault device kind flag) = []

-- the states that it returns: as many as it answers, from the front of the lent room
abbrev pub answered : List Device → Call → List ℕ
answered ds (fresh part bit limit) = []
answered ds (run ss out) = content (run_refusal ds ss (length out)) [] (take (length (returned ds ss)) (run_room ds ss out))
answered ds (fault device kind flag) = []

-- joined up
unfoldable pub states_given : List Device → List Call → List ℕ
states_given ds [] = []
states_given ds (c ∷ cs) = given ds c ++ states_given (after ds c) cs

-- all that the runs of a list returned, joined up
unfoldable pub answers : List Device → List Call → List ℕ
answers ds [] = []
answers ds (c ∷ cs) = answered ds c ++ answers (after ds c) cs

-- ---- what may be called during a restore, and after it

-- a call leaves every record as it is, as each refused one does
abbrev pub Keeps : List Device → Call → Type 0
Keeps ds c = after ds c ≡ ds

-- until the fourth frame ends: a run, or a call that leaves the records as they are
abbrev pub RunOrKeeps : List Device → Call → Type 0
RunOrKeeps ds (fresh part bit limit) = Keeps ds (fresh part bit limit)
RunOrKeeps ds (run ss out) = Unit {0}
RunOrKeeps ds (fault device kind flag) = Keeps ds (fault device kind flag)

-- and so is each of a list
abbrev pub Runs : List Device → List Call → Type 0
Runs ds [] = Unit {0}
Runs ds (c ∷ cs) = RunOrKeeps ds c × Runs (after ds c) cs

-- after the fourth frame: a fault setting, a run that gives low states or none, or a call that leaves the records as they are
abbrev pub FaultOrLow : List Device → Call → Type 0
FaultOrLow ds (fresh part bit limit) = Keeps ds (fresh part bit limit)
FaultOrLow ds (run ss out) = all_below (given ds (run ss out)) 2 ≡ true
FaultOrLow ds (fault device kind flag) = Unit {0}

-- and so is each of a list
abbrev pub Settles : List Device → List Call → Type 0
Settles ds [] = Unit {0}
Settles ds (c ∷ cs) = FaultOrLow ds c × Settles (after ds c) cs
