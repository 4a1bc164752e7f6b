-- When the watchdogs of a lent chain expire, clock by clock: in a run of states, and in the runs of a list of calls. An expiry leaves the counts,
-- so whether a device has expired in a clock is read off its record as the clock leaves it.
use Rattle.std.specs.Prelude.{ℕ, zero, suc, ◌-◌, ◌≤◌, ◌≡◌, Bool, false, ◌||◌, List, [], ◌∷◌, length, take, get_or}
use Rattle.watch.specs.Watch.{expired}
use Rattle.device.specs.declared.device.Device.{Device}
use Rattle.calls.specs.Chain.{blank}
use Rattle.calls.specs.Calls.{run_devices}
use Rattle.calls.specs.History.{Call, after, given}

-- device 1, 2, .. expires in that clock, counted from 1, of these states: after so many of them one of its counts is at or over its limit
abbrev pub expires : List Device → List ℕ → ℕ → ℕ → Bool
expires ds ss clock device = expired (get_or (run_devices ds (take clock ss)) (device - 1) blank).registers.watch

-- it expires in one of the first k clocks
unfoldable pub expired_within : List Device → List ℕ → ℕ → ℕ → Bool
expired_within ds ss zero device = false
expired_within ds ss (suc k) device = expires ds ss (suc k) device || expired_within ds ss k device

-- no device expires in a clock of these states, from a clock of its own on
abbrev pub CalmFrom : (ℕ → ℕ) → List Device → List ℕ → Type 0
CalmFrom from ds ss =
    (device clock : ℕ) → 1 ≤ device → device ≤ length ds → 1 ≤ clock → clock ≤ length ss → from device ≤ clock → expires ds ss clock device ≡ false

-- nor in a clock of these calls' runs, their clocks counted on from call to call
abbrev pub CalmCalls : (ℕ → ℕ) → List Device → List Call → Type 0
CalmCalls from ds [] = Unit {0}
CalmCalls from ds (c ∷ cs) = CalmFrom from ds (given ds c) × CalmCalls (λ device. from device - length (given ds c)) (after ds c) cs

-- no device expires in any clock of these calls' runs
abbrev pub Calm : List Device → List Call → Type 0
Calm ds cs = CalmCalls (λ device. 1) ds cs
