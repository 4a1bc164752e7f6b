-- Inside: a device's position within a run, as the run keeps it: less the clocks of the run that were over when it was written, modulo 2 ^ 64. So
-- a device is looked at only where a slice is stored in it, and at the end. That this is the run clock by clock is in turns/proofs.
use Rattle.std.specs.Prelude.{ℕ, ◌+◌, ◌-◌, ◌%◌, ◌^◌, Bool, cond, not, nat_lt}
use Rattle.registers.specs.Held.{showing}
use Rattle.registers.specs.declared.registers.Registers.{Registers}
use Rattle.positions.specs.Positions.{length_in, placed_at, refit}

-- by clock t of the run: the clocks since a frame began, as if none had ended
abbrev pub run_on : ℕ → Registers → ℕ
run_on t r = (r.position + t) % 2 ^ 64

-- a frame has ended
abbrev pub has_ended : ℕ → Registers → Bool
has_ended t r = not (nat_lt (run_on t r) (length_in r))

-- the registers `new`, which show what waited in `old` if a frame has ended by clock t
abbrev pub shown_by : ℕ → Registers → Registers → Registers
shown_by t old new =
    let ended : Bool = has_ended t old in
    showing new new.overtemperature new.openled (cond ended old.waiting new.active) (cond ended old.waiting0 new.active0)
    (cond ended old.waiting1 new.active1)

-- the position by clock t
abbrev pub position_by : ℕ → Registers → ℕ
position_by t r = run_on t r % length_in r

-- the registers by clock t
unfoldable pub by_clock : ℕ → Registers → Registers
by_clock t r = placed_at (shown_by t r r) (position_by t r)

-- a position at clock t, as the run keeps it
abbrev pub kept_from : ℕ → ℕ → ℕ
kept_from t position = (position + (2 ^ 64 - t)) % 2 ^ 64

-- the position that a slice that is stored in clock t leaves, where `new` is what the line state made of `old`, as the run keeps it
abbrev pub position_dated : ℕ → Registers → Registers → ℕ
position_dated t old new = kept_from t (refit (length_in old) (length_in new) (position_by t old))

-- the registers that it leaves
unfoldable pub dated : ℕ → Registers → Registers → Registers
dated t old new = placed_at (shown_by t old new) (position_dated t old new)
