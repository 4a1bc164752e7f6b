-- Inside: one device takes as many of the high states at hand as it can at once: until it sends, a low state or the end. Below it, what the
-- loops do: they keep the phase or one field of the slice, and no record.
use Rattle.std.specs.Prelude.{ℕ, zero, suc, ◌+◌, ◌%◌, cond, List, [], ◌∷◌, eqb, ltb}
use Rattle.parts.specs.declared.command.Command.{Command}
use Rattle.phases.specs.Phases.{place_of, pushed, in_header, headed}
use Rattle.registers.specs.Held.{with_slice, fault, raised}
use Rattle.positions.specs.Running.{dated}
use Rattle.storing.specs.Stored.{stored}
use Rattle.device.specs.Step.{step, at}
use Rattle.phases.specs.declared.phase.Phase.{Phase}
use Rattle.phases.specs.declared.phase.Phase.TheVariants.{Slice, Passing}
use Rattle.phases.specs.declared.phase.Sent.{Sent}
use Rattle.phases.specs.declared.phase.Sent.TheVariants.{Nothing, One, Header}
use Rattle.registers.specs.declared.registers.Registers.{Registers}
use Rattle.device.specs.declared.device.Device.{Device}
use Rattle.device.specs.declared.device.Stepped.{Stepped}
use Rattle.intake.specs.declared.taken.Progress.{Progress}
use Rattle.intake.specs.declared.highs.Headed.{Headed}
use Rattle.intake.specs.declared.field.Filled.{Filled}

-- what a device makes of the states at hand: the device then, the place of the next state, and what was sent
pub record Taken : Type 0 where
  pub device : Device
  pub at : ℕ
  pub sent : Sent

-- the same by its parts
abbrev pub stopped : Device → ℕ → Sent → Taken
stopped d i s = record { device = d; at = i; sent = s }

-- on where nothing was sent, else stop
abbrev pub unless_sent : Sent → Taken → Taken → Taken
unless_sent Nothing on stop = on
unless_sent (One s) on stop = stop
unless_sent (Header c n) on stop = stop

-- what a state of clock t made of registers r is device d, and this is what it sent: a store is dated
abbrev pub dated_by : Sent → ℕ → Registers → Device → Device
dated_by Nothing t r d = d
dated_by (One s) t r d = d
dated_by (Header c n) t r d = record { registers = dated t r d.registers; place = d.place }

-- a step of clock t that was made of registers r
abbrev pub dated_step : ℕ → Registers → Stepped → Stepped
dated_step t r x = record { device = dated_by x.sent t r x.device; sent = x.sent }

-- a state of clock t
abbrev pub step_in : ℕ → Device → ℕ → Stepped
step_in t d s = dated_step t d.registers (step d s)

-- high states until the device sends, a low state or the end; that at place i is of clock i + 1
unfoldable pub high_taken : Device → List ℕ → ℕ → Taken
high_taken d [] i = stopped d i Nothing
high_taken d (s ∷ ss) i =
    let x : Stepped = step_in (i + 1) d s in
    cond (ltb s 2) (stopped d i Nothing) (unless_sent x.sent (high_taken x.device ss (i + 1)) (stopped x.device (i + 1) x.sent))

-- ---- how far it got

-- all that changes in a device before it sends a header, and what it sent
abbrev pub progress_of : Taken → Progress
progress_of t = record { slice = t.device.registers.slice; place = t.device.place; at = t.at; sent = t.sent }

-- what a progress makes of registers: a header is sent with the last bit of a slice, which is stored in that clock
abbrev pub settled_by : Sent → ℕ → Registers → List ℕ → Registers
settled_by Nothing t r sl = with_slice r sl
settled_by (One s) t r sl = with_slice r sl
settled_by (Header c n) t r sl = dated t r (stored (with_slice r sl) c)

-- and of a device
abbrev pub settled : Device → Progress → Taken
settled d p = stopped (record { registers = settled_by p.sent p.at d.registers p.slice; place = p.place }) p.at p.sent

-- nothing was sent
abbrev pub halfway : List ℕ → Phase → ℕ → Progress
halfway sl p i = record { slice = sl; place = place_of p; at = i; sent = Nothing }

-- a slice is whole, and its header is sent on
abbrev pub completed : Registers → List ℕ → Command → ℕ → ℕ → Progress
completed r sl c n i = record { slice = sl; place = place_of Passing; at = i; sent = Header c (raised n (fault r c)) }

-- ---- the loops inside

-- a phase takes the high states of a header
unfoldable pub headed_all : Phase → List ℕ → ℕ → Headed
headed_all p [] i = record { phase = p; at = i }
headed_all p (s ∷ ss) i =
    cond (in_header p) (cond (ltb s 2) (record { phase = p; at = i }) (headed_all (headed p (s % 2)) ss (i + 1)))
    (record { phase = p; at = i })

-- where high states end
unfoldable pub highs_end : List ℕ → ℕ → ℕ
highs_end [] i = i
highs_end (s ∷ ss) i = cond (ltb s 2) i (highs_end ss (i + 1))

-- a field takes high states, at most b of them
unfoldable pub filled : ℕ → ℕ → List ℕ → ℕ → Filled
filled v zero ss i = record { value = v; at = i }
filled v (suc b) [] i = record { value = v; at = i }
filled v (suc b) (s ∷ ss) i = cond (ltb s 2) (record { value = v; at = i }) (filled (pushed v (s % 2) 65536) b ss (i + 1))

-- the field of the next bit, where field k lacks `left`, and the bits that it lacks
abbrev pub field_after : ℕ → ℕ → ℕ
field_after k left = cond (eqb left 0) (k + 1) k

abbrev pub lack_after : ℕ → ℕ → ℕ
lack_after width left = cond (eqb left 0) width left

-- within a slice, whose fields so far are sl; and once it is full
abbrev pub collecting : Registers → List ℕ → Command → ℕ → ℕ → Device
collecting r sl c n t = at (with_slice r sl) (Slice c n t)

-- the last bit of a slice has come: stored, and the header is sent on
abbrev pub full : Registers → List ℕ → Command → ℕ → ℕ → Taken
full r sl c n i =
    stopped (at (dated i r (stored (with_slice r sl) c)) Passing) i (Header c (raised n (fault (with_slice r sl) c)))
