-- Inside: the watchdog of the device of a turn. What is under way to it reaches it first, in the clock in which it was sent; then come its own
-- states, one to a clock. A device that stores, or that passes, then hears all the high states that follow, which it will pass: so it needs no
-- look before a header reaches it again, or the end. While its bit is set it goes by an ear, which the run keeps from device to device. That the
-- whole is the run clock by clock is in proofs/ByClock and proofs/Same.
use Rattle.std.specs.Prelude.{ℕ, ◌-◌, ◌%◌, Bool, false, ◌||◌, cond, List, [], ◌∷◌, get_or, take, drop}
use Rattle.watch.specs.Watch.{enabled}
use Rattle.watch.specs.Kept.{watch_by, expired_by, watch_in, moved_in, listened}
use Rattle.watch.specs.Ear.{followed, joined}
use Rattle.watch.specs.declared.ear.Ear.{Ear}
use Rattle.watch.specs.declared.ear.Followed.{Followed}
use Rattle.watch.specs.declared.watch.Watch.{Watch}
use Rattle.watch.specs.declared.kept.Listened.{Listened}
use Rattle.phases.specs.declared.phase.Sent.{Sent}
use Rattle.phases.specs.declared.phase.Sent.TheVariants.{Nothing, One, Header}
use Rattle.registers.specs.Held.{cleared, with_watch}
use Rattle.registers.specs.declared.registers.Registers.{Registers}
use Rattle.positions.specs.Running.{by_clock}
use Rattle.device.specs.declared.device.Device.{Device}
use Rattle.intake.specs.Intake.{settled}
use Rattle.intake.specs.declared.taken.Progress.{Progress}
use Rattle.turns.specs.declared.turning.Turn.{Turn}

-- the watchdog's bit is set
abbrev pub is_on : Registers → Bool
is_on r = enabled r.watch r.configuration

-- registers whose watchdog has expired, or not
abbrev pub cleared_if : Bool → Registers → Registers
cleared_if b r = cond b (cleared r) r

-- a device whose watchdog has expired, or not
abbrev pub cleared_device : Bool → Device → Device
cleared_device b d = record { registers = cleared_if b d.registers; place = d.place }

-- ---- by a clock

-- the registers by clock t
unfoldable pub watched_by : ℕ → Registers → Registers
watched_by t r = cleared_if (expired_by (is_on r) t r.watch) (with_watch (by_clock t r) (watch_by (is_on r) t r.watch))

-- ---- what it hears in a turn

-- the header under way, which it is sent in clock t, changes both lines, and ends on high load
abbrev pub reached : Sent → Bool → ℕ → Watch → Listened
reached Nothing on t w = record { watch = w; expired = false }
reached (One s) on t w = record { watch = w; expired = false }
reached (Header c n) on t w = record { watch = moved_in on t (n % 2) 1 w; expired = expired_by on (t - 1) w }

-- where its own states end that are heard before a slice is stored: the last of them is the clock of the store
abbrev pub heard_to : Sent → ℕ → ℕ
heard_to Nothing to = to
heard_to (One s) to = to
heard_to (Header c n) to = to - 1

-- it has expired by the clock before that of the store
abbrev pub late_by : Sent → Bool → ℕ → Watch → Bool
late_by Nothing on to w = false
late_by (One s) on to w = false
late_by (Header c n) on to w = expired_by on (to - 1) w

-- p was under way, q is sent; own states from `at` up to `to`
unfoldable pub overheard : Sent → Sent → Bool → List ℕ → ℕ → ℕ → Watch → Listened
overheard p q on ss at to w =
    let a : Listened = reached p on at w in
    let b : Listened = listened on at (take (heard_to q to - at) (drop at ss)) a.watch in
    record { watch = b.watch; expired = a.expired || (b.expired || late_by q on to b.watch) }

-- the clock of a store, and the states from `to` up to `end`, which it will pass and hears by an ear; the bit is set before the store or not, and
-- after it or not
unfoldable pub onward : Sent → Bool → Bool → Ear → List ℕ → ℕ → ℕ → Watch → Followed
onward Nothing before on e ss to end w = record { heard = record { watch = w; expired = false }; ear = e }
onward (One s) before on e ss to end w = joined on e ss to end w
onward (Header c n) before on e ss to end w = followed on e ss to end (watch_in before on to (get_or ss (to - 1) 0 ∷ []) w)

-- a device with what its watchdog has heard
abbrev pub hearing : Listened → Device → Device
hearing b d = record { registers = with_watch (cleared_if b.expired d.registers) b.watch; place = d.place }

-- a device that got so far with the states from `at` on, p being under way, where high states end at `end`, by an ear
unfoldable pub watched_turn : Device → Sent → Progress → Ear → List ℕ → ℕ → ℕ → Turn
watched_turn d p q e ss at end =
    let a : Listened = overheard p q.sent (is_on d.registers) ss at q.at d.registers.watch in
    let u : Device = (settled (cleared_device a.expired d) q).device in
    let b : Followed = onward q.sent (is_on d.registers) (is_on u.registers) e ss q.at end a.watch in
    record { device = hearing b.heard u; at = q.at; sent = q.sent; ear = b.ear }
