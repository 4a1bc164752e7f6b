-- A watchdog that goes by a right ear hears what it would hear state by state, so a turn makes of its device what it would make of it then; and the
-- ear that the turn leaves is right from the next place on. Where nothing is sent there is nothing to show; a device that stores has just heard the
-- state before, and one that passes hears the first state by itself, so both are in step with the line.
use mathlib.Core.Path.{◌≡◌, refl, ap}
use mathlib.Core.Bool.{Bool, false}
use mathlib.Core.List.{List, [], ◌∷◌}
use Prim.Native.Nat.{ℕ, ◌+◌, ◌-◌, ◌^◌, ◌<◌, ◌≤◌}
use native.Mathlib.Omega.{arith}
use lib.ListN.{length, get_or, take, drop}
use Rattle.watch.specs.Watch.{load_bit, last_of}
use Rattle.watch.specs.Kept.{watch_in, listened}
use Rattle.watch.specs.declared.ear.Ear.{Ear}
use Rattle.watch.specs.declared.kept.Listened.{Listened}
use Rattle.watch.specs.declared.watch.Watch.{Watch}
use Rattle.watch.proofs.Ears.{Right, Loaded, right-later, followed-on, followed-right, joined-on, joined-right}
use Rattle.phases.specs.declared.phase.Sent.{Sent}
use Rattle.phases.specs.declared.phase.Sent.TheVariants.{Nothing, One, Header}
use Rattle.device.specs.declared.device.Device.{Device}
use Rattle.intake.specs.Intake.{Taken, stopped, settled}
use Rattle.intake.specs.declared.taken.Progress.{Progress}
use Rattle.turns.specs.Watching.{is_on, cleared_device, overheard, onward, hearing, watched_turn}

-- ---- state by state

-- the clock of a store, and the states from `to` up to `end`
unfoldable pub heard_onward : Sent → Bool → Bool → List ℕ → ℕ → ℕ → Watch → Listened
heard_onward Nothing before on ss to end w = record { watch = w; expired = false }
heard_onward (One s) before on ss to end w = listened on to (take (end - to) (drop to ss)) w
heard_onward (Header c n) before on ss to end w = listened on to (take (end - to) (drop to ss)) (watch_in before on to (get_or ss (to - 1) 0 ∷ []) w)

-- a device that got so far
unfoldable pub watched_taken : Device → Sent → Progress → List ℕ → ℕ → ℕ → Taken
watched_taken d p q ss at end =
    let a : Listened = overheard p q.sent (is_on d.registers) ss at q.at d.registers.watch in
    let u : Device = (settled (cleared_device a.expired d) q).device in
    let b : Listened = heard_onward q.sent (is_on d.registers) (is_on u.registers) ss q.at end a.watch in
    stopped (hearing b u) q.at q.sent

-- ---- by an ear

-- what is asked of the states ahead, by what was sent: they are at high load, and so is the state of a store
unfoldable pub Ahead : Sent → List ℕ → ℕ → ℕ → Type 0
Ahead Nothing ss to end = Unit {0}
Ahead (One s) ss to end = (to < end) × ((end ≤ length ss) × Loaded (take (end - to) (drop to ss)))
Ahead (Header c n) ss to end = (1 ≤ to) × ((end ≤ length ss) × (Loaded (take (end - to) (drop to ss)) × (load_bit (get_or ss (to - 1) 0) ≡ 1)))

-- where the ear is to be right
abbrev pub right_from : Sent → ℕ → ℕ
right_from Nothing to = to + 1
right_from (One s) to = to + 1
right_from (Header c n) to = to

onward-heard : (q : Sent) (before on : Bool) (e : Ear) (ss : List ℕ) (to end : ℕ) (w : Watch) → length ss < 2 ^ 63 → Ahead q ss to end → Right ss (right_from q to) e
    → (onward q before on e ss to end w).heard ≡ heard_onward q before on ss to end w
unfolding onward heard_onward Ahead last_of
onward-heard Nothing before on e ss to end w short h r = refl
onward-heard (One s) before on e ss to end w short h r = joined-on on ss to end e w h.0 h.1.0 short h.1.1 r
onward-heard (Header c n) before on e ss to end w short h r =
    followed-on on ss to end e (watch_in before on to (get_or ss (to - 1) 0 ∷ []) w) h.0 h.1.0 short h.1.1.0 h.1.1.1 refl r

onward-right : (q : Sent) (before on : Bool) (e : Ear) (ss : List ℕ) (to end : ℕ) (w : Watch) → Right ss (right_from q to) e
    → Right ss (right_from q to) (onward q before on e ss to end w).ear
unfolding onward
onward-right Nothing before on e ss to end w r = r
onward-right (One s) before on e ss to end w r = joined-right on ss to end e w r
onward-right (Header c n) before on e ss to end w r = followed-right on ss to end e (watch_in before on to (get_or ss (to - 1) 0 ∷ []) w) r

-- a turn by an ear is a turn state by state
pub watched-turn : (d : Device) (p : Sent) (q : Progress) (e : Ear) (ss : List ℕ) (at end : ℕ) → length ss < 2 ^ 63 → Ahead q.sent ss q.at end
    → Right ss (right_from q.sent q.at) e → (watched_turn d p q e ss at end).device ≡ (watched_taken d p q ss at end).device
unfolding watched_turn watched_taken
watched-turn d p q e ss at end short h r =
    let a : Listened = overheard p q.sent (is_on d.registers) ss at q.at d.registers.watch in
    let u : Device = (settled (cleared_device a.expired d) q).device in
    ap (λ (b : Listened). hearing b u) (onward-heard q.sent (is_on d.registers) (is_on u.registers) e ss q.at end a.watch short h r)

right-after : (q : Sent) (ss : List ℕ) (to : ℕ) (e : Ear) → Right ss (right_from q to) e → Right ss (to + 1) e
right-after Nothing ss to e r = r
right-after (One s) ss to e r = r
right-after (Header c n) ss to e r = right-later ss to (to + 1) e (omega arith) r

-- the ear that it leaves
pub watched-ear : (d : Device) (p : Sent) (q : Progress) (e : Ear) (ss : List ℕ) (at end : ℕ) → Right ss (right_from q.sent q.at) e
    → Right ss (q.at + 1) (watched_turn d p q e ss at end).ear
unfolding watched_turn
watched-ear d p q e ss at end r =
    let a : Listened = overheard p q.sent (is_on d.registers) ss at q.at d.registers.watch in
    let u : Device = (settled (cleared_device a.expired d) q).device in
    right-after q.sent ss q.at _ (onward-right q.sent (is_on d.registers) (is_on u.registers) e ss q.at end a.watch r)
