-- A run device by device that knows the clock of each state: a state that a device sends on belongs to the clock in which it was sent. A device's
-- position is kept as positions/specs/Running says, so only a store looks at it. Where nothing is sent, such a run is that of the line states alone.
-- By induction on the states. Assumes nothing.
use mathlib.Core.Path.{◌≡◌, refl, sym, ap, ◌∙◌}
use mathlib.Core.List.{List, [], ◌∷◌, ◌++◌, map}
use Prim.Native.Nat.{ℕ, ◌+◌}
use native.Mathlib.Omega.{arith}
use lib.ListN.{length}
use Rattle.machine.specs.Machine as machine
use Rattle.machine.specs.Machine.{chain}
use Rattle.device.specs.Step.{step, sent_states}
use Rattle.phases.specs.declared.phase.Sent.{Sent}
use Rattle.phases.specs.declared.phase.Sent.TheVariants.{Nothing, One, Header}
use Rattle.device.specs.declared.device.Device.{Device}
use Rattle.intake.specs.Intake.{dated_by, step_in}
use Rattle.turns.proofs.LeavingStates.{length-header-states}

-- a line state and the clock of the run that it belongs to
pub record Timed : Type 0 where
  pub clock : ℕ
  pub state : ℕ

-- a state of a clock
abbrev pub stamp : ℕ → ℕ → Timed
stamp t s = record { clock = t; state = s }

-- states of one clock
abbrev pub stamped : ℕ → List ℕ → List Timed
stamped t ss = map (stamp t) ss

-- states one to a clock, k clocks being over
unfoldable pub timed : ℕ → List ℕ → List Timed
timed k [] = []
timed k (s ∷ ss) = stamp (k + 1) s ∷ timed (k + 1) ss

-- a state of a clock acts
unfoldable pub step_timed : Device → Timed → Device × List Timed
step_timed d x = ((step_in x.clock d x.state).device, stamped x.clock (sent_states (step d x.state).sent))

-- the device after states, and all that it sent
abbrev pub run_timed : Device → List Timed → Device × List Timed
run_timed d xs = machine.run step_timed d xs

-- devices after states, and what the last one sent
abbrev pub pass_on : List Device → List Timed → List Device × List Timed
pass_on ds xs = chain step_timed ds xs

pub timed-none : (k : ℕ) → timed k [] ≡ []
unfolding timed
timed-none k = refl

pub timed-cons : (k s : ℕ) (ss : List ℕ) → timed k (s ∷ ss) ≡ stamp (k + 1) s ∷ timed (k + 1) ss
unfolding timed
timed-cons k s ss = refl

pub timed-append : (k : ℕ) (xs ys : List ℕ) → timed k (xs ++ ys) ≡ timed k xs ++ timed (k + length xs) ys
unfolding timed
timed-append k [] ys = let e : k ≡ k + 0 = omega arith in ap (λ (n : ℕ). timed n ys) e
timed-append k (x ∷ xs) ys =
    let e : k + 1 + length xs ≡ k + length (x ∷ xs) = omega arith in
    ap (λ (zs : List Timed). stamp (k + 1) x ∷ zs) (timed-append (k + 1) xs ys ∙ ap (λ (n : ℕ). timed (k + 1) xs ++ timed n ys) e)

-- the states without their clocks
abbrev pub states : List Timed → List ℕ
states xs = map (λ x. x.state) xs

pub states-timed : (k : ℕ) (ss : List ℕ) → states (timed k ss) ≡ ss
unfolding timed
states-timed k [] = refl
states-timed k (s ∷ ss) = ap (λ (xs : List ℕ). s ∷ xs) (states-timed (k + 1) ss)

pub states-stamped : (t : ℕ) (ss : List ℕ) → states (stamped t ss) ≡ ss
states-stamped t [] = refl
states-stamped t (s ∷ ss) = ap (λ (xs : List ℕ). s ∷ xs) (states-stamped t ss)

-- ---- where nothing is sent, the clocks are not looked at

quiet_step : (d : Device) (x : Timed) → sent_states (step d x.state).sent ≡ [] → step_timed d x ≡ ((step d x.state).device, [])
unfolding step_timed
quiet_step d x h = go (step d x.state).sent h
  where
    go : (y : Sent) → sent_states y ≡ [] → ◌≡◌ {A = Device × List Timed} (dated_by y x.clock d.registers (step d x.state).device, stamped x.clock (sent_states y)) ((step d x.state).device, [])
    go Nothing e = refl
    go (One s) e = absurd (omega (arith, ap length e))
    go (Header c n) e = absurd (omega (arith, sym (length-header-states c n), ap length e))

-- the same without clocks, at any position
unfoldable pub step_plain : Device → ℕ → Device × List ℕ
step_plain d s = ((step d s).device, sent_states (step d s).sent)

abbrev pub run_plain : Device → List ℕ → Device × List ℕ
run_plain d ss = machine.run step_plain d ss

abbrev pub pass_plain : List Device → List ℕ → List Device × List ℕ
pass_plain ds ss = chain step_plain ds ss

both-none : (xs ys : List ℕ) → xs ++ ys ≡ [] → (xs ≡ []) × (ys ≡ [])
both-none [] ys e = (refl, e)
both-none (x ∷ xs) ys e = absurd (omega (arith, ap length e))

pub quiet-run : (d : Device) (ss : List ℕ) (t : ℕ) → (run_plain d ss).1 ≡ [] → run_timed d (stamped t ss) ≡ ((run_plain d ss).0, [])
unfolding machine.run step_plain
quiet-run d [] t e = refl
quiet-run d (s ∷ ss) t e =
    let n = both-none (sent_states (step d s).sent) (run_plain (step d s).device ss).1 e in
    ap (λ (y : Device × List Timed). ((run_timed y.0 (stamped t ss)).0, y.1 ++ (run_timed y.0 (stamped t ss)).1)) (quiet_step d (stamp t s) n.0)
    ∙ quiet-run (step d s).device ss t n.1
