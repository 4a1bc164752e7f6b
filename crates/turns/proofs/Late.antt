-- A run device by device whose inputs are packets: all that a device is sent in one clock. Before it acts, a device is cleared where its watchdog
-- has expired by the clock before; then its watchdog hears the packet. A device that is sent nothing is not looked at. How such a run goes with the
-- states of one clock, and with states one to a clock. By induction on the devices or on the states. Assumes nothing.
use mathlib.Core.Path.{◌≡◌, refl, sym, ap, ◌∙◌}
use mathlib.Core.List.{List, [], ◌∷◌, ◌++◌, map, append-nil, append_assoc, flatten}
use Prim.Native.Nat.{ℕ, ◌+◌, ◌-◌}
use native.Mathlib.Omega.{arith}
use lib.ListN.{length}
use Rattle.machine.specs.Machine as machine
use Rattle.machine.specs.Machine.{chain, relay}
use Rattle.machine.proofs.Machine.{run-nil, run-one}
use Rattle.watch.specs.Kept.{expired_by, watch_in}
use Rattle.registers.specs.Held.{with_watch}
use Rattle.device.specs.declared.device.Device.{Device}
use Rattle.turns.specs.Watching.{is_on, cleared_device}
use Rattle.turns.proofs.Timed.{Timed, stamped, states, run_timed}

-- what reaches a device in one clock of the run
pub record Packet : Type 0 where
  pub clock : ℕ
  pub states : List ℕ

-- states of a clock: no packet where there are none
abbrev pub packet : ℕ → List ℕ → List Packet
packet t [] = []
packet t (s ∷ ss) = record { clock = t; states = s ∷ ss } ∷ []

-- states one to a clock, k clocks being over
unfoldable pub singles : ℕ → List ℕ → List Packet
singles k [] = []
singles k (s ∷ ss) = record { clock = k + 1; states = s ∷ [] } ∷ singles (k + 1) ss

-- the device before a clock: cleared where its watchdog has expired by the clock before
abbrev pub before : ℕ → Device → Device
before t d = cleared_device (expired_by (is_on d.registers) (t - 1) d.registers.watch) d

-- what the states of a clock make of it
abbrev pub acted : Packet → Device → Device × List Timed
acted x d = run_timed (before x.clock d) (stamped x.clock x.states)

-- a packet acts, and is heard
unfoldable pub step_late : Device → Packet → Device × List Packet
step_late d x =
    let r : Device × List Timed = acted x d in (
      record {
        registers = with_watch r.0.registers (watch_in (is_on d.registers) (is_on r.0.registers) x.clock x.states d.registers.watch);
        place = r.0.place;
      },
      packet x.clock (states r.1),
    )

-- the device after packets, and all that it sent
abbrev pub run_late : Device → List Packet → Device × List Packet
run_late d xs = machine.run step_late d xs

-- devices after packets, and what the last one sent
abbrev pub relay_late : List Device → List Packet → List Device × List Packet
relay_late ds xs = machine.chain step_late ds xs

-- all their states
abbrev pub states_in : List Packet → List ℕ
states_in xs = flatten (map (λ x. x.states) xs)

-- ---- packets

pub singles-none : (k : ℕ) → singles k [] ≡ []
unfolding singles
singles-none k = refl

pub singles-cons : (k s : ℕ) (ss : List ℕ) → singles k (s ∷ ss) ≡ record { clock = k + 1; states = s ∷ [] } ∷ singles (k + 1) ss
unfolding singles
singles-cons k s ss = refl

pub singles-append : (k : ℕ) (xs ys : List ℕ) → singles k (xs ++ ys) ≡ singles k xs ++ singles (k + length xs) ys
unfolding singles
singles-append k [] ys = let e : k ≡ k + 0 = omega arith in ap (λ (n : ℕ). singles n ys) e
singles-append k (x ∷ xs) ys =
    let e : k + 1 + length xs ≡ k + length (x ∷ xs) = omega arith in
    ap (λ (zs : List Packet). record { clock = k + 1; states = x ∷ [] } ∷ zs) (singles-append (k + 1) xs ys ∙ ap (λ (n : ℕ). singles (k + 1) xs ++ singles n ys) e)

pub states-singles : (k : ℕ) (ss : List ℕ) → states_in (singles k ss) ≡ ss
unfolding singles flatten
states-singles k [] = refl
states-singles k (s ∷ ss) = ap (λ (xs : List ℕ). s ∷ xs) (states-singles (k + 1) ss)

pub states-packet : (t : ℕ) (ss : List ℕ) → states_in (packet t ss) ≡ ss
unfolding flatten
states-packet t [] = refl
states-packet t (s ∷ ss) = append-nil (s ∷ ss)

pub states-append : (xs ys : List Packet) → states_in (xs ++ ys) ≡ states_in xs ++ states_in ys
unfolding flatten
states-append [] ys = refl
states-append (x ∷ xs) ys = rw (states-append xs ys) (sym (append_assoc x.states (states_in xs) (states_in ys)))

-- ---- one clock

-- what becomes of a device that is sent these states in a clock, and the states that it sends on in it
unfoldable pub in_clock : ℕ → Device → List ℕ → Device × List ℕ
in_clock t d [] = (d, [])
in_clock t d (s ∷ ss) =
    let x : Packet = record { clock = t; states = s ∷ ss } in
    ((step_late d x).0, states (acted x d).1)

pub run-packet : (t : ℕ) (d : Device) (ss : List ℕ) → run_late d (packet t ss) ≡ ((in_clock t d ss).0, packet t (in_clock t d ss).1)
unfolding in_clock step_late
run-packet t d [] = run-nil step_late d
run-packet t d (s ∷ ss) = run-one step_late d (record { clock = t; states = s ∷ ss })

-- a device that sends nothing leaves the rest of the chain without a packet
pub relay-packet : (t : ℕ) (ds : List Device) (ss : List ℕ)
    → relay_late ds (packet t ss) ≡ ((relay (in_clock t) ds ss).0, packet t (relay (in_clock t) ds ss).1)
unfolding chain relay
relay-packet t [] ss = refl
relay-packet t (d ∷ ds) ss = rw (run-packet t d ss, relay-packet t ds (in_clock t d ss).1)
