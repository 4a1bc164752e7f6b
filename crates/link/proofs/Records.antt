-- Records through the view: the registers of a lent chain are those of the model's chain, and so are positions in range. What is due after a
-- restore comes nearer by every low clock in which no watchdog expires, and a fault setting leaves it, by induction on the calls. What a whole chain sends is taken frame by
-- frame. Assumes nothing.
use mathlib.Core.Path.{◌≡◌, refl, sym, ap, subst, ◌∙◌}
use mathlib.Core.Bool.{Bool, true}
use mathlib.Core.List.{List, [], ◌∷◌, ◌++◌, map}
use Prim.Native.Nat.{ℕ, zero, suc, ◌-◌, ◌%◌, ◌≤◌, ◌<◌}
use native.Mathlib.Omega.{arith}
use lib.Dec.{eqb}
use lib.ListN.{length, length-map, length-append, take, get_or, set}
use borrow.Author.Tests.{lt-ltb, ltb-true}
use Rattle.bits.specs.Bits.{digit}
use Rattle.tables.specs.Lists.{all_below}
use Rattle.parts.specs.Parts.{part_of}
use Rattle.parts.specs.Wire.{State, lows, state_at, data_bit}
use Rattle.serial.specs.States.{data_bits}
use Rattle.device.specs.Step.{faulted}
use Rattle.device.proofs.Kept.{parts-of}
use Rattle.device.specs.declared.device.Device.{Device}
use Rattle.positions.specs.Positions as positions
use Rattle.tables.proofs.Booleans.{cond_both}
use Rattle.widths.proofs.Below.{below-head}
use Rattle.calls.specs.Chain.{blank}
use Rattle.calls.specs.Calls.{fault_refusal, run_devices}
use Rattle.calls.specs.History.{Call, fresh, run, fault, after, after_calls, given, states_given, FaultOrLow, Settles}
use Rattle.calls.specs.Expiry.{CalmFrom, CalmCalls}
use Rattle.model.specs.Lists.{All, Pairwise}
use Rattle.model.specs.Device.{registers_in}
use Rattle.model.specs.Device as model
use Rattle.model.specs.Set.{Own, OwnProper}
use Rattle.model.specs.Restore.{Piece, RegistersHold}
use Rattle.model.proofs.Restore.{send_piece, send_pieces, Ready}
use Rattle.clocked.specs.Clock.{length_in, Placed, run_clocked, devices_in}
use Rattle.clocked.proofs.Restored.{DueIn, due-low, due-faulted}
use Rattle.link.specs.View.{device_of, clocked_of, registers_all, Holds}
use Rattle.link.proofs.View.{Sound}
use Rattle.link.proofs.Expiry.{calm-seen}
use Rattle.link.proofs.Calls.{Whole, whole-settled, ran-one}
use Rattle.link.proofs.Modelled.{fault-same}

-- ---- the registers of a chain

pub registers-all : (ds : List Device) → registers_in (devices_in (map clocked_of ds)) ≡ registers_all ds
unfolding device_of
registers-all [] = refl
registers-all (d ∷ ds) = rw (registers-all ds)

pub ready_of : (n : ℕ) (os : List Own) (ds : List Device) → All (OwnProper (part_of n)) os → length os ≡ length ds → All (λ d. d.registers.part ≡ n) ds
    → Pairwise (Ready (part_of n)) os (registers_in (devices_in (map clocked_of ds)))
unfolding device_of
ready_of n [] [] a e u = tt
ready_of n [] (d ∷ ds) a e u = absurd (omega arith)
ready_of n (o ∷ os) [] a e u = absurd (omega arith)
ready_of n (o ∷ os) (d ∷ ds) a e u = ((a.0, ap part_of u.0), ready_of n os ds a.1 (omega arith) u.1)

-- a record that fits has its position in range
pub placed-all : (ds : List Device) → All Sound ds → All Placed (map clocked_of ds)
unfolding device_of length_in
placed-all [] o = tt
placed-all (d ∷ ds) o = (ltb-true d.registers.position (positions.length_in d.registers) (parts-of d o.0.fit).1, placed-all ds o.1)

pub holds_of : (os : List Own) (ds : List Device) → Pairwise RegistersHold os (registers_in (devices_in (map clocked_of ds))) → Pairwise Holds os ds
unfolding device_of
holds_of [] [] h = tt
holds_of [] (d ∷ ds) h = absurd h
holds_of (o ∷ os) [] h = absurd h
holds_of (o ∷ os) (d ∷ ds) h = (h.0, holds_of os ds h.1)

-- ---- what is due after a restore

-- the data bits of low states
abbrev low_bits : List ℕ → List Bool
low_bits ss = map (λ s. eqb (s % 2) 1) ss

map-state_at-low : (ss : List ℕ) → all_below ss 2 ≡ true → map state_at ss ≡ lows (low_bits ss)
map-state_at-low [] h = refl
map-state_at-low (s ∷ ss) h = let t = below-head s ss 2 h in rw (lt-ltb s 2 t.0, map-state_at-low ss t.1)

low_below : (ss : List ℕ) → all_below ss 2 ≡ true → All (λ s. s < 4) ss
low_below [] h = tt
low_below (s ∷ ss) h = let t = below-head s ss 2 h in (omega (arith, t.0), low_below ss t.1)

-- no clock
none-less : (m : ℕ) → m - 0 ≡ m
none-less m = omega arith

module _ (os : List Own) where
  -- what waits in each device is its own, and is active already or becomes so within m clocks
  abbrev pub Due : ℕ → List Device → Type 0
  Due m ds = Pairwise (DueIn m) os (map clocked_of ds)

  -- low states in which no device expires
  pub low-due : (from : ℕ → ℕ) → ((device : ℕ) → from device ≤ 1) → (m : ℕ) (ds : List Device) (ss : List ℕ) → All Sound ds → all_below ss 2 ≡ true → CalmFrom from ds ss → Due m ds
      → Due (m - length ss) (run_devices ds ss)
  low-due from f m ds ss o l calm h =
      let e : map clocked_of (run_devices ds ss) ≡ (run_clocked (map clocked_of ds) (lows (low_bits ss))).0 =
      calm-seen ds ss o (low_below ss l) from f calm ∙ ap (λ (ls : List State). (run_clocked (map clocked_of ds) ls).0) (map-state_at-low ss l) in
      rw (e, ← length-map ss (λ (s : ℕ). eqb (s % 2) 1)) (due-low m (low_bits ss) os (map clocked_of ds) h)

  -- a fault setting
  set-due : (m kind : ℕ) (flag : Bool) (us : List Own) (ds : List Device) (i : ℕ) (z : Device) → Pairwise (DueIn m) us (map clocked_of ds)
      → Pairwise (DueIn m) us (map clocked_of (set ds i (faulted (get_or ds i z) kind (digit flag))))
  set-due m kind flag us [] i z h = h
  set-due m kind flag [] (d ∷ ds) i z h = absurd h
  set-due m kind flag (o ∷ us) (d ∷ ds) zero z h =
      (subst (DueIn m o) (sym (fault-same d kind flag)) (due-faulted m kind flag o (clocked_of d) h.0), h.1)
  set-due m kind flag (o ∷ us) (d ∷ ds) (suc i) z h = (h.0, set-due m kind flag us ds i z h.1)

  settled-due : (from : ℕ → ℕ) → ((device : ℕ) → from device ≤ 1) → (p m : ℕ) (ds : List Device) (c : Call) → Whole p ds → FaultOrLow ds c → CalmFrom from ds (given ds c)
      → Due m ds → Due (m - length (given ds c)) (after ds c)
  unfolding after
  settled-due from f p m ds (fresh part bit limit) w r calm h = rw (r, none-less m) h
  settled-due from f p m ds (run ss out) w r calm h =
      subst (Due (m - length (given ds (run ss out)))) (sym (ap (λ (x : List Device × List ℕ). x.0) (ran-one ds ss out)))
      (low-due from f m ds (given ds (run ss out)) w.sound r calm h)
  settled-due from f p m ds (fault device kind flag) w r calm h =
      rw (none-less m) (cond_both (Due m) (eqb (fault_refusal ds device kind) 0) _ _ (λ _. set-due m kind flag os ds (device - 1) blank h) (λ _. h))

  pub settles-due : (from : ℕ → ℕ) → ((device : ℕ) → from device ≤ 1) → (p m : ℕ) (ds : List Device) (cs : List Call) → Whole p ds → Settles ds cs → CalmCalls from ds cs
      → Due m ds → Due (m - length (states_given ds cs)) (after_calls ds cs)
  unfolding after_calls states_given
  settles-due from f p m ds [] w r calm h = rw (none-less m) h
  settles-due from f p m ds (c ∷ cs) w r calm h =
      let n : m - length (given ds c) - length (states_given (after ds c) cs) ≡ m - length (given ds c ++ states_given (after ds c) cs) =
      omega (arith, length-append (given ds c) (states_given (after ds c) cs)) in
      subst (λ (k : ℕ). Due k (after_calls (after ds c) cs)) n
      (settles-due (λ device. from device - length (given ds c)) (λ device. omega (arith, f device)) p (m - length (given ds c)) (after ds c) cs (whole-settled p ds c w r.0) r.1
      calm.1 (settled-due from f p m ds c w r.0 calm.0 h))

-- ---- what a whole chain sends

pub take-sent : (ds : List model.Device) (ps : List Piece) (j : ℕ) → (send_pieces ds (take j ps)).1 ≡ take j (send_pieces ds ps).1
unfolding send_pieces send_piece
take-sent ds ps zero = refl
take-sent ds [] (suc j) = refl
take-sent ds (p ∷ ps) (suc j) = rw (take-sent (send_piece ds p).0 ps j)

pub data_bits-state_at : (ss : List ℕ) → data_bits ss ≡ map data_bit (map state_at ss)
data_bits-state_at [] = refl
data_bits-state_at (s ∷ ss) = rw (data_bits-state_at ss)
