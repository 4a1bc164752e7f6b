-- A device's fault flag of a kind is what the last accepted setting since the last accepted fresh gave, else 0. By induction on the calls: only
-- an accepted fresh and an accepted setting of that device and kind change it. Assumes nothing.
use mathlib.Core.Path.{◌≡◌, refl, sym, ap, ◌∙◌}
use mathlib.Core.Bool.{Bool, true, false, cond, ◌&&◌}
use mathlib.Core.List.{List, [], ◌∷◌, map}
use Prim.Native.Nat.{ℕ, zero, suc, ◌-◌, ◌≤◌, ◌<◌}
use native.Mathlib.Omega.{arith}
use lib.Dec.{eqb, ltb, leb}
use lib.ListN.{length, get_or, replicate, get_or-map}
use lib.Seq.{get_or-set_same, get_or-set_other}
use borrow.Author.Tests.{eqb-true, eqb-false, eq-eqb, leb-true, ltb-true, not-false}
use Rattle.bits.specs.Bits.{digit}
use Rattle.tables.proofs.Rows.{clear}
use Rattle.registers.specs.Held.{flagged}
use Rattle.device.specs.Step.{fresh_device, faulted}
use Rattle.device.specs.declared.device.Device.{Device}
use Rattle.tables.proofs.Booleans.{and_both, cond_both}
use Rattle.calls.specs.Chain.{all_fit, blank}
use Rattle.calls.specs.Calls.{fresh_devices, run_devices, fault_table, fault_refusal, fault_devices}
use Rattle.calls.specs.History.{Call, fresh, run, fault, refusal_of, after, after_calls}
use Rattle.calls.specs.Told.{flag_in, flag_by, flag_told}
use Rattle.link.proofs.Device.{run-keeps}
use Rattle.link.proofs.Calls.{after-effect, length-after}

module _ (kind : ℕ) where
  -- the flag in a record
  abbrev flag_of : Device → ℕ
  flag_of d = flag_in d.registers kind

  -- in a record of a list whose flags are those of another list
  at_same : (ds es : List Device) (i : ℕ) → map flag_of es ≡ map flag_of ds → flag_of (get_or es i blank) ≡ flag_of (get_or ds i blank)
  at_same ds es i e = sym (get_or-map flag_of es i blank) ∙ ap (λ (l : List ℕ). get_or l i (flag_of blank)) e ∙ get_or-map flag_of ds i blank

  run-flags : (ds : List Device) (ss : List ℕ) → map flag_of (run_devices ds ss) ≡ map flag_of ds
  run-flags ds ss = run-keeps (λ r. flag_in r kind) (λ r configuration calibration waiting waiting0 waiting1 slots. refl) (λ r position. refl) (λ r. refl) (λ r w. refl) (λ r. refl) ds ss

  fresh-flag : (q bit limit n i : ℕ) → flag_of (get_or (replicate n (fresh_device q bit limit)) i blank) ≡ 0
  fresh-flag q bit limit zero i = cond_both (λ (f : ℕ). f ≡ 0) (eqb kind 0) _ _ (λ _. refl) (λ _. refl)
  fresh-flag q bit limit (suc n) zero = cond_both (λ (f : ℕ). f ≡ 0) (eqb kind 0) _ _ (λ _. refl) (λ _. refl)
  fresh-flag q bit limit (suc n) (suc i) = fresh-flag q bit limit n i

  -- a setting of that kind gives the flag, one of the other kind leaves it
  same_kind : (d : Device) (flag : ℕ) → flag_of (faulted d kind flag) ≡ flag
  same_kind d flag = go (eqb kind 0) refl
    where
      go : (b : Bool) → eqb kind 0 ≡ b → flag_of (faulted d kind flag) ≡ flag
      go true e = rw e
      go false e = rw e

  other-kind : (d : Device) (k flag : ℕ) → kind < 2 → k < 2 → (k ≡ kind → ⊥) → flag_of (faulted d k flag) ≡ flag_of d
  other-kind d k flag h l n = go kind k h l n
    where
      go : (a b : ℕ) → a < 2 → b < 2 → (b ≡ a → ⊥) → flag_in (flagged d.registers b flag) a ≡ flag_in d.registers a
      go zero zero h l n = absurd (n refl)
      go zero (suc zero) h l n = refl
      go zero (suc (suc b)) h l n = absurd (omega arith)
      go (suc zero) zero h l n = refl
      go (suc zero) (suc zero) h l n = absurd (n refl)
      go (suc zero) (suc (suc b)) h l n = absurd (omega arith)
      go (suc (suc a)) b h l n = absurd (omega arith)

-- what an accepted setting says of its arguments
fault-within : (ds : List Device) (device kind : ℕ) (flag : Bool) → refusal_of ds (fault device kind flag) ≡ 0 → (1 ≤ device) × (device ≤ length ds) × (kind < 2)
unfolding refusal_of fault_refusal
fault-within ds device kind flag e =
    let t = clear (fault_table ds device kind) refl e in
    let f = and_both (leb 1 device) (leb device (length ds) && (ltb kind 2 && all_fit ds)) (not-false _ t.1.1.1.0) in
    let g = and_both (leb device (length ds)) (ltb kind 2 && all_fit ds) f.1 in
    (leb-true 1 device f.0, leb-true device (length ds) g.0, ltb-true kind 2 (and_both (ltb kind 2) (all_fit ds) g.1).0)

module _ (device kind : ℕ) (one : 1 ≤ device) (small : kind < 2) where
  abbrev flag_at : List Device → ℕ
  flag_at ds = flag_in (get_or ds (device - 1) blank).registers kind

  set-flag : (ds : List Device) (n k : ℕ) (flag old : Bool) → device ≤ length ds → 1 ≤ n → k < 2 → flag_at ds ≡ digit old
      → flag_at (fault_devices ds n k flag) ≡ digit (cond (eqb n device && eqb k kind) flag old)
  set-flag ds n k flag old l m s h = go (eqb n device) refl (eqb k kind) refl
    where
      go : (a : Bool) → eqb n device ≡ a → (b : Bool) → eqb k kind ≡ b → flag_at (fault_devices ds n k flag) ≡ digit (cond (a && b) flag old)
      go true e true f =
          rw (eqb-true n device e, eqb-true k kind f, get_or-set_same ds (device - 1) (faulted (get_or ds (device - 1) blank) kind (digit flag)) blank (omega arith))
          (same_kind kind (get_or ds (device - 1) blank) (digit flag))
      go true e false f =
          rw (eqb-true n device e, get_or-set_same ds (device - 1) (faulted (get_or ds (device - 1) blank) k (digit flag)) blank (omega arith))
          (other-kind kind (get_or ds (device - 1) blank) k (digit flag) small s (eqb-false k kind f) ∙ h)
      go false e b f =
          let x = eqb-false n device e in
          rw (get_or-set_other ds (n - 1) (device - 1) (faulted (get_or ds (n - 1) blank) k (digit flag)) blank (λ z. x (omega arith))) h

  flag-after : (ds : List Device) (c : Call) (old : Bool) → device ≤ length ds → flag_at ds ≡ digit old → flag_at (after ds c) ≡ digit (flag_by ds device kind old c)
  flag-after ds (fresh q bit limit) old l h = rw (after-effect ds (fresh q bit limit)) (go (eqb (refusal_of ds (fresh q bit limit)) 0))
    where
      go : (b : Bool) → flag_at (cond b (fresh_devices q bit limit ds) ds) ≡ digit (cond b false old)
      go true = fresh-flag kind q bit limit (length ds) (device - 1)
      go false = h
  flag-after ds (run ss out) old l h = rw (after-effect ds (run ss out)) (go (eqb (refusal_of ds (run ss out)) 0))
    where
      go : (b : Bool) → flag_at (cond b (run_devices ds ss) ds) ≡ digit old
      go true = at_same kind ds (run_devices ds ss) (device - 1) (run-flags kind ds ss) ∙ h
      go false = h
  flag-after ds (fault n k flag) old l h = rw (after-effect ds (fault n k flag)) (go (eqb (refusal_of ds (fault n k flag)) 0) refl)
    where
      go : (b : Bool) → eqb (refusal_of ds (fault n k flag)) 0 ≡ b → flag_at (cond b (fault_devices ds n k flag) ds) ≡ digit (cond (b && (eqb n device && eqb k kind)) flag old)
      go true e =
          let w = fault-within ds n k flag (eqb-true (refusal_of ds (fault n k flag)) 0 e) in
          set-flag ds n k flag old l w.0 w.2 h
      go false e = h

  pub flag-calls : (ds : List Device) (cs : List Call) (old : Bool) → device ≤ length ds → flag_at ds ≡ digit old → flag_at (after_calls ds cs) ≡ digit (flag_told ds device kind old cs)
  unfolding after_calls flag_told
  flag-calls ds [] old l h = h
  flag-calls ds (c ∷ cs) old l h = flag-calls (after ds c) cs (flag_by ds device kind old c) (rw (length-after ds c) l) (flag-after ds c old l h)

-- a fresh chain has no flag up
pub flag-start : (p bit limit : ℕ) (records : List Device) (device kind : ℕ) → refusal_of records (fresh p bit limit) ≡ 0
    → flag_in (get_or (after records (fresh p bit limit)) (device - 1) blank).registers kind ≡ 0
flag-start p bit limit records device kind e =
    rw (after-effect records (fresh p bit limit), eq-eqb (refusal_of records (fresh p bit limit)) 0 e) (fresh-flag kind p bit limit (length records) (device - 1))
