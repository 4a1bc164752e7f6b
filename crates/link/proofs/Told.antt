-- Every record's watchdog has the bit and the limit that the last accepted fresh was told: no clock and no fault setting changes them. By induction
-- on the calls. Assumes nothing.
use mathlib.Core.Path.{◌≡◌, refl, ap, ◌∙◌}
use mathlib.Core.Bool.{Bool, true, false, cond}
use mathlib.Core.List.{List, [], ◌∷◌, map}
use Prim.Native.Nat.{ℕ, zero, suc, ◌-◌}
use native.Mathlib.Omega.{arith}
use lib.Dec.{eqb}
use lib.ListN.{length, get_or, drop, set}
use borrow.Author.Tests.{eq-eqb}
use Rattle.bits.specs.Bits.{digit}
use Rattle.tables.proofs.Booleans.{cond_both}
use Rattle.registers.specs.declared.registers.Registers.{Registers}
use Rattle.device.specs.Step.{fresh_device, faulted}
use Rattle.device.specs.declared.device.Device.{Device}
use Rattle.calls.specs.Chain.{blank}
use Rattle.calls.specs.Calls.{fresh_devices, run_devices}
use Rattle.calls.specs.History.{Call, fresh, run, fault, refusal_of, after, after_calls}
use Rattle.calls.specs.Told.{watch_by, watch_told}
use Rattle.model.specs.Lists.{All}
use Rattle.model.proofs.Lists.{All-replicate}
use Rattle.link.proofs.Device.{told_in, through-told}
use Rattle.link.proofs.Calls.{after-effect}

-- every record was told these
abbrev Told : ℕ × ℕ → List Device → Type 0
Told w ds = All (λ d. told_in d ≡ w) ds

told-map : (w : ℕ × ℕ) (ds es : List Device) → map told_in es ≡ map told_in ds → Told w ds → Told w es
told-map w ds [] e h = tt
told-map w [] (y ∷ es) e h = absurd (omega (arith, ap (λ (l : List (ℕ × ℕ)). length l) e))
told-map w (x ∷ ds) (y ∷ es) e h =
    (ap (λ (l : List (ℕ × ℕ)). get_or l 0 (0, 0)) e ∙ h.0, told-map w ds es (ap (λ (l : List (ℕ × ℕ)). drop 1 l) e) h.1)

faulted-told : (d : Device) (kind flag : ℕ) → told_in (faulted d kind flag) ≡ told_in d
faulted-told d kind flag = cond_both (λ (r : Registers). ◌≡◌ {A = ℕ × ℕ} (r.watch.bit, r.watch.limit) (told_in d)) (eqb kind 0) _ _ (λ _. refl) (λ _. refl)

fault-told : (w : ℕ × ℕ) (ds : List Device) (i kind : ℕ) (flag : Bool) → Told w ds → Told w (set ds i (faulted (get_or ds i blank) kind (digit flag)))
fault-told w [] i kind flag h = tt
fault-told w (d ∷ ds) zero kind flag h = (faulted-told d kind (digit flag) ∙ h.0, h.1)
fault-told w (d ∷ ds) (suc i) kind flag h = (h.0, fault-told w ds i kind flag h.1)

told-after : (w : ℕ × ℕ) (ds : List Device) (c : Call) → Told w ds → Told (watch_by ds w c) (after ds c)
told-after w ds (fresh q bit limit) h = rw (after-effect ds (fresh q bit limit)) (go (eqb (refusal_of ds (fresh q bit limit)) 0))
  where
    go : (b : Bool) → Told (cond b (bit, limit) w) (cond b (fresh_devices q bit limit ds) ds)
    go true = All-replicate (λ d. told_in d ≡ (bit, limit)) (length ds) (fresh_device q bit limit) refl
    go false = h
told-after w ds (run ss out) h =
    rw (after-effect ds (run ss out)) (cond_both (Told w) (eqb (refusal_of ds (run ss out)) 0) _ _ (λ _. told-map w ds (run_devices ds ss) (through-told ds ss) h) (λ _. h))
told-after w ds (fault device kind flag) h =
    rw (after-effect ds (fault device kind flag))
    (cond_both (Told w) (eqb (refusal_of ds (fault device kind flag)) 0) _ _ (λ _. fault-told w ds (device - 1) kind flag h) (λ _. h))

pub told-calls : (w : ℕ × ℕ) (ds : List Device) (cs : List Call) → Told w ds → Told (watch_told ds w cs) (after_calls ds cs)
unfolding after_calls watch_told
told-calls w ds [] h = h
told-calls w ds (c ∷ cs) h = told-calls (watch_by ds w c) (after ds c) cs (told-after w ds c h)

-- a fresh chain was told its own
pub told-start : (p bit limit : ℕ) (records : List Device) → refusal_of records (fresh p bit limit) ≡ 0 → Told (bit, limit) (after records (fresh p bit limit))
told-start p bit limit records e =
    rw (after-effect records (fresh p bit limit), eq-eqb (refusal_of records (fresh p bit limit)) 0 e)
    (All-replicate (λ d. told_in d ≡ (bit, limit)) (length records) (fresh_device p bit limit) refl)
