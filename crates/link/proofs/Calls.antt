-- Calls on records: a chain that was made fresh stays one that no call is refused for, whatever is called (`whole-calls`); the calls of a
-- restore are one run of what they were given (`ran`). By induction on the calls. Assumes nothing.
use mathlib.Core.Path.{◌≡◌, refl, sym, ap, ◌∙◌}
use mathlib.Core.Bool.{Bool, true, false, cond, ◌&&◌}
use mathlib.Core.List.{List, [], ◌∷◌, ◌++◌}
use Prim.Native.Nat.{ℕ, zero, suc, ◌-◌, ◌≤◌}
use lib.Dec.{eqb, ltb, leb}
use lib.ListN.{length, get_or, set, length-set, length-replicate, take}
use borrow.Author.Tests.{leb-true, le-leb, eq-eqb, eqb-true, eqb-false, ne_eqb, not-false}
use Rattle.bits.specs.Bits.{digit, over}
use Rattle.bits.proofs.Laws.{take-over, digit_lt}
use Rattle.tables.specs.Lists.{all_below, every}
use Rattle.parts.specs.Parts.{known, is_count}
use Rattle.tables.specs.Refusals.{first, content}
use Rattle.tables.proofs.Rows.{clear}
use Rattle.device.specs.Step.{fresh_device, faulted}
use Rattle.device.specs.Judgement.{fits}
use Rattle.registers.specs.declared.registers.Registers.{Registers}
use Rattle.device.specs.declared.device.Device.{Device}
use Rattle.tables.proofs.Booleans.{and_both, and-true, cond_both}
use Rattle.device.proofs.Kept.{kept-faulted, kept_fresh}
use Rattle.calls.specs.Chain.{through, has_part, all_known, same_parts, all_fit, blank}
use Rattle.calls.specs.Calls.{fresh_table, fresh_refusal, fresh_devices, run_refusal, run_devices, returned, fault_refusal, fault_devices}
use Rattle.calls.specs.History.{Call, fresh, run, fault, refusal_of, effect, after, after_calls, given, answered, states_given, answers, RunOrKeeps, Runs, FaultOrLow, Settles}
use Rattle.calls.specs.Told.{part_by, part_told, own_table}
use Rattle.model.specs.Lists.{All}
use Rattle.machine.specs.Machine.{relay_one}
use Rattle.model.proofs.Lists.{All-replicate, all-below}
use Rattle.machine.proofs.Machine.{run-nil, run-append, length-relays}
use Rattle.device.specs.Run.{clock_record}
use Rattle.watch.specs.Watch.{is_bit, is_limit}
use Rattle.calls.proofs.Accepted.{accepted-run}
use Rattle.link.proofs.View.{Sound}
use Rattle.link.proofs.Arrays.{faulted-arrays, fresh-arrays}
use Rattle.link.proofs.Device.{through-part, through-keep}

-- ---- what an accepted call leaves

pub after-effect : (ds : List Device) (c : Call) → after ds c ≡ content (refusal_of ds c) ds (effect ds c)
unfolding after refusal_of
after-effect ds (fresh part bit limit) = refl
after-effect ds (run ss out) = refl
after-effect ds (fault device kind flag) = refl

-- ---- a chain that no call is refused for

pub record Whole (p : ℕ) (ds : List Device) : Type 0 where
  pub some_device : 1 ≤ length ds
  pub few_devices : length ds ≤ 1023
  pub known_part : known p ≡ true
  pub one_part : All (λ d. d.registers.part ≡ p) ds
  pub sound : All Sound ds

pub every-all : (P : Device → Type 0) (f : Device → Bool) → ((d : Device) → P d → f d ≡ true) → (ds : List Device) → All P ds → every f ds ≡ true
every-all P f k [] h = refl
every-all P f k (d ∷ ds) h = rw (k d h.0, every-all P f k ds h.1)

whole-known : (p : ℕ) (ds : List Device) → Whole p ds → all_known ds ≡ true
whole-known p ds w = every-all (λ d. d.registers.part ≡ p) (λ d. known d.registers.part) (λ d e. ap known e ∙ w.known_part) ds w.one_part

same-all : (p : ℕ) (ds : List Device) → All (λ d. d.registers.part ≡ p) ds → same_parts ds ≡ true
same-all p [] h = refl
same-all p (d ∷ ds) h = every-all (λ e. e.registers.part ≡ p) (has_part d.registers.part) (λ e q. eq-eqb e.registers.part d.registers.part (q ∙ sym h.0)) ds h.1

whole-fit : (ds : List Device) → All Sound ds → all_fit ds ≡ true
whole-fit ds h = every-all Sound fits (λ d o. o.fit) ds h

whole-count : (p : ℕ) (ds : List Device) → Whole p ds → is_count (length ds) ≡ true
whole-count p ds w = rw (le-leb 1 (length ds) w.some_device, le-leb (length ds) 1023 w.few_devices)

-- its calls are refused for what they say, never for the records
pub own-refusal : (p : ℕ) (ds : List Device) (c : Call) → Whole p ds → refusal_of ds c ≡ first (own_table (length ds) c)
unfolding refusal_of fresh_refusal run_refusal fault_refusal
own-refusal p ds (fresh q bit limit) w = refl
own-refusal p ds (run ss out) w =
    rw (whole-known p ds w, whole-count p ds w, same-all p ds w.one_part, whole-fit ds w.sound, and-true (all_below ss 4))
own-refusal p ds (fault device kind flag) w =
    rw (whole-known p ds w, whole-count p ds w, same-all p ds w.one_part, whole-fit ds w.sound, and-true (ltb kind 2))

-- ---- a whole chain stays whole

faulted-part : (d : Device) (kind flag : ℕ) → (faulted d kind flag).registers.part ≡ d.registers.part
faulted-part d kind flag = cond_both (λ (r : Registers). r.part ≡ d.registers.part) (eqb kind 0) _ _ (λ _. refl) (λ _. refl)

faulted-sound : (kind : ℕ) (flag : Bool) (d : Device) → Sound d → Sound (faulted d kind (digit flag))
faulted-sound kind flag d o =
    record { fit = kept-faulted d kind (digit flag) (digit_lt flag) o.fit; arrays = faulted-arrays d kind (digit flag) o.arrays }

fresh-sound : (p bit limit : ℕ) → is_bit bit && is_limit limit ≡ true → Sound (fresh_device p bit limit)
fresh-sound p bit limit h = record { fit = kept_fresh p bit limit h; arrays = fresh-arrays p bit limit }

-- every record of a list in which one is changed
set-All : (P : Device → Type 0) (f : Device → Device) → ((d : Device) → P d → P (f d)) → (ds : List Device) (i : ℕ) (z : Device) → All P ds → All P (set ds i (f (get_or ds i z)))
set-All P f k [] i z h = tt
set-All P f k (d ∷ ds) zero z h = (k d h.0, h.1)
set-All P f k (d ∷ ds) (suc i) z h = (h.0, set-All P f k ds i z h.1)

-- ---- so no call is refused for the records, whatever is called

whole_fresh : (q bit limit : ℕ) (ds : List Device) → refusal_of ds (fresh q bit limit) ≡ 0 → Whole q (fresh_devices q bit limit ds)
unfolding refusal_of fresh_refusal
whole_fresh q bit limit ds a =
    let t = clear (fresh_table q bit limit (length ds)) refl a in
    let k = not-false (known q) t.0 in
    let n = and_both (leb 1 (length ds)) (leb (length ds) 1023) (not-false (is_count (length ds)) t.1.0) in
    let r = not-false (is_bit bit && is_limit limit) t.1.1.0 in
    let l = length-replicate (length ds) (fresh_device q bit limit) in
    record {
      some_device = rw l (leb-true 1 (length ds) n.0);
      few_devices = rw l (leb-true (length ds) 1023 n.1);
      known_part = k;
      one_part = All-replicate (λ d. d.registers.part ≡ q) (length ds) (fresh_device q bit limit) refl;
      sound = All-replicate Sound (length ds) (fresh_device q bit limit) (fresh-sound q bit limit r);
    }

run-below : (ds : List Device) (ss out : List ℕ) → refusal_of ds (run ss out) ≡ 0 → all_below ss 4 ≡ true
unfolding refusal_of
run-below ds ss out e = (accepted-run ds ss (length out) (eq-eqb (run_refusal ds ss (length out)) 0 e)).below

fault-sound : (ds : List Device) (device kind : ℕ) (flag : Bool) → All Sound ds → All Sound (fault_devices ds device kind flag)
fault-sound ds device kind flag h = set-All Sound (λ d. faulted d kind (digit flag)) (faulted-sound kind flag) ds (device - 1) blank h

whole_from : (p : ℕ) (ds es : List Device) → Whole p ds → length es ≡ length ds → All (λ d. d.registers.part ≡ p) es → All Sound es → Whole p es
whole_from p ds es w l a o = record { some_device = rw l w.some_device; few_devices = rw l w.few_devices; known_part = w.known_part; one_part = a; sound = o }

whole-effect : (p : ℕ) (ds : List Device) (c : Call) → Whole p ds → refusal_of ds c ≡ 0 → Whole (part_by ds p c) (effect ds c)
whole-effect p ds (fresh q bit limit) w a = rw (eq-eqb (refusal_of ds (fresh q bit limit)) 0 a) (whole_fresh q bit limit ds a)
whole-effect p ds (run ss out) w a =
    whole_from p ds (run_devices ds ss) w (length-relays clock_record ds ss) (through-part p ds ss w.one_part) (through-keep ds ss w.sound (all-below 4 ss (run-below ds ss out a)))
whole-effect p ds (fault device kind flag) w a =
    whole_from p ds (fault_devices ds device kind flag) w (length-set ds (device - 1) _)
    (set-All (λ d. d.registers.part ≡ p) (λ d. faulted d kind (digit flag)) (λ d h. faulted-part d kind (digit flag) ∙ h) ds (device - 1) blank w.one_part)
    (fault-sound ds device kind flag w.sound)

refused-part : (ds : List Device) (p : ℕ) (c : Call) → (refusal_of ds c ≡ 0 → ⊥) → part_by ds p c ≡ p
refused-part ds p (fresh q bit limit) e = rw (ne_eqb (refusal_of ds (fresh q bit limit)) 0 e)
refused-part ds p (run ss out) e = refl
refused-part ds p (fault device kind flag) e = refl

-- whatever is called, the chain stays one that no call is refused for
whole-after : (p : ℕ) (ds : List Device) (c : Call) → Whole p ds → Whole (part_by ds p c) (after ds c)
whole-after p ds c w = rw (after-effect ds c) (go (eqb (refusal_of ds c) 0) refl)
  where
    go : (b : Bool) → eqb (refusal_of ds c) 0 ≡ b → Whole (part_by ds p c) (cond b (effect ds c) ds)
    go true e = whole-effect p ds c w (eqb-true (refusal_of ds c) 0 e)
    go false e = rw (refused-part ds p c (eqb-false (refusal_of ds c) 0 e)) w

pub whole-calls : (p : ℕ) (ds : List Device) (cs : List Call) → Whole p ds → Whole (part_told ds p cs) (after_calls ds cs)
unfolding after_calls part_told
whole-calls p ds [] w = w
whole-calls p ds (c ∷ cs) w = whole-calls (part_by ds p c) (after ds c) cs (whole-after p ds c w)

pub whole-start : (p bit limit : ℕ) (ds : List Device) → refusal_of ds (fresh p bit limit) ≡ 0 → Whole p (after ds (fresh p bit limit))
whole-start p bit limit ds e = rw (after-effect ds (fresh p bit limit), eq-eqb (refusal_of ds (fresh p bit limit)) 0 e) (whole_fresh p bit limit ds e)

-- no call changes the number of records
length-effect : (ds : List Device) (c : Call) → length (effect ds c) ≡ length ds
length-effect ds (fresh q bit limit) = length-replicate (length ds) (fresh_device q bit limit)
length-effect ds (run ss out) = length-relays clock_record ds ss
length-effect ds (fault device kind flag) = length-set ds (device - 1) _

pub length-after : (ds : List Device) (c : Call) → length (after ds c) ≡ length ds
length-after ds c = rw (after-effect ds c) (cond_both (λ (es : List Device). length es ≡ length ds) (eqb (refusal_of ds c) 0) _ _ (λ _. length-effect ds c) (λ _. refl))

pub length-after_calls : (ds : List Device) (cs : List Call) → length (after_calls ds cs) ≡ length ds
unfolding after_calls
length-after_calls ds [] = refl
length-after_calls ds (c ∷ cs) = length-after_calls (after ds c) cs ∙ length-after ds c

-- ---- runs, and calls that leave the records as they are

through-nil : (ds : List Device) → through ds [] ≡ (ds, [])
through-nil ds = run-nil (relay_one clock_record) ds

-- a run, accepted or refused, is a run of what it was given
pub ran-one : (ds : List Device) (ss out : List ℕ)
    → ◌≡◌ {A = List Device × List ℕ} (after ds (run ss out), answered ds (run ss out)) (through ds (given ds (run ss out)))
unfolding after
ran-one ds ss out = go (eqb (run_refusal ds ss (length out)) 0) refl
  where
    go : (b : Bool) → eqb (run_refusal ds ss (length out)) 0 ≡ b
        → ◌≡◌ {A = List Device × List ℕ} (cond b (run_devices ds ss) ds, cond b (take (length (returned ds ss)) (cond b (over (returned ds ss) out) out)) [])
        (through ds (cond b ss []))
    go true e = rw (take-over (returned ds ss) out)
    go false e = rw (through-nil ds)

pub run-one : (ds : List Device) (c : Call) → RunOrKeeps ds c → ◌≡◌ {A = List Device × List ℕ} (after ds c, answered ds c) (through ds (given ds c))
run-one ds (fresh p bit limit) h = rw (h, through-nil ds)
run-one ds (run ss out) h = ran-one ds ss out
run-one ds (fault device kind flag) h = rw (h, through-nil ds)

-- the calls of a restore are one run of what they were given
pub ran : (ds : List Device) (cs : List Call) → Runs ds cs → ◌≡◌ {A = List Device × List ℕ} (after_calls ds cs, answers ds cs) (through ds (states_given ds cs))
unfolding after_calls answers states_given
ran ds [] r = rw (through-nil ds)
ran ds (c ∷ cs) r =
    rw (run-append (relay_one clock_record) ds (given ds c) (states_given (after ds c) cs), ← run-one ds c r.0, ← ran (after ds c) cs r.1)

-- during a restore and after it the part stays, and with it all that no call is refused for
whole-ran : (p : ℕ) (ds : List Device) (c : Call) → Whole p ds → RunOrKeeps ds c → Whole p (after ds c)
whole-ran p ds (fresh q bit limit) w r = rw r w
whole-ran p ds (run ss out) w r = whole-after p ds (run ss out) w
whole-ran p ds (fault device kind flag) w r = rw r w

pub whole-runs : (p : ℕ) (ds : List Device) (cs : List Call) → Whole p ds → Runs ds cs → Whole p (after_calls ds cs)
unfolding after_calls
whole-runs p ds [] w r = w
whole-runs p ds (c ∷ cs) w r = whole-runs p (after ds c) cs (whole-ran p ds c w r.0) r.1

pub whole-settled : (p : ℕ) (ds : List Device) (c : Call) → Whole p ds → FaultOrLow ds c → Whole p (after ds c)
whole-settled p ds (fresh q bit limit) w r = rw r w
whole-settled p ds (run ss out) w r = whole-after p ds (run ss out) w
whole-settled p ds (fault device kind flag) w r = whole-after p ds (fault device kind flag) w

pub whole-settles : (p : ℕ) (ds : List Device) (cs : List Call) → Whole p ds → Settles ds cs → Whole p (after_calls ds cs)
unfolding after_calls
whole-settles p ds [] w r = w
whole-settles p ds (c ∷ cs) w r = whole-settles p (after ds c) cs (whole-settled p ds c w r.0) r.1

pub calls-append : (ds : List Device) (cs es : List Call) → after_calls ds (cs ++ es) ≡ after_calls (after_calls ds cs) es
unfolding after_calls
calls-append ds [] es = refl
calls-append ds (c ∷ cs) es = calls-append (after ds c) cs es
