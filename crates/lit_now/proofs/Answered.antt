-- An accepted call asks a question that is answered: the device is one of the chain and fits, its part has the output, and its position, which is
-- below the frame's length, stands at a moment of the schedule. So the answer is the schedule's. Assumes nothing.
use mathlib.Core.Path.{◌≡◌, refl, sym, ap, ◌∙◌, subst}
use mathlib.Core.Bool.{Bool, true, not, ◌&&◌}
use mathlib.Core.List.{List, [], ◌∷◌}
use Prim.Native.Nat.{ℕ, zero, suc, ◌-◌, ◌<◌, ◌≤◌}
use native.Mathlib.Nat.{not-suc-le-zero, le_of_suc-le-suc}
use native.Mathlib.Omega.{arith}
use lib.Dec.{leb, ltb}
use lib.ListN.{length, get_or}
use borrow.Author.Tests.{eqb-true, leb-true, ltb-true, not-false}
use Rattle.tables.specs.Lists.{every}
use Rattle.tables.specs.Refusals.{first}
use Rattle.tables.proofs.Booleans.{and_left, and_right, and_both, or-second}
use Rattle.tables.proofs.Rows.{clear, none, accepted, refused as refuses}
use Rattle.parts.specs.Parts.{known, part_of, outputs, multiplex}
use Rattle.schedule.specs.Moments.{InSchedule}
use Rattle.schedule.proofs.Visits.{visited}
use Rattle.schedule.proofs.Lit.{moment-over}
use Rattle.std.specs.Prelude.{Result, Ok, Err}
use Rattle.device.specs.declared.device.Device.{Device}
use Rattle.device.specs.Judgement.{fits, judgement}
use Rattle.device.proofs.Kept.{parts-of}
use Rattle.device_light.specs.OfDevice.{device_rows, device_answer}
use Rattle.device_light.proofs.Records.{device_lit}
use Rattle.judgement.specs.declared.judging.Judged.{Judged}
use Rattle.judgement.specs.Judging.{unjudged, judged_from}
use Rattle.refusals.specs.Rows.{output_rows}
use Rattle.refusals.proofs.Found.{output-refusal-found}
use Rattle.calls.specs.Chain.{all_known, has_part, same_parts, all_fit, blank}
use Rattle.lit_now.specs.LitNow.{moment_of, is_lit_now, refused, shown_now, chain_part, device_at, lit_now_table, lit_now_refusal, lit_now}
use Rattle.lit_now.specs.BySchedule.{BySchedule}
use Rattle.lit_now.specs.Asked.{answered, asked_now}

-- ---- a record of a chain

every-at : {A : Type 0} (f : A → Bool) (xs : List A) (x : A) (i : ℕ) → every f xs ≡ true → i < length xs → f (get_or xs i x) ≡ true
every-at f [] x i e l = absurd (not-suc-le-zero l)
every-at f (y ∷ xs) x zero e l = and_left (f y) (every f xs) e
every-at f (y ∷ xs) x (suc i) e l = every-at f xs x i (and_right (f y) (every f xs) e) (le_of_suc-le-suc l)

part_at : (ds : List Device) (i : ℕ) → same_parts ds ≡ true → i < length ds → (get_or ds i blank).registers.part ≡ chain_part ds
part_at [] i e l = absurd (not-suc-le-zero l)
part_at (d ∷ ds) zero e l = refl
part_at (d ∷ ds) (suc i) e l = eqb-true _ _ (every-at (has_part d.registers.part) ds blank i e (le_of_suc-le-suc l))

-- ---- an accepted call

pub record Accepted (ds : List Device) (device output : ℕ) : Type 0 where
  pub first : 1 ≤ device
  pub within : device - 1 < length ds
  pub known : known (device_at ds device).registers.part ≡ true
  pub fits : fits (device_at ds device) ≡ true
  pub has_output : output < outputs (part_of (device_at ds device).registers.part)

pub accepted-call : (ds : List Device) (device output : ℕ) → lit_now_refusal ds device output ≡ 0 → Accepted ds device output
unfolding lit_now_refusal
accepted-call ds device output e =
    let c = clear (lit_now_table ds device output) refl e in
    let t = and_both (leb 1 device) (leb device (length ds) && (ltb output (outputs (part_of (chain_part ds))) && all_fit ds)) (not-false _ c.1.1.1.0) in
    let u = and_both (leb device (length ds)) (ltb output (outputs (part_of (chain_part ds))) && all_fit ds) t.1 in
    let v = and_both (ltb output (outputs (part_of (chain_part ds)))) (all_fit ds) u.1 in
    let one : 1 ≤ device = leb-true 1 device t.0 in
    let last : device ≤ length ds = leb-true device (length ds) u.0 in
    let l : device - 1 < length ds = omega (arith, one, last) in
    record {
      first = one;
      within = l;
      known = every-at (λ d. known d.registers.part) ds blank (device - 1) (not-false (all_known ds) c.0) l;
      fits = every-at fits ds blank (device - 1) v.1 l;
      has_output = subst (λ (n : ℕ). output < outputs (part_of n)) (sym (part_at ds (device - 1) (not-false (same_parts ds) c.1.1.0) l))
          (ltb-true output (outputs (part_of (chain_part ds))) v.0);
    }

-- the moment at which a device that fits stands is one of the schedule
pub moment-in : (d : Device) → fits d ≡ true → InSchedule (part_of d.registers.part) d.registers.configuration (moment_of d.registers)
moment-in d h =
    let r = d.registers in
    (visited (part_of r.part) r.configuration).within r.position (ltb-true _ _ (parts-of d h).1)

module _ (d : Device) (output : ℕ) (k : known d.registers.part ≡ true) (h : fits d ≡ true) (o : output < outputs (part_of d.registers.part)) where
  -- the question about it is answered
  rows-clear : first (device_rows d output (moment_of d.registers).subframe (moment_of d.registers).clock (moment_of d.registers).phase) ≡ 0
  rows-clear =
      let r = d.registers in
      let m = moment_of r in
      none (device_rows d output m.subframe m.clock m.phase)
      (ap not k, (or-second (ap not h) (moment-over (part_of r.part) r.configuration output m o (moment-in d h)), tt))

  device-asked : device_answer d output (moment_of d.registers).subframe (moment_of d.registers).clock (moment_of d.registers).phase
      ≡ Ok (is_lit_now d.registers output)
  unfolding device_answer
  device-asked = sym (accepted Err refl rows-clear refl)

  pub asked-shown : asked_now d output ≡ shown_now d.registers output
  asked-shown = ap (λ (a : Result Bool ℕ). answered a (moment_of d.registers).phase) device-asked

  pub by-schedule : BySchedule d.registers output (shown_now d.registers output)
  by-schedule =
      let r = d.registers in
      let m = moment_of r in
      record {
        within = moment-in d h;
        holds = is_lit_now r output;
        asked = device_lit d output m.subframe m.clock m.phase (none (judgement d) (ap not k, (ap not h, tt))) ∙ device-asked;
        told = refl;
      }

-- ---- what is answered

pub answer-refused : (ds : List Device) (device output n : ℕ) → n ≡ lit_now_refusal ds device output → (n ≡ 0 → ⊥) → refused n ≡ lit_now ds device output
unfolding lit_now
answer-refused ds device output n e h = refuses refused (shown_now (device_at ds device).registers output) e h

answer-accepted : (ds : List Device) (device output : ℕ) → lit_now_refusal ds device output ≡ 0 → shown_now (device_at ds device).registers output ≡ lit_now ds device output
unfolding lit_now
answer-accepted ds device output e = accepted refused refl e refl

-- the question that an accepted call asks is its answer
pub answer-asked : (ds : List Device) (device output : ℕ) → lit_now_refusal ds device output ≡ 0 → asked_now (device_at ds device) output ≡ lit_now ds device output
answer-asked ds device output e =
    let a = accepted-call ds device output e in
    asked-shown (device_at ds device) output a.known a.fits a.has_output ∙ answer-accepted ds device output e

-- and it is the schedule's
pub lit-now-schedule : (ds : List Device) (device output : ℕ) → lit_now_refusal ds device output ≡ 0
    → BySchedule (device_at ds device).registers output (lit_now ds device output)
lit-now-schedule ds device output e =
    let a = accepted-call ds device output e in
    subst (BySchedule (device_at ds device).registers output) (answer-accepted ds device output e)
    (by-schedule (device_at ds device) output a.known a.fits a.has_output)

-- nonmultiplexed the phase is MUX0
pub phase-mux0 : (d : Device) → fits d ≡ true → multiplex d.registers.configuration ≡ 0 → (moment_of d.registers).phase ≡ 0
phase-mux0 d h e = omega (arith, (moment-in d h).phase, e)

-- the number that the code finds, by what the pass over the records found
pub refusal-found : (ds : List Device) (device output : ℕ) (j : Judged) (n : ℕ) → j ≡ judged_from unjudged ds
    → n ≡ first (output_rows j (length ds) device output) → n ≡ lit_now_refusal ds device output
unfolding lit_now_refusal
refusal-found ds device output j n e f =
    f ∙ ap (λ (k : Judged). first (output_rows k (length ds) device output)) e ∙ output-refusal-found ds device output
