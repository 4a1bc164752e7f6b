-- The light of a device record is that of its numbers: of a record that is judged right, the part is known and the active value is within
-- the part's width, so a question about its numbers is refused for the position alone, as the question about the record is. By cases on
-- the tests. Assumes nothing.
use mathlib.Core.Path.{◌≡◌, refl, ap}
use mathlib.Core.Bool.{Bool, true, false, not, ◌&&◌, ◌||◌}
use mathlib.Core.List.{[], ◌∷◌}
use Prim.Native.Nat.{ℕ, ◌<◌}
use lib.Dec.{eqb, leb}
use lib.ListN.{get_or}
use borrow.Author.Tests.{not-false, lt-leb}
use Rattle.tables.specs.Refusals.{◌when◌, first, answer, number_of}
use Rattle.tables.specs.declared.refusal.Refusal.{Refusal}
use Rattle.parts.specs.Parts.{known, part_of, limit}
use Rattle.tables.proofs.Rows.{clear, refused, named}
use Rattle.tables.proofs.Booleans.{and_both, cond_both}
use Rattle.widths.specs.Widths.{flags_fit, values_fit}
use Rattle.parts.proofs.Rows.{limit-pos}
use Rattle.widths.proofs.Below.{below_at, below_of}
use Rattle.device.specs.declared.device.Device.{Device}
use Rattle.device.specs.Judgement.{place_fits, fits, judgement}
use Rattle.device.proofs.Kept.{parts-of}
use Rattle.std.specs.Prelude.{Ok, Err}
use Rattle.schedule.specs.Answers.{position_over, lit_rows, lit_answer, lit_clocks_answer}
use Rattle.device_light.specs.OfDevice.{active_value, is_shown, shown_run, device_rows, device_answer, device_clocks_answer}

sooner-or : {n : ℕ} (k f p : Bool) → n ≡ first ((1 when k) ∷ (13 when f) ∷ []) → (n ≡ 0 → ⊥) → n ≡ first ((1 when k) ∷ (13 when f || p) ∷ [])
sooner-or true f p e h = e
sooner-or false true p e h = e
sooner-or false false p e h = absurd (h e)

-- a record that is refused refuses every question about it
pub first-record :
    {n : ℕ} (d : Device) (output subframe clock phase : ℕ) → n ≡ first (judgement d) → (n ≡ 0 → ⊥) → n ≡ first (device_rows d output subframe clock phase)
first-record d output subframe clock phase =
    let r = d.registers in
    sooner-or (not (known r.part)) (not (fits d)) (position_over (part_of r.part) r.configuration output subframe clock phase)

pub lit_refused :
    (d : Device) (output subframe clock phase : ℕ) (r : Refusal)
    → number_of r ≡ first (judgement d)
    → Err (number_of r) ≡ device_answer d output subframe clock phase
unfolding device_answer
lit_refused d output subframe clock phase r e =
    refused Err (Ok (is_shown d.registers output subframe clock phase)) (first-record d output subframe clock phase e (named r)) (named r)

pub run_refused :
    (d : Device) (output subframe phase : ℕ) (r : Refusal)
    → number_of r ≡ first (judgement d)
    → Err (number_of r) ≡ device_clocks_answer d output subframe phase
unfolding device_clocks_answer
run_refused d output subframe phase r e =
    refused Err (Ok (shown_run d.registers output subframe phase)) (first-record d output subframe 0 phase e (named r)) (named r)

active_value-lt : (d : Device) (output phase : ℕ) → fits d ≡ true → active_value d.registers output phase < limit (part_of d.registers.part)
active_value-lt d output phase h =
    let r = d.registers in
    let m = limit (part_of r.part) in
    let b = below_of r (and_both (place_fits d.place r) (flags_fit r && values_fit r) (parts-of d h).0).1 in
    cond_both (λ (x : ℕ). x < m) (eqb phase 0) (get_or r.active0 output 0) (get_or r.active1 output 0)
    (λ _. below_at r.active0 m output b.active0s.below (limit-pos (part_of r.part)))
    (λ _. below_at r.active1 m output b.active1s.below (limit-pos (part_of r.part)))

position-alone : (k f v p : Bool) → k ≡ false → f ≡ false → v ≡ false
    → first ((1 when k) ∷ (6 when v) ∷ (13 when p) ∷ []) ≡ first ((1 when k) ∷ (13 when f || p) ∷ [])
position-alone k f v p a b c = rw (a, b, c)

-- one that is not is refused as its numbers are
rows_same :
    (d : Device) (output subframe clock phase : ℕ)
    → first (judgement d) ≡ 0
    → first (lit_rows d.registers.part d.registers.configuration (active_value d.registers output phase) output subframe clock phase)
    ≡ first (device_rows d output subframe clock phase)
rows_same d output subframe clock phase e =
    let r = d.registers in
    let m = limit (part_of r.part) in
    let v = active_value r output phase in
    let n = clear (judgement d) refl e in
    position-alone (not (known r.part)) (not (fits d)) (leb m v) (position_over (part_of r.part) r.configuration output subframe clock phase)
    n.0 n.1.0 (lt-leb m v (active_value-lt d output phase (not-false (fits d) n.1.0)))

pub device_lit :
    (d : Device) (output subframe clock phase : ℕ)
    → first (judgement d) ≡ 0
    → lit_answer d.registers.part d.registers.configuration d.registers.active (active_value d.registers output phase) output subframe clock phase
    ≡ device_answer d output subframe clock phase
unfolding device_answer lit_answer
device_lit d output subframe clock phase e =
    ap (λ (n : ℕ). answer n Err (Ok (is_shown d.registers output subframe clock phase))) (rows_same d output subframe clock phase e)

pub device_run :
    (d : Device) (output subframe phase : ℕ)
    → first (judgement d) ≡ 0
    → lit_clocks_answer d.registers.part d.registers.configuration d.registers.active (active_value d.registers output phase) output subframe phase
    ≡ device_clocks_answer d output subframe phase
unfolding device_clocks_answer lit_clocks_answer
device_run d output subframe phase e =
    ap (λ (n : ℕ). answer n Err (Ok (shown_run d.registers output subframe phase))) (rows_same d output subframe 0 phase e)
