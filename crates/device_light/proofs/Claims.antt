-- Two claims of the light of a device record: its run of lit clocks is answered wherever one clock is, and says the same. By the laws of the
-- run for any part and value. Assumes nothing.
use mathlib.Core.Path.{◌≡◌, refl, sym, ap, ap₂, ◌∙◌}
use mathlib.Core.Bool.{not}
use Prim.Native.Nat.{ℕ}
use Rattle.tables.specs.Refusals.{first}
use Rattle.parts.specs.Parts.{part_of}
use Rattle.tables.proofs.Booleans.{or-second, or-none}
use Rattle.tables.proofs.Rows.{clear, none, accepted}
use Rattle.device.specs.declared.device.Device.{Device}
use Rattle.device.specs.Judgement.{fits}
use Rattle.std.specs.Prelude.{Ok, Err}
use Rattle.schedule.specs.Light.{in_run, lit_first, lit_end}
use Rattle.schedule.specs.Answers.{position_over, clocks}
use Rattle.schedule.proofs.Lit.{lit-first-end, position-zero}
use Rattle.schedule.proofs.Claims.{run-given}
use Rattle.device_light.specs.OfDevice.{active_value, device_rows, device_answer, device_clocks_answer}

-- the run that is answered for a subframe has the clocks at which the output is said to be lit, and no others
pub device-clocks :
    (d : Device) (output subframe clock phase f e : ℕ)
    → device_clocks_answer d output subframe phase ≡ Ok (clocks f e)
    → first (device_rows d output subframe clock phase) ≡ 0
    → device_answer d output subframe clock phase ≡ Ok (in_run f e clock)
unfolding device_answer device_clocks_answer
device-clocks d output subframe clock phase f e q a =
    let r = d.registers in
    let p = part_of r.part in
    let v = active_value r output phase in
    let g = run-given (first (device_rows d output subframe 0 phase)) (lit_first p r.configuration r.active v output subframe) (lit_end p r.configuration r.active v output subframe) f e q in
    sym
    (accepted Err refl a
    (ap Ok
    (sym (lit-first-end p r.configuration r.active v output subframe clock ∙ ap₂ (λ (m n : ℕ). in_run m n clock) g.0 g.1))))

-- it is answered wherever the question about one clock is
pub device-clocks-accepted :
    (d : Device) (output subframe clock phase : ℕ)
    → first (device_rows d output subframe clock phase) ≡ 0
    → first (device_rows d output subframe 0 phase) ≡ 0
device-clocks-accepted d output subframe clock phase a =
    let r = d.registers in
    let n = clear (device_rows d output subframe clock phase) refl a in
    let o = or-none (not (fits d)) (position_over (part_of r.part) r.configuration output subframe clock phase) n.1.0 in
    none (device_rows d output subframe 0 phase)
    (n.0, (or-second o.0 (position-zero (part_of r.part) r.configuration output subframe clock phase o.1), tt))
