-- The current that is answered is the sum over the schedule: what each device draws, clock after clock, by current/proofs/EachClock. Assumes nothing.
use mathlib.Core.Path.{◌≡◌, refl, sym, ap, ap₂, ◌∙◌}
use mathlib.Core.List.{List, [], ◌∷◌, map, flatten}
use Prim.Native.Nat.{ℕ, ◌+◌, ◌*◌, ◌/◌, ◌%◌}
use native.Mathlib.Nat.{div-add-mod, mod-lt, mul_comm}
use native.Mathlib.Omega.{arith}
use lib.Dec.{lit<}
use lib.ListN.{length, take, length-map}
use Rattle.bits.specs.Bits.{over}
use Rattle.bits.proofs.Laws.{take-over}
use Rattle.parts.specs.Parts.{Part, part_of, period, WholeFrames}
use Rattle.parts.proofs.Laws.{whole-frames}
use Rattle.schedule.specs.Light.{total}
use Rattle.model.specs.Set.{Set, Own, owned}
use Rattle.model.proofs.Set.{length-owned}
use Rattle.current.specs.Current.{drawn, drawn_in_clock, figure, sum, totals_of, device_totals, device_figures, sign_total}
use Rattle.current.specs.declared.sign.Current.{Current}
use Rattle.current.proofs.EachClock.{each-clock}
use Rattle.claims.specs.Claims as claim
use Rattle.claims.proofs.Tables.{gives-current}

totals-scheduled : (p : Part) → WholeFrames p → (os : List Own) → totals_of p os ≡ map (λ o. total (drawn_in_clock p o) period) os
totals-scheduled p w [] = refl
totals-scheduled p w (o ∷ os) = ap₂ (λ (x : ℕ) (xs : List ℕ). x ∷ xs) (each-clock p o w) (totals-scheduled p w os)

length-figures : (xs : List ℕ) → length (flatten (map figure xs)) ≡ 3 * length xs
unfolding flatten
length-figures [] = refl
length-figures (x ∷ xs) = omega (arith, length-figures xs)

length-totals : (s : Set) → length (device_totals s) ≡ s.devices
length-totals s = length-map (owned s) (drawn (part_of s.part)) ∙ length-owned s

-- so many figures stand in front
front : (s : Set) (out : List ℕ) → take (3 * s.devices) (over (device_figures s) out) ≡ device_figures s
front s out =
    ap (λ (n : ℕ). take n (over (device_figures s) out)) (sym (length-figures (device_totals s) ∙ ap (λ (n : ℕ). 3 * n) (length-totals s)))
    ∙ take-over (device_figures s) out

pub sum-over-schedule : claim.SumOverSchedule
sum-over-schedule s out e =
    let g = gives-current s out in
    let r = g.0.accepted e in
    let scheduled = totals-scheduled (part_of s.part) (whole-frames s.part) (owned s) in
    let t : ℕ = sign_total s in (
      ap (λ (a : Current). a.total) r ∙ ap sum scheduled,
      rw r (sym (div-add-mod t period) ∙ ap (λ (n : ℕ). n + t % period) (mul_comm period (t / period))),
      rw r (mod-lt t (lit< tt)),
      ap (take (3 * s.devices)) (g.1.accepted e) ∙ front s out ∙ ap (λ (xs : List ℕ). flatten (map figure xs)) scheduled,
    )
