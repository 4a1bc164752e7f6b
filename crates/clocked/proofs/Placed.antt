-- Positions stay in range: a clock takes them modulo the length, and so does a configuration that shortens the frame. Runs go by `clocks-hold`.
-- Assumes nothing.
use mathlib.Core.Path.{◌≡◌, refl, sym, ◌∙◌}
use mathlib.Core.Bool.{Bool, true, false, cond}
use mathlib.Core.List.{List, map-id}
use Prim.Native.Nat.{ℕ, ◌%◌, ◌≤◌, ◌<◌}
use native.Mathlib.Nat.{mod-lt, mod-eq_of_lt}
use native.Mathlib.Omega.{arith}
use lib.Dec.{ltb}
use borrow.Author.Tests.{ltb-false}
use Rattle.parts.specs.Parts.{Part}
use Rattle.parts.specs.Wire.{State}
use Rattle.machine.specs.Machine.{All}
use Rattle.machine.proofs.Machine.{clocks-hold}
use Rattle.model.specs.Device.{Registers, step_device}
use Rattle.clocked.specs.Clock.{Clocked, registers_of, length_in, length_of, Placed, Running, tick, refit, step_clocked, run_clocked}
use Rattle.clocked.proofs.Kept.{step_part, tick-part}
use Rattle.clocked.proofs.Aged.{tick-placed}

-- a position in range is taken modulo the new length, shorter or not
pub refit-mod : (old new position : ℕ) → position < old → refit old new position ≡ position % new
refit-mod old new position h = by (ltb new old) refl
  where
    by : (b : Bool) → ltb new old ≡ b → cond b (position % new) position ≡ position % new
    by true e = refl
    by false e =
        let l : old ≤ new = ltb-false new old e in
        let m : position < new = omega arith in
        sym (mod-eq_of_lt m)

pub length-pos : (w : Part) → Running w → (r : Registers) → r.part ≡ w → 0 < length_in r
unfolding length_in
length-pos w u r e = rw e (u r.configuration)

-- a device of a row, its position in range
abbrev pub PlacedOf : Part → Clocked → Type 0
PlacedOf w c = Placed c × ((registers_of c).part ≡ w)

module _ (w : Part) (u : Running w) where
  pub tick-in : (c : Clocked) → PlacedOf w c → PlacedOf w (tick c)
  tick-in c h = (tick-placed c h.0, tick-part c ∙ h.1)

  pub step_in : (c : Clocked) (l : State) → PlacedOf w c → PlacedOf w (step_clocked c l).0
  unfolding step_clocked
  step_in c l h =
      let r : Registers = (step_device c.device l).0.registers in
      let e : r.part ≡ w = step_part c l ∙ h.1 in
      (rw (refit-mod (length_of c) (length_in r) c.position h.0) (mod-lt c.position (length-pos w u r e)), e)

  pub run_in : (cs : List Clocked) (ls : List State) → All (PlacedOf w) cs → All (PlacedOf w) (run_clocked cs ls).0
  run_in cs ls h = clocks-hold step_clocked step_clocked tick tick (λ c. c) (λ l. l) (PlacedOf w) step_in (λ c l p. rw map-id) tick-in (λ c p. refl) cs ls h
