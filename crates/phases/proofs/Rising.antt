-- The rising edge by what the window and the first high bit are: each reading excludes those that are tested before it. Last, the phases that a
-- bit of a header moves to are small. Assumes nothing.
use mathlib.Core.Bool.{◌&&◌}
use Prim.Native.Nat.{ℕ, ◌+◌, ◌-◌, ◌*◌, ◌/◌, ◌%◌}
use lib.Dec.{eqb, ltb, lit<}
use Rattle.tables.proofs.Booleans.{cond_both}
use Rattle.parts.specs.declared.command.Command.{Command}
use Rattle.phases.specs.Phases.{rising, opened, opening, counting}
use Rattle.phases.specs.declared.phase.Phase.{Phase}
use Rattle.phases.specs.declared.phase.Phase.TheVariants.{Opening, Lost}
use Rattle.phases.proofs.Places.{Small}

-- what holds of the three phases in the header, and of lost, holds after a rising edge
pub rising-any : (P : Phase → Type 0) (w b : ℕ) → P (Opening 1) → P (Opening (2 + b)) → P (Opening (4 + w % 2 * 2 + b)) → P Lost → P (rising w b)
rising-any P w b early exact late lost =
    cond_both P (eqb (w % 128) 0x74 && eqb b 0) _ _ (λ _. early)
    (λ _. cond_both P (eqb (w % 256) 0xE8) _ _ (λ _. exact) (λ _. cond_both P (eqb (w / 2) 0xE8) _ _ (λ _. late) (λ _. lost)))

pub rising-small : (w b : ℕ) → Small (rising w b)
rising-small w b = rising-any Small w b (lit< tt) (lit< tt) (lit< tt) (lit< tt)

-- the phases that the other bits of a header move to are small
opened-small : (n : ℕ) → Small (opened n)
opened-small n =
    cond_both Small (eqb n 0) _ _ (λ _. lit< tt)
    (λ _. cond_both Small (eqb n 21) _ _ (λ _. lit< tt)
    (λ _. cond_both Small (eqb n 42) _ _ (λ _. lit< tt)
    (λ _. cond_both Small (eqb n 63) _ _ (λ _. lit< tt) (λ _. lit< tt))))

pub opening-small : (read bit : ℕ) → Small (opening read bit)
opening-small read bit = cond_both Small (ltb (read * 2 + bit) 64) _ _ (λ _. lit< tt) (λ _. opened-small (read * 2 + bit - 64))

pub counting-small : (c : Command) (read bit : ℕ) → Small (counting c read bit)
counting-small c read bit = cond_both Small (ltb (read * 2 + bit) 1024) _ _ (λ _. lit< tt) (λ _. lit< tt)
