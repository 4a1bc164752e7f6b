-- One device, group by group: the first that differs is named, and where none does the answer goes on. Assumes nothing.
use mathlib.Core.Path.{◌≡◌, refl, ap, ◌∙◌}
use mathlib.Core.Bool.{Bool, true, false, cond}
use lib.Dec.{eqb, ltb}
use mathlib.Core.List.{List, [], ◌∷◌}
use Prim.Native.Nat.{ℕ, suc, ◌≤◌}
use lib.ListN.{length}
use borrow.Author.Tests.{le-ltb, eq-eqb}
use Rattle.device.specs.declared.device.Device.{Device}
use Rattle.model.specs.Set.{Own}
use Rattle.differences.specs.declared.compared.Compared.{Compared}
use Rattle.registers.specs.Held.{bank_bytes}
use Rattle.differences.specs.Groups.{differs_at, active_values, Pair, ◌against◌, groups, in_groups, compared, same}

-- ---- one group

pub group-same : (n g : ℕ) (xs ys : List ℕ) (ps : List Pair) (none : Compared) → length xs ≤ differs_at xs ys
    → in_groups n g ((xs against ys) ∷ ps) none ≡ in_groups n (suc g) ps none
unfolding in_groups
group-same n g xs ys ps none l = rw (le-ltb (differs_at xs ys) (length xs) l)

pub no-group : (n g : ℕ) (none : Compared) → in_groups n g [] none ≡ none
unfolding in_groups
no-group n g none = refl

-- of one byte
module _ (n g x y : ℕ) (ps : List Pair) (none : Compared) where
  abbrev rest : Compared
  rest = in_groups n (suc g) ps none

  byte-group : in_groups n g (((x ∷ []) against (y ∷ [])) ∷ ps) none ≡ cond (eqb x y) rest (compared 0 n g 0)
  unfolding in_groups differs_at
  byte-group = go (eqb x y)
    where
      go : (b : Bool) → cond (ltb (cond b 1 0) 1) (compared 0 n g (cond b 1 0)) rest ≡ cond b rest (compared 0 n g 0)
      go true = refl
      go false = refl

  pub byte-same : x ≡ y → in_groups n g (((x ∷ []) against (y ∷ [])) ∷ ps) none ≡ rest
  byte-same e = byte-group ∙ ap (λ (b : Bool). cond b rest (compared 0 n g 0)) (eq-eqb x y e)

-- ---- a device

module _ (n : ℕ) (o : Own) (d : Device) where
  abbrev byte : ℕ
  byte = differs_at o.calibration (bank_bytes d.registers)

  abbrev value : ℕ
  value = differs_at o.individual (active_values o.configuration d)

  abbrev values : List Pair
  values = (o.individual against (active_values o.configuration d)) ∷ []

  -- the answer with what follows the bytes
  abbrev by : Compared → Compared
  by after = cond (eqb o.configuration d.registers.configuration) (cond (ltb byte (length o.calibration)) (compared 0 n 2 byte) after) (compared 0 n 1 0)

  -- by the tests of the four groups
  pub found_by : in_groups n 1 (groups o d) same
      ≡ by (cond (eqb o.global d.registers.active) (cond (ltb value (length o.individual)) (compared 0 n 4 value) same) (compared 0 n 3 0))
  unfolding in_groups
  found_by =
      byte-group n 1 o.configuration d.registers.configuration
      ((o.calibration against (bank_bytes d.registers)) ∷ ((o.global ∷ []) against (d.registers.active ∷ [])) ∷ values) same
      ∙ ap by (byte-group n 3 o.global d.registers.active values same)
