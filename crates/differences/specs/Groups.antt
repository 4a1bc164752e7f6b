-- One device against what of a set is its own: same, or the first difference. docs/RULES.md, "Is it running?": configuration, calibration,
-- active global, active individual (groups 1 to 4), then the place in that device's slice, from 0. A byte that is repeated is a slice of one
-- here, so its place is 0. Of what a record holds, the calibration of the part's banks and the values of its outputs are compared. Global bytes
-- are compared as stored; MUX1 values count only if the set's D0 is 1.
use Rattle.std.specs.Prelude.{ℕ, suc, Bool, not, cond, List, [], ◌∷◌, eqb, ltb, length}
use Rattle.std.specs.List.{position_or_len, zip}
use Rattle.parts.specs.Parts.{multiplex}
use Rattle.registers.specs.Held.{bank_bytes, output_values}
use Rattle.device.specs.declared.device.Device.{Device}
use Rattle.model.specs.Set.{Own}
use Rattle.differences.specs.declared.compared.Compared.{Compared}

-- the first place at which two lists differ, or the length of the shorter
unfoldable pub differs_at : List ℕ → List ℕ → ℕ
differs_at [] ys = 0
differs_at (x ∷ xs) [] = 0
differs_at (x ∷ xs) (y ∷ ys) = cond (eqb x y) (suc (differs_at xs ys)) 0

-- the same of lists of any kind, by what it is for two of their items to be equal
abbrev pub differs_by : {A : Type 0} → (A → A → Bool) → List A → List A → ℕ
differs_by eq xs ys = position_or_len (λ p. not (eq p.0 p.1)) (zip xs ys)

-- two lists in turns
unfoldable pub in_turns : List ℕ → List ℕ → List ℕ
in_turns [] ys = []
in_turns (x ∷ xs) [] = []
in_turns (x ∷ xs) (y ∷ ys) = x ∷ y ∷ in_turns xs ys

-- a device's active values in wire order, by the set's multiplex bit
abbrev pub active_values : ℕ → Device → List ℕ
active_values configuration d =
    cond (eqb (multiplex configuration) 0) (output_values d.registers d.registers.active0)
    (in_turns (output_values d.registers d.registers.active0) (output_values d.registers d.registers.active1))

-- what is compared, in order: what the set has and what the device holds
infix 20 ◌against◌
pub data Pair : Type 0 where
  ◌against◌ : List ℕ → List ℕ → Pair

-- the four groups of a device: configuration, calibration, active global, active individual
abbrev pub groups : Own → Device → List Pair
groups o d =
    ((o.configuration ∷ []) against (d.registers.configuration ∷ []))
    ∷ (o.calibration against (bank_bytes d.registers)) ∷ ((o.global ∷ []) against (d.registers.active ∷ []))
    ∷ (o.individual against (active_values o.configuration d))
    ∷ []

-- an answer: the refusal's number, the device's number, the group and the place; all 0 where they are the same
abbrev pub compared : ℕ → ℕ → ℕ → ℕ → Compared
compared refusal device group place = record { refusal = refusal; device = device; group = group; place = place }

-- no refusal and no difference
abbrev pub same : Compared
same = compared 0 0 0 0

-- the first group that differs, from group g on
unfoldable pub in_groups : ℕ → ℕ → List Pair → Compared → Compared
in_groups n g [] none = none
in_groups n g ((xs against ys) ∷ ps) none =
    cond (ltb (differs_at xs ys) (length xs)) (compared 0 n g (differs_at xs ys)) (in_groups n (suc g) ps none)
