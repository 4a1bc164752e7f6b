-- What is each device's own, device by device: one device more is the device behind the others, and of equal bytes and values each device has the
-- same. By induction on the devices. Assumes nothing.
use mathlib.Core.Path.{◌≡◌, refl, sym, ap, ap₂, ◌∙◌}
use mathlib.Core.List.{List, [], ◌∷◌, ◌++◌}
use Prim.Native.Nat.{ℕ, zero, suc, ◌+◌, ◌*◌}
use native.Mathlib.Nat.{zero-mul, suc-mul}
use native.Mathlib.Omega.{arith}
use lib.ListN.{take, drop, replicate, length-replicate}
use lib.Seq.{drop-drop, drop_at}
use Rattle.parts.specs.Parts.{Part, multiplex, slice_fields}
use Rattle.parts.specs.declared.command.Command.TheVariants.{Individual}
use Rattle.model.specs.Set.{Own, own_of, own_from}
use Rattle.model.proofs.Lists.{take-replicate, replicate-row}

-- ---- lists by rows of k

drop-row : (k n : ℕ) (l : List ℕ) → drop (n * k) (drop k l) ≡ drop (suc n * k) l
drop-row k n l =
    let e : k + n * k ≡ suc n * k = omega (arith, suc-mul n k) in
    drop-drop (n * k) k l ∙ ap (λ (m : ℕ). drop m l) e

drop-none : (k : ℕ) (l : List ℕ) → l ≡ drop (0 * k) l
drop-none k l = ap (λ (m : ℕ). drop m l) (sym (zero-mul k))

take-equal : (n k v : ℕ) → take k (replicate (suc n * k) v) ≡ replicate k v
take-equal n k v = take-replicate k (suc n * k) v (omega (arith, suc-mul n k))

drop-equal : (n k v : ℕ) → drop k (replicate (suc n * k) v) ≡ replicate (n * k) v
drop-equal n k v = ap (drop k) (replicate-row n k v) ∙ drop_at (replicate k v) (replicate (n * k) v) k (length-replicate k v)

-- ---- devices

module _ (p : Part) (configuration global : ℕ) where
  abbrev each : ℕ
  each = slice_fields p Individual (multiplex configuration)

  -- a device's own, by its bytes and values
  abbrev own_with : List ℕ → List ℕ → Own
  own_with bytes values = own_of configuration bytes global values

  -- what is device n's own, counted from 0
  abbrev pub own_at : List ℕ → List ℕ → ℕ → Own
  own_at bytes values n = own_with (take p.banks (drop (n * p.banks) bytes)) (take each (drop (n * each) values))

  pub own_from-last : (n : ℕ) (bytes values : List ℕ)
      → own_from p (suc n) configuration global bytes values ≡ own_from p n configuration global bytes values ++ (own_at bytes values n ∷ [])
  unfolding own_from
  own_from-last zero bytes values =
      ap₂ (λ (x y : List ℕ). own_with (take p.banks x) (take each y) ∷ []) (drop-none p.banks bytes) (drop-none each values)
  own_from-last (suc n) bytes values =
      ap (λ (os : List Own). own_with (take p.banks bytes) (take each values) ∷ os)
      (own_from-last n (drop p.banks bytes) (drop each values)
      ∙ ap₂
      (λ (x y : List ℕ). own_from p n configuration global (drop p.banks bytes) (drop each values) ++ (own_with (take p.banks x) (take each y) ∷ []))
      (drop-row p.banks n bytes) (drop-row each n values))

  pub own_from-equal : (n b v : ℕ)
      → own_from p n configuration global (replicate (n * p.banks) b) (replicate (n * each) v) ≡ replicate n (own_with (replicate p.banks b) (replicate each v))
  unfolding own_from
  own_from-equal zero b v = refl
  own_from-equal (suc n) b v =
      ap₂ (λ (o : Own) (os : List Own). o ∷ os) (ap₂ own_with (take-equal n p.banks b) (take-equal n each v))
      (ap₂ (own_from p n configuration global) (drop-equal n p.banks b) (drop-equal n each v) ∙ own_from-equal n b v)
