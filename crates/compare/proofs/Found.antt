-- One device more in a comparison: by its groups the answer is found there, or it is that of the devices after it. Assumes nothing.
use mathlib.Core.Path.{◌≡◌, refl, ap, sym, ◌∙◌}
use mathlib.Core.Bool.{Bool, true, false, cond}
use mathlib.Core.List.{List, [], ◌∷◌}
use Prim.Native.Nat.{ℕ, suc, ◌+◌, ◌-◌, ◌<◌, ◌≤◌}
use native.Mathlib.Numerals.{add-one}
use native.Mathlib.Omega.{arith}
use lib.Dec.{eqb, ltb}
use lib.ListN.{length, get_or, take, drop}
use lib.Seq.{drop-cons}
use borrow.Author.Tests.{eq-eqb, ne_eqb}
use Rattle.parts.specs.Parts.{Part, multiplex, slice_fields}
use Rattle.parts.specs.declared.command.Command.TheVariants.{Individual}
use Rattle.device.specs.declared.device.Device.{Device}
use Rattle.model.specs.Set.{own_of, own_from}
use Rattle.differences.specs.declared.compared.Compared.{Compared}
use Rattle.differences.specs.Groups.{differs_at, Pair, ◌against◌, groups, in_groups, compared, same}
use Rattle.compare.specs.Compare.{difference}

-- what follows a device is answered exactly where its own answer has no group
pub in_groups-none : (n g : ℕ) (ps : List Pair) (none : Compared)
    → in_groups n (suc g) ps none ≡ cond (eqb (in_groups n (suc g) ps same).group 0) none (in_groups n (suc g) ps same)
unfolding in_groups
in_groups-none n g [] none = refl
in_groups-none n g ((xs against ys) ∷ ps) none = go (ltb (differs_at xs ys) (length xs)) (in_groups-none n (suc g) ps none)
  where
    found : Bool → Compared
    found b = cond b (compared 0 n (suc g) (differs_at xs ys)) (in_groups n (suc (suc g)) ps same)

    go : (b : Bool)
        → in_groups n (suc (suc g)) ps none ≡ cond (eqb (in_groups n (suc (suc g)) ps same).group 0) none (in_groups n (suc (suc g)) ps same)
        → cond b (compared 0 n (suc g) (differs_at xs ys)) (in_groups n (suc (suc g)) ps none)
        ≡ cond (eqb (found b).group 0) none (found b)
    go true e = ap (λ (b : Bool). cond b none (compared 0 n (suc g) (differs_at xs ys))) (sym (ne_eqb (suc g) 0 (λ z. omega (arith, z))))
    go false e = e

-- the answer of the devices from number n + 1 on, of which so many are left, with what bytes and values of the set are left
module _ (p : Part) (configuration global : ℕ) where
  abbrev fields : ℕ
  fields = slice_fields p Individual (multiplex configuration)

  abbrev pub from : ℕ → ℕ → List ℕ → List ℕ → List Device → Compared
  from n left bytes values ds = difference (suc n) (own_from p left configuration global bytes values) ds

  module _ (n left : ℕ) (bytes values : List ℕ) (d : Device) (ds : List Device) where
    -- the answer of the next device
    abbrev pub next : Compared
    next = in_groups (suc n) 1 (groups (own_of configuration (take p.banks bytes) global (take fields values)) d) same

    from-next : from n (suc left) bytes values (d ∷ ds) ≡ cond (eqb next.group 0) (from (suc n) left (drop p.banks bytes) (drop fields values) ds) next
    unfolding difference own_from
    from-next = in_groups-none (suc n) 0 (groups (own_of configuration (take p.banks bytes) global (take fields values)) d) (from (suc n) left (drop p.banks bytes) (drop fields values) ds)

  -- before the first device
  pub from-start : (devices : ℕ) (bytes values : List ℕ) (ds : List Device) → devices ≡ length ds
      → difference 1 (own_from p devices configuration global bytes values) ds ≡ from 0 (length ds - 0) bytes values ds
  from-start devices bytes values ds e =
      let all : devices ≡ length ds - 0 = omega arith in
      ap (λ (left : ℕ). from 0 left bytes values ds) all

  -- behind the last one
  pub from-end : (n : ℕ) (bytes values : List ℕ) (ds : List Device) → length ds ≤ n → from n (length ds - n) bytes values (drop n ds) ≡ same
  unfolding difference own_from
  from-end n bytes values ds h = let none : length ds - n ≡ 0 = omega arith in rw none

  -- at device n + 1
  module _ (n : ℕ) (bytes values : List ℕ) (ds : List Device) (z : Device) (h : n < length ds) where
    abbrev pub here : Compared
    here = in_groups (n + 1) 1 (groups (own_of configuration (take p.banks bytes) global (take fields values)) (get_or ds n z)) same

    abbrev after : Compared
    after = from (n + 1) (length ds - (n + 1)) (drop p.banks bytes) (drop fields values) (drop (n + 1) ds)

    from-here : from n (length ds - n) bytes values (drop n ds) ≡ cond (eqb here.group 0) after here
    from-here =
        let left : length ds - n ≡ suc (length ds - (n + 1)) = omega arith in
        rw (left, add-one, drop-cons ds n z h) (from-next n (length ds - suc n) bytes values (get_or ds n z) (drop (suc n) ds))

    pub goes-on : here.group ≡ 0 → from n (length ds - n) bytes values (drop n ds) ≡ after
    goes-on e = from-here ∙ ap (λ (b : Bool). cond b after here) (eq-eqb here.group 0 e)

    pub ends-here : (here.group ≡ 0 → ⊥) → from n (length ds - n) bytes values (drop n ds) ≡ here
    ends-here e = from-here ∙ ap (λ (b : Bool). cond b after here) (ne_eqb here.group 0 e)
