-- What it is to differ first: the device, the group and the place before which everything is the set's, and where the two differ. The claims
-- about a comparison are stated with these.
use Rattle.std.specs.Prelude.{ℕ, ◌-◌, ◌<◌, ◌≤◌, ◌≡◌, List, [], length, take, get_or}
use Rattle.device.specs.declared.device.Device.{Device}
use Rattle.calls.specs.Chain.{blank}
use Rattle.model.specs.Lists.{All, Pairwise}
use Rattle.model.specs.Set.{Own}
use Rattle.link.specs.View.{Holds}
use Rattle.differences.specs.declared.compared.Compared.{Compared}
use Rattle.differences.specs.Groups.{Pair, ◌against◌, groups}

-- the two sides of what is compared
abbrev pub of_set : Pair → List ℕ
of_set (xs against ys) = xs

-- the device's side
abbrev pub of_device : Pair → List ℕ
of_device (xs against ys) = ys

-- what is compared of device i, and of that group h, both from 0 (o stands where there is no device)
abbrev pub pairs_of : Own → List Own → List Device → ℕ → List Pair
pairs_of o os ds i = groups (get_or os i o) (get_or ds i blank)

-- one group of them
abbrev pub pair_of : Own → List Own → List Device → ℕ → ℕ → Pair
pair_of o os ds i h = get_or (pairs_of o os ds i) h ([] against [])

-- device i, group h and place k, each from 0, is where a set and a chain differ first: the devices before that one hold what is theirs, its
-- groups before that one are the set's, and so are the places before that one; there the two differ
pub record DiffersFirst (i h k : ℕ) (o : Own) (os : List Own) (ds : List Device) : Type 0 where
  pub devices_before : Pairwise Holds (take i os) (take i ds)
  pub groups_before : All (λ p. of_set p ≡ of_device p) (take h (pairs_of o os ds i))
  pub places_before : take k (of_set (pair_of o os ds i h)) ≡ take k (of_device (pair_of o os ds i h))
  pub within : k < length (of_set (pair_of o os ds i h))
  pub differs : get_or (of_set (pair_of o os ds i h)) k 0 ≡ get_or (of_device (pair_of o os ds i h)) k 0 → ⊥

-- the answer names it; devices and groups are counted from 1
pub record FirstDifference (r : Compared) (o : Own) (os : List Own) (ds : List Device) : Type 0 where
  pub accepted : r.refusal ≡ 0
  pub device : (1 ≤ r.device) × (r.device ≤ length ds)
  pub group : (1 ≤ r.group) × (r.group ≤ 4)
  pub first : DiffersFirst (r.device - 1) (r.group - 1) r.place o os ds
