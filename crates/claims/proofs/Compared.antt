-- The claims about a comparison. By induction on the devices: the first either names its own first difference, or holds what is its own, and then
-- the answer is that of the devices after it.
use mathlib.Core.Path.{◌≡◌, refl, ap, sym, subst, ◌∙◌}
use mathlib.Core.Bool.{Bool, true, false, cond}
use mathlib.Core.List.{List, [], ◌∷◌}
use Prim.Native.Nat.{ℕ, suc, ◌+◌, ◌-◌, ◌<◌}
use native.Mathlib.Omega.{arith}
use lib.Dec.{eqb}
use lib.ListN.{length, take, get_or}
use borrow.Author.Tests.{eqb-true, eqb-false, eq-eqb}
use Rattle.parts.specs.Parts.{Part, part_of}
use Rattle.device.specs.declared.device.Device.{Device}
use Rattle.calls.specs.Chain.{blank}
use Rattle.model.specs.Lists.{All, Pairwise}
use Rattle.model.specs.Set.{Set, Own, owned}
use Rattle.model.proofs.Set.{length-owned}
use Rattle.link.specs.View.{Arrays, Holds}
use Rattle.differences.specs.declared.compared.Compared.{Compared}
use Rattle.differences.specs.Groups.{differs_at, Pair, groups, in_groups, compared, same}
use Rattle.compare.specs.Compare.{difference, compare_refusal, comparison}
use Rattle.sets.specs.Sets.{set_numbers}
use Rattle.compare.specs.Differences.{of_set, of_device, DiffersFirst, FirstDifference}
use Rattle.claims.specs.Claims.{SameHolds, HoldsSame, Named}
use Rattle.differences.proofs.Lists.{differs-first}
use Rattle.compare.proofs.Holding.{Sized, own_from-sized, sides, equal-holds, holds-groups, groups-equal, GroupAt, group-named, nowhere}
use Rattle.compare.proofs.Found.{in_groups-none}
use Rattle.compare.proofs.Judged.{lists_long, accepted-part}

-- ---- the devices

-- as many of one as of the other, all of one part, each with lists of the lengths that it should have
record Comparable (part : ℕ) (os : List Own) (ds : List Device) : Type 0 where
  pub sized : All (Sized (part_of part)) os
  pub parts : All (λ d. d.registers.part ≡ part) ds
  pub arrays : All Arrays ds
  pub lengths : length os ≡ length ds

comparable-rest : {part : ℕ} {o : Own} {os : List Own} {d : Device} {ds : List Device} → Comparable part (o ∷ os) (d ∷ ds) → Comparable part os ds
comparable-rest c = let l = c.lengths in record { sized = c.sized.1; parts = c.parts.1; arrays = c.arrays.1; lengths = omega (arith, l) }

-- the first device, where none of its groups differs
first_holds : (part n : ℕ) (o : Own) (os : List Own) (d : Device) (ds : List Device) → Comparable part (o ∷ os) (d ∷ ds) → eqb (in_groups n 1 (groups o d) same).group 0 ≡ true → Holds o d
first_holds part n o os d ds c f =
    equal-holds o d part c.parts.0 c.sized.0 c.arrays.0
    (groups-equal n 0 (groups o d) (sides o d part c.parts.0 c.sized.0 c.arrays.0) f)

difference-holds : (part n : ℕ) (os : List Own) (ds : List Device) → Comparable part os ds → difference n os ds ≡ same → Pairwise Holds os ds
unfolding difference
difference-holds part n [] [] c e = tt
difference-holds part n [] (d ∷ ds) c e = absurd (omega (arith, c.lengths))
difference-holds part n (o ∷ os) [] c e = absurd (omega (arith, c.lengths))
difference-holds part n (o ∷ os) (d ∷ ds) c e =
    go (eqb (in_groups n 1 (groups o d) same).group 0) refl (difference-holds part (suc n) os ds (comparable-rest c))
    (sym (in_groups-none n 0 (groups o d) (difference (suc n) os ds)) ∙ e)
  where
    go : (b : Bool) → eqb (in_groups n 1 (groups o d) same).group 0 ≡ b → (difference (suc n) os ds ≡ same → Pairwise Holds os ds)
        → cond b (difference (suc n) os ds) (in_groups n 1 (groups o d) same) ≡ same → Holds o d × Pairwise Holds os ds
    go true f ih z = (first_holds part n o os d ds c f, ih z)
    go false f ih z = absurd (eqb-false (in_groups n 1 (groups o d) same).group 0 f (ap (λ (a : Compared). a.group) z))

holds-difference : (p : Part) (n : ℕ) (os : List Own) (ds : List Device) → All (Sized p) os → Pairwise Holds os ds → difference n os ds ≡ same
unfolding difference
holds-difference p n [] [] s h = refl
holds-difference p n [] (d ∷ ds) s h = absurd h
holds-difference p n (o ∷ os) [] s h = absurd h
holds-difference p n (o ∷ os) (d ∷ ds) s h = holds-groups o d p n (difference (suc n) os ds) s.0 h.0 ∙ holds-difference p (suc n) os ds s.1 h.1

-- the device that is named, from 0, and its group and place
record DeviceAt (n : ℕ) (z : Own) (os : List Own) (ds : List Device) (a : Compared) (i h : ℕ) : Type 0 where
  pub inside : i < length ds
  pub before : Pairwise Holds (take i os) (take i ds)
  pub group : GroupAt (n + i) 0 (groups (get_or os i z) (get_or ds i blank)) a h

device-named : {A : Type 0} (part : ℕ) (z : Own) (n : ℕ) (os : List Own) (ds : List Device) → Comparable part os ds
    → (difference n os ds ≡ same → ⊥) → ((i h : ℕ) → DeviceAt n z os ds (difference n os ds) i h → A) → A
unfolding difference
device-named part z n [] ds c e k = absurd (e refl)
device-named part z n (o ∷ os) [] c e k = absurd (omega (arith, c.lengths))
device-named {A} part z n (o ∷ os) (d ∷ ds) c e k =
    go (eqb (in_groups n 1 (groups o d) same).group 0) refl (device-named part z (suc n) os ds (comparable-rest c))
  where
    apart : difference n (o ∷ os) (d ∷ ds) ≡ cond (eqb (in_groups n 1 (groups o d) same).group 0) (difference (suc n) os ds) (in_groups n 1 (groups o d) same)
    apart = in_groups-none n 0 (groups o d) (difference (suc n) os ds)

    by : (b : Bool) → eqb (in_groups n 1 (groups o d) same).group 0 ≡ b → difference n (o ∷ os) (d ∷ ds) ≡ cond b (difference (suc n) os ds) (in_groups n 1 (groups o d) same)
    by b f = apart ∙ ap (λ (u : Bool). cond u (difference (suc n) os ds) (in_groups n 1 (groups o d) same)) f

    go : (b : Bool) → eqb (in_groups n 1 (groups o d) same).group 0 ≡ b
        → ((difference (suc n) os ds ≡ same → ⊥) → ((i h : ℕ) → DeviceAt (suc n) z os ds (difference (suc n) os ds) i h → A) → A) → A
    go true f ih =
        ih (λ q. e (by true f ∙ q)) (λ i h q.
        let m : suc n + i ≡ n + suc i = omega arith in
        k (suc i) h (record {
          inside = omega (arith, q.inside);
          before = (first_holds part n o os d ds c f, q.before);
          group = subst (λ (u : ℕ). GroupAt u 0 (groups (get_or os i z) (get_or ds i blank)) (difference n (o ∷ os) (d ∷ ds)) h) m
              (subst (λ (a : Compared). GroupAt (suc n + i) 0 (groups (get_or os i z) (get_or ds i blank)) a h) (sym (by true f)) q.group);
        }))
    go false f ih =
        group-named n 0 (groups o d) (sides o d part c.parts.0 c.sized.0 c.arrays.0) f (λ h q.
        let m : n ≡ n + 0 = omega arith in
        k 0 h (record {
          inside = omega arith;
          before = tt;
          group = subst (λ (u : ℕ). GroupAt u 0 (groups o d) (difference n (o ∷ os) (d ∷ ds)) h) m
              (subst (λ (a : Compared). GroupAt n 0 (groups o d) a h) (sym (by false f)) q);
        }))

-- ---- the claims

module _ (s : Set) (ds : List Device) where
  abbrev os : List Own
  os = owned s

  abbrev number : ℕ
  number = compare_refusal s ds

  accepted : number ≡ 0 → comparison s ds ≡ difference 1 os ds
  unfolding comparison
  accepted e = ap (λ (b : Bool). cond b (difference 1 os ds) (compared number 0 0 0)) (eq-eqb number 0 e)

  same-accepted : comparison s ds ≡ same → number ≡ 0
  unfolding comparison
  same-accepted e = go (eqb number 0) refl e
    where
      go : (b : Bool) → eqb number 0 ≡ b → cond b (difference 1 os ds) (compared number 0 0 0) ≡ same → number ≡ 0
      go true f k = eqb-true number 0 f
      go false f k = ap (λ (a : Compared). a.refusal) k

  module _ (e : number ≡ 0) where
    sized : All (Sized (part_of s.part)) os
    unfolding owned
    sized =
        let l = lists_long (set_numbers s.part s.devices s.configuration s.global) s.calibration s.individual ds e in
        own_from-sized (part_of s.part) s.devices s.configuration s.global s.calibration s.individual (sym l.bytes_in) (sym l.values_in)

    long : length os ≡ length ds
    long = length-owned s ∙ (lists_long (set_numbers s.part s.devices s.configuration s.global) s.calibration s.individual ds e).devices

    comparable : All Arrays ds → Comparable s.part os ds
    comparable r = record { sized = sized; parts = accepted-part (set_numbers s.part s.devices s.configuration s.global) s.calibration s.individual ds e; arrays = r; lengths = long }

pub same-holds : SameHolds
same-holds s ds r e =
    let a : compare_refusal s ds ≡ 0 = same-accepted s ds e in
    difference-holds s.part 1 (owned s) ds (comparable s ds a r)
    (sym (accepted s ds a) ∙ e)

pub holds_same_lem : HoldsSame
holds_same_lem s ds a h =
    accepted s ds a ∙ holds-difference (part_of s.part) 1 (owned s) ds (sized s ds a) h

-- an answer that names a device, a group and a place
first-named : (z : Own) (os : List Own) (ds : List Device) (a : Compared) (i h : ℕ) → DeviceAt 1 z os ds a i h → FirstDifference a z os ds
first-named z os ds a i h q =
    let f = differs-first (of_set pair) (of_device pair) q.group.long q.group.differs in
    let first : DiffersFirst i h k z os ds =
    record { devices_before = q.before; groups_before = q.group.before; places_before = f.before; within = q.group.differs; differs = f.there } in
    subst (λ (r : Compared). FirstDifference r z os ds) (sym q.group.answer)
    (record {
      accepted = refl;
      device = (omega arith, omega (arith, q.inside));
      group = (omega arith, omega (arith, q.group.inside));
      first = subst (λ (n : ℕ). DiffersFirst n (1 + h - 1) k z os ds) (less_one i) (subst (λ (n : ℕ). DiffersFirst i n k z os ds) (less_one h) first);
    })
  where
    pair : Pair
    pair = get_or (groups (get_or os i z) (get_or ds i blank)) h nowhere

    k : ℕ
    k = differs_at (of_set pair) (of_device pair)

    less_one : (n : ℕ) → n ≡ 1 + n - 1
    less_one n = omega arith

pub named : Named
named s ds z r a n =
    device-named s.part z 1 (owned s) ds (comparable s ds a r)
    (λ q. n (accepted s ds a ∙ q))
    (λ i h q. subst (λ (c : Compared). FirstDifference c z (owned s) ds) (sym (accepted s ds a))
    (first-named z (owned s) ds (difference 1 (owned s) ds) i h q))
