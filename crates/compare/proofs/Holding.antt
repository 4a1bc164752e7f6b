-- One device: its groups differ nowhere exactly where its registers in use are its own; and the group that an answer names. The lengths of
-- what is a device's own, by induction on the devices.
use mathlib.Core.Path.{◌≡◌, refl, ap, sym, subst, ◌∙◌}
use mathlib.Core.Bool.{Bool, true, false, cond, true≢false}
use mathlib.Core.List.{List, [], ◌∷◌}
use Prim.Native.Nat.{ℕ, zero, suc, ◌+◌, ◌*◌, ◌%◌, ◌<◌, ◌≤◌}
use native.Mathlib.Nat.{suc-mul}
use native.Mathlib.Omega.{arith}
use lib.Dec.{eqb, ltb}
use lib.ListN.{length, take, drop, get_or, length-drop}
use lib.Seq.{length-take-le}
use borrow.Author.Tests.{ltb-true, ltb-false, eqb-true, eqb-false, ne_eqb}
use Rattle.parts.specs.Parts.{Part, part_of, outputs, multiplex, slice_fields}
use Rattle.parts.specs.declared.command.Command.TheVariants.{Individual}
use Rattle.parts.proofs.Laws.{usable}
use Rattle.parts.proofs.Rows.{outputs-le}
use Rattle.device.specs.declared.device.Device.{Device}
use Rattle.model.specs.Device.{multiplexed, evens, odds}
use Rattle.model.specs.Lists.{All}
use Rattle.model.specs.Restore.{InUse}
use Rattle.model.specs.Set.{Own, own_from}
use Rattle.link.specs.View.{Arrays, Holds}
use Rattle.differences.specs.declared.compared.Compared.{Compared}
use Rattle.registers.specs.Held.{bank_bytes, output_values}
use Rattle.differences.specs.Groups.{differs_at, in_turns, active_values, Pair, ◌against◌, groups, in_groups, compared, same}
use Rattle.compare.specs.Differences.{of_set, of_device}
use Rattle.differences.proofs.Lists.{differs-refl, differs-equal, length-in_turns, evens-in_turns, odds-in_turns, in_turns-halves}
use Rattle.differences.proofs.Groups.{group-same, byte-same, no-group}

-- ---- lengths

-- what is a device's own has the lengths of its part's slices
pub record Sized (p : Part) (o : Own) : Type 0 where
  pub calibration : length o.calibration ≡ p.banks
  pub individual : length o.individual ≡ slice_fields p Individual (multiplex o.configuration)

pub own_from-sized : (p : Part) (n configuration global : ℕ) (bytes values : List ℕ)
    → length bytes ≡ n * p.banks
    → length values ≡ n * slice_fields p Individual (multiplex configuration)
    → All (Sized p) (own_from p n configuration global bytes values)
unfolding own_from
own_from-sized p zero configuration global bytes values b v = tt
own_from-sized p (suc n) configuration global bytes values b v =
    let fields : ℕ = slice_fields p Individual (multiplex configuration) in
    let b' : length bytes ≡ n * p.banks + p.banks = b ∙ suc-mul n p.banks in
    let v' : length values ≡ n * fields + fields = v ∙ suc-mul n fields in (
      record {
        calibration = length-take-le p.banks bytes (omega (arith, b'));
        individual = length-take-le fields values (omega (arith, v'));
      },
      own_from-sized p n configuration global (drop p.banks bytes) (drop fields values)
          (length-drop p.banks bytes ∙ omega (arith, b'))
          (length-drop fields values ∙ omega (arith, v')),
    )

mux-cases : {A : Type 0} (c : ℕ) → (c % 2 ≡ 0 → A) → (c % 2 ≡ 1 → A) → A
mux-cases {A} c f g = go (eqb (c % 2) 0) refl
  where
    go : (b : Bool) → eqb (c % 2) 0 ≡ b → A
    go true e = f (eqb-true (c % 2) 0 e)
    go false e = g (omega (arith, eqb-false (c % 2) 0 e))

-- a value for each output, or two
module _ (p : Part) (o : Own) (s : Sized p o) where
  own-plain : o.configuration % 2 ≡ 0 → length o.individual ≡ outputs p
  own-plain e = s.individual ∙ ap (λ (m : ℕ). outputs p * (1 + m)) e ∙ omega arith

  own-turns : o.configuration % 2 ≡ 1 → length o.individual ≡ outputs p + outputs p
  own-turns e = s.individual ∙ ap (λ (m : ℕ). outputs p * (1 + m)) e ∙ omega arith

module _ (o : Own) (d : Device) where
  abbrev values0 : List ℕ
  values0 = output_values d.registers d.registers.active0

  abbrev values1 : List ℕ
  values1 = output_values d.registers d.registers.active1

  abbrev c : ℕ
  c = o.configuration

  active-plain : c % 2 ≡ 0 → active_values c d ≡ values0
  active-plain e = ap (λ (m : ℕ). cond (eqb m 0) values0 (in_turns values0 values1)) e

  active-turns : c % 2 ≡ 1 → active_values c d ≡ in_turns values0 values1
  active-turns e = ap (λ (m : ℕ). cond (eqb m 0) values0 (in_turns values0 values1)) e

  -- the device is of the set's part, of number n
  module _ (n : ℕ) (of : d.registers.part ≡ n) (s : Sized (part_of n) o) (r : Arrays d) where
    length-bytes : length (bank_bytes d.registers) ≡ (part_of n).banks
    length-bytes =
        let part = d.registers.part in
        length-take-le (part_of part).banks d.registers.calibration (omega (arith, r.calibration, (usable part).few_banks))
        ∙ ap (λ (k : ℕ). (part_of k).banks) of

    length-values : (vs : List ℕ) → length vs ≡ 24 → length (output_values d.registers vs) ≡ outputs (part_of n)
    length-values vs l =
        let part = d.registers.part in
        length-take-le (outputs (part_of part)) vs (omega (arith, l, outputs-le (part_of part) (usable part)))
        ∙ ap (λ (k : ℕ). outputs (part_of k)) of

    lengths : length values0 ≡ length values1
    lengths = length-values d.registers.active0 r.active0 ∙ sym (length-values d.registers.active1 r.active1)

    length-active : length (active_values c d) ≡ length o.individual
    length-active =
        let long = length-values d.registers.active0 r.active0 in
        mux-cases c
        (λ e. ap length (active-plain e) ∙ long ∙ sym (own-plain (part_of n) o s e))
        (λ e. ap length (active-turns e) ∙ length-in_turns values0 values1 lengths ∙ ap (λ (k : ℕ). k + k) long ∙ sym (own-turns (part_of n) o s e))

    -- each group's two sides have one length
    pub sides : All (λ p. length (of_device p) ≡ length (of_set p)) (groups o d)
    sides = (refl, (length-bytes ∙ sym s.calibration, (refl, (length-active, tt))))

    in_use : o.individual ≡ active_values c d → InUse (multiplexed c) o.individual values0 values1
    in_use f =
        mux-cases c
        (λ e. subst (λ (m : ℕ). InUse (eqb m 1) o.individual values0 values1) (sym e) (sym (f ∙ active-plain e)))
        (λ e. subst (λ (m : ℕ). InUse (eqb m 1) o.individual values0 values1) (sym e) (
          sym (ap evens (f ∙ active-turns e) ∙ evens-in_turns values0 values1 lengths),
          sym (ap odds (f ∙ active-turns e) ∙ odds-in_turns values0 values1 lengths),
        ))

    pub equal-holds : All (λ p. of_set p ≡ of_device p) (groups o d) → Holds o d
    equal-holds e =
        record {
          configuration = sym (ap (λ (l : List ℕ). get_or l 0 0) e.0);
          calibration = sym e.1.0;
          global = sym (ap (λ (l : List ℕ). get_or l 0 0) e.1.1.0);
          individual = in_use e.1.1.1.0;
        }

  holds-active : (p : Part) → Sized p o → Holds o d → o.individual ≡ active_values c d
  holds-active p s h =
      mux-cases c
      (λ e. sym (active-plain e ∙ subst (λ (m : ℕ). InUse (eqb m 1) o.individual values0 values1) e h.individual))
      (λ e. let u : InUse true o.individual values0 values1 = subst (λ (m : ℕ). InUse (eqb m 1) o.individual values0 values1) e h.individual in
      sym (active-turns e ∙ ap (λ (l : List ℕ). in_turns l values1) u.0 ∙ ap (λ (l : List ℕ). in_turns (evens o.individual) l) u.1
      ∙ in_turns-halves (outputs p) o.individual (own-turns p o s e)))

  -- a device whose registers in use are its own answers nothing
  pub holds-groups : (p : Part) (n : ℕ) (none : Compared) → Sized p o → Holds o d → in_groups n 1 (groups o d) none ≡ none
  holds-groups p n none s h =
      byte-same n 1 _ _ _ none (sym h.configuration)
      ∙ group-same n 2 o.calibration (bank_bytes d.registers) _ none (not-before o.calibration (bank_bytes d.registers) (sym h.calibration))
      ∙ byte-same n 3 _ _ _ none (sym h.global)
      ∙ group-same n 4 o.individual (active_values c d) _ none (not-before o.individual (active_values c d) (holds-active p s h))
      ∙ no-group n 5 none
    where
      not-before : (xs ys : List ℕ) → xs ≡ ys → length xs ≤ differs_at xs ys
      not-before xs ys e = let k : differs_at xs ys ≡ length xs = ap (differs_at xs) (sym e) ∙ differs-refl xs in omega (arith, k)

-- ---- the groups that an answer names

abbrev pub Long : Pair → Type 0
Long p = length (of_device p) ≡ length (of_set p)

-- no group is named: each is the set's
pub groups-equal : (n g : ℕ) (ps : List Pair) → All Long ps → eqb (in_groups n (suc g) ps same).group 0 ≡ true → All (λ p. of_set p ≡ of_device p) ps
unfolding in_groups
groups-equal n g [] l e = tt
groups-equal n g ((xs against ys) ∷ ps) l e = go (ltb (differs_at xs ys) (length xs)) refl (groups-equal n (suc g) ps l.1) e
  where
    go : (b : Bool) → ltb (differs_at xs ys) (length xs) ≡ b
        → (eqb (in_groups n (suc (suc g)) ps same).group 0 ≡ true → All (λ p. of_set p ≡ of_device p) ps)
        → eqb (cond b (compared 0 n (suc g) (differs_at xs ys)) (in_groups n (suc (suc g)) ps same)).group 0 ≡ true
        → (xs ≡ ys) × All (λ p. of_set p ≡ of_device p) ps
    go true f ih z = absurd (true≢false (sym z ∙ ne_eqb (suc g) 0 (λ k. omega (arith, k))))
    go false f ih z = (differs-equal xs ys l.0 (ltb-false (differs_at xs ys) (length xs) f), ih z)

abbrev pub nowhere : Pair
nowhere = [] against []

-- the group that is named, h after g
pub record GroupAt (n g : ℕ) (ps : List Pair) (a : Compared) (h : ℕ) : Type 0 where
  pub answer : a ≡ compared 0 n (suc g + h) (differs_at (of_set (get_or ps h nowhere)) (of_device (get_or ps h nowhere)))
  pub inside : h < length ps
  pub before : All (λ p. of_set p ≡ of_device p) (take h ps)
  pub long : Long (get_or ps h nowhere)
  pub differs : differs_at (of_set (get_or ps h nowhere)) (of_device (get_or ps h nowhere)) < length (of_set (get_or ps h nowhere))

pub group-named : {A : Type 0} (n g : ℕ) (ps : List Pair) → All Long ps → eqb (in_groups n (suc g) ps same).group 0 ≡ false
    → ((h : ℕ) → GroupAt n g ps (in_groups n (suc g) ps same) h → A) → A
unfolding in_groups
group-named n g [] l e k = absurd (true≢false e)
group-named {A} n g ((xs against ys) ∷ ps) l e k = go (ltb (differs_at xs ys) (length xs)) refl (group-named n (suc g) ps l.1) e k
  where
    go : (b : Bool) → ltb (differs_at xs ys) (length xs) ≡ b
        → (eqb (in_groups n (suc (suc g)) ps same).group 0 ≡ false → ((h : ℕ) → GroupAt n (suc g) ps (in_groups n (suc (suc g)) ps same) h → A) → A)
        → eqb (cond b (compared 0 n (suc g) (differs_at xs ys)) (in_groups n (suc (suc g)) ps same)).group 0 ≡ false
        → ((h : ℕ) → GroupAt n g ((xs against ys) ∷ ps) (cond b (compared 0 n (suc g) (differs_at xs ys)) (in_groups n (suc (suc g)) ps same)) h → A) → A
    go true f ih z r =
        let z : suc g ≡ suc g + 0 = omega arith in
        r 0 (record { answer = ap (λ (m : ℕ). compared 0 n m (differs_at xs ys)) z; inside = omega arith; before = tt; long = l.0; differs = ltb-true (differs_at xs ys) (length xs) f })
    go false f ih z r =
        ih z (λ h q.
        let m : suc (suc g) + h ≡ suc g + suc h = omega arith in
        r (suc h) (record {
          answer = q.answer ∙ ap (λ (m : ℕ). compared 0 n m (differs_at (of_set (get_or ps h nowhere)) (of_device (get_or ps h nowhere)))) m;
          inside = omega (arith, q.inside);
          before = (differs-equal xs ys l.0 (ltb-false (differs_at xs ys) (length xs) f), q.before);
          long = q.long;
          differs = q.differs;
        }))
