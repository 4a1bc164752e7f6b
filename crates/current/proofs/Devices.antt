-- What the devices of a sign draw, by what is each one's own, is the closed form at each device's places in the sign's lists: an element of a part
-- of a list is one of the list. By induction on the devices. Assumes nothing.
use mathlib.Core.Path.{◌≡◌, refl, sym, ap, ap₂, ◌∙◌}
use mathlib.Core.List.{List, [], ◌∷◌, ◌++◌, map, flatten, map-append, append_assoc, append-nil}
use Prim.Native.Nat.{ℕ, zero, suc, ◌+◌, ◌*◌, ◌<◌}
use native.Mathlib.Nat.{zero-add, mul_assoc, mul_comm}
use native.Mathlib.Omega.{arith}
use lib.ListN.{get_or, take, drop}
use lib.Seq.{get_or-take, get_or-drop}
use Rattle.parts.specs.Parts.{Part, subframes, multiplex, phase_count, slice_fields}
use Rattle.parts.specs.declared.command.Command.TheVariants.{Individual}
use Rattle.schedule.specs.Light.{total}
use Rattle.model.specs.Set.{Own, own_from}
use Rattle.model.proofs.Devices.{own_at, own_from-last}
use Rattle.current.specs.declared.drive.Drive.{Drive}
use Rattle.current.specs.Current.{drawn, figure, sum, totals_of}
use Rattle.current.specs.Closed.{inside, bank_clocks, drive_of, bank_total, closed_total, closed_at, closed_sum, closed_figures}
use Rattle.schedule.proofs.Sums.{total-same, row-place}
use Rattle.current.proofs.Closed.{closed-drawn}

-- ---- lists

sum-append : (xs : List ℕ) (y : ℕ) → sum (xs ++ (y ∷ [])) ≡ sum xs + y
sum-append [] y = omega arith
sum-append (x ∷ xs) y = omega (arith, sum-append xs y)

flatten-append : (xs : List (List ℕ)) (y : List ℕ) → flatten (xs ++ (y ∷ [])) ≡ flatten xs ++ y
unfolding flatten
flatten-append [] y = append-nil y
flatten-append (x ∷ xs) y = ap (λ (l : List ℕ). x ++ l) (flatten-append xs y) ∙ sym (append_assoc x (flatten xs) y)

pub get_or-part : (n at : ℕ) (l : List ℕ) (i : ℕ) → i < n → get_or (take n (drop at l)) i 0 ≡ get_or l (at + i) 0
get_or-part n at l i h = get_or-take n (drop at l) i 0 h ∙ get_or-drop at l i 0

-- ---- a drive reads its device's part of a list only

module _ (d : Drive) (calibration : List ℕ) (bytes : ℕ) (individual : List ℕ) (values : ℕ) where
  abbrev bytes_of : List ℕ
  bytes_of = take d.banks (drop bytes calibration)

  abbrev values_of : List ℕ
  values_of = take (d.banks * d.each) (drop values individual)

  clocks-taken : (bank : ℕ) → bank < d.banks
      → bank_clocks d.edge d.end values_of (0 + bank * d.each) d.each ≡ bank_clocks d.edge d.end individual (values + bank * d.each) d.each
  clocks-taken bank h =
      total-same (λ i. inside d.edge d.end (get_or values_of (0 + bank * d.each + i) 0))
      (λ i. inside d.edge d.end (get_or individual (values + bank * d.each + i) 0)) d.each
      (λ i k.
      ap (inside d.edge d.end)
      (get_or-part (d.banks * d.each) values individual (0 + bank * d.each + i) (row-place d.banks d.each bank i h k)
      ∙ ap (λ (j : ℕ). get_or individual j 0) (omega arith)))

  byte-taken : (bank : ℕ) → bank < d.banks → get_or bytes_of (0 + bank) 0 ≡ get_or calibration (bytes + bank) 0
  byte-taken bank h =
      ap (λ (i : ℕ). get_or bytes_of i 0) (zero-add bank) ∙ get_or-part d.banks bytes calibration bank h

  closed_total-taken : closed_total d bytes_of 0 values_of 0 ≡ closed_total d calibration bytes individual values
  closed_total-taken =
      ap (λ (n : ℕ). d.repeats * n)
      (total-same (bank_total d bytes_of 0 values_of 0) (bank_total d calibration bytes individual values) d.banks
      (λ bank h. ap₂ (λ (m n : ℕ). m * (d.least + d.step * n)) (clocks-taken bank h) (byte-taken bank h)))

-- ---- what is dealt

-- a device's values: each of its banks has eight outputs, in one phase or in two
pub fields-banks : (p : Part) (configuration : ℕ) → slice_fields p Individual (multiplex configuration) ≡ p.banks * (8 * phase_count configuration)
fields-banks p configuration = ap (λ (n : ℕ). n * phase_count configuration) (mul_comm 8 p.banks) ∙ mul_assoc p.banks 8 (phase_count configuration)

module _ (p : Part) (configuration global : ℕ) where
  module _ (h : global < subframes p configuration) (bytes values : List ℕ) where
    abbrev drive : Drive
    drive = drive_of p configuration global

    own-drawn : (n : ℕ) → drawn p (own_at p configuration global bytes values n) ≡ closed_at drive bytes values n
    own-drawn n =
        closed-drawn p (own_at p configuration global bytes values n) h
        ∙ ap (λ (k : ℕ). closed_total drive (take p.banks (drop (n * p.banks) bytes)) 0 (take k (drop (n * k) values)) 0) (fields-banks p configuration)
        ∙ closed_total-taken drive bytes (n * p.banks) values (n * (p.banks * (8 * phase_count configuration)))

    totals-last : (n : ℕ)
        → totals_of p (own_from p (suc n) configuration global bytes values)
        ≡ totals_of p (own_from p n configuration global bytes values) ++ (closed_at drive bytes values n ∷ [])
    totals-last n =
        ap (totals_of p) (own_from-last p configuration global n bytes values) ∙ map-append (drawn p) (own_from p n configuration global bytes values) (own_at p configuration global bytes values n ∷ [])
        ∙ ap (λ (x : ℕ). totals_of p (own_from p n configuration global bytes values) ++ (x ∷ [])) (own-drawn n)

    -- the sum of the first n devices
    pub closed-sum : (n : ℕ) → closed_sum drive bytes values n ≡ sum (totals_of p (own_from p n configuration global bytes values))
    unfolding total own_from
    closed-sum zero = refl
    closed-sum (suc n) =
        let os : List Own = own_from p n configuration global bytes values in
        ap (λ (k : ℕ). k + closed_at drive bytes values n) (closed-sum n)
        ∙ sym (ap sum (totals-last n) ∙ sum-append (totals_of p os) (closed_at drive bytes values n))

    -- and their figures
    pub closed-figures : (n : ℕ) → closed_figures drive bytes values n ≡ flatten (map figure (totals_of p (own_from p n configuration global bytes values)))
    unfolding closed_figures flatten own_from
    closed-figures zero = refl
    closed-figures (suc n) =
        let totals : List ℕ = totals_of p (own_from p n configuration global bytes values) in
        let last : ℕ = closed_at drive bytes values n in
        ap (λ (l : List ℕ). l ++ figure last) (closed-figures n)
        ∙ sym
        (ap (λ (l : List ℕ). flatten (map figure l)) (totals-last n) ∙ ap flatten (map-append figure totals (last ∷ []))
        ∙ flatten-append (map figure totals) (figure last))
