-- A comparison's refusal as one pass over the records finds it is the one that Compare says. By cases of the chain: without a record number
-- 2 or a lower one is given before the parts are compared; with one, its part stands for all.
use mathlib.Core.Path.{◌≡◌, refl, ap, ap₂, sym, ◌∙◌}
use mathlib.Core.Bool.{Bool, true, false, ◌&&◌}
use mathlib.Core.List.{List, [], ◌∷◌}
use Prim.Native.Nat.{ℕ}
use lib.Dec.{eqb}
use lib.ListN.{length}
use borrow.Author.Tests.{eqb-true, not-false}
use Rattle.std.specs.Prelude.{Option}
use Rattle.parts.specs.Parts as Parts
use Rattle.tables.specs.Refusals.{first}
use Rattle.tables.proofs.Booleans.{and-true, and-false, and_left, and_right, and_both}
use Rattle.tables.proofs.Rows.{clear}
use Rattle.model.specs.Lists.{All}
use Rattle.sets.proofs.Fits.{lengths-are}
use Rattle.device.specs.declared.device.Device.{Device}
use Rattle.calls.specs.Chain.{has_part, all_known}
use Rattle.parts.specs.Parts.{is_count}
use Rattle.tables.specs.Lists.{every}
use Rattle.judgement.specs.declared.judging.Judged.{Judged}
use Rattle.judgement.specs.Judging.{unjudged, judged_from}
use Rattle.judgement.proofs.Pass.{known-found, fits-found, same-found, part-found}
use Rattle.sets.specs.Sets.{set_by, lengths_fit, settings_fit}
use Rattle.sets.specs.declared.numbers.SetNumbers.{SetNumbers}
use Rattle.compare.specs.Compare.{rows_of, same_chain, compare_table, compare_refusal}
use Rattle.compare.specs.Judging.{begins_with, chain_fits, rows_by, ListsLong}

-- all are of the first one's part, and that is p; or the first is of part p, and all others are
every-part : (q p : ℕ) (ds : List Device) → (every (has_part q) ds && eqb q p) ≡ (eqb q p && every (has_part p) ds)
every-part q p ds = go (eqb q p) refl
  where
    go : (b : Bool) → eqb q p ≡ b → (every (has_part q) ds && b) ≡ (b && every (has_part p) ds)
    go true e = and-true (every (has_part q) ds) ∙ ap (λ (n : ℕ). every (has_part n) ds) (eqb-true q p e)
    go false e = and-false (every (has_part q) ds)

chain-found : (g : SetNumbers) (bytes values : List ℕ) (d : Device) (ds : List Device) → chain_fits g (judged_from unjudged (d ∷ ds)) (length (d ∷ ds)) ≡ same_chain (set_by g bytes values) (d ∷ ds)
chain-found g bytes values d ds =
    ap (λ (b : Bool). eqb (length (d ∷ ds)) g.devices && b)
    (ap₂ (λ (b : Bool) (p : Option ℕ). b && begins_with p g.part) (same-found (d ∷ ds)) (part-found d ds) ∙ every-part d.registers.part g.part ds)

module _ (g : SetNumbers) (bytes values : List ℕ) where
  -- the refusal, by the tests that the records' judgement answers
  abbrev number : Bool → ℕ → Bool → Bool → ℕ
  number known count same fit =
      first (rows_of (Parts.known g.part && known) (is_count g.devices && is_count count)
      (lengths_fit g.part g.devices g.configuration (length bytes) (length values) && same) (settings_fit g.part g.configuration g.global values) fit)

  pub refusal-found : (ds : List Device) → first (rows_by g (length bytes) values (judged_from unjudged ds) (length ds)) ≡ compare_refusal (set_by g bytes values) ds
  unfolding compare_refusal
  refusal-found [] = rw and-false
  refusal-found (d ∷ ds) =
      ap (λ (b : Bool). number b (length (d ∷ ds)) (chain_fits g j (length (d ∷ ds))) j.fits) (known-found unjudged (d ∷ ds))
      ∙ ap (λ (b : Bool). number (all_known (d ∷ ds)) (length (d ∷ ds)) b j.fits) (chain-found g bytes values d ds)
      ∙ ap (λ (b : Bool). number (all_known (d ∷ ds)) (length (d ∷ ds)) (same_chain (set_by g bytes values) (d ∷ ds)) b) (fits-found unjudged (d ∷ ds))
    where
      j : Judged
      j = judged_from unjudged (d ∷ ds)

-- ---- what an accepted comparison has

module _ (g : SetNumbers) (bytes values : List ℕ) (ds : List Device) (e : compare_refusal (set_by g bytes values) ds ≡ 0) where
  abbrev fits : Bool
  fits = lengths_fit g.part g.devices g.configuration (length bytes) (length values)

  lists : (fits ≡ true) × (same_chain (set_by g bytes values) ds ≡ true)
  unfolding compare_refusal
  lists = and_both fits (same_chain (set_by g bytes values) ds) (not-false _ (clear (compare_table (set_by g bytes values) ds) refl e).1.1.0)

  pub lists_long : ListsLong g (length bytes) (length values) (length ds)
  lists_long =
      let sizes = lengths-are g.part g.devices g.configuration (length bytes) (length values) lists.0 in
      record {
        devices = sym (eqb-true (length ds) g.devices (and_left _ _ lists.1));
        bytes_in = sym sizes.0;
        values_in = sym sizes.1;
      }

  -- each record is of the set's part
  pub accepted-part : All (λ d. d.registers.part ≡ g.part) ds
  accepted-part = go ds (and_right (eqb (length ds) g.devices) (every (has_part g.part) ds) lists.1)
    where
      go : (ds : List Device) → every (has_part g.part) ds ≡ true → All (λ d. d.registers.part ≡ g.part) ds
      go [] h = tt
      go (d ∷ ds) h =
          let b = and_both (has_part g.part d) (every (has_part g.part) ds) h in
          (eqb-true d.registers.part g.part b.0, go ds b.1)
