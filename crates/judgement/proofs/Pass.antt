-- One pass over a chain's records finds what the tests of calls/specs/Chain say. By induction on the records: what the pass has found so far
-- and what the tests say of the rest.
use mathlib.Core.Path.{◌≡◌, refl, ap, sym, ◌∙◌}
use mathlib.Core.Bool.{◌&&◌}
use mathlib.Core.List.{List, [], ◌∷◌}
use Prim.Native.Nat.{ℕ}
use Rattle.std.specs.Prelude.{Option, Some}
use Rattle.std.specs.Option.{option_or}
use Rattle.parts.specs.Parts.{known}
use Rattle.tables.specs.Lists.{every}
use Rattle.device.specs.Judgement.{fits}
use Rattle.device.specs.declared.device.Device.{Device}
use Rattle.calls.specs.Chain.{all_known, has_part, same_parts, all_fit}
use Rattle.judgement.specs.declared.judging.Judged.{Judged}
use Rattle.judgement.specs.Judging.{unjudged, is_alike, judged_with, judged_from}
use Rattle.tables.proofs.Booleans.{and_assoc, and-true}

pub known-found : (j : Judged) (ds : List Device) → (judged_from j ds).known ≡ (j.known && all_known ds)
known-found j [] = sym (and-true j.known)
known-found j (d ∷ ds) = known-found (judged_with j d) ds ∙ and_assoc j.known (known d.registers.part) (all_known ds)

pub fits-found : (j : Judged) (ds : List Device) → (judged_from j ds).fits ≡ (j.fits && all_fit ds)
fits-found j [] = sym (and-true j.fits)
fits-found j (d ∷ ds) = fits-found (judged_with j d) ds ∙ and_assoc j.fits (fits d) (all_fit ds)

-- after a first record: the rest are of its part
same_after : (j : Judged) (n : ℕ) (ds : List Device) → j.part ≡ Some n → (judged_from j ds).same ≡ (j.same && every (has_part n) ds)
same_after j n [] e = sym (and-true j.same)
same_after j n (d ∷ ds) e =
    same_after (judged_with j d) n ds (ap (λ (p : Option ℕ). option_or p (Some d.registers.part)) e)
    ∙ ap (λ (p : Option ℕ). (j.same && is_alike p d) && every (has_part n) ds) e
    ∙ and_assoc j.same (has_part n d) (every (has_part n) ds)

pub same-found : (ds : List Device) → (judged_from unjudged ds).same ≡ same_parts ds
same-found [] = refl
same-found (d ∷ ds) = same_after (judged_with unjudged d) d.registers.part ds refl

-- the first record's part stays
part-after : (j : Judged) (n : ℕ) (ds : List Device) → j.part ≡ Some n → (judged_from j ds).part ≡ Some n
part-after j n [] e = e
part-after j n (d ∷ ds) e = part-after (judged_with j d) n ds (ap (λ (p : Option ℕ). option_or p (Some d.registers.part)) e)

pub part-found : (d : Device) (ds : List Device) → (judged_from unjudged (d ∷ ds)).part ≡ Some d.registers.part
part-found d ds = part-after (judged_with unjudged d) d.registers.part ds refl
