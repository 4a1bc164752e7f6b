-- What the records are judged to be is what the rows of the comparison say of them; an accepted one has a difference or none. Assumes nothing.
use Rattle.std.proofs.Common.{◌∙◌, refl, sym, ap}
use Rattle.tables.proofs.Rows.{named, refused, accepted}
use Rattle.sets.specs.Sets.{set_numbers}
use Rattle.differences.specs.Groups.{compared}
use Rattle.compare.specs.Compare.{comparison}
use Rattle.compare.proofs.Judged.{refusal-found, lists_long}
use Rattle.compare.proofs.comparison.bb_compare.Goals as goal

pub first_difference-requires : goal.first_difference-requires
first_difference-requires c =
    let a = c.args in
    lists_long (set_numbers a.part a.devices a.configuration a.global) a.calibration.now a.individual.now a.chain.now
    (sym (refusal-found (set_numbers a.part a.devices a.configuration a.global) a.calibration.now a.individual.now a.chain.now) ∙ sym (rw c.judge-judged.ensures at c.in-Ok.ensures))

pub returns-in-Ok : goal.returns-in-Ok
unfolding comparison
returns-in-Ok c =
    let a = c.args in
    let found = rw c.judge-judged.ensures at c.in-Ok.ensures ∙ refusal-found (set_numbers a.part a.devices a.configuration a.global) a.calibration.now a.individual.now a.chain.now in
    accepted (λ n. compared n 0 0 0) found refl c.first_difference.ensures

pub returns-in-Err : goal.returns-in-Err
unfolding comparison
returns-in-Err c =
    let a = c.args in
    let found = rw c.judge-judged.ensures at c.in-Err.ensures ∙ refusal-found (set_numbers a.part a.devices a.configuration a.global) a.calibration.now a.individual.now a.chain.now in
    ap (λ n. compared n 0 0 0) c.from.ensures ∙ refused (λ n. compared n 0 0 0) _ found (named c.in-Err.refusal)
