use Rattle.std.proofs.Common.{◌∙◌, refl, ap, replicate, length}
use Rattle.tables.proofs.Rows.{named, kept, changed}
use Rattle.calls.specs.Calls.{fresh_devices}
use Rattle.refusals.proofs.Found.{fresh-refusal-found}
use Rattle.chain.proofs.bb_fresh.Goals as goal

pub returns-in-Ok : goal.returns-in-Ok
returns-in-Ok c =
    let a = c.args in
    let found = c.in-Ok.ensures ∙ fresh-refusal-found a.part a.bit a.limit (length a.chain.now) in
    (found, changed a.chain.now found refl (c.fill.ensures.after (λ y k. k) ∙ ap (replicate (length a.chain.now)) c.fresh.ensures))

pub returns-in-Err : goal.returns-in-Err
returns-in-Err c =
    let a = c.args in
    let found = c.in-Err.ensures ∙ fresh-refusal-found a.part a.bit a.limit (length a.chain.now) in
    (c.from.ensures ∙ found, kept a.chain.now (fresh_devices a.part a.bit a.limit a.chain.now) found (named c.in-Err.refusal))
