-- What the records are judged to be is what the table says of them; of an accepted call the device's record is read, with any default, and asked.
use Rattle.std.proofs.Common.{◌∙◌, ◌-◌, sym, ap}
use Rattle.std.proofs.lemmas.List.{get_or_default}
use Rattle.tables.proofs.Rows.{named}
use Rattle.device.specs.declared.device.Device.{Device}
use Rattle.calls.specs.Chain.{blank}
use Rattle.lit_now.specs.Asked.{asked_now}
use Rattle.lit_now.proofs.Answered.{accepted-call, answer-refused, answer-asked, refusal-found}
use Rattle.lit_now.proofs.call.bb_lit_now.Goals as goal

pub returns-in-Ok : goal.returns-in-Ok
returns-in-Ok c =
    let a = c.args in
    let ok = sym (refusal-found a.chain.now a.device a.output c.judge-judged.result 0 c.judge-judged.ensures c.in-Ok.ensures) in
    c.ask_now.ensures
    ∙ ap (λ (d : Device). asked_now d a.output) (get_or_default a.chain.now (a.device - 1) _ blank (accepted-call a.chain.now a.device a.output ok).within)
    ∙ answer-asked a.chain.now a.device a.output ok

pub returns-in-Err : goal.returns-in-Err
returns-in-Err c =
    let a = c.args in
    let found = refusal-found a.chain.now a.device a.output c.judge-judged.result _ c.judge-judged.ensures c.in-Err.ensures in
    c.refuse.ensures ∙ answer-refused a.chain.now a.device a.output _ found (named c.in-Err.refusal)
