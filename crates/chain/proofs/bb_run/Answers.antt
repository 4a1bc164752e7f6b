use Rattle.std.proofs.Common.{◌∙◌, ap, length}
use Rattle.cursor.specs.Answer.{answered}
use Rattle.calls.specs.Calls.{run_refusal, returned}
use Rattle.chain.proofs.Outcome.{answered-ran}
use Rattle.chain.proofs.bb_run.Goals as goal

pub returns : goal.returns
returns c =
    let xs = c.args.chain.now in
    let ss = c.args.states.now in (
      c.into.ensures ∙ ap answered c.run.ensures.value ∙ answered-ran (run_refusal xs ss (length c.args.returned.now)) (length (returned xs ss)),
      c.run.ensures.chain_after,
      c.run.ensures.returned_after,
    )
