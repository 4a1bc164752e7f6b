use Rattle.std.proofs.Common.{◌∙◌, arith}
use Rattle.watch.proofs.ByBlock.{heard-step}
use Rattle.watch.proofs.blocks.listen_on.Goals as goal

pub loop-block-preserved : goal.loop-block-preserved
loop-block-preserved c = let l = c.loop-block in
    let s = c.in-Some in
    let parts = s.ensures.cases in
    record {
      heard = l.invariant.heard
          ∙ heard-step l.rest.now s.block.now s.behind.now 64 l.over l.heard c.listen_block-heard.result (omega (arith, parts.2)) parts.0 parts.1
          c.listen_block-heard.ensures;
      clocks = omega (arith, l.invariant.clocks, parts.2);
    }
