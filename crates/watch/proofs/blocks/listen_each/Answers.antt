use Rattle.std.proofs.Common.{sym, ◌∙◌, arith}
use Rattle.watch.proofs.Clocks.{told}
use Rattle.watch.proofs.Ears.{told-both}
use Rattle.watch.proofs.ByBlock.{heard-none, heard-more}
use Rattle.watch.proofs.blocks.listen_each.Goals as goal

pub loop-i-init : goal.loop-i-init
loop-i-init c = heard-none _ _

pub loop-i-preserved : goal.loop-i-preserved
loop-i-preserved c = let a = c.args in
    let l = c.loop-i in
    heard-more a.states.now l.i a.clock (told a.before.watch a.before.expired) l.watch l.expired (omega arith) l.invariant
    ∙ sym (told-both c.hear-watch.ensures c.expired_or-expired.ensures)
