use Rattle.std.proofs.Common.{sym, ◌∙◌}
use Rattle.watch.proofs.ByBlock.{block-expired, block-calm}
use Rattle.watch.proofs.blocks.listen_block.Goals as goal
use Rattle.watch.proofs.blocks.listen_block.Goals.{else-not-before-via-then-not-before+else-may_expire, else-not-before-via-else-not-before}

pub returns : goal.returns
returns c = let a = c.args in
    rw c.watch_over.ensures (elim c.else-not-before.branch [
      | else-not-before-via-then-not-before+else-may_expire w ↦ block-calm a.block.now a.clock a.before c.told-block c.requires w.if-not-before.true (sym w.may_expire.ensures ∙ w.if-may_expire.false)
      | else-not-before-via-else-not-before w ↦ block-expired a.block.now a.clock a.before c.told-block w.if-not-before.false
    ])
