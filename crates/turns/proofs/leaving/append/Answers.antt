-- What is behind `from` is lent, and copied over. Assumes nothing.
use Rattle.std.proofs.Common.{arith, length}
use Rattle.std.proofs.lemmas.Grind.{common_steps}
use Rattle.bits.specs.Bits.{over, over_at}
use Rattle.turns.proofs.LeavingStates.{put-end-is, put-copied}
use Rattle.turns.proofs.leaving.append.Goals as goal

pub returns : goal.returns
unfolding over over_at
returns c = let a = c.args in
    let end = put-end-is (length a.returned.now) a.from (length a.states.now) c.requires in
    let room = put-copied a.returned.now a.from a.states.now in
    grind (arith, common_steps, end, room)
