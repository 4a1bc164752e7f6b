use Rattle.std.proofs.Common.{◌≡◌, ◌≤◌, ◌*◌, length, take, arith}
use Rattle.std.proofs.lemmas.Grind.{common_steps, same_number_lists}
use Rattle.std.proofs.lemmas.List.{length-take-le}
use Rattle.bits.specs.Bits.{over}
use Rattle.parts.specs.Wire.{edge_at}
use Rattle.serial.specs.States.{frame_states}
use Rattle.serial.proofs.Laws.{length-frame_states, get_d-frame_states}
use Rattle.serial.proofs.states.put_states.Goals as goal

pub loop-i-preserved : goal.loop-i-preserved
loop-i-preserved c =
    let a = c.args in
    let h : a.bits ≤ 8 * length a.frame.now = omega arith in
    grind (arith, common_steps, get_d-frame_states (edge_at a.edge) a.frame.now a.bits c.loop-i.i h)

pub returns : goal.returns
unfolding over
returns c =
    let a = c.args in
    let states = frame_states (edge_at a.edge) a.frame.now a.bits in
    let long : length states ≡ a.bits = length-frame_states (edge_at a.edge) a.frame.now a.bits (omega arith) in
    let front : length (take a.bits a.out.now) ≡ a.bits = length-take-le _ _ (omega arith) in
    let same : c.loop-i.state-items ≡ states = same_number_lists _ _ (omega (arith, long, front)) (λ k h. c.loop-i.invariant k (omega (arith, front))) in
    rw (long, same)
