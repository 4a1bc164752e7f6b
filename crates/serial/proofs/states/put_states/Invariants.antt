-- The states so far are the first states of the frame. Assumes nothing.
use Rattle.std.proofs.Common.{◌≡◌, ℕ, ◌<◌, get_or}
use Rattle.parts.specs.Wire.{edge_at}
use Rattle.serial.specs.States.{frame_states}
use Rattle.serial.proofs.states.put_states.Given as goal

abbrev pub invariant-loop-i : goal.invariant-loop-i
invariant-loop-i l = (k : ℕ) → k < l.i → get_or l.state-items k 0 ≡ get_or (frame_states (edge_at l.edge) l.frame l.bits) k 0
