-- From the front: the places so far are the same, so the lists differ first at the next place or after it.
use Rattle.std.proofs.Common.{◌≡◌, ◌+◌, drop}
use Rattle.differences.specs.Groups.{differs_at, in_turns}
use Rattle.differences.proofs.own.turns_difference.Given as goal

abbrev pub invariant-loop-place : goal.invariant-loop-place
invariant-loop-place l =
    differs_at l.values (in_turns l.mux0 l.mux1) ≡ l.place + differs_at (drop l.place l.values) (drop l.place (in_turns l.mux0 l.mux1))
