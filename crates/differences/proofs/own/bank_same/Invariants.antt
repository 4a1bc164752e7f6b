-- All are the same where no two that were looked at differed and the values that are left are the same: a turn takes two of them.
use Rattle.std.proofs.Common.{◌≡◌, ◌&&◌, ◌+◌, ◌-◌, eqb}
use Rattle.differences.specs.Groups.{differs_at, in_turns}
use Rattle.differences.proofs.Differs.{turns_left}
use Rattle.differences.proofs.own.bank_same.Given as goal

abbrev pub invariant-loop-output : goal.invariant-loop-output
invariant-loop-output l =
    eqb (differs_at l.values (in_turns l.mux0 l.mux1)) 16
    ≡ (l.same && eqb (turns_left l.values l.mux0 l.mux1 l.output) (16 - (l.output + l.output)))
