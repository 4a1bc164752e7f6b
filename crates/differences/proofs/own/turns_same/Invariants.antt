-- Bank by bank: all are the same where those of the banks that were looked at are and those that are left are.
use Rattle.std.proofs.Common.{◌≡◌, ◌+◌, ◌-◌, ◌*◌, length, eqb}
use Rattle.differences.specs.Groups.{differs_at, in_turns}
use Rattle.differences.proofs.Differs.{turns_left}
use Rattle.differences.proofs.own.turns_same.Given as goal

abbrev pub invariant-loop-bank : goal.invariant-loop-bank
invariant-loop-bank l =
    eqb (differs_at l.values (in_turns l.mux0 l.mux1)) (length l.values)
    ≡ eqb (turns_left l.values l.mux0 l.mux1 (8 * l.bank)) (length l.values - (8 * l.bank + 8 * l.bank))
