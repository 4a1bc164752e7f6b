-- `arguments::parse` meets its contract: what was read is digits, and `value` is their number, held to 65,535. Assumes nothing.
use Rattle.std.proofs.Common.{◌≡◌, min, take, drop}
use Rattle.arguments.specs.Arguments.{digits_only, numeral}
use Rattle.arguments.proofs.decimal.parse.Given as goal

abbrev pub invariant-loop-byte : goal.invariant-loop-byte
invariant-loop-byte l =
    record {
      digits : digits_only l.text ≡ digits_only (drop l.byte-index l.text);
      number : l.value ≡ min (numeral (take l.byte-index l.text)) 65535;
    }
