-- `report::put_rest` meets its contract: the lines from the frame at hand on, put behind those that stand, are the whole text.
-- Assumes nothing.
use Rattle.std.proofs.Common.{◌≡◌, ◌+◌, ◌*◌, ◌≤◌, ◌++◌}
use Rattle.arrayvec.specs.ArrayVec.{array_vec_len}
use Rattle.report.specs.Report.{later_commands, lines_of}
use Rattle.report.proofs.Restoring as laws
use Rattle.report.proofs.whole.put_rest.Given as goal

abbrev pub invariant-loop-command : goal.invariant-loop-command
invariant-loop-command l =
    record {
      commands : l.command-items ≡ later_commands;
      text : l.lines.items ++ laws.lines_from l.chain.part l.chain.devices l.configuration l.command-index l.rest
          ≡ l.initial.lines.items ++ lines_of l.chain.part l.chain.devices l.configuration later_commands l.input;
      room : array_vec_len l.lines ≤ array_vec_len l.initial.lines + 96 * l.command-index;
    }
