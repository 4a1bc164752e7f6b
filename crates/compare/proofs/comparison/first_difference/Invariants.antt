-- The answer of the devices that are left, with what is left of the lists, is the comparison's.
use Rattle.std.proofs.Common.{◌≡◌, ◌-◌, ◌*◌, length, drop}
use Rattle.parts.specs.Parts.{part_of, multiplex, slice_fields}
use Rattle.parts.specs.declared.command.Command.TheVariants.{Individual}
use Rattle.model.specs.Set.{owned}
use Rattle.sets.specs.Sets.{set_by}
use Rattle.compare.specs.Compare.{difference}
use Rattle.compare.proofs.Found.{from}
use Rattle.compare.proofs.comparison.first_difference.Given as goal

abbrev pub invariant-loop-place : goal.invariant-loop-place
invariant-loop-place l =
    record {
      so_far : difference 1 (owned (set_by l.fn.given.numbers l.fn.given.calibration.now l.fn.given.individual.now)) l.chain
          ≡ from (part_of l.fn.given.numbers.part) l.fn.given.numbers.configuration l.fn.given.numbers.global l.place (length l.chain - l.place) l.bytes l.values (drop l.place l.chain);
      bytes_in : (length l.chain - l.place) * (part_of l.fn.given.numbers.part).banks ≡ length l.bytes;
      values_in : (length l.chain - l.place) * slice_fields (part_of l.fn.given.numbers.part) Individual (multiplex l.fn.given.numbers.configuration) ≡ length l.values;
    }
