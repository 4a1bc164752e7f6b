-- The examples of a device's clock, by computing. Assumes nothing.
use mathlib.Core.Path.{refl}
use Rattle.bits.specs.Bits.{bits, number, fields, split, over}
use Rattle.parts.specs.Wire.{command_count, header, frame, clocked_at}
use Rattle.storing.specs.Stored.{strided}
use Rattle.positions.specs.Positions.{ticked}
use Rattle.watch.specs.Watch.{last_of, moved, watching, expired}
use Rattle.device.specs.Run.{step_record, watched, clock_record}
use Rattle.machine.specs.Machine.{run, relay, relay_one}
use Rattle.claims.specs.Examples.{one_states}
use Rattle.claims.specs.Claims.{ClockExamplesHold}

pub clock-examples-hold : ClockExamplesHold
unfolding bits number fields split over strided command_count header frame clocked_at one_states relay relay_one run last_of moved watching expired watched clock_record ticked step_record
clock-examples-hold = (
  ((refl, refl, refl), tt),
  (
    ((refl, refl, refl), tt),
    (
      ((refl, refl, refl), tt),
      (
        ((refl, refl, refl), tt),
        (
          ((refl, refl, refl), tt),
          (
            ((refl, refl, refl), ((refl, refl, refl), tt)),
            (((refl, refl, refl), tt), (((refl, refl, refl), tt), ((refl, tt), tt))),
          ),
        ),
      ),
    ),
  ),
)
