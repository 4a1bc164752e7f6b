-- A slice that is coming in changes no fault flag. By cases on the command. Assumes nothing.
use mathlib.Core.Path.{◌≡◌, refl}
use mathlib.Core.List.{List}
use Prim.Native.Nat.{ℕ}
use Rattle.parts.specs.declared.command.Command.{Command}
use Rattle.parts.specs.declared.command.Command.TheVariants.{Individual, Calibration, Global, Configuration}
use Rattle.registers.specs.Held.{with_slice, fault}
use Rattle.registers.specs.declared.registers.Registers.{Registers}

pub fault-slice : (r : Registers) (slice : List ℕ) (c : Command) → fault (with_slice r slice) c ≡ fault r c
fault-slice r slice Individual = refl
fault-slice r slice Calibration = refl
fault-slice r slice Global = refl
fault-slice r slice Configuration = refl
