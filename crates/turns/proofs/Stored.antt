-- What a slice stores reads no watchdog and keeps it, and the configuration that it leaves goes by no value. By cases on the command. Assumes
-- nothing.
use mathlib.Core.Path.{◌≡◌, refl}
use mathlib.Core.Bool.{Bool, true, false}
use lib.Dec.{eqb}
use Rattle.parts.specs.Parts.{multiplex}
use Rattle.parts.specs.declared.command.Command.{Command}
use Rattle.parts.specs.declared.command.Command.TheVariants.{Individual, Calibration, Global, Configuration}
use Rattle.watch.specs.declared.watch.Watch.{Watch}
use Rattle.registers.specs.Held.{with_watch, cleared}
use Rattle.registers.specs.declared.registers.Registers.{Registers}
use Rattle.storing.specs.Stored.{stored, copies}

pub stored-watch : (w : Watch) (r : Registers) (c : Command) → stored (with_watch r w) c ≡ with_watch (stored r c) w
stored-watch w r Individual = by (eqb (multiplex r.configuration) 0) refl
  where
    by : (b : Bool) → eqb (multiplex r.configuration) 0 ≡ b → stored (with_watch r w) Individual ≡ with_watch (stored r Individual) w
    by true e = rw e
    by false e = rw e
stored-watch w r Calibration = refl
stored-watch w r Global = by (copies r) refl
  where
    by : (b : Bool) → copies r ≡ b → stored (with_watch r w) Global ≡ with_watch (stored r Global) w
    by true e = rw e
    by false e = rw e
stored-watch w r Configuration = by (copies r) refl
  where
    by : (b : Bool) → copies r ≡ b → stored (with_watch r w) Configuration ≡ with_watch (stored r Configuration) w
    by true e = rw e
    by false e = rw e

pub stored-keeps : (r : Registers) (c : Command) → (stored r c).watch ≡ r.watch
stored-keeps r Individual = by (eqb (multiplex r.configuration) 0) refl
  where
    by : (b : Bool) → eqb (multiplex r.configuration) 0 ≡ b → (stored r Individual).watch ≡ r.watch
    by true e = rw e
    by false e = rw e
stored-keeps r Calibration = refl
stored-keeps r Global = by (copies r) refl
  where
    by : (b : Bool) → copies r ≡ b → (stored r Global).watch ≡ r.watch
    by true e = rw e
    by false e = rw e
stored-keeps r Configuration = by (copies r) refl
  where
    by : (b : Bool) → copies r ≡ b → (stored r Configuration).watch ≡ r.watch
    by true e = rw e
    by false e = rw e

pub stored-cleared : (r : Registers) (c : Command) → (stored (cleared r) c).configuration ≡ (stored r c).configuration
stored-cleared r Individual = by (eqb (multiplex r.configuration) 0) refl
  where
    by : (b : Bool) → eqb (multiplex r.configuration) 0 ≡ b → (stored (cleared r) Individual).configuration ≡ (stored r Individual).configuration
    by true e = rw e
    by false e = rw e
stored-cleared r Calibration = refl
stored-cleared r Global = by (copies r) refl
  where
    by : (b : Bool) → copies r ≡ b → (stored (cleared r) Global).configuration ≡ (stored r Global).configuration
    by true e = rw e
    by false e = rw e
stored-cleared r Configuration = by (copies r) refl
  where
    by : (b : Bool) → copies r ≡ b → (stored (cleared r) Configuration).configuration ≡ (stored r Configuration).configuration
    by true e = rw e
    by false e = rw e
