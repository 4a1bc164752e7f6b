-- A set as a caller gives it, and what is judged of it alone. docs/RULES.md, "The set and the wire" and "Refusal numbers".
use Rattle.std.specs.Prelude.{ℕ, ◌*◌, Bool, ◌&&◌, List, eqb, ltb}
use Rattle.tables.specs.Lists.{all_below}
use Rattle.parts.specs.Parts.{part_of, multiplex, limit, subframes, slice_fields}
use Rattle.parts.specs.declared.command.Command.TheVariants.{Individual, Calibration}
use Rattle.model.specs.Set.{Set}
use Rattle.sets.specs.declared.numbers.SetNumbers.{SetNumbers}

-- a set, by what a caller gives
abbrev pub set_of : ℕ → ℕ → ℕ → List ℕ → ℕ → List ℕ → Set
set_of part devices configuration calibration global individual =
    record {
      part = part;
      devices = devices;
      configuration = configuration;
      calibration = calibration;
      global = global;
      individual = individual;
    }

-- what is given of a set beside its lists, and with them
abbrev pub set_numbers : ℕ → ℕ → ℕ → ℕ → SetNumbers
set_numbers part devices configuration global =
    record { part = part; devices = devices; configuration = configuration; global = global }

-- the set of a caller: numbers and two lists
abbrev pub set_by : SetNumbers → List ℕ → List ℕ → Set
set_by g calibration individual = set_of g.part g.devices g.configuration calibration g.global individual

-- so many calibration bytes and individual values are what the rules of the settings lists say
abbrev pub lengths_fit : ℕ → ℕ → ℕ → ℕ → ℕ → Bool
lengths_fit part devices configuration bytes values =
    eqb bytes (devices * slice_fields (part_of part) Calibration 0)
    && eqb values (devices * slice_fields (part_of part) Individual (multiplex configuration))

-- the global byte and the individual values are in range
abbrev pub settings_fit : ℕ → ℕ → ℕ → List ℕ → Bool
settings_fit part configuration global individual =
    ltb global (subframes (part_of part) configuration) && all_below individual (limit (part_of part))
