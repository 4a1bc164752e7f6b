-- The most that a device of a row can draw, and a device and a sign that draw it. That none draws more is in proofs/Most and proofs/Largest.
use Rattle.std.specs.Prelude.{ℕ, ◌-◌, ◌*◌, ◌/◌, replicate}
use Rattle.parts.specs.Parts.{Part, part_of, subframes, multiplex, period, limit, outputs, sink_current, slice_fields}
use Rattle.parts.specs.declared.command.Command.TheVariants.{Individual}
use Rattle.schedule.specs.Light.{lit_count}
use Rattle.model.specs.Set.{Set, Own, own_of}
use Rattle.sets.specs.Sets.{set_of}

-- in every subframe of the period all outputs are lit as long as they can be, at the greatest current
abbrev pub most_drawn : Part → ℕ
most_drawn p = period / p.clocks * (lit_count p (limit p - 1) * (outputs p * sink_current p 255))

-- a device with every byte and every value at its greatest
abbrev pub brightest : Part → ℕ → Own
brightest p configuration =
    own_of configuration (replicate p.banks 255) (subframes p configuration - 1)
    (replicate (slice_fields p Individual (multiplex configuration)) (limit p - 1))

-- a sign of such devices
abbrev pub brightest_set : ℕ → ℕ → ℕ → Set
brightest_set part devices configuration =
    set_of part devices configuration (replicate (devices * (part_of part).banks) 255) (subframes (part_of part) configuration - 1)
    (replicate (devices * slice_fields (part_of part) Individual (multiplex configuration)) (limit (part_of part) - 1))
