-- Where a device stands in a frame: the phases, their numbers in the record, and how a data bit moves a device on at low load and in the
-- header. docs/RULES.md, "One device, clock by clock". A phase's number is its place in this list: hunting, opening, counting, slice,
-- passing, lost.
use Rattle.std.specs.Prelude.{ℕ, ◌+◌, ◌-◌, ◌*◌, ◌/◌, ◌%◌, Bool, true, false, ◌&&◌, cond, eqb, ltb}
use Rattle.parts.specs.Parts.{code, command_at}
use Rattle.parts.specs.declared.command.Command.{Command}
use Rattle.parts.specs.declared.command.Command.TheVariants.{Individual, Calibration, Global, Configuration}
use Rattle.phases.specs.declared.phase.Phase.{Phase}
use Rattle.phases.specs.declared.phase.Phase.TheVariants.{Hunting, Opening, Counting, Slice, Passing, Lost}
use Rattle.phases.specs.declared.phase.Place.{Place}

-- a place by its four numbers
abbrev pub numbers : ℕ → ℕ → ℕ → ℕ → Place
numbers phase command count read = record { phase = phase; command = command; count = count; read = read }

-- a phase as the record's numbers; those that it does not use are 0
abbrev pub place_of : Phase → Place
place_of (Hunting window) = numbers 0 0 0 window
place_of (Opening read) = numbers 1 0 0 read
place_of (Counting c read) = numbers 2 (code c) 0 read
place_of (Slice c count taken) = numbers 3 (code c) count taken
place_of Passing = numbers 4 0 0 0
place_of Lost = numbers 5 0 0 0

-- the phase of the record's numbers: of a number over 5, lost
abbrev pub phase_of : Place → Phase
phase_of q =
    cond (eqb q.phase 0) (Hunting (q.read % 512))
    (cond (eqb q.phase 1) (Opening q.read)
    (cond (eqb q.phase 2) (Counting (command_at q.command) q.read)
    (cond (eqb q.phase 3) (Slice (command_at q.command) q.count q.read)
    (cond (eqb q.phase 4) Passing Lost))))

-- the same four numbers
abbrev pub same_place : Place → Place → Bool
same_place p q =
    eqb p.phase q.phase && (eqb p.command q.command && (eqb p.count q.count && eqb p.read q.read))

-- a bit goes in at the low end of a number that is kept below m
abbrev pub pushed : ℕ → ℕ → ℕ → ℕ
pushed n bit m = (n * 2 + bit) % m

-- the bits of the low clocks since the last high one, as a number, the last nine of them: none in any other phase than hunting
abbrev pub window_of : Phase → ℕ
window_of (Hunting window) = window
window_of (Opening read) = 0
window_of (Counting c read) = 0
window_of (Slice c count taken) = 0
window_of Passing = 0
window_of Lost = 0

-- low load, in any phase: a frame in progress is dropped
abbrev pub heard : Phase → ℕ → Phase
heard p bit = Hunting (pushed (window_of p) bit 512)

-- high load while hunting: SYNC's last bit, a 0, after its seven others (early); the first command bit after SYNC (exact); or the second,
-- after SYNC and the first (late). SYNC begins with a one, so no shorter run of low clocks fits
abbrev pub rising : ℕ → ℕ → Phase
rising window bit =
    cond (eqb (window % 128) 0x74 && eqb bit 0) (Opening 1)
    (cond (eqb (window % 256) 0xE8) (Opening (2 + bit))
    (cond (eqb (window / 2) 0xE8) (Opening (4 + window % 2 * 2 + bit)) Lost))

-- six command bits: three equal pairs name the command, and the device is lost otherwise
abbrev pub opened : ℕ → Phase
opened pairs =
    cond (eqb pairs 0) (Counting Individual 1)
    (cond (eqb pairs 21) (Counting Calibration 1)
    (cond (eqb pairs 42) (Counting Global 1)
    (cond (eqb pairs 63) (Counting Configuration 1) Lost)))

-- one more command bit, after a one and the command bits so far
abbrev pub opening : ℕ → ℕ → Phase
opening read bit = cond (ltb (read * 2 + bit) 64) (Opening (read * 2 + bit)) (opened (read * 2 + bit - 64))

-- one more count bit, after a one and the count bits so far: the tenth begins the slice
abbrev pub counting : Command → ℕ → ℕ → Phase
counting c read bit =
    cond (ltb (read * 2 + bit) 1024) (Counting c (read * 2 + bit)) (Slice c ((read * 2 + bit) % 1024) 0)

-- a device that looks for a header, or reads one
abbrev pub in_header : Phase → Bool
in_header (Hunting window) = true
in_header (Opening read) = true
in_header (Counting c read) = true
in_header (Slice c count taken) = false
in_header Passing = false
in_header Lost = false

-- what one bit at high load makes of such a phase
abbrev pub headed : Phase → ℕ → Phase
headed (Hunting window) bit = rising window bit
headed (Opening read) bit = opening read bit
headed (Counting c read) bit = counting c read bit
headed (Slice c count taken) bit = Slice c count taken
headed Passing bit = Passing
headed Lost bit = Lost
