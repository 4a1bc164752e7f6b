-- The parts as rows, the four commands, what a row, a command and a configuration make: subframes, and slices; and N, the devices of a chain.
-- Nothing but the rows knows a part's numbers; what is said of slices and subframes is said of any row.
use Rattle.std.specs.Prelude.{ℕ, suc, ◌+◌, ◌*◌, ◌/◌, ◌%◌, ◌^◌, ◌<◌, ◌≤◌, ◌≡◌, Bool, false, ◌&&◌, ◌||◌, cond, List, [], ◌∷◌, eqb, leb, get_or}
use Rattle.parts.specs.declared.part.Constants.{Constants}
use Rattle.parts.specs.declared.command.Command.{Command}
use Rattle.parts.specs.declared.command.Command.TheVariants.{Individual, Calibration, Global, Configuration}

-- a part's row
pub record Part : Type 0 where
  pub name : ℕ  -- its number: 6974
  pub banks : ℕ  -- banks of eight outputs; bytes in a slice of bytes
  pub width : ℕ  -- bits in a value
  pub edge : ℕ  -- edge zone, in clocks
  pub clocks : ℕ  -- clocks per subframe
  pub subframes_by : List ℕ  -- subframes per frame: plain, multiplexed, with GLB4, both
  pub least : ℕ  -- current of a lit sink at calibration byte 0, in eighths of a microamp
  pub step : ℕ  -- what each 1 of the calibration byte adds to it

-- the MAX6972
abbrev pub max6972 : Part
max6972 = record { name = 6972; banks = 2; width = 12; edge = 16; clocks = 4096; subframes_by = 128 ∷ 64 ∷ 128 ∷ 64 ∷ []; least = 88000; step = 1375 }

-- the MAX6973
abbrev pub max6973 : Part
max6973 = record { name = 6973; banks = 2; width = 14; edge = 32; clocks = 16384; subframes_by = 32 ∷ 16 ∷ 8 ∷ 4 ∷ []; least = 88000; step = 1375 }

-- the MAX6974
abbrev pub max6974 : Part
max6974 = record { name = 6974; banks = 3; width = 12; edge = 16; clocks = 4096; subframes_by = 128 ∷ 64 ∷ 128 ∷ 64 ∷ []; least = 48000; step = 750 }

-- the MAX6975
abbrev pub max6975 : Part
max6975 = record { name = 6975; banks = 3; width = 14; edge = 32; clocks = 16384; subframes_by = 32 ∷ 16 ∷ 8 ∷ 4 ∷ []; least = 48000; step = 750 }

-- all rows
abbrev pub rows : List Part
rows = max6972 ∷ max6973 ∷ max6974 ∷ max6975 ∷ []

-- a number is a part's
abbrev pub known_in : List Part → ℕ → Bool
known_in [] n = false
known_in (p ∷ ps) n = eqb n p.name || known_in ps n

-- a number is that of a row
abbrev pub known : ℕ → Bool
known n = known_in rows n

-- stands where there is no row
abbrev pub no_part : Part
no_part = record { name = 0; banks = 0; width = 0; edge = 0; clocks = 0; subframes_by = []; least = 0; step = 0 }

-- of rows, p the first of them: the row with a number, or the last one
abbrev pub row_from : Part → List Part → ℕ → Part
row_from p [] n = p
row_from p (q ∷ qs) n = cond (eqb n p.name) p (row_from q qs n)

-- its place among them
abbrev pub place_from : Part → List Part → ℕ → ℕ
place_from p [] n = 0
place_from p (q ∷ qs) n = cond (eqb n p.name) 0 (suc (place_from q qs n))

-- the same of a list of rows
abbrev pub row_in : List Part → ℕ → Part
row_in [] n = no_part
row_in (p ∷ ps) n = row_from p ps n

abbrev pub place_in : List Part → ℕ → ℕ
place_in [] n = 0
place_in (p ∷ ps) n = place_from p ps n

-- the row of a number; of one that is no part, the last row
abbrev pub part_of : ℕ → Part
part_of n = row_in rows n

-- its place among the rows
abbrev pub row_index : ℕ → ℕ
row_index n = place_in rows n

-- what the code's constants say of a row
abbrev pub constants_of : Part → Constants
constants_of p =
    record { number = p.name; banks = p.banks; width = p.width; edge = p.edge; clocks = p.clocks; least = p.least; step = p.step }

-- configuration bit D0, multiplex
abbrev pub multiplex : ℕ → ℕ
multiplex configuration = configuration % 2

-- configuration bit D4, GLB4
abbrev pub glb4 : ℕ → ℕ
glb4 configuration = configuration / 16 % 2

-- subframes per frame, S
abbrev pub subframes : Part → ℕ → ℕ
subframes p configuration = get_or p.subframes_by (multiplex configuration + 2 * glb4 configuration) 0

-- phases of a subframe: MUX0, and MUX1 where multiplexed
abbrev pub phase_count : ℕ → ℕ
phase_count configuration = 1 + multiplex configuration

-- clocks of a frame
abbrev pub frame_clocks : Part → ℕ → ℕ
frame_clocks p configuration = subframes p configuration * (phase_count configuration * p.clocks)

-- the clocks over which a current is averaged
abbrev pub period : ℕ
period = 524288

-- frames in that time: one, or four where GLB4 shortens them
abbrev pub period_frames : Part → ℕ → ℕ
period_frames p configuration = period / frame_clocks p configuration

-- the current of a lit sink, by its bank's calibration byte, in eighths of a microamp
abbrev pub sink_current : Part → ℕ → ℕ
sink_current p byte = p.least + p.step * byte

-- a value is below this
abbrev pub limit : Part → ℕ
limit p = 2 ^ p.width

-- outputs of a part: its banks have eight each
abbrev pub outputs : Part → ℕ
outputs p = 8 * p.banks

-- what is asked of a row by the laws of records and of numbers in the code: a record has room for three banks, a value for 14 bits, and a
-- sink's current for 20
pub record Usable (p : Part) : Type 0 where
  pub some_bank : 1 ≤ p.banks
  pub few_banks : p.banks ≤ 3
  pub wide : 8 ≤ p.width
  pub narrow : p.width ≤ 14
  pub clocks : limit p ≡ p.clocks
  pub edge : p.edge ≤ p.clocks
  pub subframes : (configuration : ℕ) → (1 ≤ subframes p configuration) × (subframes p configuration ≤ 128)
  pub current : sink_current p 255 < 2 ^ 20

-- the frames of a row are a whole number in the time over which a current is averaged
abbrev pub WholeFrames : Part → Type 0
WholeFrames p = (configuration : ℕ) → period_frames p configuration * frame_clocks p configuration ≡ period

-- C1 C0
abbrev pub code : Command → ℕ
code Individual = 0
code Calibration = 1
code Global = 2
code Configuration = 3

-- the command of C1 C0: of a number over 3, by its two low bits
abbrev pub command_at : ℕ → Command
command_at n =
    cond (eqb (n % 4) 0) Individual (cond (eqb (n % 4) 1) Calibration (cond (eqb (n % 4) 2) Global Configuration))

-- the commands in restore order
abbrev pub restore_order : List Command
restore_order = Configuration ∷ Calibration ∷ Global ∷ Individual ∷ []

-- bits of one field of a slice
abbrev pub field_width : Part → Command → ℕ
field_width p Individual = p.width
field_width p Calibration = 8
field_width p Global = 8
field_width p Configuration = 8

-- a field is below this
abbrev pub field_limit : Part → Command → ℕ
field_limit p c = 2 ^ field_width p c

-- fields of one slice, by the multiplex bit: a value for each output and phase, or a byte for each bank
abbrev pub slice_fields : Part → Command → ℕ → ℕ
slice_fields p Individual mux = outputs p * (1 + mux)
slice_fields p Calibration mux = p.banks
slice_fields p Global mux = p.banks
slice_fields p Configuration mux = p.banks

-- bits of one slice
abbrev pub slice_bits : Part → Command → ℕ → ℕ
slice_bits p c mux = slice_fields p c mux * field_width p c

-- the most devices of a chain
abbrev pub most_devices : ℕ
most_devices = 1023

-- N is 1 to 1023
abbrev pub is_count : ℕ → Bool
is_count n = leb 1 n && leb n most_devices
