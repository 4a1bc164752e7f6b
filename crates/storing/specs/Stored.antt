-- What the last bit of a slice stores, for any row: a byte for each bank, a value for each output. Places of a register that the part does not
-- use stay as they are.
use Rattle.std.specs.Prelude.{ℕ, zero, suc, ◌+◌, ◌%◌, Bool, cond, List, [], ◌∷◌, map, eqb, get_or}
use Rattle.bits.specs.Bits.{over}
use Rattle.tables.specs.Lists.{all_same}
use Rattle.parts.specs.Parts.{part_of, outputs, multiplex}
use Rattle.parts.specs.declared.command.Command.{Command}
use Rattle.parts.specs.declared.command.Command.TheVariants.{Individual, Calibration, Global, Configuration}
use Rattle.registers.specs.Held.{holding}
use Rattle.registers.specs.declared.registers.Registers.{Registers}

-- n values of s, the first at a, each k after the last
unfoldable pub strided : List ℕ → ℕ → ℕ → ℕ → List ℕ
strided s a k zero = []
strided s a k (suc n) = get_or s a 0 ∷ strided s (a + k) k n

-- the registers with waiting values of the slice: MUX0 from the first on, each k after the last, and these MUX1 values
abbrev pub with_values : Registers → ℕ → List ℕ → Registers
with_values r k mux1 =
    holding r r.configuration r.calibration r.waiting (over (strided r.slice 0 k (outputs (part_of r.part))) r.waiting0) mux1 r.slice

-- nonmultiplexed, the values are the MUX0 values, and the MUX1 values stay; multiplexed, MUX0 and MUX1 take turns
abbrev pub stored_values : Registers → Registers
stored_values r =
    cond (eqb (multiplex r.configuration) 0) (with_values r 1 r.waiting1)
    (with_values r 2 (over (strided r.slice 1 2 (outputs (part_of r.part))) r.waiting1))

-- the low byte of a field
abbrev pub byte_of : ℕ → ℕ
byte_of v = v % 256

-- the low bytes of its first n fields
abbrev pub bytes_of : List ℕ → ℕ → List ℕ
bytes_of s n = map byte_of (strided s 0 1 n)

-- the bytes of a slice of bytes: one for each bank
abbrev pub slice_bytes : Registers → List ℕ
slice_bytes r = bytes_of r.slice (part_of r.part).banks

-- the first of them
abbrev pub first_byte : Registers → ℕ
first_byte r = byte_of (get_or r.slice 0 0)

-- the bytes are the calibration of the banks
abbrev pub stored_calibration : Registers → Registers
stored_calibration r =
    holding r r.configuration (over (slice_bytes r) r.calibration) r.waiting r.waiting0 r.waiting1 r.slice

-- they are all the same
abbrev pub copies : Registers → Bool
copies r = all_same (slice_bytes r) (first_byte r)

-- copies that differ store nothing
abbrev pub stored_global : Registers → Registers
stored_global r =
    cond (copies r) (holding r r.configuration r.calibration (first_byte r) r.waiting0 r.waiting1 r.slice) r

-- a configuration byte takes effect at once; copies that differ store nothing
abbrev pub stored_configuration : Registers → Registers
stored_configuration r =
    cond (copies r) (holding r (first_byte r) r.calibration r.waiting r.waiting0 r.waiting1 r.slice) r

-- what the last bit of a slice stores
abbrev pub stored : Registers → Command → Registers
stored r Individual = stored_values r
stored r Calibration = stored_calibration r
stored r Global = stored_global r
stored r Configuration = stored_configuration r
