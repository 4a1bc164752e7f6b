-- What packing answers in numbers.
use Rattle.std.specs.Prelude.{ℕ, Option, Some, None}
use Rattle.capi_bits.specs.declared.bytes.Packed.{Packed as Packing}

-- packing: the bytes and 1 where it was done, and 0 where not
abbrev pub of_packed : Option ℕ → Packing
of_packed (Some n) = record { bytes = n; done = 1 }
of_packed None = record { bytes = 0; done = 0 }
