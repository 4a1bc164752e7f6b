-- When a device's flags and values are within their widths. What its part does not use has no width: it holds 0.
use Rattle.std.specs.Prelude.{ℕ, ◌*◌, Bool, ◌&&◌, List, ltb, drop}
use Rattle.parts.specs.Parts.{part_of, outputs, limit}
use Rattle.tables.specs.Lists.{all_below}
use Rattle.registers.specs.declared.registers.Registers.{Registers}

-- a fault flag is 0 or 1
abbrev pub flags_fit : Registers → Bool
flags_fit r = ltb r.overtemperature 2 && ltb r.openled 2

-- each value of two lists is below m
abbrev pub pair_below : List ℕ → List ℕ → ℕ → Bool
pair_below xs ys m = all_below xs m && all_below ys m

-- past the first n values, each waiting and each active value is below m, and past twice as many each of the slice that is coming in
abbrev pub values_below : Registers → ℕ → ℕ → Bool
values_below r n m =
    pair_below (drop n r.waiting0) (drop n r.waiting1) m
    && (pair_below (drop n r.active0) (drop n r.active1) m && all_below (drop (2 * n) r.slice) m)

-- the values of outputs and the calibration of banks that the part does not have are below 1: they are 0
abbrev pub unused_zero : Registers → Bool
unused_zero r = values_below r (outputs (part_of r.part)) 1 && all_below (drop (part_of r.part).banks r.calibration) 1

-- each value is within the part's width
abbrev pub values_fit : Registers → Bool
values_fit r = values_below r 0 (limit (part_of r.part)) && unused_zero r
