-- The place in the table is made of three small numbers; what stands there is the law of the table. Assumes nothing.
use mathlib.Core.Path.{ap₂, ◌∙◌}
use Prim.Native.Nat.{ℕ, ◌+◌, ◌*◌, ◌%◌, ◌<◌}
use native.Mathlib.Omega.{arith}
use lib.ListN.{get_or}
use Rattle.parts.proofs.Laws.{code_lt, row-index-lt, table, slice-table}
use Rattle.slices.proofs.slices.slice_bits.Goals as goal

-- the number of the command and the column of the part
within : (c : goal.After-row_of) → (c.from.result < 4) × (c.row_of.result < 4)
within c =
    let a = c.args in
    (omega (arith, c.from.ensures, code_lt a.command), omega (arith, c.row_of.ensures, row-index-lt a.part))

pub overflow_mul-at-2 : goal.overflow_mul-at-2
overflow_mul-at-2 c = omega (arith, (within c).0, (within c).1)

pub overflow_add-at : goal.overflow_add-at
overflow_add-at c = omega (arith, (within c).0, (within c).1)

pub overflow_add-at-2 : goal.overflow_add-at-2
overflow_add-at-2 c = omega (arith, (within c).0, (within c).1)

pub offset_bounds-at : goal.offset_bounds-at
offset_bounds-at c = omega (arith, c.from.ensures, code_lt c.args.command, c.row_of.ensures, row-index-lt c.args.part)

pub returns : goal.returns
returns c = let a = c.args in
    ap₂ (λ (j k : ℕ). get_or table (j * 8 + k * 2 + a.configuration % 2) 0) c.from.ensures c.row_of.ensures
    ∙ slice-table a.command a.part (a.configuration % 2) (omega arith)
