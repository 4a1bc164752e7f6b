-- The groups of rows one after the other, each judged only where those before give nothing.
use Rattle.std.proofs.Common.{◌≡◌, refl, ap, ◌∙◌, ◌+◌, ◌++◌, ℕ, arith}
use Rattle.bits.specs.Bits.{fields}
use Rattle.frames.specs.Frames.{head_rows, end_rows, slices_bits, told_bits, end_table}
use Rattle.tables.specs.Refusals.{first}
use Rattle.frames.proofs.Judged.{head_rows_lem, end_rows_lem}
use Rattle.frames.proofs.Rowed as rowed
use Rattle.frame_reader.specs.Reading.{range_rows, opening_rows, slice_rows}
use Rattle.frame_reader.proofs.reader.judge_body.Goals as goal

pub returns-in_err-judge_head : goal.returns-in_err-judge_head
returns-in_err-judge_head c =
    let a = c.args in
    let head = head_rows a.told.command (fields 8 a.frame.now) in
    let behind = slice_rows a.told a.frame.now ++ end_rows (24 + slices_bits a.told) a.tail (fields 8 a.frame.now) in
    rowed.refused (opening_rows a.told a.tail a.frame.now) behind _ _ c.from_residual-in_err-judge_head.ensures.1
    (rowed.passed (range_rows a.told a.tail a.frame.now) head refl c.in_ok-judge_range.ensures
    (c.in_err-judge_head.ensures ∙ head_rows_lem a.told.command a.frame.now (omega arith)))

pub returns-in_err-judge_slices : goal.returns-in_err-judge_slices
returns-in_err-judge_slices c =
    let a = c.args in
    let head = head_rows a.told.command (fields 8 a.frame.now) in
    let slices = slice_rows a.told a.frame.now in
    let end = end_rows (24 + slices_bits a.told) a.tail (fields 8 a.frame.now) in
    rowed.passed (opening_rows a.told a.tail a.frame.now) (slices ++ end) refl
    (rowed.passed (range_rows a.told a.tail a.frame.now) head refl c.in_ok-judge_range.ensures
    (c.in_ok-judge_head.ensures ∙ head_rows_lem a.told.command a.frame.now (omega arith)))
    (rowed.refused slices end _ _ c.from_residual-in_err-judge_slices.ensures.1 c.in_err-judge_slices.ensures)

pub returns : goal.returns
unfolding told_bits
returns c =
    let a = c.args in
    let head = head_rows a.told.command (fields 8 a.frame.now) in
    let slices = slice_rows a.told a.frame.now in
    let end = end_rows (24 + slices_bits a.told) a.tail (fields 8 a.frame.now) in
    let bits : c.told_bits.result ≡ slices_bits a.told = grind (arith, c.told_bits.ensures) in
    rowed.passed (opening_rows a.told a.tail a.frame.now) (slices ++ end) refl
    (rowed.passed (range_rows a.told a.tail a.frame.now) head refl c.in_ok-judge_range.ensures
    (c.in_ok-judge_head.ensures ∙ head_rows_lem a.told.command a.frame.now (omega arith)))
    (rowed.passed slices end refl c.in_ok-judge_slices.ensures
    (c.judge_end.ensures ∙ ap (λ (n : ℕ). first (end_table (24 + n) a.tail a.frame.now)) bits
    ∙ end_rows_lem (24 + slices_bits a.told) a.tail a.frame.now c.requires.2 c.requires.3))
