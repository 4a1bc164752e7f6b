use Rattle.std.proofs.Common.{refl, sym, ◌∙◌, arith}
use Rattle.std.proofs.lemmas.Grind.{common_steps}
use Rattle.bits.specs.Bits.{fields}
use Rattle.tables.proofs.Rows.{clear}
use Rattle.frames.specs.Frames.{head_rows}
use Rattle.frames.proofs.Judged.{head_rows_lem, end_rows_lem, field_within}
use Rattle.return_reader.proofs.returns.judge_back.Goals as goal

pub returns-then-devices-field_at : goal.returns-then-devices-field_at
returns-then-devices-field_at c =
    let a = c.args in
    let head = clear (head_rows a.command (fields 8 a.frame.now)) refl (sym (c.in_ok-judge_head.ensures ∙ head_rows_lem a.command a.frame.now (omega arith))) in
    let count = field_within 14 10 a.frame.now (omega arith) (omega arith) in
    grind (arith, common_steps, head.0, head.1.0, count)

pub returns : goal.returns
returns c =
    let a = c.args in
    let head = clear (head_rows a.command (fields 8 a.frame.now)) refl (sym (c.in_ok-judge_head.ensures ∙ head_rows_lem a.command a.frame.now (omega arith))) in
    let count = field_within 14 10 a.frame.now (omega arith) (omega arith) in
    let end = end_rows_lem 24 a.tail a.frame.now (omega arith) (omega arith) in
    grind (arith, common_steps, head.0, head.1.0, count, end)
