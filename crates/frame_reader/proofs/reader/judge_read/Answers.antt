-- The groups of rows one after the other.
use Rattle.std.proofs.Common.{refl, ◌++◌, length}
use Rattle.frames.specs.Frames.{told_rows}
use Rattle.frames.proofs.Rowed as rowed
use Rattle.frame_reader.specs.Reading.{length_rows, body_rows, read_refusal}
use Rattle.frame_reader.proofs.reader.judge_read.Goals as goal

pub returns-in_err-judge_lengths : goal.returns-in_err-judge_lengths
unfolding read_refusal
returns-in_err-judge_lengths c =
    let a = c.args in
    let lengths = length_rows a.told a.tail (length a.frame.now) a.bytes a.values in
    let body = body_rows a.told a.tail a.frame.now in
    rowed.passed (told_rows a.told.part a.told.devices a.tail) (lengths ++ body) refl c.in_ok-judge_told.ensures
    (rowed.refused lengths body _ _ c.from_residual-in_err-judge_lengths.ensures.1 c.in_err-judge_lengths.ensures)

pub returns : goal.returns
unfolding read_refusal
returns c =
    let a = c.args in
    let lengths = length_rows a.told a.tail (length a.frame.now) a.bytes a.values in
    let body = body_rows a.told a.tail a.frame.now in
    rowed.passed (told_rows a.told.part a.told.devices a.tail) (lengths ++ body) refl c.in_ok-judge_told.ensures
    (rowed.passed lengths body refl c.in_ok-judge_lengths.ensures c.judge_body.ensures)
