use Rattle.std.proofs.Common.{ℕ, List, take, ap, ◌∙◌, arith}
use Rattle.frames.specs.Frames.{no_tail}
use Rattle.frame_reader.specs.Reading.{read}
use Rattle.report.specs.Report.{answer_of}
use Rattle.report.proofs.reading.read_front.Goals as goal

pub returns : goal.returns
unfolding answer_of
returns c = let a = c.args in
    c.read.ensures.value ∙ ap (λ (frame : List ℕ). read a.told no_tail frame 1536 24576) (c.front-frame.ensures ∙ ap (λ (n : ℕ). take n a.input.now) (omega (arith, c.div_ceil.ensures, c.frame_size.ensures.value)))
