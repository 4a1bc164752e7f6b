-- The tests that hold are what taking the fields asks for.
use Rattle.std.proofs.Common.{length, sym, arith}
use Rattle.frames.proofs.Lengths.{frame-holds}
use Rattle.frame_reader.proofs.Readable.{readable}
use Rattle.frame_reader.proofs.reader.read.Goals as goal

pub take_fields-requires : goal.take_fields-requires
take_fields-requires c =
    let a = c.args in
    let r = readable a.told a.tail a.frame.now (length a.bytes.now) (length a.values.now) (sym c.in_ok-judge_read.ensures) in
    let h = frame-holds a.told a.tail (length a.frame.now) r.long in
    (r.told.some, r.told.few, omega arith, r.room)
