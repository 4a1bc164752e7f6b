-- Header and slices are whole bytes, so three pieces put one behind the other are the frame.
use Rattle.std.proofs.Common.{length, arith}
use Rattle.frames.proofs.Lengths.{frame-room}
use Rattle.frame_writer.proofs.Writable as accepted
use Rattle.frame_writer.proofs.Pieces as pieces
use Rattle.frame_writer.proofs.writer.put_frame.Goals as goal

pub put_number-start-requires : goal.put_number-start-requires
put_number-start-requires c = let a = c.args in
    let w = accepted.writable a.told a.tail a.given.byte a.given.bytes.now a.given.values.now (length a.out.now) c.requires in
    (omega arith, omega (arith, w.wide, frame-room a.told a.tail))

pub put_slices-end-requires : goal.put_slices-end-requires
put_slices-end-requires c = let a = c.args in
    let w = accepted.writable a.told a.tail a.given.byte a.given.bytes.now a.given.values.now (length a.out.now) c.requires in
    (w.told.few, w.list, omega (arith, w.wide, frame-room a.told a.tail, c.put_number-start.ensures.1))

pub put_number-requires : goal.put_number-requires
put_number-requires c = let a = c.args in
    let w = accepted.writable a.told a.tail a.given.byte a.given.bytes.now a.given.values.now (length a.out.now) c.requires in
    (w.told.short, omega (arith, w.wide, frame-room a.told a.tail, c.put_number-start.ensures.1, c.put_slices-end.ensures.1))

pub returns : goal.returns
returns c = let a = c.args in
    let w = accepted.writable a.told a.tail a.given.byte a.given.bytes.now a.given.values.now (length a.out.now) c.requires in
    let long = accepted.length-settings_of a.told a.told.command a.given.byte a.given.bytes.now a.given.values.now w.list in
    pieces.put-together a.told a.tail a.given.byte a.given.bytes.now a.given.values.now long a.out.now c.header_of.ensures c.put_number-start.ensures
    c.put_slices-end.ensures c.put_number.ensures
