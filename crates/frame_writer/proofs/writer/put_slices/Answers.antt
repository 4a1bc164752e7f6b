-- By cases over the command: fields at their width, or whole bytes.
use Rattle.std.proofs.Common.{◌≡◌, refl, sym, ap, ◌∙◌, arith}
use lib.ListN.{length-replicate}
use Rattle.parts.specs.Parts.{part_of, field_width}
use Rattle.parts.specs.declared.command.Command.{Command}
use Rattle.frames.specs.Frames.{field_count, field_bits}
use Rattle.frames.proofs.Tests.{below-replicate}
use Rattle.frames.proofs.Lengths.{told_fields_few}
use Rattle.frame_writer.specs.Writing.{settings_of, settings}
use Rattle.frame_writer.proofs.Pieces as pieces
use Rattle.frame_writer.proofs.writer.put_slices.Goals as goal

pub put_same-requires : goal.put_same-requires
put_same-requires c =
    let a = c.args in
    let t = a.told in
    let count : c.told_fields-n.result ≡ field_count t = c.told_fields-n.ensures ∙ told_fields_few t c.requires.0 in
    let same = pieces.same_byte t a.given.byte a.given.bytes.now a.given.values.now c.in-Global.is in
    omega (arith, count, c.requires.2, pieces.length-settings t a.given.byte a.given.bytes.now a.given.values.now c.requires.1 same.0 same.1, length-replicate (field_count t) a.given.byte)

pub returns-in-Individual : goal.returns-in-Individual
returns-in-Individual c =
    let a = c.args in
    let t = a.told in
    let values : a.given.values.now ≡ settings t a.given.byte a.given.bytes.now a.given.values.now = sym (ap (λ (k : Command). settings_of t k a.given.byte a.given.bytes.now a.given.values.now) c.in-Individual.is) in
    pieces.put-fields t a.given.byte a.given.bytes.now a.given.values.now c.requires.1 values c.field_width-width.ensures a.at a.out.now c.put_values.ensures

pub returns-in-Calibration : goal.returns-in-Calibration
returns-in-Calibration c =
    let a = c.args in
    let t = a.told in
    let whole : 8 ≡ field_bits t = sym (ap (λ (k : Command). field_width (part_of t.part) k) c.in-Calibration.is) in
    let bytes : a.given.bytes.now ≡ settings t a.given.byte a.given.bytes.now a.given.values.now = sym (ap (λ (k : Command). settings_of t k a.given.byte a.given.bytes.now a.given.values.now) c.in-Calibration.is) in
    pieces.put-fields t a.given.byte a.given.bytes.now a.given.values.now c.requires.1 bytes whole a.at a.out.now
    (c.put_bytes.ensures.0, omega (arith, c.put_bytes.ensures.1))

pub returns-in-Global : goal.returns-in-Global
returns-in-Global c =
    let a = c.args in
    let t = a.told in
    let count : c.told_fields-n.result ≡ field_count t = c.told_fields-n.ensures ∙ told_fields_few t c.requires.0 in
    let same = pieces.same_byte t a.given.byte a.given.bytes.now a.given.values.now c.in-Global.is in
    let small = below-replicate (field_count t) a.given.byte 256 (omega arith) (omega arith) in
    let long = length-replicate (field_count t) a.given.byte in
    pieces.put_whole t a.given.byte a.given.bytes.now a.given.values.now c.requires.1 same.0 same.1 refl small a.at a.out.now
    (rw count at c.put_same.ensures.0, omega (arith, c.put_same.ensures.1, count, long))
