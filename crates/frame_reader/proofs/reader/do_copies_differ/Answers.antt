-- The fields of such a frame are its bytes from the fourth on.
use Rattle.std.proofs.Common.{sym, ◌∙◌}
use Rattle.frames.proofs.Lengths.{told_fields_few, count-some}
use Rattle.frame_reader.proofs.Held as held
use Rattle.frame_reader.proofs.reader.do_copies_differ.Goals as goal

pub held_same-requires : goal.held_same-requires
held_same-requires c =
    let count = c.told_fields.ensures ∙ told_fields_few c.args.told c.requires.1 in
    rw count (count-some c.args.told c.requires.0, c.requires.2)

pub returns-in-Global : goal.returns-in-Global
returns-in-Global c =
    let t = c.args.told in
    let frame = c.args.frame.now in
    let count = c.told_fields.ensures ∙ told_fields_few t c.requires.1 in
    let one = held.one_byte t t.command c.in-Global.is in
    let bytes = held.held_bytes t frame one.wide c.requires.2 (λ i. (c.type_inv.frame i).fits) in
    held.all-held-same t frame bytes count c.requires.0 c.held_same.ensures ∙ sym (one.differ _)
