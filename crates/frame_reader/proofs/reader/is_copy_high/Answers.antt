-- The fields of a global frame are its bytes from the fourth on.
use Rattle.std.proofs.Common.{sym, ap, ◌∙◌}
use mathlib.Core.Logic.{inl}
use Rattle.parts.specs.declared.command.Command.{Command}
use Rattle.frames.proofs.Lengths.{told_fields_few}
use Rattle.frame_reader.specs.Reading.{copy_high, held_fields}
use Rattle.frame_reader.proofs.Held as held
use Rattle.frame_reader.proofs.reader.is_copy_high.Goals as goal

pub held_below-requires : goal.held_below-requires
held_below-requires c =
    let count = c.told_fields.ensures ∙ told_fields_few c.args.told c.requires.0 in
    rw count c.requires.1

pub returns-in-Global : goal.returns-in-Global
returns-in-Global c =
    let t = c.args.told in
    let frame = c.args.frame.now in
    let count = c.told_fields.ensures ∙ told_fields_few t c.requires.0 in
    let one = held.one_byte t t.command (inl c.in-Global.is) in
    let bytes = held.held_bytes t frame one.wide c.requires.1 (λ i. (c.type_inv.frame i).fits) in
    held.all-held-below t frame bytes count c.subframes_of-limit.ensures c.held_below.ensures
    ∙ sym (ap (λ (k : Command). copy_high t k (held_fields t frame)) c.in-Global.is)
