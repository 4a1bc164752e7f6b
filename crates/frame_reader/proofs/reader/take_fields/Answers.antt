-- By cases over the command: values are the fields at their width, and bytes are the frame from the fourth on.
use Rattle.std.proofs.Common.{◌≡◌, ◌*◌, ℕ, List, false, length, take, drop, sym, ap, ap₂, subst, ◌∙◌, arith}
use borrow.Author.Tests.{ltb-false}
use Rattle.bits.specs.Bits.{fields, split, over}
use Rattle.parts.specs.Parts.{part_of, field_width}
use Rattle.parts.specs.declared.command.Command.{Command}
use Rattle.frames.specs.Frames.{field_count, field_bits, slices_bits}
use Rattle.frames.proofs.Lengths.{told_fields_few, width_narrow, bytes-more}
use Rattle.frame_reader.specs.Reading.{held_fields, room_short, found, bytes_found, values_found}
use Rattle.frame_reader.specs.declared.answer.Read.TheVariants.{Byte, Bytes, Values}
use Rattle.frame_reader.proofs.Held as held
use Rattle.frame_reader.proofs.reader.take_fields.Goals as goal

pub take_values-requires : goal.take_values-requires
take_values-requires c =
    let t = c.args.told in
    let count = c.told_fields-n.ensures ∙ told_fields_few t c.requires.1 in
    let wide = c.field_width-width.ensures in
    let room = subst (λ (k : Command). room_short k (field_count t) (length c.args.bytes.now) (length c.args.values.now) ≡ false) c.in-Individual.is c.requires.3 in
    let all : c.told_fields-n.result * c.field_width-width.result ≡ slices_bits t = ap₂ (λ (x y : ℕ). x * y) count wide in
    (omega (arith, wide, width_narrow t), omega (arith, all, c.requires.2), rw count (ltb-false _ _ room))

pub take_bytes-requires : goal.take_bytes-requires
take_bytes-requires c =
    let t = c.args.told in
    let count = c.told_fields-n.ensures ∙ told_fields_few t c.requires.1 in
    let room = subst (λ (k : Command). room_short k (field_count t) (length c.args.bytes.now) (length c.args.values.now) ≡ false) c.in-Calibration.is c.requires.3 in
    rw count (omega (arith, bytes-more t, c.requires.2), ltb-false _ _ room)

pub returns-in-Individual : goal.returns-in-Individual
returns-in-Individual c =
    let t = c.args.told in
    let frame = c.args.frame.now in
    let count = c.told_fields-n.ensures ∙ told_fields_few t c.requires.1 in
    let vs = held_fields t frame in
    let all = held.held-split t frame (omega (arith, c.requires.2)) in
    let taken : c.take_values.new.values ≡ over vs c.args.values.now
    = c.take_values.ensures ∙ ap₂ (λ (x y : ℕ). over (split x y (fields 8 (drop 3 frame))) c.args.values.now) c.field_width-width.ensures count
    ∙ ap (λ (l : List ℕ). over l c.args.values.now) (sym all) in (
      ap Values count ∙ sym (ap (λ (k : Command). found t k vs) c.in-Individual.is),
      sym (ap (λ (k : Command). bytes_found k vs c.args.bytes.now) c.in-Individual.is),
      taken ∙ sym (ap (λ (k : Command). values_found k vs c.args.values.now) c.in-Individual.is),
    )

pub returns-in-Calibration : goal.returns-in-Calibration
returns-in-Calibration c =
    let t = c.args.told in
    let frame = c.args.frame.now in
    let count = c.told_fields-n.ensures ∙ told_fields_few t c.requires.1 in
    let wide : field_bits t ≡ 8 = ap (λ (k : Command). field_width (part_of t.part) k) c.in-Calibration.is in
    let bytes = held.held_bytes t frame wide (omega (arith, bytes-more t, c.requires.2)) (λ i. (c.type_inv.frame i).fits) in
    let vs = held_fields t frame in
    let taken : c.take_bytes.new.bytes ≡ over vs c.args.bytes.now
    = c.take_bytes.ensures ∙ ap (λ (k : ℕ). over (take k (drop 3 frame)) c.args.bytes.now) count
    ∙ ap (λ (l : List ℕ). over l c.args.bytes.now) (sym bytes) in (
      ap Bytes count ∙ sym (ap (λ (k : Command). found t k vs) c.in-Calibration.is),
      taken ∙ sym (ap (λ (k : Command). bytes_found k vs c.args.bytes.now) c.in-Calibration.is),
      sym (ap (λ (k : Command). values_found k vs c.args.values.now) c.in-Calibration.is),
    )

pub returns-in-Global : goal.returns-in-Global
returns-in-Global c =
    let t = c.args.told in
    let frame = c.args.frame.now in
    let one = held.one_byte t t.command c.in-Global.is in
    let bytes = held.held_bytes t frame one.wide (omega (arith, bytes-more t, c.requires.2)) (λ i. (c.type_inv.frame i).fits) in
    (ap Byte (sym (held.held_first t frame c.requires.0 bytes)) ∙ sym (one.answer _), sym (one.bytes _ _), sym (one.values _ _))
