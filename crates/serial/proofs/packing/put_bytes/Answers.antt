use Rattle.std.proofs.Common.{◌≡◌, length, take, sym, ap, ◌∙◌, arith}
use Rattle.std.proofs.lemmas.Grind.{same_number_lists}
use Rattle.std.proofs.lemmas.List.{length-map, length-take-le}
use Rattle.bits.specs.Bits.{bytes_of, bytes_for, over}
use Rattle.bits.proofs.Laws.{length-bytes_of}
use Rattle.serial.specs.States.{data_bits}
use Rattle.serial.proofs.packing.put_bytes.Goals as goal

pub returns : goal.returns
unfolding over
returns c =
    let a = c.args in
    let end = c.bytes_for-end.result in
    let bytes = bytes_of (data_bits a.states.now) in
    let long : length bytes ≡ end = length-bytes_of (data_bits a.states.now) ∙ ap bytes_for (length-map a.states.now _) ∙ sym c.bytes_for-end.ensures in
    let front : length (take end a.out.now) ≡ end = length-take-le _ _ (omega arith) in
    let same : c.loop-place.byte-items ≡ bytes = same_number_lists _ _ (omega (arith, long, front)) (λ k h. c.loop-place.invariant k (omega (arith, front))) in
    rw (long, same)
