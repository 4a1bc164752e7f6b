use mathlib.Core.Path.{◌≡◌, ◌∙◌}
use Prim.Native.Nat.{◌+◌, ◌-◌, ◌*◌, ◌<◌}
use native.Mathlib.Omega.{arith}
use lib.ListN.{length, get_or, drop, length-drop}
use lib.Seq.{length-take-le}
use Rattle.std.proofs.lemmas.List.{get_or-take, get_or-drop}
use Rattle.unpacking.proofs.Reading as reading
use Rattle.unpacking.proofs.reader.Reader.fill_bytes.Goals as goal

pub loop-byte-preserved : goal.loop-byte-preserved
loop-byte-preserved c = let at = c.args.self.at in
    let src = c.args.src.now in
    let i = c.loop-byte.byte-index in
    let count = at + c.div_ceil-count.result - at in
    let long : length (drop at src) ≡ length src - at = length-drop at src in
    let less : i < count = omega (arith, length-take-le count (drop at src) (omega (arith, c.div_ceil-count.ensures, c.saturating_sub.ensures))) in
    let byte_is : c.from.result ≡ get_or src (at + i) 0 = c.from.ensures ∙ get_or-take count (drop at src) i 0 less ∙ get_or-drop at src i 0 in
    let here : at + (i + 1) ≡ at + i + 1 = omega arith in
    let more : c.args.self.have + 8 * (i + 1) ≡ c.args.self.have + 8 * i + 8 * 1 = omega arith in
    rw (here, more, byte_is) (reading.taken_in (c.args.self.have + 8 * i) c.loop-byte.acc (omega (arith, c.div_ceil-count.ensures, c.saturating_sub.ensures))
    (c.type_inv.src (at + i)).fits (reading.loaded-one src (at + i) (omega (arith, c.div_ceil-count.ensures, c.saturating_sub.ensures))) ∙ c.loop-byte.invariant)
