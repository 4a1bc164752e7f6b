-- A word is its group's number in the high bits, and is not cut by the shift. Assumes nothing.
use mathlib.Core.Path.{◌≡◌, sym, ap, ◌∙◌}
use mathlib.Core.List.{List, []}
use Prim.Native.Nat.{ℕ, ◌*◌, ◌-◌, ◌%◌, ◌^◌}
use native.Mathlib.Omega.{arith}
use lib.ListN.{length, get_or, take, drop, length-drop}
use lib.Seq.{length-take-le}
use Rattle.bits.proofs.Laws as bit
use Rattle.bits.specs.Bits.{number, fields}
use Rattle.packing.specs.Blocks.{group_words}
use Rattle.packing.proofs.Chunks as chunks
use Rattle.packing.proofs.Laid as laid
use Rattle.packing.proofs.blocks.make_words_of.Goals as goal

pub loop-j-preserved : goal.loop-j-preserved
loop-j-preserved c = let a = c.args in
    let w = a.lanes.width in
    let j = c.loop-j.j in
    let group : List ℕ = take 4 (drop (j * 4) a.block.now) in
    let long : length group ≡ 4 = length-take-le 4 (drop (j * 4) a.block.now) (omega (arith, length-drop (j * 4) a.block.now)) in
    let number_is : c.number_of.result ≡ number (fields w group)
    = c.number_of.ensures ∙ ap (λ (z : List ℕ). number (fields w z))
    (ap (λ (z : List (List ℕ)). get_or z j []) c.as_chunks.ensures.front ∙ chunks.chunk_at 4 _ j a.block.now [] (omega arith)) in
    bit.paste-next (group_words w 32 a.block.now) a.words.now c.loop-j.words j _ c.loop-j.invariant
    (omega (arith, laid.length-words w 32 a.block.now)) (omega arith)
    (ap (λ (x : ℕ). (x * 2 ^ (64 - 4 * w)) % 2 ^ 64) number_is ∙ laid.word-exact w group (omega arith) long
    ∙ sym (laid.get_d_words w 32 j a.block.now (omega arith)))

pub returns : goal.returns
returns c = let a = c.args in
    c.loop-j.invariant
    ∙ laid.paste_all (group_words a.lanes.width 32 a.block.now) a.words.now c.loop-j.j
    (omega (arith, laid.length-words a.lanes.width 32 a.block.now)) (omega arith)
