use mathlib.Core.Path.{◌≡◌, refl, ap, ◌∙◌}
use mathlib.Core.List.{List, []}
use Prim.Native.Nat.{ℕ, ◌+◌, ◌*◌, ◌/◌, ◌≤◌}
use native.Mathlib.Nat.{add-mul}
use native.Mathlib.Omega.{arith}
use lib.ListN.{length, get_or, take, drop}
use lib.Seq.{length-take-le}
use Rattle.bits.proofs.Fits.{room-more}
use Rattle.packing.specs.Blocks.{group_words}
use Rattle.packing.proofs.Chunks as chunks
use Rattle.packing.proofs.Laid as laid
use Rattle.packing.proofs.blocks.put_blocks.Goals as goal

pub returns-then-width-ne14 : goal.returns-then-width-ne14
returns-then-width-ne14 c = let a = c.args in
    (laid.blocks-none a.width a.values.now a.out.now a.at _, refl, omega arith)

pub loop-block-init : goal.loop-block-init
loop-block-init c = let a = c.args in
    (laid.blocks-none a.width a.values.now a.out.now a.at _, omega arith)

pub loop-block-preserved : goal.loop-block-preserved
loop-block-preserved c = let a = c.args in
    let i = c.loop-block.block-index in
    let vs = a.values.now in
    let front = c.saturating_sub.result in
    let within : i * 128 + 128 ≤ front = omega (arith, c.as_chunks.ensures.front_len, length-take-le front vs (omega arith)) in
    let eights : (i + 1) * 128 / 8 ≡ i * 128 / 8 + 16 = omega arith in
    let next : (i + 1) * 128 ≡ i * 128 + 128 = omega arith in
    let room = room-more a.width 129 (i * 128) (length vs) (omega arith) in
    let cut : get_or c.as_chunks.result.0.now i [] ≡ take 128 (drop (i * 128) vs)
    = ap (λ (z : List (List ℕ)). get_or z i []) c.as_chunks.ensures.front ∙ chunks.chunk_within 128 _ i front vs [] (omega (arith, c.as_chunks.ensures.front_len)) within in
    let made = c.make_words.ensures ∙ ap (λ (w : ℕ). group_words w 32 (get_or c.as_chunks.result.0.now i [])) c.new-lanes.ensures in (
      rw next (laid.block-next a.width (i * 128) vs _ _ (omega arith) (omega arith) (omega arith) c.loop-block.invariant.1
          (omega (arith, room, laid.eights a.width (i * 128) (omega arith))) cut made c.loop-block.invariant.0 c.put_words.ensures),
      omega (arith, ap (λ (n : ℕ). n * a.width) eights, add-mul (i * 128 / 8) 16 a.width),
    )
