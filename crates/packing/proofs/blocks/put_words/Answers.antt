use mathlib.Core.Path.{◌≡◌}
use Prim.Native.Nat.{◌+◌, ◌*◌, ◌-◌, ◌/◌}
use native.Mathlib.Nat.{zero-mul, add-mul}
use native.Mathlib.Omega.{arith}
use Rattle.bits.proofs.Fits as fits
use Rattle.packing.proofs.Laid as laid
use Rattle.packing.proofs.blocks.put_words.Goals as goal

pub loop-word-init : goal.loop-word-init
loop-word-init c = let a = c.args in
    let s = a.width / 2 in
    (laid.words-none s a.words.now a.out.now a.from (a.from + 32 * s + (8 - s)), omega (arith, zero-mul s))

pub loop-word-preserved : goal.loop-word-preserved
loop-word-preserved c = let a = c.args in
    let l = c.loop-word in
    let s = a.width / 2 in
    let room = fits.room s {i = l.word-index} {n = 32} (omega arith) in (
      laid.words-next s l.word-index a.words.now (omega arith) (omega arith) l.invariant.1 (omega (arith, room)) (omega (arith, room))
          l.invariant.0 c.store_long.ensures,
      omega (arith, add-mul l.word-index 1 s),
    )

pub returns : goal.returns
returns c = let a = c.args in
    let all : c.loop-word.word-index ≡ 32 = omega arith in
    rw all at (laid.words-all (a.width / 2) c.loop-word.word-index (4 * a.width) a.words.now (omega arith) (omega arith) c.loop-word.invariant.0)
