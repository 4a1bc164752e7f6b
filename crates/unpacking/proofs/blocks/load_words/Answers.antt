use mathlib.Core.Path.{refl}
use Prim.Native.Nat.{◌/◌}
use native.Mathlib.Nat.{zero-mul, add-mul}
use native.Mathlib.Omega.{arith}
use Rattle.bits.proofs.Fits as fits
use Rattle.unpacking.proofs.Words as law
use Rattle.unpacking.proofs.blocks.load_words.Goals as goal

pub loop-word-init : goal.loop-word-init
loop-word-init c = let a = c.args in
    (law.staged-none a.first _ _ (omega arith) (omega arith), omega (arith, zero-mul (a.width / 2)))

pub loop-word-preserved : goal.loop-word-preserved
loop-word-preserved c = let s = c.args.width / 2 in
    let l = c.loop-word in
    let j = l.word-index in
    let room = fits.room s {i = j} {n = 32} (omega arith) in (
      law.staged-more j (omega arith) (omega arith) l.invariant.1 refl (omega (arith, room)) (omega arith) (omega arith) c.load_long.ensures l.invariant.0,
      omega (arith, add-mul j 1 s),
    )
