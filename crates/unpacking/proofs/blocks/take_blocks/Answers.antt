use mathlib.Core.Path.{◌≡◌, ap, ◌∙◌}
use Prim.Native.Nat.{ℕ, ◌+◌, ◌*◌, ◌/◌}
use native.Mathlib.Nat.{add-zero, zero-mul, add-mul}
use native.Mathlib.Omega.{arith}
use lib.ListN.{length}
use Rattle.bits.specs.Bits.{over_at}
use Rattle.unpacking.specs.Blocks.{group_values}
use Rattle.unpacking.proofs.Reading as reading
use Rattle.unpacking.proofs.Words as law
use Rattle.unpacking.proofs.blocks.take_blocks.Goals as goal

pub returns-then-width-ne14 : goal.returns-then-width-ne14
returns-then-width-ne14 c = (rw (zero-mul, add-zero) (reading.pulled-none c.args.width (omega arith)), omega arith)

pub loop-k-init : goal.loop-k-init
loop-k-init c = (reading.pulled-none c.args.width (omega arith), omega (arith, zero-mul c.args.width))

pub loop-k-preserved : goal.loop-k-preserved
loop-k-preserved c = let w = c.args.width in
    let l = c.loop-k in
    let words = c.load_words.new.words in
    let stored = c.spread_words.ensures ∙ ap (λ (n : ℕ). over_at (128 * l.k) (group_values n words) l.values) c.new-lanes.ensures in
    let behind : l.here + 32 * (w / 2) ≡ l.here + 16 * w = omega arith in
    let next : 128 * (l.k + 1) ≡ 128 * l.k + 4 * length words = omega (arith, c.load_words.array_long) in
    let eights : 128 * (l.k + 1) / 8 ≡ 128 * l.k / 8 + 16 = omega arith in (
      rw (next, ← behind) (law.words-read w (128 * l.k) words l.values (omega arith) l.invariant.0 c.load_words.ensures stored),
      omega (arith, ap (λ (n : ℕ). n * w) eights, add-mul (128 * l.k / 8) 16 w),
    )
