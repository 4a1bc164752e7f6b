-- Copied are as many as both lists have. Assumes nothing.
use mathlib.Core.Path.{◌≡◌, ap, ap₂, ◌∙◌}
use mathlib.Core.List.{List, ◌++◌}
use Prim.Native.Nat.{ℕ, ◌+◌, min}
use native.Mathlib.Omega.{arith}
use lib.ListN.{length, take, drop, length-take}
use Rattle.std.proofs.lemmas.List.{take_min}
use Rattle.bits.specs.Bits.{over}
use Rattle.bits.proofs.copying.copy_over.Goals as goal

pub returns-clause-copied : goal.returns-clause-copied
unfolding over
returns-clause-copied c = let to : List ℕ = c.args.to.now in
    let from : List ℕ = c.args.from.now in
    let count : c.loop-i.i ≡ min (length to) (length from) = omega arith in
    let far : 0 + c.loop-i.i ≡ length (take (length to) from) = omega (arith, length-take (length to) from) in
    c.loop-i.invariant
    ∙ ap₂ (λ (x : List ℕ) (n : ℕ). x ++ drop n to) (ap (λ (n : ℕ). take n from) count ∙ take_min (length to) from) far
