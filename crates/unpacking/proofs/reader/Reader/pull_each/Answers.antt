use mathlib.Core.Path.{◌≡◌, ap, ◌∙◌}
use mathlib.Core.List.{◌∷◌, [], ◌++◌}
use Prim.Native.Nat.{ℕ, ◌+◌}
use native.Mathlib.Nat.{lt_of_lt_of_le}
use native.Mathlib.Numerals.{add-one}
use native.Mathlib.Omega.{arith}
use lib.ListN.{take, set}
use lib.Seq.{take-suc-set}
use lib.Pow.{pow_mono}
use Rattle.unpacking.proofs.Reading as reading
use Rattle.unpacking.proofs.reader.Reader.pull_each.Goals as goal

pub loop-value-init : goal.loop-value-init
loop-value-init c = reading.pulled-none _ (omega arith)

pub overflow_cast-value : goal.overflow_cast-value
overflow_cast-value c = record { fits = lt_of_lt_of_le (c.pull-next.ensures.below 0) (pow_mono c.requires.in_bounds.0) }

pub loop-value-preserved : goal.loop-value-preserved
loop-value-preserved c = let l = c.loop-value in
    let i = l.value-index in
    let v = c.pull-next.result.value in
    let more : take (i + 1) (set l.values i v) ≡ take i l.values ++ (v ∷ [])
    = ap (λ (n : ℕ). take n (set l.values i v)) (add-one i) ∙ take-suc-set l.values i v (omega arith) in
    rw more (reading.pulled-append l.invariant c.pull-next.ensures)
