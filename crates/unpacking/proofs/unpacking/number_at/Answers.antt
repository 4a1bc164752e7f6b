-- The bits before the first one asked for are read and dropped. Assumes nothing.
use mathlib.Core.Path.{◌≡◌, sym, ap, ◌∙◌}
use Prim.Native.Nat.{ℕ, ◌+◌, ◌*◌, ◌/◌, ◌%◌}
use native.Mathlib.Omega.{arith}
use lib.ListN.{take, drop}
use Rattle.bits.specs.Bits.{number, fields}
use Rattle.std.specs.Prelude.{Some}
use Rattle.unpacking.proofs.Answers as answers
use Rattle.unpacking.proofs.Reading as reading
use Rattle.unpacking.proofs.unpacking.number_at.Goals as goal

pub returns-then-width-gt64 : goal.returns-then-width-gt64
returns-then-width-gt64 c = sym (answers.number_at-wide _ _ _ (omega arith))

pub returns-then-src-first : goal.returns-then-src-first
returns-then-src-first c = sym (answers.number_at-short _ _ _ (omega arith))

pub returns : goal.returns
returns c = let a = c.args in
    let e : a.at / 8 * 8 + a.at % 8 ≡ a.at = omega arith in
    ap Some (reading.pulled-number (a.at / 8) (a.at % 8) (omega arith) (rw c.new.ensures at c.pull-before.ensures) c.pull_wide-found.ensures
    ∙ ap (λ (k : ℕ). number (take a.width (drop k (fields 8 a.src.now)))) e)
    ∙ sym (answers.number_at-within a.at a.width a.src.now (omega arith) (omega arith))
