-- Groups of rows one after the other, each judged by a function and handed on by `?`: the refusal of a group is that of all, and a group that
-- refuses nothing leaves it to those behind. Assumes nothing.
use Rattle.std.proofs.Common.{◌≡◌, refl, ap, ◌∙◌, ℕ, List, ◌++◌, true}
use Rattle.std.specs.Prelude.{Result, Ok, Err, IsErrAnd}
use Rattle.tables.specs.Refusals.{Row, first, number_of, carried}
use Rattle.tables.specs.declared.refusal.Refusal.{Refusal}
use Rattle.tables.specs.declared.refusal.Refusal.TheVariants as R
use Rattle.tables.proofs.Rows as rows
use native.Mathlib.Omega.{arith}

-- no refusal has the number 0
some : (r : Refusal) → number_of r ≡ 0 → ⊥
some R.UnknownPart e = omega (arith, e)
some R.WrongDeviceCount e = omega (arith, e)
some R.LongTail e = omega (arith, e)
some R.WrongLength e = omega (arith, e)
some R.NoRoom e = omega (arith, e)
some R.HighValue e = omega (arith, e)
some R.WrongSync e = omega (arith, e)
some R.WrongCommand e = omega (arith, e)
some R.WrongCount e = omega (arith, e)
some R.UnequalCopies e = omega (arith, e)
some R.UnusedBitSet e = omega (arith, e)
some R.WrongTail e = omega (arith, e)
some R.OutOfRange e = omega (arith, e)

pub refused : {A : Type 0} (xs bs : List Row) (answer : Result A Refusal) (r : Refusal) → IsErrAnd answer (λ x. x ≡ r) → number_of r ≡ first xs
    → carried answer ≡ first (xs ++ bs)
refused xs bs (Ok a) r h e = absurd h
refused xs bs (Err x) r h e = ap number_of h ∙ rows.sooner xs bs e (some r)

pub passed : {m : ℕ} (xs bs : List Row) → rows.positive xs ≡ true → 0 ≡ first xs → m ≡ first bs → m ≡ first (xs ++ bs)
passed xs bs p e f = rows.later xs bs p e refl f
