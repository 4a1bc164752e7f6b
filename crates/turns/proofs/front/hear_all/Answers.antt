-- Nine or more low states are heard as the last nine of them are, from 0. Assumes nothing.
use borrow.Author.Rules.{rules}
use native.Mathlib.Omega.{arith}
use mathlib.Core.Path.{◌≡◌, sym, ◌∙◌}
use Prim.Native.Nat.{ℕ, ◌-◌, ◌+◌, ◌≤◌}
use Rattle.turns.proofs.LowStates.{lows-forget, lows-same}
use Rattle.turns.proofs.front.hear_all.Goals as goal

pub returns : goal.returns
returns c = let t = c in
    let a = t.args in
    let e : ℕ = t.low_blocks-end.result in
    let far : a.from + 9 ≤ e = search rules in
    let place : a.from + (e - 9 - a.from) ≡ e - 9 = omega (arith, far) in
    let nine : e ≡ e - 9 + 9 = omega (arith, far) in
    c.hear_each-2.ensures
    ∙ sym (lows-forget a.states.now (e - 9 - a.from) a.window 0 a.from (e - 9) place (lows-same a.states.now a.from e (e - 9 + 9) nine t.low_blocks-end.ensures.1))
