use Rattle.std.proofs.Common.{◌≡◌, ◌∙◌, ℕ, ◌+◌, ◌-◌, ◌*◌, ◌≤◌, Bool, true, false, ◌&&◌, List, length, take, drop, eqb, ap, sym, arith}
use Rattle.differences.specs.Groups.{differs_at, in_turns}
use Rattle.differences.proofs.Differs.{turns_left, turns-split, differs-end}
use Rattle.differences.proofs.Lists.{part-of}
use Rattle.differences.proofs.own.turns_same.Goals as goal

-- what is left after the bank from output i on
bank-next : (i : ℕ) (vs xs ys : List ℕ) (b : Bool)
    → i + i + 16 ≤ length vs
    → eqb (differs_at vs (in_turns xs ys)) (length vs) ≡ eqb (turns_left vs xs ys i) (length vs - (i + i))
    → b ≡ eqb (differs_at (take (i + 8 + (i + 8) - (i + i)) (drop (i + i) vs)) (in_turns (take (i + 8 - i) (drop i xs)) (take (i + 8 - i) (drop i ys)))) 16
    → eqb (differs_at vs (in_turns xs ys)) (length vs) ≡ (b && eqb (turns_left vs xs ys (i + 8)) (length vs - ((i + 8) + (i + 8))))
bank-next i vs xs ys b within so_far e =
    let left : length vs - (i + i) ≡ 16 + (length vs - ((i + 8) + (i + 8))) = omega arith in
    let two : i + 8 + (i + 8) ≡ i + i + 16 = omega arith in
    so_far ∙ ap (eqb (turns_left vs xs ys i)) left ∙ turns-split vs xs ys i 8 (length vs - ((i + 8) + (i + 8)))
    ∙ rw (e, two, part-of (i + i) 16 vs, part-of i 8 xs, part-of i 8 ys)

pub returns-then-not-bank_same : goal.returns-then-not-bank_same
returns-then-not-bank_same c =
    let a = c.args in
    let within : 8 * c.loop-bank.bank + 8 * c.loop-bank.bank + 16 ≤ length a.values.now = omega arith in
    sym (bank-next (8 * c.loop-bank.bank) a.values.now a.mux0.now a.mux1.now false within c.loop-bank.invariant (sym c.if-not-bank_same.true ∙ c.bank_same.ensures))

pub loop-bank-preserved : goal.loop-bank-preserved
loop-bank-preserved c =
    let a = c.args in
    let within : 8 * c.loop-bank.bank + 8 * c.loop-bank.bank + 16 ≤ length a.values.now = omega arith in
    let next : 8 * (c.loop-bank.bank + 1) ≡ 8 * c.loop-bank.bank + 8 = omega arith in
    rw next (bank-next (8 * c.loop-bank.bank) a.values.now a.mux0.now a.mux1.now true within c.loop-bank.invariant (sym c.if-not-bank_same.false ∙ c.bank_same.ensures))

pub returns : goal.returns
returns c =
    let a = c.args in
    let i : ℕ = 8 * c.loop-bank.bank in
    let end : length a.values.now ≤ i + i = omega arith in
    let none : length a.values.now - (i + i) ≡ 0 = omega arith in
    sym (c.loop-bank.invariant ∙ rw (none, differs-end a.values.now (in_turns (drop i a.mux0.now) (drop i a.mux1.now)) (i + i) end))
