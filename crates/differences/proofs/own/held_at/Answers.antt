use Rattle.std.proofs.Common.{◌≡◌, ◌∙◌, ℕ, ◌+◌, ◌/◌, ap, sym, arith, get_or}
use Rattle.differences.specs.Groups.{in_turns}
use Rattle.differences.proofs.Lists.{turns-even, turns-odd}
use Rattle.differences.proofs.own.held_at.Goals as goal

pub returns-then-place-eq0 : goal.returns-then-place-eq0
returns-then-place-eq0 c =
    let a = c.args in
    let i : ℕ = a.place / 2 in
    let even : a.place ≡ i + i = omega arith in
    sym (ap (λ (p : ℕ). get_or (in_turns a.mux0.now a.mux1.now) p 0) even ∙ turns-even i a.mux0.now a.mux1.now (omega arith) (omega arith))

pub returns-else-place-eq0 : goal.returns-else-place-eq0
returns-else-place-eq0 c =
    let a = c.args in
    let i : ℕ = a.place / 2 in
    let odd : a.place ≡ i + i + 1 = omega arith in
    sym (ap (λ (p : ℕ). get_or (in_turns a.mux0.now a.mux1.now) p 0) odd ∙ turns-odd i a.mux0.now a.mux1.now (omega arith) (omega arith))
