use Rattle.std.proofs.Common.{rules, ◌≡◌, ℕ, ◌<◌, ◌+◌, length, get_or, ap, sym, ◌∙◌, arith}
use Rattle.registers.specs.declared.registers.Registers.{Registers}
use Rattle.intake.specs.Intake.{progress_of, completed}
use Rattle.intake.proofs.Phases.{high-over, overfilled}
use Rattle.intake.proofs.Settled.{full-progress}
use Rattle.intake.proofs.slice.overfill.Goals as goal

pub returns-in-Some : goal.returns-in-Some
returns-in-Some c =
    let a = c.args in
    let r = a.registers in
    let within : a.from < length a.states.now = search rules in
    let state : c.in-Some.field-0.now ≡ get_or a.states.now a.from 0 = search rules in
    c.whole.ensures
    ∙ ap (λ (g : Registers). completed r g.slice a.command a.count (a.from + 1)) (c.take_bit-filled.ensures ∙ ap (λ (s : ℕ). overfilled r a.command a.taken s) state)
    ∙ sym (ap progress_of (high-over r a.command a.count a.taken a.states.now a.from c.requires within (omega (arith, c.if-state-ge2.true, state)))
    ∙ full-progress r (overfilled r a.command a.taken (get_or a.states.now a.from 0)).slice a.command a.count (a.from + 1))
