use mathlib.Core.Path.{◌≡◌, sym, ap, ◌∙◌}
use Prim.Native.Nat.{ℕ}
use lib.ListN.{drop}
use Rattle.phases.specs.Phases.{phase_of, window_of}
use Rattle.phases.specs.declared.phase.Phase.{Phase}
use Rattle.intake.specs.Intake.{progress_of}
use Rattle.turns.specs.Front.{phase_run, phase_taken, hear_all, hunts_on}
use Rattle.turns.specs.declared.front.Heard.{Heard}
use Rattle.turns.proofs.Phases.{heard-on}
use Rattle.turns.proofs.front.low_take.Goals as goal

pub returns : goal.returns
returns c =
    let a = c.args in
    let p : Phase = phase_of a.device.place in
    let heard : c.hear_all-heard.result ≡ hear_all (window_of p) (drop a.at a.states.now) a.at =
    c.hear_all-heard.ensures ∙ ap (λ (n : ℕ). hear_all n (drop a.at a.states.now) a.at) (c.window_of.ensures ∙ ap window_of c.from-before.ensures) in
    let went : c.run_phase-run.result ≡ phase_run p (drop a.at a.states.now) a.at =
    c.run_phase-run.ensures
    ∙ ap (λ (q : Phase). phase_run q (drop c.hear_all-heard.result.at a.states.now) c.hear_all-heard.result.at)
    (c.hunt_on.ensures ∙ ap (λ (q : Phase). hunts_on q a.at c.hear_all-heard.result) c.from-before.ensures)
    ∙ ap (λ (x : Heard). phase_run (hunts_on p a.at x) (drop x.at a.states.now) x.at) heard
    ∙ sym (heard-on a.states.now p a.at) in
    c.stop.ensures ∙ ap progress_of (ap (phase_taken a.device) went)
