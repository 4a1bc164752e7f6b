-- The states of a header come first; what is left is by the phase that they left.
use mathlib.Core.Path.{◌≡◌, refl, sym, ap, ◌∙◌}
use mathlib.Core.List.{[], ◌∷◌}
use mathlib.Core.Logic.{inl, inr}
use Prim.Native.Nat.{ℕ}
use lib.ListN.{drop}
use types.Run.{OneOf}
use denote.Enum.Declared.{tag_of}
use Rattle.parts.specs.declared.command.Command.{Command}
use Rattle.phases.specs.contracts.phase.Phase.{the_type}
use Rattle.phases.specs.declared.phase.Phase.{Phase}
use Rattle.phases.specs.declared.phase.Phase.TheVariants.{Hunting, Opening, Counting, Slice, Passing, Lost}
use Rattle.phases.specs.Phases.{phase_of}
use Rattle.device.specs.Step.{at}
use Rattle.intake.specs.Intake.{high_taken, progress_of, halfway, headed_all}
use Rattle.intake.proofs.Phases.{onward, high-by, in_header-tag, onward-header, onward-lost}
use Rattle.intake.proofs.highs.high.Goals as goal
use Rattle.intake.proofs.highs.high.Goals.{After-head_all-phase}

-- the tags of the phases of a header
another : (p : Phase) → ((c : Command) (n m : ℕ) → p ≡ Slice c n m → ⊥) → (p ≡ Passing → ⊥) → (p ≡ Lost → ⊥) → OneOf (0 ∷ 1 ∷ 2 ∷ []) (tag_of the_type p)
another (Hunting w) f g h = inl refl
another (Opening n) f g h = inr (inl refl)
another (Counting c n) f g h = inr (inr refl)
another (Slice c n t) f g h = absurd (f c n t refl)
another Passing f g h = absurd (g refl)
another Lost f g h = absurd (h refl)

-- the phase behind the header
header : (c : After-head_all-phase) → c.head_all-phase.result ≡ headed_all (phase_of c.args.device.place) (drop c.args.from c.args.states.now) c.args.from
header c = c.head_all-phase.ensures ∙ ap (λ (x : Phase). headed_all x (drop c.args.from c.args.states.now) c.args.from) c.from.ensures

-- what is left to do behind it
after : (c : After-head_all-phase) → high_taken c.args.device (drop c.args.from c.args.states.now) c.args.from ≡ onward c.args.device.registers c.args.states.now c.head_all-phase.result
after c = high-by c.args.device c.args.states.now c.args.from c.head_all-phase.result c.requires.0 c.requires.1 (header c)

-- by the phase
left_at : (c : After-head_all-phase) (x : Phase) → c.head_all-phase.result.phase ≡ x
    → progress_of (high_taken (at c.args.device.registers x) (drop c.head_all-phase.result.at c.args.states.now) c.head_all-phase.result.at)
    ≡ progress_of (high_taken c.args.device (drop c.args.from c.args.states.now) c.args.from)
left_at c x e =
    let q = c.head_all-phase.result in
    sym (ap progress_of (after c ∙ ap (λ (y : Phase). high_taken (at c.args.device.registers y) (drop q.at c.args.states.now) q.at) e))

pub returns-in-Slice : goal.returns-in-Slice
returns-in-Slice c = c.take_on.ensures ∙ left_at (goal.at.returns-in-Slice c).After-head_all-phase _ c.in-Slice.is

pub returns-in-Passing : goal.returns-in-Passing
returns-in-Passing c = c.pass.ensures ∙ left_at (goal.at.returns-in-Passing c).After-head_all-phase _ c.in-Passing.is

pub returns-in-Lost : goal.returns-in-Lost
returns-in-Lost c =
    let a = c.args in
    let q = c.head_all-phase.result in
    c.stop.ensures
    ∙ ap (halfway a.device.registers.slice q.phase) c.highs_end.ensures
    ∙ sym (ap progress_of (after (goal.at.returns-in-Lost c).After-head_all-phase ∙ onward-lost a.device.registers a.states.now q c.in-Lost.is))

pub returns-in_default : goal.returns-in_default
returns-in_default c =
    let a = c.args in
    let q = c.head_all-phase.result in
    let here = (goal.at.returns-in_default c).After-head_all-phase in
    c.stop-in_default.ensures
    ∙ sym (ap progress_of (after here
    ∙ onward-header a.device.registers a.states.now (phase_of a.device.place) a.from q (header here)
    (in_header-tag q.phase (another q.phase c.in_default.not-Slice c.in_default.not-Passing c.in_default.not-Lost))))
