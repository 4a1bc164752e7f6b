-- What each phase does with the high states at hand. Those of a header change the phase alone; a lost device ignores them; a passing device,
-- and one whose slice is full, stops after one. By induction on the states at hand. Assumes nothing.
use mathlib.Core.Path.{◌≡◌, refl, sym, ap, ◌∙◌, subst}
use mathlib.Core.Bool.{Bool, true, false, cond, true≢false}
use mathlib.Core.List.{List, [], ◌∷◌}
use mathlib.Core.Logic.{⊎_elim}
use Prim.Native.Nat.{ℕ, ◌+◌, ◌/◌, ◌%◌, ◌<◌, ◌≤◌}
use native.Mathlib.Omega.{arith}
use lib.Dec.{ltb, lit<}
use lib.ListN.{length, get_or, drop}
use lib.Seq.{drop-drop}
use types.Run.{OneOf}
use denote.Enum.Declared.{tag_of}
use Rattle.phases.specs.contracts.phase.Phase.{the_type}
use borrow.Author.Tests.{le-ltb, lt-ltb}
use Rattle.parts.specs.Parts.{part_of, field_width, field_limit}
use Rattle.parts.specs.declared.command.Command.{Command}
use Rattle.phases.specs.Phases.{phase_of, heard, in_header, headed}
use Rattle.device.specs.Step.{step, step_high, at, moved, sending, slice_length}
use Rattle.phases.proofs.Places.{Small, phase-place, phase-small}
use Rattle.phases.proofs.Rising.{rising-small, opening-small, counting-small}
use Rattle.phases.specs.declared.phase.Phase.{Phase}
use Rattle.phases.specs.declared.phase.Phase.TheVariants.{Hunting, Opening, Counting, Slice, Passing, Lost}
use Rattle.phases.specs.declared.phase.Sent.TheVariants.{Nothing, One, Header}
use Rattle.registers.specs.Held.{took, fault, raised}
use Rattle.registers.specs.declared.registers.Registers.{Registers}
use Rattle.storing.specs.Stored.{stored}
use Rattle.device.specs.declared.device.Device.{Device}
use Rattle.device.specs.declared.device.Stepped.{Stepped}
use Rattle.intake.specs.Intake.{Taken, stopped, dated_step, step_in, high_taken, unless_sent, headed_all, highs_end, full}
use Rattle.intake.specs.declared.highs.Headed.{Headed}
use Rattle.intake.proofs.Clauses.{drop-on, high_end}

-- ---- the step, by the phase

abbrev by : Registers → ℕ → Phase → Stepped
by r s p = cond (ltb s 2) (moved r (heard p s)) (step_high r p s)

-- a device steps by its phase, whatever other numbers its place has
pub step-normal : (d : Device) (s : ℕ) → step d s ≡ step (at d.registers (phase_of d.place)) s
step-normal d s = sym (ap (by d.registers s) (phase-place (phase_of d.place) (phase-small d.place)))

pub step-high : (r : Registers) (p : Phase) (s : ℕ) → Small p → ltb s 2 ≡ false → step (at r p) s ≡ step_high r p s
step-high r p s h e = ap (by r s) (phase-place p h) ∙ ap (λ (t : Bool). cond t (moved r (heard p s)) (step_high r p s)) e

-- ---- one state

-- after a step at high load
abbrev pub after : Stepped → List ℕ → ℕ → Taken
after x rest i = unless_sent x.sent (high_taken x.device rest (i + 1)) (stopped x.device (i + 1) x.sent)

pub high-none : (d : Device) (i : ℕ) → high_taken d [] i ≡ stopped d i Nothing
unfolding high_taken
high-none d i = refl

pub high-low : (d : Device) (s : ℕ) (rest : List ℕ) (i : ℕ) → ltb s 2 ≡ true → high_taken d (s ∷ rest) i ≡ stopped d i Nothing
unfolding high_taken
high-low d s rest i e = ap (λ (t : Bool). cond t (stopped d i Nothing) (after (step_in (i + 1) d s) rest i)) e

pub high-low-at : (d : Device) (ss : List ℕ) (i : ℕ) → i < length ss → get_or ss i 0 < 2 → high_taken d (drop i ss) i ≡ stopped d i Nothing
high-low-at d ss i h l =
    ap (λ (rest : List ℕ). high_taken d rest i) (drop-on ss i h) ∙ high-low d (get_or ss i 0) (drop (i + 1) ss) i (lt-ltb (get_or ss i 0) 2 l)

-- it, for the code that stops at a low state
-- at a low state, or at the end
pub ruleset stop_clauses = (high-low-at, high_end)

pub high-cons : (d : Device) (s : ℕ) (rest : List ℕ) (i : ℕ) → ltb s 2 ≡ false → high_taken d (s ∷ rest) i ≡ after (step_in (i + 1) d s) rest i
unfolding high_taken
high-cons d s rest i e = ap (λ (t : Bool). cond t (stopped d i Nothing) (after (step_in (i + 1) d s) rest i)) e

pub high-at : (r : Registers) (p : Phase) (s : ℕ) (rest : List ℕ) (i : ℕ) → Small p → ltb s 2 ≡ false
    → high_taken (at r p) (s ∷ rest) i ≡ after (dated_step (i + 1) r (step_high r p s)) rest i
high-at r p s rest i h e =
    high-cons (at r p) s rest i e ∙ ap (λ (x : Stepped). after (dated_step (i + 1) r x) rest i) (step-high r p s h e)

pub high-normal : (d : Device) (s : ℕ) (rest : List ℕ) (i : ℕ) → ltb s 2 ≡ false
    → high_taken d (s ∷ rest) i ≡ high_taken (at d.registers (phase_of d.place)) (s ∷ rest) i
high-normal d s rest i e =
    high-cons d s rest i e ∙ ap (λ (x : Stepped). after (dated_step (i + 1) d.registers x) rest i) (step-normal d s)
    ∙ sym (high-cons (at d.registers (phase_of d.place)) s rest i e)

-- ---- the states of a header

-- a bit of a header moves the phase, and nothing is sent
step-headed : (r : Registers) (p : Phase) (s : ℕ) → in_header p ≡ true → step_high r p s ≡ moved r (headed p (s % 2))
step-headed r (Hunting w) s h = refl
step-headed r (Opening n) s h = refl
step-headed r (Counting c n) s h = refl
step-headed r (Slice c n t) s h = absurd (true≢false (sym h))
step-headed r Passing s h = absurd (true≢false (sym h))
step-headed r Lost s h = absurd (true≢false (sym h))

pub headed-small : (p : Phase) (b : ℕ) → Small p → Small (headed p b)
headed-small (Hunting w) b h = rising-small w b
headed-small (Opening n) b h = opening-small n b
headed-small (Counting c n) b h = counting-small c n b
headed-small (Slice c n t) b h = h
headed-small Passing b h = h
headed-small Lost b h = h

headed-none : (p : Phase) (s : ℕ) (rest : List ℕ) (i : ℕ) → in_header p ≡ false → headed_all p (s ∷ rest) i ≡ record { phase = p; at = i }
unfolding headed_all
headed-none p s rest i o = rw o refl

headed-stop : (p : Phase) (s : ℕ) (rest : List ℕ) (i : ℕ) → in_header p ≡ true → ltb s 2 ≡ true → headed_all p (s ∷ rest) i ≡ record { phase = p; at = i }
unfolding headed_all
headed-stop p s rest i o e = rw (o, e) refl

headed-cons : (p : Phase) (s : ℕ) (rest : List ℕ) (i : ℕ) → in_header p ≡ true → ltb s 2 ≡ false
    → headed_all p (s ∷ rest) i ≡ headed_all (headed p (s % 2)) rest (i + 1)
unfolding headed_all
headed-cons p s rest i o e = rw (o, e) refl

high-headed-cons : (r : Registers) (p : Phase) (s : ℕ) (rest : List ℕ) (i : ℕ) → Small p → in_header p ≡ true → ltb s 2 ≡ false
    → high_taken (at r p) (s ∷ rest) i ≡ high_taken (at r (headed p (s % 2))) rest (i + 1)
high-headed-cons r p s rest i h o e =
    high-at r p s rest i h e ∙ ap (λ (x : Stepped). after (dated_step (i + 1) r x) rest i) (step-headed r p s o)

-- the rest of a list after one more
pub drop-tail : (ss : List ℕ) (i s : ℕ) (rest : List ℕ) → drop i ss ≡ s ∷ rest → drop (i + 1) ss ≡ rest
drop-tail ss i s rest e = sym (drop-drop 1 i ss) ∙ ap (λ (l : List ℕ). drop 1 l) e

module _ (r : Registers) (ss : List ℕ) where
  -- what is left to do after the states of a header
  abbrev pub onward : Headed → Taken
  onward h = high_taken (at r h.phase) (drop h.at ss) h.at

  pub high-headed : (rest : List ℕ) (p : Phase) (i : ℕ) → drop i ss ≡ rest → Small p → high_taken (at r p) rest i ≡ onward (headed_all p rest i)
  unfolding headed_all
  high-headed [] p i d h = ap (λ (l : List ℕ). high_taken (at r p) l i) (sym d)
  high-headed (s ∷ rest) p i d h =
      go (in_header p) refl (ltb s 2) refl (high-headed rest (headed p (s % 2)) (i + 1) (drop-tail ss i s rest d) (headed-small p (s % 2) h)) where
        here : high_taken (at r p) (s ∷ rest) i ≡ onward (record { phase = p; at = i })
        here = ap (λ (l : List ℕ). high_taken (at r p) l i) (sym d)

        go : (o : Bool) → in_header p ≡ o → (t : Bool) → ltb s 2 ≡ t
            → high_taken (at r (headed p (s % 2))) rest (i + 1) ≡ onward (headed_all (headed p (s % 2)) rest (i + 1))
            → high_taken (at r p) (s ∷ rest) i ≡ onward (headed_all p (s ∷ rest) i)
        go false o t e ih = here ∙ ap onward (sym (headed-none p s rest i o))
        go true o true e ih = here ∙ ap onward (sym (headed-stop p s rest i o e))
        go true o false e ih = high-headed-cons r p s rest i h o e ∙ ih ∙ ap onward (sym (headed-cons p s rest i o e))

  -- a header that is not over ends with the states, or at a low one
  abbrev pub Stops : Headed → Type 0
  Stops h = in_header h.phase ≡ true → onward h ≡ stopped (at r h.phase) h.at Nothing

  pub headed-stops : (rest : List ℕ) (p : Phase) (i : ℕ) → drop i ss ≡ rest → Stops (headed_all p rest i)
  unfolding headed_all
  headed-stops [] p i d = λ _. ap (λ (l : List ℕ). high_taken (at r p) l i) d ∙ high-none (at r p) i
  headed-stops (s ∷ rest) p i d =
      go (in_header p) refl (ltb s 2) refl (headed-stops rest (headed p (s % 2)) (i + 1) (drop-tail ss i s rest d)) where
        go : (o : Bool) → in_header p ≡ o → (t : Bool) → ltb s 2 ≡ t → Stops (headed_all (headed p (s % 2)) rest (i + 1)) → Stops (headed_all p (s ∷ rest) i)
        go false o t e ih = subst Stops (sym (headed-none p s rest i o)) (λ q. absurd (true≢false (sym q ∙ o)))
        go true o true e ih =
            subst Stops (sym (headed-stop p s rest i o e))
            (λ _. ap (λ (l : List ℕ). high_taken (at r p) l i) d ∙ high-low (at r p) s rest i e)
        go true o false e ih = subst Stops (sym (headed-cons p s rest i o e)) ih

-- ---- lost, passing, and a slice that is full

high-lost-cons : (s : ℕ) (rest : List ℕ) (i : ℕ) → ltb s 2 ≡ false → highs_end (s ∷ rest) i ≡ highs_end rest (i + 1)
unfolding highs_end
high-lost-cons s rest i e = rw e refl

high-lost-low : (s : ℕ) (rest : List ℕ) (i : ℕ) → ltb s 2 ≡ true → highs_end (s ∷ rest) i ≡ i
unfolding highs_end
high-lost-low s rest i e = rw e refl

pub high-lost : (r : Registers) (rest : List ℕ) (i : ℕ) → high_taken (at r Lost) rest i ≡ stopped (at r Lost) (highs_end rest i) Nothing
unfolding high_taken highs_end
high-lost r [] i = refl
high-lost r (s ∷ rest) i = go (ltb s 2) refl (high-lost r rest (i + 1)) where
  go : (t : Bool) → ltb s 2 ≡ t → high_taken (at r Lost) rest (i + 1) ≡ stopped (at r Lost) (highs_end rest (i + 1)) Nothing
      → high_taken (at r Lost) (s ∷ rest) i ≡ stopped (at r Lost) (highs_end (s ∷ rest) i) Nothing
  go true e ih = high-low (at r Lost) s rest i e ∙ ap (λ (j : ℕ). stopped (at r Lost) j Nothing) (sym (high-lost-low s rest i e))
  go false e ih =
      high-at r Lost s rest i (lit< tt) e ∙ ih ∙ ap (λ (j : ℕ). stopped (at r Lost) j Nothing) (sym (high-lost-cons s rest i e))

pub high-passing : (r : Registers) (ss : List ℕ) (i : ℕ) → i < length ss → 2 ≤ get_or ss i 0
    → high_taken (at r Passing) (drop i ss) i ≡ stopped (at r Passing) (i + 1) (One (get_or ss i 0))
high-passing r ss i h l =
    ap (λ (rest : List ℕ). high_taken (at r Passing) rest i) (drop-on ss i h)
    ∙ high-at r Passing (get_or ss i 0) (drop (i + 1) ss) i (lit< tt) (le-ltb (get_or ss i 0) 2 l)

-- the registers after one bit more than the slice has
abbrev pub overfilled : Registers → Command → ℕ → ℕ → Registers
overfilled r c t s = took r (t / field_width (part_of r.part) c) (s % 2) (field_limit (part_of r.part) c)

-- a passing device, at any state or at the end
pub ruleset passing_clauses = (high-low-at, high_end, high-passing)

pub high-over : (r : Registers) (c : Command) (n t : ℕ) (ss : List ℕ) (i : ℕ) → slice_length r c ≤ t → i < length ss → 2 ≤ get_or ss i 0
    → high_taken (at r (Slice c n t)) (drop i ss) i ≡ full r (overfilled r c t (get_or ss i 0)).slice c n (i + 1)
high-over r c n t ss i q h l =
    ap (λ (rest : List ℕ). high_taken (at r (Slice c n t)) rest i) (drop-on ss i h)
    ∙ high-at r (Slice c n t) (get_or ss i 0) (drop (i + 1) ss) i (lit< tt) (le-ltb (get_or ss i 0) 2 l)
    ∙ ap (λ (b : Bool). after (dated_step (i + 1) r (cond b (moved now (Slice c n (t + 1))) (sending (stored now c) Passing (Header c (raised n (fault now c)))))) (drop (i + 1) ss) i)
    (le-ltb (t + 1) (slice_length r c) (omega arith)) where
      now : Registers
      now = overfilled r c t (get_or ss i 0)

-- ---- by what the header's states left

-- the tags of the three phases that look for a header or read one
pub in_header-tag : (p : Phase) → OneOf (0 ∷ 1 ∷ 2 ∷ []) (tag_of the_type p) → in_header p ≡ true
in_header-tag (Hunting w) h = refl
in_header-tag (Opening n) h = refl
in_header-tag (Counting c n) h = refl
in_header-tag (Slice c n t) h = absurd (⊎_elim (λ e. omega arith) (λ i. ⊎_elim (λ e. omega arith) (λ e. omega arith) i) h)
in_header-tag Passing h = absurd (⊎_elim (λ e. omega arith) (λ i. ⊎_elim (λ e. omega arith) (λ e. omega arith) i) h)
in_header-tag Lost h = absurd (⊎_elim (λ e. omega arith) (λ i. ⊎_elim (λ e. omega arith) (λ e. omega arith) i) h)

pub high-by : (d : Device) (ss : List ℕ) (i : ℕ) (h : Headed) → i < length ss → 2 ≤ get_or ss i 0
    → h ≡ headed_all (phase_of d.place) (drop i ss) i
    → high_taken d (drop i ss) i ≡ onward d.registers ss h
high-by d ss i h l g e =
    ap (λ (rest : List ℕ). high_taken d rest i) (drop-on ss i l)
    ∙ high-normal d (get_or ss i 0) (drop (i + 1) ss) i (le-ltb (get_or ss i 0) 2 g)
    ∙ ap (λ (rest : List ℕ). high_taken (at d.registers (phase_of d.place)) rest i) (sym (drop-on ss i l))
    ∙ high-headed d.registers ss (drop i ss) (phase_of d.place) i refl (phase-small d.place)
    ∙ ap (onward d.registers ss) (sym e)

pub onward-header : (r : Registers) (ss : List ℕ) (p : Phase) (i : ℕ) (h : Headed) → h ≡ headed_all p (drop i ss) i → in_header h.phase ≡ true
    → onward r ss h ≡ stopped (at r h.phase) h.at Nothing
onward-header r ss p i h e = subst (Stops r ss) (sym e) (headed-stops r ss (drop i ss) p i refl)

pub onward-lost : (r : Registers) (ss : List ℕ) (h : Headed) → h.phase ≡ Lost
    → onward r ss h ≡ stopped (at r h.phase) (highs_end (drop h.at ss) h.at) Nothing
onward-lost r ss h e =
    ap (λ (p : Phase). high_taken (at r p) (drop h.at ss) h.at) e
    ∙ high-lost r (drop h.at ss) h.at
    ∙ ap (λ (p : Phase). stopped (at r p) (highs_end (drop h.at ss) h.at) Nothing) (sym e)
