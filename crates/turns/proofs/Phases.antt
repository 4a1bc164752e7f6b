-- A phase that goes on alone. As long as no register is touched, a step moves the phase and nothing else; the loop over the states stops at
-- the first one at which this is not so. By induction on the states at hand. Assumes nothing.
use mathlib.Core.Path.{◌≡◌, refl, ap, sym, ◌∙◌}
use mathlib.Core.Bool.{Bool, true, false, ◌||◌, cond, true≢false}
use mathlib.Core.List.{List, [], ◌∷◌}
use Prim.Native.Nat.{ℕ, ◌+◌, ◌-◌, ◌*◌, ◌%◌, ◌<◌, ◌≤◌}
use native.Mathlib.Nat.{mod-lt}
use native.Mathlib.Omega.{arith}
use lib.Dec.{eqb, ltb, lit<}
use lib.ListN.{length, get_or, drop, drop_of_length-le}
use borrow.Author.Tests.{eqb-true, eq-eqb, ne_eqb, lt-ltb, le-ltb}
use Rattle.parts.specs.Parts.{command_at}
use Rattle.phases.specs.Phases.{pushed, phase_of, window_of, heard, opened, in_header, headed}
use Rattle.device.specs.Step.{step, step_high, moved, at}
use Rattle.phases.specs.declared.phase.Phase.{Phase}
use Rattle.phases.specs.declared.phase.Phase.TheVariants.{Hunting, Opening, Counting, Slice, Passing, Lost}
use Rattle.registers.specs.declared.registers.Registers.{Registers}
use Rattle.device.specs.declared.device.Device.{Device}
use Rattle.phases.proofs.Places.{Small, phase-place}
use Rattle.phases.proofs.Rising.{rising-any}
use Rattle.tables.proofs.Booleans.{cond_both}
use Rattle.intake.proofs.Clauses.{drop-on}
use Rattle.intake.proofs.Phases.{step-high, headed-small, drop-tail}
use Rattle.turns.specs.Front.{is_passing, is_lost, passes, phase_only, phase_step, phase_run, hear_all, hunts_on}
use Rattle.turns.specs.declared.front.Heard.{Heard}
use Rattle.turns.specs.declared.front.PhaseRun.{PhaseRun}

-- ---- a passing record, by its number

pub passes-number : (d : Device) → passes d ≡ eqb d.place.phase 4
passes-number d = go (eqb d.place.phase 0) refl (eqb d.place.phase 1) refl (eqb d.place.phase 2) refl (eqb d.place.phase 3) refl (eqb d.place.phase 4) refl
  where
    other : (k : ℕ) → eqb d.place.phase k ≡ true → (k ≡ 4 → ⊥) → false ≡ eqb d.place.phase 4
    other k e ne = sym (ne_eqb d.place.phase 4 (λ f. ne (sym (eqb-true d.place.phase k e) ∙ f)))

    go : (a : Bool) → eqb d.place.phase 0 ≡ a → (b : Bool) → eqb d.place.phase 1 ≡ b → (c : Bool) → eqb d.place.phase 2 ≡ c → (e : Bool) → eqb d.place.phase 3 ≡ e
        → (f : Bool) → eqb d.place.phase 4 ≡ f
        → is_passing
        (cond a (Hunting (d.place.read % 512))
        (cond b (Opening d.place.read)
        (cond c (Counting (command_at d.place.command) d.place.read)
        (cond e (Slice (command_at d.place.command) d.place.count d.place.read) (cond f Passing Lost)))))
        ≡ eqb d.place.phase 4
    go true p b q c r e s f t = other 0 p (λ z. omega (arith, z))
    go false p true q c r e s f t = other 1 q (λ z. omega (arith, z))
    go false p false q true r e s f t = other 2 r (λ z. omega (arith, z))
    go false p false q false r true s f t = other 3 s (λ z. omega (arith, z))
    go false p false q false r false s true t = sym t
    go false p false q false r false s false t = sym t

-- ---- one state

step_high-headed : (r : Registers) (p : Phase) (s : ℕ) → (in_header p || is_lost p) ≡ true → step_high r p s ≡ moved r (headed p (s % 2))
step_high-headed r (Hunting w) s e = refl
step_high-headed r (Opening a) s e = refl
step_high-headed r (Counting c a) s e = refl
step_high-headed r (Slice c n t) s e = absurd (true≢false (sym e))
step_high-headed r Passing s e = absurd (true≢false (sym e))
step_high-headed r Lost s e = refl

pub step-low : (d : Device) (s : ℕ) → ltb s 2 ≡ true → step d s ≡ moved d.registers (heard (phase_of d.place) s)
step-low d s e = ap (λ (t : Bool). cond t (moved d.registers (heard (phase_of d.place) s)) (step_high d.registers (phase_of d.place) s)) e

pub step-phase_only : (r : Registers) (p : Phase) (s : ℕ) → Small p → phase_only p s ≡ true → step (at r p) s ≡ moved r (phase_step p s)
step-phase_only r p s h e = go (ltb s 2) refl e
  where
    go : (t : Bool) → ltb s 2 ≡ t → (t || (in_header p || is_lost p)) ≡ true → step (at r p) s ≡ moved r (cond t (heard p s) (headed p (s % 2)))
    go true f g = step-low (at r p) s f ∙ ap (λ (q : Phase). moved r (heard q s)) (phase-place p h)
    go false f g = step-high r p s h f ∙ step_high-headed r p s g

-- every phase that a state makes has a small window
pub heard-small : (p : Phase) (s : ℕ) → Small (heard p s)
heard-small p s = mod-lt (window_of p * 2 + s) (lit< tt)

pub roam_step-small : (p : Phase) (s : ℕ) → Small p → Small (phase_step p s)
roam_step-small p s h = cond_both Small (ltb s 2) _ _ (λ _. heard-small p s) (λ _. headed-small p (s % 2) h)

-- and none of them passes
abbrev pub Quiet : Phase → Type 0
Quiet p = is_passing p ≡ false

opened-quiet : (x : ℕ) → Quiet (opened x)
opened-quiet x =
    cond_both Quiet (eqb x 0) _ _ (λ _. refl)
    (λ _. cond_both Quiet (eqb x 21) _ _ (λ _. refl)
    (λ _. cond_both Quiet (eqb x 42) _ _ (λ _. refl)
    (λ _. cond_both Quiet (eqb x 63) _ _ (λ _. refl) (λ _. refl))))

pub headed-quiet : (p : Phase) (b : ℕ) → Quiet p → Quiet (headed p b)
headed-quiet (Hunting w) b e = rising-any Quiet w b refl refl refl refl
headed-quiet (Opening a) b e = cond_both Quiet (ltb (a * 2 + b) 64) _ _ (λ _. refl) (λ _. opened-quiet (a * 2 + b - 64))
headed-quiet (Counting c a) b e = cond_both Quiet (ltb (a * 2 + b) 1024) _ _ (λ _. refl) (λ _. refl)
headed-quiet (Slice c n t) b e = e
headed-quiet Passing b e = e
headed-quiet Lost b e = e

roam_step-quiet : (p : Phase) (s : ℕ) → Quiet p → Quiet (phase_step p s)
roam_step-quiet p s e = cond_both Quiet (ltb s 2) _ _ (λ _. refl) (λ _. headed-quiet p (s % 2) e)

pub phase_run-quiet : (p : Phase) (ss : List ℕ) (i : ℕ) → Quiet p → Quiet (phase_run p ss i).phase
unfolding phase_run
phase_run-quiet p [] i e = e
phase_run-quiet p (s ∷ ss) i e =
    cond_both (λ (q : PhaseRun). Quiet q.phase) (phase_only p s) (phase_run (phase_step p s) ss (i + 1)) (record { phase = p; at = i })
    (λ _. phase_run-quiet (phase_step p s) ss (i + 1) (roam_step-quiet p s e)) (λ _. e)

-- ---- the loop

pub phase_run-low : (p : Phase) (s : ℕ) (ss : List ℕ) (i : ℕ) → ltb s 2 ≡ true → phase_run p (s ∷ ss) i ≡ phase_run (heard p s) ss (i + 1)
unfolding phase_run
phase_run-low p s ss i e = rw e refl

pub phase_run-end : (p : Phase) (ss : List ℕ) (i k : ℕ) → length ss ≤ i → phase_run p (drop i ss) k ≡ record { phase = p; at = k }
unfolding phase_run
phase_run-end p ss i k h = rw (drop_of_length-le ss h) refl

pub phase_run-stop : (p : Phase) (ss : List ℕ) (i k : ℕ) → i < length ss → phase_only p (get_or ss i 0) ≡ false → phase_run p (drop i ss) k ≡ record { phase = p; at = k }
unfolding phase_run
phase_run-stop p ss i k h e =
    ap (λ (xs : List ℕ). phase_run p xs k) (drop-on ss i h)
    ∙ ap (λ (t : Bool). cond t (phase_run (phase_step p (get_or ss i 0)) (drop (i + 1) ss) (k + 1)) (record { phase = p; at = k })) e

pub phase_run-next : (p : Phase) (ss : List ℕ) (i k : ℕ) → i < length ss → phase_only p (get_or ss i 0) ≡ true → phase_run p (drop i ss) k ≡ phase_run (phase_step p (get_or ss i 0)) (drop (i + 1) ss) (k + 1)
unfolding phase_run
phase_run-next p ss i k h e =
    ap (λ (xs : List ℕ). phase_run p xs k) (drop-on ss i h)
    ∙ ap (λ (t : Bool). cond t (phase_run (phase_step p (get_or ss i 0)) (drop (i + 1) ss) (k + 1)) (record { phase = p; at = k })) e

-- the three, for the code that goes state by state
pub ruleset run_clauses = (phase_run-end, phase_run-stop, phase_run-next)

-- ---- low states first

hear-low : (w s : ℕ) (ss : List ℕ) (i : ℕ) → ltb s 2 ≡ true → hear_all w (s ∷ ss) i ≡ hear_all (pushed w s 512) ss (i + 1)
unfolding hear_all
hear-low w s ss i e = rw e refl

hear-high : (w s : ℕ) (ss : List ℕ) (i : ℕ) → ltb s 2 ≡ false → hear_all w (s ∷ ss) i ≡ record { window = w; at = i }
unfolding hear_all
hear-high w s ss i e = rw e refl

pub hear-end : (w : ℕ) (ss : List ℕ) (i k : ℕ) → length ss ≤ i → hear_all w (drop i ss) k ≡ record { window = w; at = k }
unfolding hear_all
hear-end w ss i k h = rw (drop_of_length-le ss h) refl

pub hear-stop : (w : ℕ) (ss : List ℕ) (i k : ℕ) → i < length ss → 2 ≤ get_or ss i 0 → hear_all w (drop i ss) k ≡ record { window = w; at = k }
hear-stop w ss i k h l = ap (λ (xs : List ℕ). hear_all w xs k) (drop-on ss i h) ∙ hear-high w (get_or ss i 0) (drop (i + 1) ss) k (le-ltb (get_or ss i 0) 2 l)

pub hear-next : (w : ℕ) (ss : List ℕ) (i k : ℕ) → i < length ss → get_or ss i 0 < 2 → hear_all w (drop i ss) k ≡ hear_all (pushed w (get_or ss i 0) 512) (drop (i + 1) ss) (k + 1)
hear-next w ss i k h l = ap (λ (xs : List ℕ). hear_all w xs k) (drop-on ss i h) ∙ hear-low w (get_or ss i 0) (drop (i + 1) ss) k (lt-ltb (get_or ss i 0) 2 l)

-- the three, for the code that goes state by state
pub ruleset hear_clauses = (hear-end, hear-stop, hear-next)

-- it goes on
hear-far : (w : ℕ) (ss : List ℕ) (i : ℕ) → i ≤ (hear_all w ss i).at
unfolding hear_all
hear-far w [] i = omega arith
hear-far w (s ∷ ss) i =
    let next : i + 1 ≤ (hear_all (pushed w s 512) ss (i + 1)).at = hear-far (pushed w s 512) ss (i + 1) in
    cond_both (λ (h : Heard). i ≤ h.at) (ltb s 2) (hear_all (pushed w s 512) ss (i + 1)) (record { window = w; at = i }) (λ _. omega (arith, next)) (λ _. omega arith)

module _ (ss : List ℕ) where
  -- a hunting device hears low states, and then goes on
  hunting-on : (rest : List ℕ) (w i : ℕ) → drop i ss ≡ rest → let h : Heard = hear_all w rest i in phase_run (Hunting w) rest i ≡ phase_run (Hunting h.window) (drop h.at ss) h.at
  unfolding hear_all
  hunting-on [] w i e = ap (λ (xs : List ℕ). phase_run (Hunting w) xs i) (sym e)
  hunting-on (s ∷ rest) w i e = go (ltb s 2) refl (hunting-on rest (pushed w s 512) (i + 1) (drop-tail ss i s rest e))
    where
      go : (b : Bool) → ltb s 2 ≡ b
          → (let h : Heard = hear_all (pushed w s 512) rest (i + 1) in phase_run (Hunting (pushed w s 512)) rest (i + 1) ≡ phase_run (Hunting h.window) (drop h.at ss) h.at)
          → let h : Heard = hear_all w (s ∷ rest) i in phase_run (Hunting w) (s ∷ rest) i ≡ phase_run (Hunting h.window) (drop h.at ss) h.at
      go true f ih =
          phase_run-low (Hunting w) s rest i f ∙ ih
          ∙ ap (λ (h : Heard). phase_run (Hunting h.window) (drop h.at ss) h.at) (sym (hear-low w s rest i f))
      go false f ih =
          ap (λ (xs : List ℕ). phase_run (Hunting w) xs i) (sym e) ∙ ap (λ (h : Heard). phase_run (Hunting h.window) (drop h.at ss) h.at) (sym (hear-high w s rest i f))

  -- and so does any
  phase-on : (rest : List ℕ) (p : Phase) (i : ℕ) → drop i ss ≡ rest
      → let h : Heard = hear_all (window_of p) rest i in phase_run p rest i ≡ phase_run (hunts_on p i h) (drop h.at ss) h.at
  unfolding hear_all
  phase-on [] p i e =
      ap (λ (xs : List ℕ). phase_run p xs i) (sym e) ∙ ap (λ (b : Bool). phase_run (cond b p (Hunting (window_of p))) (drop i ss) i) (sym (eq-eqb i i refl))
  phase-on (s ∷ rest) p i e = go (ltb s 2) refl
    where
      by : Heard → PhaseRun
      by h = phase_run (hunts_on p i h) (drop h.at ss) h.at

      go : (b : Bool) → ltb s 2 ≡ b → phase_run p (s ∷ rest) i ≡ by (hear_all (window_of p) (s ∷ rest) i)
      go true f =
          let w : ℕ = pushed (window_of p) s 512 in
          let h : Heard = hear_all w rest (i + 1) in
          let far : i + 1 ≤ h.at = hear-far w rest (i + 1) in
          phase_run-low p s rest i f ∙ hunting-on rest w (i + 1) (drop-tail ss i s rest e)
          ∙ ap (λ (b : Bool). phase_run (cond b p (Hunting h.window)) (drop h.at ss) h.at) (sym (ne_eqb h.at i (λ z. omega (arith, far, z))))
          ∙ ap by (sym (hear-low (window_of p) s rest i f))
      go false f =
          ap (λ (xs : List ℕ). phase_run p xs i) (sym e)
          ∙ ap (λ (b : Bool). phase_run (cond b p (Hunting (window_of p))) (drop i ss) i) (sym (eq-eqb i i refl))
          ∙ ap by (sym (hear-high (window_of p) s rest i f))

  pub heard-on : (p : Phase) (i : ℕ) → let h : Heard = hear_all (window_of p) (drop i ss) i in phase_run p (drop i ss) i ≡ phase_run (hunts_on p i h) (drop h.at ss) h.at
  heard-on p i = phase-on (drop i ss) p i refl

-- it stays within the states
pub record Along (ss : List ℕ) (i : ℕ) (q : PhaseRun) : Type 0 where
  pub starts : i ≤ q.at
  pub ends : q.at ≤ i + length ss

pub phase_run-along : (p : Phase) (ss : List ℕ) (i : ℕ) → Along ss i (phase_run p ss i)
unfolding phase_run
phase_run-along p [] i = record { starts = omega arith; ends = omega arith }
phase_run-along p (s ∷ ss) i =
    let next : Along ss (i + 1) (phase_run (phase_step p s) ss (i + 1)) = phase_run-along (phase_step p s) ss (i + 1) in
    cond_both (Along (s ∷ ss) i) (phase_only p s) (phase_run (phase_step p s) ss (i + 1)) (record { phase = p; at = i })
    (λ _. record { starts = omega (arith, next.starts); ends = omega (arith, next.ends) }) (λ _. record { starts = omega arith; ends = omega arith })
