-- "Light" of docs/RULES.md for each part, configuration and global byte, as statements about what the questions answer. They follow from the
-- laws of Lit, which hold for any row. Assumes nothing.
use mathlib.Core.Path.{◌≡◌, refl, sym, ap, ap₂, ◌∙◌}
use mathlib.Core.Bool.{Bool, true, false, cond}
use Prim.Native.Nat.{ℕ, ◌+◌, ◌*◌, ◌<◌, ◌≤◌}
use native.Mathlib.Omega.{arith}
use lib.Dec.{eqb}
use Rattle.tables.specs.Refusals.{first, answer}
use Rattle.tables.proofs.Rows.{clear, none, accepted}
use Rattle.parts.specs.Parts.{Part, part_of, subframes}
use Rattle.std.specs.Prelude.{Result, Ok, Err}
use Rattle.subframes.specs.Subframes.{how_many_from, level, is_on}
use Rattle.subframes.proofs.Claims.{frame_on_lem}
use Rattle.schedule.specs.declared.output.Clocks.{Clocks}
use Rattle.schedule.specs.Light.{total, is_even, is_lit, in_run, lit_from, lit_to, lit_count, lit_first, lit_end}
use Rattle.schedule.specs.Answers.{lit_rows, lit_answer, clocks, lit_clocks_answer}
use Rattle.schedule.proofs.Lit.{lit-run, lit-first-end, run-empty, total-lit, lit-on, position-zero}

-- an accepted question about an ON subframe says: lit in one run of clocks, and no others
pub lit-in-run :
    (part configuration global value output subframe clock phase : ℕ)
    → first (lit_rows part configuration value output subframe clock phase) ≡ 0
    → is_on (part_of part) configuration global subframe ≡ true
    → lit_answer part configuration global value output subframe clock phase
    ≡ Ok (in_run (lit_from (part_of part) value (is_even output)) (lit_to (part_of part) value (is_even output)) clock)
unfolding lit_answer
lit-in-run part configuration global value output subframe clock phase a e =
    sym
    (accepted Err refl a
    (ap Ok
    (sym (lit-run (part_of part) value output clock) ∙ sym (lit-on (part_of part) configuration global value output subframe clock e))))

-- the same of the outputs of a parity
pub lights :
    (part value : ℕ) (even : Bool) (configuration global output subframe clock phase : ℕ)
    → first (lit_rows part configuration value output subframe clock phase) ≡ 0
    → is_on (part_of part) configuration global subframe ≡ true
    → is_even output ≡ even
    → lit_answer part configuration global value output subframe clock phase
    ≡ Ok (in_run (lit_from (part_of part) value even) (lit_to (part_of part) value even) clock)
lights part value even configuration global output subframe clock phase a e q =
    lit-in-run part configuration global value output subframe clock phase a e
    ∙ ap (λ (t : Bool). Ok (in_run (lit_from (part_of part) value t) (lit_to (part_of part) value t) clock)) q

-- where their run is empty: not lit
pub dark :
    (part value : ℕ) (even : Bool)
    → lit_to (part_of part) value even ≤ lit_from (part_of part) value even
    → (configuration global output subframe clock phase : ℕ)
    → first (lit_rows part configuration value output subframe clock phase) ≡ 0
    → is_on (part_of part) configuration global subframe ≡ true
    → is_even output ≡ even
    → lit_answer part configuration global value output subframe clock phase ≡ Ok false
dark part value even h configuration global output subframe clock phase a e q =
    lights part value even configuration global output subframe clock phase a e q
    ∙ ap Ok (run-empty (lit_from (part_of part) value even) (lit_to (part_of part) value even) clock h)

-- the clocks of an accepted answer
abbrev clocks_in : Result Clocks ℕ → Clocks
clocks_in (Ok c) = c
clocks_in (Err n) = clocks 0 0

-- what an accepted answer gives as first and end clock
pub run-given : (n g h f e : ℕ) → answer n Err (Ok (clocks g h)) ≡ Ok (clocks f e) → (g ≡ f) × (h ≡ e)
run-given n g h f e q = at (eqb n 0) q where
  at : (t : Bool) → cond t (Ok (clocks g h)) (Err n) ≡ Ok (clocks f e) → (g ≡ f) × (h ≡ e)
  at true r = (ap (λ (x : Result Clocks ℕ). (clocks_in x).first) r, ap (λ (x : Result Clocks ℕ). (clocks_in x).end) r)
  at false r = let z : ◌≡◌ {A = ℕ} 0 1 = cc in absurd (omega arith)

-- the run that is answered for a subframe has the clocks at which the output is said to be lit, and no others
pub lit-clocks :
    (part configuration global value output subframe clock phase f e : ℕ)
    → lit_clocks_answer part configuration global value output subframe phase ≡ Ok (clocks f e)
    → first (lit_rows part configuration value output subframe clock phase) ≡ 0
    → lit_answer part configuration global value output subframe clock phase ≡ Ok (in_run f e clock)
unfolding lit_answer lit_clocks_answer
lit-clocks part configuration global value output subframe clock phase f e q a =
    let p = part_of part in
    let refusal : ℕ = first (lit_rows part configuration value output subframe 0 phase) in
    let g = run-given refusal (lit_first p configuration global value output subframe) (lit_end p configuration global value output subframe) f e q in
    sym
    (accepted Err refl a
    (ap Ok
    (sym (lit-first-end p configuration global value output subframe clock ∙ ap₂ (λ (m n : ℕ). in_run m n clock) g.0 g.1))))

-- it is answered wherever the question about one clock is: every part has a clock 0
pub lit-clocks-accepted :
    (part configuration value output subframe clock phase : ℕ)
    → first (lit_rows part configuration value output subframe clock phase) ≡ 0
    → first (lit_rows part configuration value output subframe 0 phase) ≡ 0
lit-clocks-accepted part configuration value output subframe clock phase a =
    let n = clear (lit_rows part configuration value output subframe clock phase) refl a in
    none (lit_rows part configuration value output subframe 0 phase)
    (n.0, (n.1.0, (position-zero (part_of part) configuration output subframe clock phase n.1.1.0, tt)))

-- in a frame, over its subframes and their clocks, g + 1 times as many clocks are lit as in an ON subframe
pub frame-lit :
    (p : Part) (configuration global value output : ℕ)
    → 0 < subframes p configuration
    → total (λ s. how_many_from (is_lit p configuration global value output s) 0 p.clocks) (subframes p configuration)
    ≡ (level p configuration global + 1) * lit_count p value
frame-lit p configuration global value output h =
    total-lit p configuration global value output (subframes p configuration) ∙ ap (λ (n : ℕ). n * lit_count p value) (frame_on_lem p configuration global h)
