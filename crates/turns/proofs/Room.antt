-- A run of n states returns at most n + 23, so an accepted run never lacks room. A device sends a header's 24 states only after it has kept
-- the 15 last states of a header or more and a slice of 8 or more, as any usable row has, so it sends at most 23 more than it takes. What a device
-- that is not passing sends begins with a low state, and after a low state no device has a surplus.
use mathlib.Core.Path.{◌≡◌, refl, subst}
use mathlib.Core.Bool.{Bool, true, false, ◌&&◌}
use mathlib.Core.List.{List, [], ◌∷◌, ◌++◌}
use Prim.Native.Nat.{ℕ, suc, ◌+◌, ◌-◌, ◌*◌, ◌/◌, ◌%◌, ◌^◌, ◌<◌, ◌≤◌}
use native.Mathlib.Nat.{lt_of_lt_of_le, lt_of_not-le, not-le_of_lt, pow-suc}
use native.Mathlib.Omega.{arith}
use lib.Dec.{ltb, eqb, lit<}
use lib.Ieee.{size}
use lib.Ieee.Digits.{size-lt, size-le}
use lib.ListN.{length, length-append}
use lib.Pow.{pow_mono}
use borrow.Author.Tests.{ltb-true, ltb-false}
use Rattle.machine.specs.Machine.{chain, All}
use Rattle.machine.specs.Machine as machine
use Rattle.machine.proofs.Machine.{run-nil}
use Rattle.parts.specs.Parts.{part_of, multiplex, field_width, field_limit}
use Rattle.parts.specs.Wire.{header, states_of}
use Rattle.parts.specs.declared.command.Command.{Command}
use Rattle.parts.specs.declared.command.Command.TheVariants.{Individual, Calibration, Global, Configuration}
use Rattle.parts.proofs.Laws.{usable, command-code}
use Rattle.phases.specs.Phases.{phase_of, place_of, heard, rising, opened, opening, counting, same_place}
use Rattle.registers.specs.Held.{took, fault, raised}
use Rattle.device.specs.Step.{step, step_high, moved, slice_length, sent_states, at}
use Rattle.device.specs.Judgement.{phase_fits, place_fits, contents_fit, fits}
use Rattle.widths.specs.Widths.{flags_fit, values_fit}
use Rattle.device.proofs.Kept.{parts-of}
use Rattle.phases.specs.declared.phase.Phase.{Phase}
use Rattle.phases.specs.declared.phase.Phase.TheVariants.{Hunting, Opening, Counting, Slice, Passing, Lost}
use Rattle.registers.specs.declared.registers.Registers.{Registers}
use Rattle.device.specs.declared.device.Device.{Device}
use Rattle.device.specs.declared.device.Stepped.{Stepped}
use Rattle.parts.proofs.Rows.{slice-bits-some}
use Rattle.phases.proofs.Rising.{rising-any}
use Rattle.tables.proofs.Booleans.{and_both, cond_both}
use Rattle.calls.specs.Chain.{through, all_fit}
use Rattle.turns.specs.Front.{is_passing, passes}
use Rattle.turns.proofs.LeavingStates.{header_is, length-header-states}
use Rattle.turns.proofs.Taking.{passer, Fine, on, ends, passes_at, fine-low, fine-step}
use Rattle.turns.proofs.Turns.{no_way}
use Rattle.turns.proofs.Timed.{step_plain, run_plain, pass_plain}
use Rattle.turns.proofs.Plain.{sent-plain}

-- ---- bits read of a command or a count

-- the digits of the number that is read after its leading one
abbrev bits_read : ℕ → ℕ
bits_read a = size a - 1

read-most : (a j : ℕ) → a < 2 ^ suc j → bits_read a ≤ j
read-most a j h = omega (arith, size-le a (suc j) h)

read-least : (a j : ℕ) → 2 ^ j ≤ a → j ≤ bits_read a
read-least a j h =
    let more : j < size a = lt_of_not-le (λ g. not-le_of_lt (lt_of_lt_of_le (size-lt a) (pow_mono g)) h) in
    omega (arith, more)

-- with one bit more
read_next : (a b : ℕ) → b < 2 → bits_read (a * 2 + b) ≤ 1 + bits_read a
read_next a b h = omega (arith, size-le (a * 2 + b) (suc (size a)) (omega (arith, h, size-lt a, pow-suc 2 (size a))))

-- ---- what a device may send more than it takes

-- 24 less the high states that must still come before it sends: six of a command, ten of a count, and its slice, taken as 8 until it begins;
-- while hunting five of a command, since with the late edge the first one has come at low load
abbrev credit : Registers → Phase → ℕ
credit r (Hunting w) = 1
credit r (Opening a) = 24 - (6 - bits_read a + 10 + 8)
credit r (Counting c a) = 24 - (10 - bits_read a + 8)
credit r (Slice c n t) = 24 - (slice_length r c - t)
credit r Passing = 0
credit r Lost = 0

-- a slice has 8 bits at least
long : (r : Registers) (c : Command) → 8 ≤ slice_length r c
long r c = slice-bits-some (part_of r.part) (usable r.part) c (multiplex r.configuration)

-- what a clock sends, and the credit after it, are one more than k at most
abbrev Owes : ℕ → Stepped → Type 0
Owes k st = length (sent_states st.sent) + credit st.device.registers (phase_of st.device.place) ≤ 1 + k

-- the numbers of a phase have the phase's credit
credit-at : (r : Registers) (p : Phase) → credit r (phase_of (place_of p)) ≡ credit r p
credit-at r (Hunting w) = refl
credit-at r (Opening a) = refl
credit-at r (Counting c a) = refl
credit-at r (Slice c n t) = rw (command-code c)
credit-at r Passing = refl
credit-at r Lost = refl

-- after a clock that sent nothing
moved-owes : (r : Registers) (p : Phase) (k : ℕ) → credit r p ≤ 1 + k → Owes k (moved r p)
moved-owes r p k h = omega (arith, credit-at r p, h)

-- a phase has one more credit than the phase before it at most
abbrev OneMore : Registers → Phase → Phase → Type 0
OneMore r p q = credit r q ≤ 1 + credit r p

opened-more : (r : Registers) (a x : ℕ) → 32 ≤ a → OneMore r (Opening a) (opened x)
opened-more r a x h =
    cond_both (OneMore r (Opening a)) (eqb x 0) _ _ (λ _. begun Individual)
    (λ _. cond_both (OneMore r (Opening a)) (eqb x 21) _ _ (λ _. begun Calibration)
    (λ _. cond_both (OneMore r (Opening a)) (eqb x 42) _ _ (λ _. begun Global)
    (λ _. cond_both (OneMore r (Opening a)) (eqb x 63) _ _ (λ _. begun Configuration) (λ _. omega arith))))
  where
    begun : (c : Command) → OneMore r (Opening a) (Counting c 1)
    begun c = omega (arith, read-most 1 0 (lit< tt), read-least a 5 h)

high-credit : (r : Registers) (p : Phase) (s : ℕ) → Owes (credit r p) (step_high r p s)
high-credit r (Hunting w) s =
    let read : (a j : ℕ) → j ≤ 2 → a < 2 ^ suc j → OneMore r (Hunting w) (Opening a) = λ a j h l. omega (arith, read-most a j l) in
    moved-owes r (rising w (s % 2)) 1
    (rising-any (OneMore r (Hunting w)) w (s % 2) (read 1 0 (omega arith) (omega arith)) (read (2 + s % 2) 1 (omega arith) (omega arith))
    (read (4 + w % 2 * 2 + s % 2) 2 (omega arith) (omega arith)) (omega arith))
high-credit r (Opening a) s =
    let n = a * 2 + s % 2 in
    moved-owes r (opening a (s % 2)) (credit r (Opening a))
    (cond_both (OneMore r (Opening a)) (ltb n 64) _ _ (λ _. omega (arith, read_next a (s % 2) (omega arith)))
    (λ e. opened-more r a (n - 64) (omega (arith, ltb-false n 64 e))))
high-credit r (Counting c a) s =
    let n = a * 2 + s % 2 in
    moved-owes r (counting c a (s % 2)) (credit r (Counting c a))
    (cond_both (OneMore r (Counting c a)) (ltb n 1024) _ _ (λ _. omega (arith, read_next a (s % 2) (omega arith)))
    (λ e. omega (arith, long r c, read-least a 9 (omega (arith, ltb-false n 1024 e)))))
high-credit r (Slice c n t) s =
    let q : Registers = took r (t / field_width (part_of r.part) c) (s % 2) (field_limit (part_of r.part) c) in
    let k : ℕ = 24 - (slice_length r c - t) in
    cond_both (Owes k) (ltb (t + 1) (slice_length r c)) _ _
    (λ _. moved-owes q (Slice c n (t + 1)) k (omega arith))
    (λ e. omega (arith, ltb-false (t + 1) (slice_length r c) e, length-header-states c (raised n (fault q c))))
high-credit r Passing s = omega arith
high-credit r Lost s = omega arith

step-credit : (d : Device) (s : ℕ) → Owes (credit d.registers (phase_of d.place)) (step d s)
step-credit d s =
    cond_both (Owes (credit d.registers (phase_of d.place))) (ltb s 2) _ _ (λ _. omega arith) (λ _. high-credit d.registers (phase_of d.place) s)

run-credit : (d : Device) (xs : List ℕ) → length (run_plain d xs).1 ≤ length xs + credit d.registers (phase_of d.place)
unfolding machine.run step_plain
run-credit d [] = omega arith
run-credit d (s ∷ xs) =
    omega (arith, step-credit d s, run-credit (step d s).device xs, length-append (sent_states (step d s).sent) (run_plain (step d s).device xs).1)

-- ---- what a device that is not passing sends begins with a low state
data LowFirst : List ℕ → Type 0 where
  none : LowFirst []
  low : {s : ℕ} {ss : List ℕ} → ltb s 2 ≡ true → LowFirst (s ∷ ss)

header-low : (c : Command) (n : ℕ) (ys : List ℕ) → LowFirst (states_of (header c n) ++ ys)
header-low c n ys = subst (λ (xs : List ℕ). LowFirst (xs ++ ys)) (header_is c n) (low refl)

abbrev out_of : Stepped → List ℕ → List ℕ
out_of st xs = sent_states st.sent ++ (run_plain st.device xs).1

fine-out : (st : Stepped) (xs : List ℕ) → Fine st → ((d : Device) → passes d ≡ false → LowFirst (run_plain d xs).1) → LowFirst (out_of st xs)
fine-out _ xs (on {r} p e) rec = rec (at r p) (passes_at r p e)
fine-out _ xs (ends {r} {c} {n} h) rec = header-low c n (run_plain (passer r) xs).1

quiet-out : (d : Device) (xs : List ℕ) → passes d ≡ false → LowFirst (run_plain d xs).1
unfolding machine.run step_plain
quiet-out d [] e = none
quiet-out d (s ∷ xs) e = fine-out (step d s) xs (fine-step d s e) (λ d' e'. quiet-out d' xs e')

-- after a low state any device
low-out : (d : Device) (s : ℕ) (xs : List ℕ) → ltb s 2 ≡ true → LowFirst (run_plain d (s ∷ xs)).1
unfolding machine.run step_plain
low-out d s xs e = fine-out (step d s) xs (fine-low d s e) (λ d' e'. quiet-out d' xs e')

-- ---- no surplus after a low state; 23 at most before it
low-credit : (d : Device) (s : ℕ) (xs : List ℕ) → ltb s 2 ≡ true → length (run_plain d (s ∷ xs)).1 ≤ suc (length xs)
unfolding machine.run step_plain
low-credit d s xs e = rw e (omega (arith, run-credit (at d.registers (heard (phase_of d.place) s)) xs))

record Tame (xs ys : List ℕ) : Type 0 where
  pub first : LowFirst ys
  pub short : length ys ≤ length xs

tame : (d : Device) (xs : List ℕ) → LowFirst xs → Tame xs (run_plain d xs).1
tame d [] none = rw (run-nil step_plain d) (record { first = none; short = omega arith })
tame d (s ∷ xs) (low e) = record { first = low-out d s xs e; short = low-credit d s xs e }

low-through : (ds : List Device) (xs : List ℕ) → LowFirst xs → length (pass_plain ds xs).1 ≤ length xs
unfolding chain
low-through [] xs h = omega arith
low-through (d ∷ ds) xs h = let t : Tame xs (run_plain d xs).1 = tame d xs h in omega (arith, t.short, low-through ds (run_plain d xs).1 t.first)

-- 23 where the record fits: of its slice a bit is left to come
place-credit : (d : Device) → contents_fit d ≡ true → credit d.registers (phase_of d.place) ≤ 23
place-credit d h =
    let p : place_fits d.place d.registers ≡ true = (and_both (place_fits d.place d.registers) (flags_fit d.registers && values_fit d.registers) h).0 in
    phase-credit d.registers (phase_of d.place) (and_both (same_place (place_of (phase_of d.place)) d.place) (phase_fits (phase_of d.place) d.registers) p).1
  where
    phase-credit : (r : Registers) (p : Phase) → phase_fits p r ≡ true → credit r p ≤ 23
    phase-credit r (Hunting w) e = omega arith
    phase-credit r (Opening a) e = omega arith
    phase-credit r (Counting c a) e = omega arith
    phase-credit r (Slice c n t) e = omega (arith, ltb-true t (slice_length r c) (and_both (ltb n 1024) (ltb t (slice_length r c)) e).1)
    phase-credit r Passing e = omega arith
    phase-credit r Lost e = omega arith

passing-credit : (r : Registers) (p : Phase) → is_passing p ≡ true → credit r p ≤ 0
passing-credit r (Hunting w) e = absurd (no_way e)
passing-credit r (Opening a) e = absurd (no_way e)
passing-credit r (Counting c a) e = absurd (no_way e)
passing-credit r (Slice c n t) e = absurd (no_way e)
passing-credit r Passing e = omega arith
passing-credit r Lost e = omega arith

-- a record of which a bit of its slice, if it is in one, is left to come
abbrev Modest : Device → Type 0
Modest d = credit d.registers (phase_of d.place) ≤ 23

surplus : (ds : List Device) (xs : List ℕ) → All Modest ds → length (pass_plain ds xs).1 ≤ length xs + 23
unfolding chain
surplus [] xs e = omega arith
surplus (d ∷ ds) xs e = go (surplus ds (run_plain d xs).1 e.1) (passes d) refl
  where
    go : length (pass_plain ds (run_plain d xs).1).1 ≤ length (run_plain d xs).1 + 23 → (u : Bool) → passes d ≡ u → length (pass_plain ds (run_plain d xs).1).1 ≤ length xs + 23
    go rest true h = omega (arith, rest, run-credit d xs, passing-credit d.registers (phase_of d.place) h)
    go rest false h = omega (arith, low-through ds (run_plain d xs).1 (quiet-out d xs h), run-credit d xs, e.0)

-- ---- an accepted run

modest : (ds : List Device) → all_fit ds ≡ true → All Modest ds
modest [] e = tt
modest (d ∷ ds) e =
    let b = and_both (fits d) (all_fit ds) e in
    (place-credit d (parts-of d b.0).0, modest ds b.1)

-- what a run returns: at most 23 states more than it is given
pub room-enough : (ds : List Device) (ss : List ℕ) → all_fit ds ≡ true → length (through ds ss).1 ≤ length ss + 23
room-enough ds ss f = rw (sent-plain ds ss) (surplus ds ss (modest ds f))
