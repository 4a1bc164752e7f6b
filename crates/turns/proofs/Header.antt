-- A header, sent with the exact edge as devices send it, leaves any record before the first bit of its slice, whatever it did before, and nothing
-- is sent. SYNC fills the last eight places of the window; the command bits are read as numbers, by cases; the count bits by induction, after a
-- leading one. The same of the model's device, whose rows and registers are any and which keeps the bits as lists, is `headed` of
-- model/proofs/Frame: neither law gives the other.
use mathlib.Core.Path.{◌≡◌, ap, sym, ◌∙◌}
use mathlib.Core.List.{List, [], ◌∷◌}
use Prim.Native.Nat.{ℕ, zero, suc, ◌+◌, ◌*◌, ◌/◌, ◌%◌, ◌^◌, ◌<◌, ◌≤◌}
use native.Mathlib.Nat.{mod-lt, pow-succ', mul-le-mul_left, mul_assoc, add-mul}
use native.Mathlib.Omega.{arith}
use lib.Dec.{lit<}
use lib.Arith.{mod-mul}
use lib.Pow.{pow_pos}
use borrow.Author.Tests.{eq-eqb, ne_eqb, lt-ltb, le-ltb}
use Rattle.machine.specs.Machine as machine
use Rattle.parts.specs.Parts.{code}
use Rattle.parts.proofs.Laws.{command-code}
use Rattle.parts.specs.Wire.{header, states_of}
use Rattle.parts.specs.declared.command.Command.{Command}
use Rattle.parts.specs.declared.command.Command.TheVariants.{Individual, Calibration, Global, Configuration}
use Rattle.phases.specs.Phases.{phase_of, place_of, window_of, pushed, rising}
use Rattle.device.specs.Step.{step, step_high, at}
use Rattle.phases.specs.declared.phase.Phase.{Phase}
use Rattle.phases.specs.declared.phase.Phase.TheVariants.{Opening, Counting, Slice}
use Rattle.registers.specs.declared.registers.Registers.{Registers}
use Rattle.device.specs.declared.device.Device.{Device}
use Rattle.turns.specs.Front.{slice_start}
use Rattle.turns.proofs.LeavingStates.{bit_states, header-parts}
use Rattle.turns.proofs.Timed.{Timed, stamped, step_plain, run_plain, run_timed, quiet-run}

-- ---- SYNC and the command

-- a bit into the window, which a record keeps below 512
abbrev push : ℕ → ℕ → ℕ
push w b = pushed (w % 512) b 512

-- the window after the bits of SYNC
abbrev synced : ℕ → ℕ
synced w = push (push (push (push (push (push (push ((w * 2 + 1) % 512) 1) 1) 0) 1) 0) 0) 0

-- they are its last eight
eight : (w : ℕ) → synced w % 512 % 256 ≡ 0xE8
eight w = omega arith

-- a rising edge behind the whole of SYNC is the exact one
rising-exact : (w b : ℕ) → w % 256 ≡ 0xE8 → Opening (2 + b) ≡ rising w b
rising-exact w b e = rw (ne_eqb (w % 128) 0x74 (λ f. omega (arith, f)), eq-eqb (w % 256) 0xE8 e)

-- SYNC, and the first command bit with the exact edge
opens : (d : Device) (b : ℕ) (xs : List ℕ) → b < 2 → run_plain d (1 ∷ 1 ∷ 1 ∷ 0 ∷ 1 ∷ 0 ∷ 0 ∷ 0 ∷ (2 + b) ∷ xs) ≡ run_plain (at d.registers (Opening (2 + b))) xs
unfolding machine.run step_plain
opens d zero xs h = ap (λ (p : Phase). run_plain (at d.registers p) xs) (sym (rising-exact (synced (window_of (phase_of d.place)) % 512) 0 (eight (window_of (phase_of d.place)))))
opens d (suc zero) xs h = ap (λ (p : Phase). run_plain (at d.registers p) xs) (sym (rising-exact (synced (window_of (phase_of d.place)) % 512) 1 (eight (window_of (phase_of d.place)))))
opens d (suc (suc b)) xs h = absurd (omega arith)

commanded : (d : Device) (c : Command) (xs : List ℕ)
    → let high = code c / 2 % 2 + 2 in
    let low = code c / 1 % 2 + 2 in
    run_plain d (1 ∷ 1 ∷ 1 ∷ 0 ∷ 1 ∷ 0 ∷ 0 ∷ 0 ∷ high ∷ low ∷ high ∷ low ∷ high ∷ low ∷ xs) ≡ run_plain (at d.registers (Counting c 1)) xs
unfolding machine.run step_plain
commanded d Individual xs = opens d 0 (2 ∷ 2 ∷ 2 ∷ 2 ∷ 2 ∷ xs) (omega arith)
commanded d Calibration xs = opens d 0 (3 ∷ 2 ∷ 3 ∷ 2 ∷ 3 ∷ xs) (omega arith)
commanded d Global xs = opens d 1 (2 ∷ 3 ∷ 2 ∷ 3 ∷ 2 ∷ xs) (omega arith)
commanded d Configuration xs = opens d 1 (3 ∷ 3 ∷ 3 ∷ 3 ∷ 3 ∷ xs) (omega arith)

-- ---- the count

high_bit : (b : ℕ) → b < 2 → (b + 2) % 2 ≡ b
high_bit b h = omega arith

count-place : (c : Command) (m : ℕ) → phase_of (place_of (Counting c m)) ≡ Counting c m
count-place c m = rw (command-code c)

-- the low bits of a number: its next bit and the bits below
next_bit : (n k : ℕ) → n % 2 ^ suc k ≡ n / 2 ^ k % 2 * 2 ^ k + n % 2 ^ k
next_bit n k = rw (pow-succ' 2 k) (mod-mul n (lit< tt) (pow_pos k))

high-load : (r : Registers) (p : Phase) (b : ℕ) → phase_of (place_of p) ≡ p → step (at r p) (b + 2) ≡ step_high r p (b + 2)
high-load r p b e = let h : 2 ≤ b + 2 = omega arith in rw (le-ltb (b + 2) 2 h, e)

module _ (r : Registers) (c : Command) (n : ℕ) where
  -- the count bits that are left, after m
  counted : (k m v : ℕ) → v ≡ m * 2 ^ suc k + n % 2 ^ suc k → 1024 ≤ v → v < 2048
      → run_plain (at r (Counting c m)) (bit_states (suc k) n) ≡ (at r (Slice c (v % 1024) 0), [])
  unfolding machine.run step_plain bit_states
  counted zero m v e l u =
      let b : n / 2 ^ 0 % 2 < 2 = mod-lt (n / 2 ^ 0) (lit< tt) in
      let f : v ≡ m * 2 + n / 2 ^ 0 % 2 = omega arith in
      let g : 1024 ≤ m * 2 + n / 2 ^ 0 % 2 = omega arith in
      rw (high-load r (Counting c m) (n / 2 ^ 0 % 2) (count-place c m), high_bit (n / 2 ^ 0 % 2) b, le-ltb (m * 2 + n / 2 ^ 0 % 2) 1024 g, f)
  counted (suc k) m v e l u =
      let x = n / 2 ^ suc k % 2 in
      let p = 2 ^ suc k in
      let b : x < 2 = mod-lt (n / p) (lit< tt) in
      let f : v ≡ (m * 2 + x) * p + n % p =
      let e' = rw (next_bit n (suc k), pow-succ' 2 (suc k)) at e in
      rw (add-mul (m * 2) x p, mul_assoc m 2 p) (omega arith) in
      let two : 2 ≤ p = rw (pow-succ' 2 k) (omega (arith, pow_pos k)) in
      let g : m * 2 + x < 1024 = omega (arith, mul-le-mul_left (m * 2 + x) two) in
      rw (high-load r (Counting c m) x (count-place c m), high_bit x b, lt-ltb (m * 2 + x) 1024 g)
      (counted k (m * 2 + x) v f l u)

all-count : (n : ℕ) → n < 1024 → 1024 + n ≡ 1 * 2 ^ 10 + n % 2 ^ 10
all-count n h = omega arith

low_count : (n : ℕ) → n < 1024 → (1024 + n) % 1024 ≡ n
low_count n h = omega arith

plain-header : (d : Device) (c : Command) (n : ℕ) → n < 1024 → run_plain d (states_of (header c n)) ≡ (slice_start d c n, [])
plain-header d c n h =
    ap (λ (ss : List ℕ). run_plain d ss) (header-parts c n) ∙ commanded d c (bit_states 10 n)
    ∙ (rw (low_count n h) at (counted d.registers c n 9 1 (1024 + n) (all-count n h) (omega arith) (omega arith)))

-- a device that sent nothing
abbrev quietly : Device → Device × List Timed
quietly d = (d, [])

pub run-header : (d : Device) (c : Command) (n t : ℕ) → n < 1024 → run_timed d (stamped t (states_of (header c n))) ≡ (slice_start d c n, [])
run-header d c n t h =
    let e = plain-header d c n h in
    quiet-run d (states_of (header c n)) t (ap (λ (x : Device × List ℕ). x.1) e) ∙ ap quietly (ap (λ (x : Device × List ℕ). x.0) e)
