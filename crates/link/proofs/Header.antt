-- The link while a header comes in: the record holds the command bits and the count bits as a number after a leading one, the model as a
-- list. The list is full when the number has as many bits; then both name the same command, or begin the same slice. Assumes nothing.
use mathlib.Core.Path.{◌≡◌, refl, sym, ap}
use mathlib.Core.Bool.{Bool, true, false, ◌&&◌, not, cond}
use mathlib.Core.List.{List, [], ◌∷◌, ◌++◌}
use Prim.Native.Nat.{ℕ, zero, suc, pred, ◌+◌, ◌-◌, ◌*◌, ◌/◌, ◌%◌, ◌^◌, ◌≤◌, ◌<◌}
use native.Mathlib.Nat.{mod-lt, pow-succ'}
use native.Mathlib.Numerals.{add-one}
use native.Mathlib.Omega.{arith}
use lib.Dec.{eqb, ltb, lit<}
use lib.ListN.{length, length-append}
use borrow.Author.Tests.{ltb-true, ltb-false}
use Rattle.bits.specs.Bits.{number}
use Rattle.bits.proofs.Laws.{number_lt}
use Rattle.parts.specs.Parts.{part_of, field_width}
use Rattle.parts.specs.Wire.{high}
use Rattle.parts.specs.declared.command.Command.{Command}
use Rattle.parts.specs.declared.command.Command.TheVariants.{Individual, Calibration, Global, Configuration}
use Rattle.phases.specs.Phases.{rising, opened, opening, counting}
use Rattle.device.specs.Step.{slice_length}
use Rattle.phases.specs.declared.phase.Phase.{Phase}
use Rattle.phases.specs.declared.phase.Phase.TheVariants.{Hunting, Opening, Counting, Slice, Lost}
use Rattle.registers.specs.declared.registers.Registers.{Registers}
use Rattle.parts.proofs.Laws.{usable}
use Rattle.parts.proofs.Rows.{field-width-pos}
use Rattle.model.specs.Device.{lost, taking, command, count, slice, named, step_device}
use Rattle.model.specs.Device as model
use Rattle.link.specs.View.{rest}
use Rattle.link.proofs.Numbers.{digit-bit, pow-back, number-last, rest-next, rest-number, gotten-none}
use Rattle.link.specs.View.{registers_of, phase_in, viewed}
use Rattle.link.proofs.View.{take_more, take_last}

module _ (read bit : ℕ) (one : 1 ≤ read) (top : read < 1024) (small : bit < 2) where
  abbrev got : List Bool
  got = rest 10 read

  abbrev more : List Bool
  more = got ++ eqb bit 1 ∷ []

  next : rest 10 (read * 2 + bit) ≡ more
  next = rest-next 9 read bit one top small

  whole : 2 ^ length got + number got ≡ read
  whole = rest-number 10 read one (omega arith)

  longer : length more ≡ suc (length got)
  longer = rw length-append (add-one (length got))

  number_more : 2 * 2 ^ length got + number more ≡ read * 2 + bit
  number_more = let n = number-last got (eqb bit 1) in let d = digit-bit bit small in omega (arith, whole)

  early : (k : ℕ) → read * 2 + bit < 2 ^ k → suc (length got) < k
  early k h = pow-back (suc (length got)) k (rw (pow-succ' 2 (length got)) (omega (arith, whole)))

  late : (k : ℕ) → read < 2 ^ suc k → 2 ^ suc k ≤ read * 2 + bit → length got ≡ k
  late k h l =
      let a : length got < suc k = pow-back (length got) (suc k) (omega (arith, whole)) in
      let b : suc k < suc (suc (length got)) = pow-back (suc k) (suc (suc (length got))) (rw (pow-succ' 2 (suc (length got)), pow-succ' 2 (length got)) (omega (arith, whole, number_lt got))) in
      omega arith

begun : (c : Command) → taking (count c) (9 - length (rest 10 1)) (rest 10 1) ≡ taking (count c) 9 []
unfolding rest
begun c = refl

-- what the tests on the number of command bits give
named-same : (r : Registers) (n : ℕ) → phase_in r (opened n) ≡ named n
named-same r n = go (eqb n 0) (eqb n 21) (eqb n 42) (eqb n 63)
  where
    go : (a b c d : Bool) → phase_in r (cond a (Counting Individual 1) (cond b (Counting Calibration 1) (cond c (Counting Global 1) (cond d (Counting Configuration 1) Lost))))
        ≡ cond a (taking (count Individual) 9 []) (cond b (taking (count Calibration) 9 []) (cond c (taking (count Global) 9 []) (cond d (taking (count Configuration) 9 []) lost)))
    go true b c d = begun Individual
    go false true c d = begun Calibration
    go false false true d = begun Global
    go false false false true = begun Configuration
    go false false false false = refl

pred-sub : (n : ℕ) → n - 1 ≡ pred n
pred-sub zero = refl
pred-sub (suc n) = omega arith

-- the slice's length
bits-same : (r : Registers) (c : Command) → model.slice_length (registers_of r) c ≡ slice_length r c
unfolding model.slice_length
bits-same r c = refl

module _ (r : Registers) where
  -- a step that moves the phase only, and sends nothing
  abbrev Moves : Phase → Bool → Phase → Type 0
  Moves p b q = (viewed r q, []) ≡ step_device (viewed r p) (high b)

  pub rising-same : (w bit : ℕ) → bit < 2 → Moves (Hunting w) (eqb bit 1) (rising w bit)
  unfolding step_device rest
  rising-same w bit h =
      ap (λ (p : model.Phase). (model.at (registers_of r) p, [])) (go (eqb (w % 128) 0x74) (eqb (w % 256) 0xE8) (eqb (w / 2) 0xE8) (w % 2) bit (mod-lt w (lit< tt)) h)
    where
      later : (y z : Bool) (c n : ℕ) → c < 2 → n < 2
          → phase_in r (cond y (Opening (2 + n)) (cond z (Opening (4 + c * 2 + n)) Lost)) ≡ cond y (model.begun (eqb n 1 ∷ [])) (cond z (model.begun (eqb c 1 ∷ eqb n 1 ∷ [])) lost)
      later true z c zero k l = refl
      later true z c (suc zero) k l = refl
      later true z c (suc (suc n)) k l = absurd (omega arith)
      later false true zero zero k l = refl
      later false true zero (suc zero) k l = refl
      later false true zero (suc (suc n)) k l = absurd (omega arith)
      later false true (suc zero) zero k l = refl
      later false true (suc zero) (suc zero) k l = refl
      later false true (suc zero) (suc (suc n)) k l = absurd (omega arith)
      later false true (suc (suc c)) n k l = absurd (omega arith)
      later false false c n k l = refl

      go : (x y z : Bool) (c n : ℕ) → c < 2 → n < 2
          → phase_in r (cond (x && eqb n 0) (Opening 1) (cond y (Opening (2 + n)) (cond z (Opening (4 + c * 2 + n)) Lost)))
          ≡ cond (x && not (eqb n 1)) (model.begun []) (cond y (model.begun (eqb n 1 ∷ [])) (cond z (model.begun (eqb c 1 ∷ eqb n 1 ∷ [])) lost))
      go true y z c zero k l = refl
      go true y z c (suc zero) k l = later y z c 1 k l
      go true y z c (suc (suc n)) k l = absurd (omega arith)
      go false y z c n k l = later y z c n k l

  pub opening-same : (read bit : ℕ) → 1 ≤ read → read < 64 → bit < 2 → Moves (Opening read) (eqb bit 1) (opening read bit)
  opening-same read bit one top small = go (ltb (read * 2 + bit) 64) refl
    where
      go : (t : Bool) → ltb (read * 2 + bit) 64 ≡ t → Moves (Opening read) (eqb bit 1) (cond t (Opening (read * 2 + bit)) (opened (read * 2 + bit - 64)))
      go true e =
          let k = early read bit one (omega arith) small 6 (ltb-true (read * 2 + bit) 64 e) in
          let x = longer read bit one (omega arith) small in
          rw (next read bit one (omega arith) small, x)
          (sym (take_more (registers_of r) command (5 - length (rest 10 read)) (5 - suc (length (rest 10 read))) (rest 10 read) (eqb bit 1) (omega arith)))
      go false e =
          let k = late read bit one (omega arith) small 5 top (ltb-false (read * 2 + bit) 64 e) in
          let v = number_more read bit one (omega arith) small in
          let n : read * 2 + bit - 64 ≡ number (rest 10 read ++ eqb bit 1 ∷ []) = omega (arith, rw k at v) in
          rw (named-same r (read * 2 + bit - 64), n)
          (sym (take_last (registers_of r) command (5 - length (rest 10 read)) (rest 10 read) (eqb bit 1) (omega arith)))

  pub counting-same : (c : Command) (read bit : ℕ) → 1 ≤ read → read < 1024 → bit < 2 → Moves (Counting c read) (eqb bit 1) (counting c read bit)
  counting-same c read bit one top small = go (ltb (read * 2 + bit) 1024) refl
    where
      go : (t : Bool) → ltb (read * 2 + bit) 1024 ≡ t → Moves (Counting c read) (eqb bit 1) (cond t (Counting c (read * 2 + bit)) (Slice c ((read * 2 + bit) % 1024) 0))
      go true e =
          let k = early read bit one top small 10 (ltb-true (read * 2 + bit) 1024 e) in
          let x = longer read bit one top small in
          rw (next read bit one top small, x)
          (sym (take_more (registers_of r) (count c) (9 - length (rest 10 read)) (9 - suc (length (rest 10 read))) (rest 10 read) (eqb bit 1) (omega arith)))
      go false e =
          let k = late read bit one top small 9 top (ltb-false (read * 2 + bit) 1024 e) in
          let v = number_more read bit one top small in
          let m : number (rest 10 read ++ eqb bit 1 ∷ []) < 2 ^ 10 = rw (longer read bit one top small, k) at (number_lt (rest 10 read ++ eqb bit 1 ∷ [])) in
          let n : (read * 2 + bit) % 1024 ≡ number (rest 10 read ++ eqb bit 1 ∷ []) = omega (arith, rw k at v, m) in
          rw (n, pred-sub (slice_length r c), ← bits-same r c, gotten-none (field_width (part_of r.part) c) r.slice (field-width-pos (part_of r.part) (usable r.part) c))
          (sym (take_last (registers_of r) (count c) (9 - length (rest 10 read)) (rest 10 read) (eqb bit 1) (omega arith)))
