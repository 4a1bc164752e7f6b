-- The link while a slice comes in: the record holds its bits in fields, the model as a list. One more bit is one more in both; on the
-- last one both store the same registers and send the same header. Assumes nothing.
use mathlib.Core.Path.{◌≡◌, refl, sym, ap, ◌∙◌}
use mathlib.Core.Bool.{Bool, true, false, cond}
use mathlib.Core.List.{List, [], ◌∷◌, ◌++◌, map}
use Prim.Native.Nat.{ℕ, zero, suc, ◌+◌, ◌-◌, ◌*◌, ◌/◌, ◌%◌, ◌≤◌, ◌<◌}
use native.Mathlib.Nat.{mod-lt, mod-eq_of_lt, lt_of_lt_of_le, mul-le-mul_right}
use native.Mathlib.Omega.{arith}
use lib.Dec.{eqb, ltb, lit<}
use lib.ListN.{length, take, get_or, length-set}
use borrow.Author.Tests.{ltb-true, ltb-false, eq-eqb, ne_eqb}
use Rattle.bits.specs.Bits.{is_one, split, over}
use Rattle.bits.proofs.Laws.{take-over}
use Rattle.tables.specs.Lists.{all_below, all_same}
use Rattle.parts.specs.Parts.{Part, part_of, outputs, multiplex, limit, field_width, field_limit, slice_fields, Usable}
use Rattle.parts.specs.Wire.{high, state_at, header, clocked}
use Rattle.parts.proofs.Laws.{usable}
use Rattle.parts.specs.declared.command.Command.{Command}
use Rattle.parts.specs.declared.command.Command.TheVariants.{Individual, Calibration, Global, Configuration}
use Rattle.registers.specs.Held.{holding, took, fault, raised}
use Rattle.storing.specs.Stored.{strided, byte_of, slice_bytes, first_byte, stored, copies}
use Rattle.device.specs.Step.{sent_states, moved, sending, slice_length, collected}
use Rattle.phases.specs.declared.phase.Phase.TheVariants.{Slice, Passing}
use Rattle.phases.specs.declared.phase.Sent.TheVariants.{Nothing, Header}
use Rattle.registers.specs.declared.registers.Registers.{Registers}
use Rattle.parts.proofs.Rows.{field-width-pos, fields_le, fields-used, field_of}
use Rattle.registers.proofs.Flags.{fault-slice}
use Rattle.storing.proofs.Lists.{strided-take, length-strided, length-bytes, get_d-bytes}
use Rattle.widths.proofs.Below.{Below, below-head, took-below}
use Rattle.model.specs.Device.{slice, step_device, agreed, load, counted, evens, odds, header_states}
use Rattle.model.specs.Device as model
use Rattle.model.proofs.Set.{double}
use Rattle.model.proofs.Wire.{map-state_at-state_code}
use Rattle.link.specs.View.{gotten}
use Rattle.link.proofs.Numbers.{gotten-next, gotten-fields}
use Rattle.link.specs.View.{registers_of, viewed}
use Rattle.link.proofs.View.{seen, seen-sending, take_more, take_last}

strided-tail : (x : ℕ) (s : List ℕ) (a k n : ℕ) → strided (x ∷ s) (suc a) k n ≡ strided s a k n
unfolding strided
strided-tail x s a k zero = refl
strided-tail x s a k (suc n) = let e : suc a + k ≡ suc (a + k) = omega arith in rw (e, strided-tail x s (a + k) k n)

-- values below the limit are their low bits
kept_low : (m k : ℕ) (s : List ℕ) → all_below s m ≡ true → map (λ v. v % m) (take k s) ≡ take k s
kept_low m zero s h = refl
kept_low m (suc k) [] h = refl
kept_low m (suc k) (x ∷ xs) h =
    let t = below-head x xs m h in
    rw (mod-eq_of_lt t.0, kept_low m k xs t.1)

strided-two : (x y : ℕ) (s : List ℕ) (n : ℕ) → strided (x ∷ y ∷ s) 2 2 n ≡ strided s 0 2 n
strided-two x y s n = strided-tail x (y ∷ s) 1 2 n ∙ strided-tail y s 0 2 n

evens-strided : (n : ℕ) (s : List ℕ) → double n ≤ length s → strided s 0 2 n ≡ evens (take (double n) s)
unfolding strided
evens-strided zero s h = refl
evens-strided (suc n) [] h = absurd (omega arith)
evens-strided (suc n) (x ∷ []) h = absurd (omega arith)
evens-strided (suc n) (x ∷ y ∷ s) h = rw (strided-two x y s n, evens-strided n s (omega arith))

odds-strided : (n : ℕ) (s : List ℕ) → double n ≤ length s → strided s 1 2 n ≡ odds (take (double n) s)
unfolding strided
odds-strided zero s h = refl
odds-strided (suc n) [] h = absurd (omega arith)
odds-strided (suc n) (x ∷ []) h = absurd (omega arith)
odds-strided (suc n) (x ∷ y ∷ s) h = rw (strided-tail x (y ∷ s) 2 2 n, strided-tail y s 1 2 n, odds-strided n s (omega arith))

twice : (n : ℕ) → n * 2 ≡ double n
twice zero = refl
twice (suc n) = let e = twice n in omega arith

-- what was put over a list's front is there
take-front : (n : ℕ) (ys l : List ℕ) → length ys ≡ n → take n (over ys l) ≡ ys
take-front n ys l e = ap (λ (k : ℕ). take k (over ys l)) (sym e) ∙ take-over ys l

-- copies of one byte, tested by the first of them
agreed-first : (xs : List ℕ) (old : ℕ) → 0 < length xs → agreed xs old ≡ cond (all_same xs (get_or xs 0 0)) (get_or xs 0 0) old
agreed-first [] old h = absurd (omega arith)
agreed-first (x ∷ xs) old h = rw (eq-eqb x x refl)

-- what a whole slice stores
module _ (r : Registers) (h : length r.slice ≡ 48) (b : Below r) where
  abbrev p : Part
  p = part_of r.part

  u : Usable p
  u = usable r.part

  few : (c : Command) → slice_fields p c (multiplex r.configuration) ≤ length r.slice
  few c = rw h (fields_le p u c (multiplex r.configuration) (mod-lt r.configuration (lit< tt)))

  -- a byte for each bank
  bytes : split 8 p.banks (gotten 8 r.slice (p.banks * 8)) ≡ slice_bytes r
  bytes =
      gotten-fields 8 p.banks r.slice (few Calibration)
      ∙ ap (map byte_of) (sym (strided-take r.slice 0 p.banks (omega (arith, few Calibration))))

  some : 0 < length (slice_bytes r)
  some = rw (length-bytes r.slice p.banks) u.some_bank

  -- a value for each output, or two
  values : split p.width (slice_fields p Individual (multiplex r.configuration)) (gotten p.width r.slice (slice_length r Individual))
      ≡ take (slice_fields p Individual (multiplex r.configuration)) r.slice
  values =
      let k = slice_fields p Individual (multiplex r.configuration) in
      gotten-fields p.width k r.slice (few Individual) ∙ kept_low (limit p) k r.slice b.slices.below

  -- the byte that copies agree on
  agreed-byte : (old : ℕ) → agreed (slice_bytes r) old ≡ cond (copies r) (first_byte r) old
  agreed-byte old =
      agreed-first (slice_bytes r) old some
      ∙ ap (λ (v : ℕ). cond (all_same (slice_bytes r) v) v old) (get_d-bytes r.slice p.banks 0 u.some_bank)

  load_same : (c : Command) → registers_of (stored r c) ≡ load c (gotten (field_width p c) r.slice (slice_length r c)) (registers_of r)
  unfolding load
  load_same Individual = rw values (go (multiplex r.configuration) (mod-lt r.configuration (lit< tt)) (few Individual) refl)
    where
      n : ℕ
      n = outputs p

      stored-front : (a k : ℕ) (vs : List ℕ) → take n (over (strided r.slice a k n) vs) ≡ strided r.slice a k n
      stored-front a k vs = take-front n (strided r.slice a k n) vs (length-strided r.slice a k n)

      go : (m : ℕ) → m < 2 → n * (1 + m) ≤ length r.slice → r.configuration % 2 ≡ m
          → registers_of (stored r Individual)
          ≡ model.with_waiting (model.with_individual (eqb m 1) (take (n * (1 + m)) r.slice) (registers_of r).waiting) (registers_of r)
      go zero l f e =
          let one : n * (1 + 0) ≡ n = omega arith in
          rw (e, one, stored-front 0 1 r.waiting0, strided-take r.slice 0 n (omega arith))
      go (suc zero) l f e =
          let two : n * (1 + 1) ≡ double n = twice n in
          let long : double n ≤ length r.slice = omega arith in
          rw (e, two, stored-front 0 2 r.waiting0, stored-front 1 2 r.waiting1, evens-strided n r.slice long, odds-strided n r.slice long)
      go (suc (suc m)) l f e = absurd (omega arith)
  load_same Calibration = rw (bytes, take-front p.banks (slice_bytes r) r.calibration (length-bytes r.slice p.banks))
  load_same Global = rw (bytes, agreed-byte r.waiting) (go (copies r))
    where
      go : (t : Bool) → registers_of (cond t (holding r r.configuration r.calibration (first_byte r) r.waiting0 r.waiting1 r.slice) r)
          ≡ model.with_waiting (model.with_global (cond t (first_byte r) r.waiting) (registers_of r).waiting) (registers_of r)
      go true = refl
      go false = refl
  load_same Configuration = rw (bytes, agreed-byte r.configuration) (go (copies r))
    where
      go : (t : Bool) → registers_of (cond t (holding r (first_byte r) r.calibration r.waiting r.waiting0 r.waiting1 r.slice) r)
          ≡ model.with_configuration (cond t (first_byte r) r.configuration) (registers_of r)
      go true = refl
      go false = refl

fault-same : (r : Registers) (c : Command) → model.fault c (registers_of r) ≡ is_one (fault r c)
unfolding model.fault
fault-same r Individual = refl
fault-same r Calibration = refl
fault-same r Global = refl
fault-same r Configuration = refl

raised-same : (n f : ℕ) → counted n (is_one f) ≡ raised n f
raised-same n zero = omega arith
raised-same n (suc f) = rw (ne_eqb (suc f) 0 (λ z. omega (arith, z)))

header-same : (c : Command) (n : ℕ) → map state_at (sent_states (Header c n)) ≡ header_states c n
unfolding header_states
header-same c n = map-state_at-state_code (clocked (header c n))

-- a bit of a slice that is not yet whole, in a record that the view speaks of
pub record Coming (r : Registers) (c : Command) (t bit : ℕ) : Type 0 where
  pub small : bit < 2
  pub room : t < slice_length r c
  pub slots : length r.slice ≡ 48
  pub below : Below r

module _ (r : Registers) (c : Command) (n t bit : ℕ) (x : Coming r c t bit) where
  abbrev w : ℕ
  w = field_width (part_of r.part) c

  abbrev all : ℕ
  all = slice_length r c

  abbrev next-r : Registers
  next-r = took r (t / w) bit (field_limit (part_of r.part) c)

  -- the slots hold any slice
  fit-slots : slice_length r c ≤ 48 * w
  fit-slots = mul-le-mul_right w (fields_le (part_of r.part) (usable r.part) c (multiplex r.configuration) (mod-lt r.configuration (lit< tt)))

  bits-next : gotten w next-r.slice (t + 1) ≡ gotten w r.slice t ++ eqb bit 1 ∷ []
  bits-next = gotten-next w bit (field-width-pos (part_of r.part) (usable r.part) c) x.small r.slice t (rw x.slots (omega (arith, x.room, fit-slots)))

  pub slice-same : seen (collected r c n t bit) ≡ step_device (viewed r (Slice c n t)) (high (eqb bit 1))
  slice-same = go (ltb (t + 1) all) refl
    where
      go : (u : Bool) → ltb (t + 1) all ≡ u
          → seen (cond u (moved next-r (Slice c n (t + 1))) (sending (stored next-r c) Passing (Header c (raised n (fault next-r c)))))
          ≡ step_device (viewed r (Slice c n t)) (high (eqb bit 1))
      go true e =
          let l = ltb-true (t + 1) all e in
          seen-sending next-r (Slice c n (t + 1)) Nothing (lit< tt)
          ∙ rw bits-next (sym (take_more (registers_of r) (slice c n) (all - suc t) (all - suc (t + 1)) (gotten w r.slice t) (eqb bit 1) (omega arith)))
      go false e =
          let l = ltb-false (t + 1) all e in
          let q : t + 1 ≡ all = omega (arith, x.room) in
          let m : gotten w next-r.slice all ≡ gotten w r.slice t ++ eqb bit 1 ∷ [] = rw q at bits-next in
          let m2 = multiplex r.configuration in
          let used : t / w < 2 * outputs (part_of r.part) =
          lt_of_lt_of_le (field_of (part_of r.part) c m2 t (field-width-pos (part_of r.part) (usable r.part) c) x.room) (fields-used (part_of r.part) c m2 (mod-lt r.configuration (lit< tt))) in
          let y = load_same next-r (simp length-set x.slots) (took-below r c (t / w) bit used x.below) c in
          seen-sending (stored next-r c) Passing (Header c (raised n (fault next-r c))) (lit< tt)
          ∙ rw (header-same c (raised n (fault next-r c)), fault-slice r next-r.slice c, y, m, ← raised-same n (fault r c), ← fault-same r c)
          (sym (take_last (registers_of r) (slice c n) (all - suc t) (gotten w r.slice t) (eqb bit 1) (omega arith)))
