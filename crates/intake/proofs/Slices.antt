-- A slice, field by field. The bits of one field all go into one value: pushed one by one below the field's limit, or pushed below 65536 and
-- reduced once, they are the same. By induction on the bits that the field lacks. Assumes nothing.
use mathlib.Core.Path.{◌≡◌, refl, sym, ap, ◌∙◌, subst}
use mathlib.Core.Bool.{Bool, true, false, cond}
use mathlib.Core.List.{List, [], ◌∷◌}
use Prim.Native.Nat.{ℕ, zero, suc, ◌+◌, ◌-◌, ◌*◌, ◌/◌, ◌%◌, ◌^◌, ◌<◌, ◌≤◌, min}
use native.Mathlib.Nat.{div-add-mod, div-add-mod', div-mul-le_self, div-eq_of_lt-le, div-lt_iff_lt-mul, mod-lt, mod-mod_of_dvd, dvd_of_mod-eq-zero, mul-add-mod_self_left, mul-mod_right, mul_assoc, mul-le-mul_right, le_trans}
use native.Mathlib.Omega.{arith}
use lib.Dec.{eqb, ltb, lit<}
use lib.Pow.{pow-add}
use lib.ListN.{length, get_or, set, drop}
use lib.Seq.{get_or-set_same, set-set}
use borrow.Author.Tests.{eqb-true, eqb-false, lt-ltb, le-ltb, ltb-true, ltb-false}
use Rattle.parts.specs.Parts.{part_of, multiplex, field_width, field_limit, slice_fields}
use Rattle.parts.proofs.Laws.{usable}
use Rattle.parts.specs.declared.command.Command.{Command}
use Rattle.phases.specs.Phases.{pushed}
use Rattle.registers.specs.Held.{with_slice, fault, raised}
use Rattle.storing.specs.Stored.{stored}
use Rattle.device.specs.Step.{at, moved, sending, slice_length}
use Rattle.parts.proofs.Rows.{field-width-pos, field-narrow, fields_le, field_of}
use Rattle.phases.specs.declared.phase.Phase.TheVariants.{Slice, Passing}
use Rattle.phases.specs.declared.phase.Sent.TheVariants.{Header}
use Rattle.registers.specs.declared.registers.Registers.{Registers}
use Rattle.intake.specs.Intake.{Taken, stopped, dated_step, high_taken, filled, field_after, lack_after, collecting, full}
use Rattle.intake.specs.declared.field.Filled.{Filled}
use Rattle.intake.proofs.Clauses.{drop-on, filled_none, filled-end, filled-low, filled_on}
use Rattle.intake.proofs.Phases.{after, high-at}
use Rattle.intake.proofs.Settled.{dated-slice}

-- ---- numbers

-- what was reduced before a bit came in is as if it were reduced after it
pub pushed-mod : (v b m : ℕ) → pushed (v % m) b m ≡ (v * 2 + b) % m
pushed-mod v b m =
    let q = v / m in
    let e = div-add-mod v m in
    let a : m * (q * 2) ≡ m * q * 2 = sym (mul_assoc m q 2) in
    let f : v * 2 + b ≡ m * (q * 2) + (v % m * 2 + b) = omega arith in
    sym (ap (λ (x : ℕ). x % m) f ∙ mul-add-mod_self_left m (q * 2) (v % m * 2 + b))

limit-divides : (c : Command) (part : ℕ) → 65536 % field_limit (part_of part) c ≡ 0
limit-divides c part =
    let w = field_width (part_of part) c in
    let e : w + (16 - w) ≡ 16 = omega (arith, field-narrow (part_of part) (usable part) c) in
    ap (λ (k : ℕ). 2 ^ k % 2 ^ w) (sym e) ∙ ap (λ (n : ℕ). n % 2 ^ w) (pow-add 2 w (16 - w)) ∙ mul-mod_right (2 ^ w) (2 ^ (16 - w))

-- a number below 65536 is reduced at the end
pub pushed-late : (c : Command) (part v b : ℕ) → pushed v b 65536 % field_limit (part_of part) c ≡ (v * 2 + b) % field_limit (part_of part) c
pushed-late c part v b = mod-mod_of_dvd (field_limit (part_of part) c) (v * 2 + b) (dvd_of_mod-eq-zero (field_limit (part_of part) c) (limit-divides c part))

-- the bits that a field lacks are all of that field
pub same-field : (w t j : ℕ) → 0 < w → j < w - t % w → (t + j) / w ≡ t / w
same-field w t j p h =
    let e = div-add-mod' t w in
    let a : (t / w + 1) * w ≡ t / w * w + w = omega arith in
    div-eq_of_lt-le w (omega (arith, div-mul-le_self t w)) (omega arith)

-- a remainder by the quotient
rest_of : (x q w : ℕ) → x / w ≡ q → q * w + x % w ≡ x
rest_of x q w e = ap (λ (y : ℕ). y * w + x % w) (sym e) ∙ div-add-mod' x w

-- once n of them have come: the field of the next bit, and the bits that it lacks
pub field_next : (w t n : ℕ) → 0 < w → n ≤ w - t % w → (field_after (t / w) (w - t % w - n) ≡ (t + n) / w) × (lack_after w (w - t % w - n) ≡ w - (t + n) % w)
field_next w t n p h = go (eqb (w - t % w - n) 0) refl where
  go : (b : Bool) → eqb (w - t % w - n) 0 ≡ b → (cond b (t / w + 1) (t / w) ≡ (t + n) / w) × (cond b w (w - t % w - n) ≡ w - (t + n) % w)
  go true e =
      let none = eqb-true (w - t % w - n) 0 e in
      let m = mod-lt t p in
      let x = div-add-mod' t w in
      let a : (t / w + 1) * w ≡ t / w * w + w = omega arith in
      let b : (t / w + 1 + 1) * w ≡ t / w * w + w + w = omega arith in
      let q : (t + n) / w ≡ t / w + 1 = div-eq_of_lt-le w (omega arith) (omega arith) in
      let r = rest_of (t + n) (t / w + 1) w q in
      (sym q, omega arith)
  go false e =
      let some : w - t % w - n ≡ 0 → ⊥ = eqb-false (w - t % w - n) 0 e in
      let l : n < w - t % w = lt-of-some (w - t % w - n) some refl in
      let x = div-add-mod' t w in
      let q : (t + n) / w ≡ t / w = same-field w t n p l in
      let r = rest_of (t + n) (t / w) w q in
      (sym q, omega arith)
    where
      lt-of-some : (k : ℕ) → (k ≡ 0 → ⊥) → w - t % w - n ≡ k → n < w - t % w
      lt-of-some zero f e = absurd (f refl)
      lt-of-some (suc k) f e = omega arith

-- and end within the slice
pub field-within : (w t f : ℕ) → 0 < w → t < f * w → t + (w - t % w) ≤ f * w
field-within w t f p h =
    let k : t / w < f = (div-lt_iff_lt-mul p).1 h in
    let e = div-add-mod' t w in
    let m = mod-lt t p in
    let a : (t / w + 1) * w ≡ t / w * w + w = omega arith in
    let l : (t / w + 1) * w ≤ f * w = mul-le-mul_right w (omega arith) in
    omega arith

pub slot-within : (r : Registers) (c : Command) (t : ℕ) → t < slice_length r c → t / field_width (part_of r.part) c < 48
slot-within r c t h =
    let p = field-width-pos (part_of r.part) (usable r.part) c in
    let k = field_of (part_of r.part) c (multiplex r.configuration) t p h in
    omega (arith, fields_le (part_of r.part) (usable r.part) c (multiplex r.configuration) (mod-lt r.configuration (lit< tt)))

-- ---- a field's place

pub filled-ge : (v b : ℕ) (l : List ℕ) (i : ℕ) → i ≤ (filled v b l i).at
unfolding filled
filled-ge v zero l i = omega arith
filled-ge v (suc b) [] i = omega arith
filled-ge v (suc b) (s ∷ l) i = go (ltb s 2) (filled-ge (pushed v (s % 2) 65536) b l (i + 1)) where
  go : (t : Bool) → i + 1 ≤ (filled (pushed v (s % 2) 65536) b l (i + 1)).at
      → i ≤ (cond t (record { value = v; at = i }) (filled (pushed v (s % 2) 65536) b l (i + 1))).at
  go true h = omega arith
  go false h = omega arith

pub filled-le : (v b : ℕ) (l : List ℕ) (i : ℕ) → (filled v b l i).at ≤ i + b
unfolding filled
filled-le v zero l i = omega arith
filled-le v (suc b) [] i = omega arith
filled-le v (suc b) (s ∷ l) i = go (ltb s 2) (filled-le (pushed v (s % 2) 65536) b l (i + 1)) where
  go : (t : Bool) → (filled (pushed v (s % 2) 65536) b l (i + 1)).at ≤ i + 1 + b
      → (cond t (record { value = v; at = i }) (filled (pushed v (s % 2) 65536) b l (i + 1))).at ≤ i + suc b
  go true h = omega arith
  go false h = omega arith

-- ---- a field's bits

module _ (r : Registers) (c : Command) (n : ℕ) (ss : List ℕ) where
  abbrev width : ℕ
  width = field_width (part_of r.part) c

  abbrev below : ℕ
  below = field_limit (part_of r.part) c

  -- with t bits in sl, from the state at i on
  abbrev pub goes_on : List ℕ → ℕ → ℕ → Taken
  goes_on sl t i = cond (ltb t (slice_length r c)) (high_taken (collecting r sl c n t) (drop i ss) i) (full r sl c n i)

  abbrev pushed_at : List ℕ → ℕ → ℕ → List ℕ
  pushed_at sl t s = set sl (t / width) (pushed (get_or sl (t / width) 0) (s % 2) below)

  one_bit : (sl : List ℕ) (t i : ℕ) → i < length ss → 2 ≤ get_or ss i 0
      → high_taken (collecting r sl c n t) (drop i ss) i ≡ goes_on (pushed_at sl t (get_or ss i 0)) (t + 1) (i + 1)
  one_bit sl t i h l =
      ap (λ (rest : List ℕ). high_taken (collecting r sl c n t) rest i) (drop-on ss i h)
      ∙ high-at (with_slice r sl) (Slice c n t) (get_or ss i 0) (drop (i + 1) ss) i (lit< tt) (le-ltb (get_or ss i 0) 2 l)
      ∙ either (ltb (t + 1) (slice_length r c)) where
        now : Registers
        now = with_slice r (pushed_at sl t (get_or ss i 0))

        either : (b : Bool)
            → after (dated_step (i + 1) (with_slice r sl) (cond b (moved now (Slice c n (t + 1))) (sending (stored now c) Passing (Header c (raised n (fault now c)))))) (drop (i + 1) ss) i
            ≡ cond b (high_taken (at now (Slice c n (t + 1))) (drop (i + 1) ss) (i + 1)) (full r (pushed_at sl t (get_or ss i 0)) c n (i + 1))
        either true = refl
        either false = ap (λ (q : Registers). stopped (at q Passing) (i + 1) (Header c (raised n (fault now c)))) (dated-slice (i + 1) r sl (stored now c))

  -- once field k, of which t bits were taken with the slice up to i, is filled up to f
  abbrev pub went : List ℕ → ℕ → ℕ → ℕ → Filled → Taken
  went sl k t i f = goes_on (set sl k (f.value % below)) (t + (f.at - i)) f.at

  went-none : (sl : List ℕ) (k t i v : ℕ) → goes_on (set sl k (v % below)) t i ≡ went sl k t i (record { value = v; at = i })
  went-none sl k t i v = let e : t ≡ t + (i - i) = omega arith in ap (λ (x : ℕ). goes_on (set sl k (v % below)) x i) e

  pub goes-more : (sl : List ℕ) (t i : ℕ) → t < slice_length r c → goes_on sl t i ≡ high_taken (collecting r sl c n t) (drop i ss) i
  goes-more sl t i h = ap (λ (b : Bool). cond b (high_taken (collecting r sl c n t) (drop i ss) i) (full r sl c n i)) (lt-ltb t (slice_length r c) h)

  pub goes-full : (sl : List ℕ) (t i : ℕ) → slice_length r c ≤ t → goes_on sl t i ≡ full r sl c n i
  goes-full sl t i h = ap (λ (b : Bool). cond b (high_taken (collecting r sl c n t) (drop i ss) i) (full r sl c n i)) (le-ltb t (slice_length r c) h)

  -- one more bit of field k
  more : (sl : List ℕ) (k t i v : ℕ) → k < length sl → t / width ≡ k → t < slice_length r c → i < length ss → 2 ≤ get_or ss i 0
      → goes_on (set sl k (v % below)) t i ≡ goes_on (set sl k (pushed v (get_or ss i 0 % 2) 65536 % below)) (t + 1) (i + 1)
  more sl k t i v b e l h g =
      goes-more (set sl k (v % below)) t i l
      ∙ one_bit (set sl k (v % below)) t i h g
      ∙ ap (λ (x : List ℕ). goes_on x (t + 1) (i + 1)) (same e) where
        s : ℕ
        s = get_or ss i 0 % 2

        same : t / width ≡ k → pushed_at (set sl k (v % below)) t (get_or ss i 0) ≡ set sl k (pushed v s 65536 % below)
        same q =
            ap (λ (x : ℕ). set (set sl k (v % below)) x (pushed (get_or (set sl k (v % below)) x 0) s below)) q
            ∙ ap (λ (x : ℕ). set (set sl k (v % below)) k (pushed x s below)) (get_or-set_same sl k (v % below) 0 b)
            ∙ set-set sl k (v % below) (pushed (v % below) s below)
            ∙ ap (set sl k) (pushed-mod v s below ∙ sym (pushed-late c r.part v s))

  field : (b v : ℕ) (sl : List ℕ) (k t i : ℕ) → k < length sl → ((j : ℕ) → j < b → (t + j) / width ≡ k) → t + b ≤ slice_length r c
      → goes_on (set sl k (v % below)) t i ≡ went sl k t i (filled v b (drop i ss) i)
  field zero v sl k t i p q l = went-none sl k t i v ∙ ap (went sl k t i) (sym (filled_none v ss i))
  field (suc b) v sl k t i p q l =
      go (ltb i (length ss)) refl (ltb (get_or ss i 0) 2) refl
      (field b (pushed v (get_or ss i 0 % 2) 65536) sl k (t + 1) (i + 1) p
      (λ j h. let e : t + 1 + j ≡ t + suc j = omega arith in ap (λ (x : ℕ). x / width) e ∙ q (suc j) (omega arith)) (omega arith)) where
        go : (x : Bool) → ltb i (length ss) ≡ x → (y : Bool) → ltb (get_or ss i 0) 2 ≡ y
            → goes_on (set sl k (pushed v (get_or ss i 0 % 2) 65536 % below)) (t + 1) (i + 1)
            ≡ went sl k (t + 1) (i + 1) (filled (pushed v (get_or ss i 0 % 2) 65536) b (drop (i + 1) ss) (i + 1))
            → goes_on (set sl k (v % below)) t i ≡ went sl k t i (filled v (suc b) (drop i ss) i)
        go false x y z ih = went-none sl k t i v ∙ ap (went sl k t i) (sym (filled-end v b ss i (ltb-false i (length ss) x)))
        go true x true y ih =
            went-none sl k t i v ∙ ap (went sl k t i) (sym (filled-low v b ss i (ltb-true i (length ss) x) (ltb-true (get_or ss i 0) 2 y)))
        go true x false y ih =
            let h = ltb-true i (length ss) x in
            let g = ltb-false (get_or ss i 0) 2 y in
            let f = filled (pushed v (get_or ss i 0 % 2) 65536) b (drop (i + 1) ss) (i + 1) in
            let ge = filled-ge (pushed v (get_or ss i 0 % 2) 65536) b (drop (i + 1) ss) (i + 1) in
            let zero-on : t + 0 ≡ t = omega arith in
            let e : t + 1 + (f.at - (i + 1)) ≡ t + (f.at - i) = omega arith in
            more sl k t i v p (ap (λ (x : ℕ). x / width) (sym zero-on) ∙ q 0 (omega arith)) (omega arith) h g
            ∙ ih
            ∙ ap (λ (x : ℕ). goes_on (set sl k (f.value % below)) x f.at) e
            ∙ ap (went sl k t i) (sym (filled_on v b ss i h g))

  -- the field that the next bit is of, filled with what is at hand, b bits at most
  pub field-taken : (b : ℕ) (sl : List ℕ) (t i : ℕ) → length sl ≡ 48 → t < slice_length r c → i < length ss → 2 ≤ get_or ss i 0
      → 0 < b → b ≤ width - t % width
      → high_taken (collecting r sl c n t) (drop i ss) i ≡ went sl (t / width) t i (filled (get_or sl (t / width) 0) b (drop i ss) i)
  field-taken zero sl t i p l h g z y = absurd (omega arith)
  field-taken (suc b) sl t i p l h g z y =
      let k = t / width in
      let s = get_or ss i 0 % 2 in
      let v = get_or sl k 0 in
      let w = field-width-pos (part_of r.part) (usable r.part) c in
      let inside : t + (width - t % width) ≤ slice_length r c = field-within width t (slice_fields (part_of r.part) c (multiplex r.configuration)) w l in
      let slot = slot-within r c t l in
      let f = filled (pushed v s 65536) b (drop (i + 1) ss) (i + 1) in
      let ge = filled-ge (pushed v s 65536) b (drop (i + 1) ss) (i + 1) in
      let e : t + 1 + (f.at - (i + 1)) ≡ t + (f.at - i) = omega arith in
      one_bit sl t i h g
      ∙ ap (λ (x : ℕ). goes_on (set sl k x) (t + 1) (i + 1)) (sym (pushed-late c r.part v s))
      ∙ field b (pushed v s 65536) sl k (t + 1) (i + 1) (omega arith)
      (λ j q. let a : t + 1 + j ≡ t + suc j = omega arith in ap (λ (x : ℕ). x / width) a ∙ same-field width t (suc j) w (omega arith)) (omega arith)
      ∙ ap (λ (x : ℕ). goes_on (set sl k (f.value % below)) x f.at) e
      ∙ ap (went sl k t i) (sym (filled_on v b ss i h g))

-- ---- one turn of the loop over fields

-- a slice is no longer than 48 fields of 14 bits
pub slice-le : (r : Registers) (c : Command) → slice_length r c ≤ 672
slice-le r c =
    le_trans (mul-le-mul_right (field_width (part_of r.part) c) (fields_le (part_of r.part) (usable r.part) c (multiplex r.configuration) (mod-lt r.configuration (lit< tt))))
    (omega (arith, field-narrow (part_of r.part) (usable r.part) c))

-- the bits that field t / w lacks, or as many as there are states
abbrev pub lacking : ℕ → ℕ → ℕ → ℕ
lacking w t room = min (w - t % w) room

pub record FieldTaken (r : Registers) (c : Command) (n : ℕ) (ss sl : List ℕ) (t i w m : ℕ) (f : Filled) : Type 0 where
  pub same : high_taken (collecting r sl c n t) (drop i ss) i ≡ goes_on r c n ss (set sl (t / w) (f.value % m)) (t + (f.at - i)) f.at
  pub more : i < f.at
  pub near : f.at ≤ i + 14
  pub own : f.at - i ≤ w - t % w

exactly : (r : Registers) (c : Command) (n : ℕ) (ss sl : List ℕ) (t i : ℕ) → length sl ≡ 48 → t < slice_length r c → i < length ss → 2 ≤ get_or ss i 0
    → let w = field_width (part_of r.part) c in
    FieldTaken r c n ss sl t i w (field_limit (part_of r.part) c) (filled (get_or sl (t / w) 0) (lacking w t (length ss - i)) (drop i ss) i)
exactly r c n ss sl t i p l h g = at_least (lacking w t (length ss - i)) refl where
  w : ℕ
  w = field_width (part_of r.part) c

  at_least : (b : ℕ) → lacking w t (length ss - i) ≡ b → FieldTaken r c n ss sl t i w (field_limit (part_of r.part) c) (filled (get_or sl (t / w) 0) b (drop i ss) i)
  at_least zero e =
      let m = mod-lt t (field-width-pos (part_of r.part) (usable r.part) c) in
      absurd (omega arith)
  at_least (suc b) e =
      record {
        same = field-taken r c n ss (suc b) sl t i p l h g (omega arith) (omega arith);
        more =
            rw (filled_on (get_or sl (t / w) 0) b ss i h g)
            (omega (arith, filled-ge (pushed (get_or sl (t / w) 0) (get_or ss i 0 % 2) 65536) b (drop (i + 1) ss) (i + 1)));
        near =
            omega (
              arith,
              filled-le (get_or sl (t / w) 0) (suc b) (drop i ss) i,
              field-narrow (part_of r.part) (usable r.part) c,
            );
        own = omega (arith, filled-le (get_or sl (t / w) 0) (suc b) (drop i ss) i);
      }

-- the same, as the code has the width, the limit and the field
pub field_taken : (r : Registers) (c : Command) (n : ℕ) (ss sl : List ℕ) (t i w m : ℕ) (f : Filled)
    → w ≡ field_width (part_of r.part) c
    → m ≡ field_limit (part_of r.part) c
    → length sl ≡ 48
    → t < slice_length r c
    → i < length ss
    → 2 ≤ get_or ss i 0
    → f ≡ filled (get_or sl (t / w) 0) (i + lacking w t (length ss - i) - i) (drop i ss) i
    → FieldTaken r c n ss sl t i w m f
field_taken r c n ss sl t i w m f a b p l h g e =
    subst (λ (x : Filled). FieldTaken r c n ss sl t i w m x) (sym (e ∙ ap (λ (x : ℕ). filled (get_or sl (t / w) 0) x (drop i ss) i) q))
    (subst (λ (y : ℕ). FieldTaken r c n ss sl t i y m (filled (get_or sl (t / y) 0) (lacking y t (length ss - i)) (drop i ss) i)) (sym a)
    (subst (λ (z : ℕ). FieldTaken r c n ss sl t i v z (filled (get_or sl (t / v) 0) (lacking v t (length ss - i)) (drop i ss) i)) (sym b)
    (exactly r c n ss sl t i p l h g))) where
      v : ℕ
      v = field_width (part_of r.part) c

      q : i + lacking w t (length ss - i) - i ≡ lacking w t (length ss - i)
      q = omega arith
