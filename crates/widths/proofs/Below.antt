-- Registers whose flags and values are within their widths keep that: after a bit of a slice, after the last one, at a frame boundary and
-- by a fault setting. First the tests of lists of values. Assumes nothing.
use mathlib.Core.Path.{◌≡◌, refl, ap, ◌∙◌, subst}
use mathlib.Core.Bool.{true, ◌&&◌}
use mathlib.Core.List.{List, [], ◌∷◌, ◌++◌}
use Prim.Native.Nat.{ℕ, zero, suc, ◌+◌, ◌*◌, ◌<◌}
use native.Mathlib.Nat.{mod-lt, lt_of_lt_of_le}
use lib.Dec.{eqb, ltb, lit<}
use lib.ListN.{length, get_or, set, drop, replicate}
use lib.Seq.{drop-set-lt, drop-append_seam}
use borrow.Author.Tests.{lt-ltb, ltb-true}
use Rattle.parts.specs.Parts.{part_of, outputs, multiplex, limit, field_limit}
use Rattle.tables.specs.Lists.{all_below}
use Rattle.parts.specs.declared.command.Command.{Command}
use Rattle.parts.specs.declared.command.Command.TheVariants.{Individual, Calibration, Global, Configuration}
use Rattle.phases.specs.Phases.{pushed}
use Rattle.tables.proofs.Booleans.{and_both, both-and, cond_both}
use Rattle.registers.specs.Held.{holding, showing, took}
use Rattle.bits.specs.Bits.{over}
use Rattle.bits.proofs.Laws.{drop-over}
use Rattle.storing.specs.Stored.{stored, strided, slice_bytes, copies}
use Rattle.storing.proofs.Lists.{length-strided, length-bytes}
use Rattle.widths.specs.Widths.{flags_fit, pair_below, values_below, unused_zero, values_fit}
use Rattle.registers.specs.declared.registers.Registers.{Registers}
use Rattle.parts.proofs.Laws.{usable}
use Rattle.parts.proofs.Rows.{limit-pos, field-limit-pos, field-limit-le}

-- ---- lists of values

pub below-head : (x : ℕ) (xs : List ℕ) (m : ℕ) → all_below (x ∷ xs) m ≡ true → (x < m) × (all_below xs m ≡ true)
below-head x xs m h = let t = and_both (ltb x m) (all_below xs m) h in (ltb-true x m t.0, t.1)

pub below-cons : (x : ℕ) (xs : List ℕ) (m : ℕ) → x < m → all_below xs m ≡ true → all_below (x ∷ xs) m ≡ true
below-cons x xs m p q = both-and (ltb x m) (all_below xs m) (lt-ltb x m p) q

pub below_at : (xs : List ℕ) (m i : ℕ) → all_below xs m ≡ true → 0 < m → get_or xs i 0 < m
below_at [] m i h p = p
below_at (x ∷ xs) m zero h p = (below-head x xs m h).0
below_at (x ∷ xs) m (suc i) h p = below_at xs m i (below-head x xs m h).1 p

pub below_set : (xs : List ℕ) (m i v : ℕ) → all_below xs m ≡ true → v < m → all_below (set xs i v) m ≡ true
below_set [] m i v h p = refl
below_set (x ∷ xs) m zero v h p = below-cons v xs m p (below-head x xs m h).1
below_set (x ∷ xs) m (suc i) v h p =
    below-cons x (set xs i v) m (below-head x xs m h).0 (below_set xs m i v (below-head x xs m h).1 p)

pub below-strided : (xs : List ℕ) (m a k n : ℕ) → all_below xs m ≡ true → 0 < m → all_below (strided xs a k n) m ≡ true
unfolding strided
below-strided xs m a k zero h p = refl
below-strided xs m a k (suc n) h p =
    below-cons (get_or xs a 0) (strided xs (a + k) k n) m (below_at xs m a h p) (below-strided xs m (a + k) k n h p)

pub below-zeros : (n m : ℕ) → 0 < m → all_below (replicate n 0) m ≡ true
below-zeros zero m p = refl
below-zeros (suc n) m p = below-cons 0 (replicate n 0) m p (below-zeros n m p)

pub below-drop : (n : ℕ) (xs : List ℕ) (m : ℕ) → all_below xs m ≡ true → all_below (drop n xs) m ≡ true
below-drop zero xs m h = h
below-drop (suc n) [] m h = refl
below-drop (suc n) (x ∷ xs) m h = below-drop n xs m (below-head x xs m h).1

below-append : (xs ys : List ℕ) (m : ℕ) → all_below xs m ≡ true → all_below ys m ≡ true → all_below (xs ++ ys) m ≡ true
below-append [] ys m p q = q
below-append (x ∷ xs) ys m p q = let t = below-head x xs m p in below-cons x (xs ++ ys) m t.0 (below-append xs ys m t.1 q)

-- ---- lists of which the first n values are in use

-- each value is below m, and those that are not in use are 0
pub record Fit (n m : ℕ) (xs : List ℕ) : Type 0 where
  pub below : all_below xs m ≡ true
  pub unused : all_below (drop n xs) 1 ≡ true

-- a new value in use
pub fit-set : (n m : ℕ) (xs : List ℕ) (k v : ℕ) → k < n → v < m → Fit n m xs → Fit n m (set xs k v)
fit-set n m xs k v h l f =
    record { below = below_set xs m k v f.below l; unused = ap (λ (ys : List ℕ). all_below ys 1) (drop-set-lt n xs k v h) ∙ f.unused }

-- all that are in use are new
pub fit-over : (n m : ℕ) (ys xs : List ℕ) → length ys ≡ n → all_below ys m ≡ true → Fit n m xs → Fit n m (over ys xs)
unfolding over
fit-over n m ys xs e h f =
    record {
      below = below-append ys (drop (length ys) xs) m h (below-drop (length ys) xs m f.below);
      unused = subst (λ (k : ℕ). all_below (drop k (ys ++ drop (length ys) xs)) 1 ≡ true) e (rw (drop-append_seam ys (drop (length ys) xs), e) f.unused);
    }

pub fit-zeros : (n m k : ℕ) → 0 < m → Fit n m (replicate k 0)
fit-zeros n m k h = record { below = below-zeros k m h; unused = below-drop n (replicate k 0) 1 (below-zeros k 1 (lit< tt)) }

-- ---- registers

-- every number of the registers is within its width, and what is not in use is 0
pub record Below (r : Registers) : Type 0 where
  pub hot : r.overtemperature < 2
  pub lit : r.openled < 2
  pub calibrations : all_below (drop (part_of r.part).banks r.calibration) 1 ≡ true
  pub waiting0s : Fit (outputs (part_of r.part)) (limit (part_of r.part)) r.waiting0
  pub waiting1s : Fit (outputs (part_of r.part)) (limit (part_of r.part)) r.waiting1
  pub active0s : Fit (outputs (part_of r.part)) (limit (part_of r.part)) r.active0
  pub active1s : Fit (outputs (part_of r.part)) (limit (part_of r.part)) r.active1
  pub slices : Fit (2 * outputs (part_of r.part)) (limit (part_of r.part)) r.slice

-- the five lists of values
five : (r : Registers) (n m : ℕ) → values_below r n m ≡ true
    → ((all_below (drop n r.waiting0) m ≡ true) × (all_below (drop n r.waiting1) m ≡ true))
    × ((all_below (drop n r.active0) m ≡ true) × (all_below (drop n r.active1) m ≡ true))
    × (all_below (drop (2 * n) r.slice) m ≡ true)
five r n m h =
    let waiting = pair_below (drop n r.waiting0) (drop n r.waiting1) m in
    let active = pair_below (drop n r.active0) (drop n r.active1) m in
    let a = and_both waiting (active && all_below (drop (2 * n) r.slice) m) h in
    let b = and_both active (all_below (drop (2 * n) r.slice) m) a.1 in
    (and_both _ _ a.0, and_both _ _ b.0, b.1)

pub below_of : (r : Registers) → (flags_fit r && values_fit r) ≡ true → Below r
below_of r h =
    let s = and_both (flags_fit r) (values_fit r) h in
    let f = and_both (ltb r.overtemperature 2) (ltb r.openled 2) s.0 in
    let v = and_both (values_below r 0 (limit (part_of r.part))) (unused_zero r) s.1 in
    let u = and_both (values_below r (outputs (part_of r.part)) 1) (all_below (drop (part_of r.part).banks r.calibration) 1) v.1 in
    let a = five r 0 (limit (part_of r.part)) v.0 in
    let b = five r (outputs (part_of r.part)) 1 u.0 in
    record {
      hot = ltb-true r.overtemperature 2 f.0;
      lit = ltb-true r.openled 2 f.1;
      calibrations = u.1;
      waiting0s = record { below = a.0.0; unused = b.0.0 };
      waiting1s = record { below = a.0.1; unused = b.0.1 };
      active0s = record { below = a.1.0; unused = b.1.0 };
      active1s = record { below = a.1.1; unused = b.1.1 };
      slices = record { below = a.2; unused = b.2 };
    }

pub of-below : (r : Registers) → Below r → (flags_fit r && values_fit r) ≡ true
of-below r b =
    rw (
      lt-ltb r.overtemperature 2 b.hot,
      lt-ltb r.openled 2 b.lit,
      b.waiting0s.below,
      b.waiting1s.below,
      b.active0s.below,
      b.active1s.below,
      b.slices.below,
      b.waiting0s.unused,
      b.waiting1s.unused,
      b.active0s.unused,
      b.active1s.unused,
      b.slices.unused,
      b.calibrations,
    )

-- a new calibration, new waiting values and a new slice
pub holding-below : (r : Registers) (configuration : ℕ) (calibration : List ℕ) (waiting : ℕ) (waiting0 waiting1 slice : List ℕ)
    → Below r
    → all_below (drop (part_of r.part).banks calibration) 1 ≡ true
    → Fit (outputs (part_of r.part)) (limit (part_of r.part)) waiting0
    → Fit (outputs (part_of r.part)) (limit (part_of r.part)) waiting1
    → Fit (2 * outputs (part_of r.part)) (limit (part_of r.part)) slice
    → Below (holding r configuration calibration waiting waiting0 waiting1 slice)
holding-below r configuration calibration waiting waiting0 waiting1 slice b k p q s =
    record {
      hot = b.hot;
      lit = b.lit;
      calibrations = k;
      waiting0s = p;
      waiting1s = q;
      active0s = b.active0s;
      active1s = b.active1s;
      slices = s;
    }

-- values of the slice, stored over those in use
values-over : (r : Registers) (a k : ℕ) (xs : List ℕ) → Below r → Fit (outputs (part_of r.part)) (limit (part_of r.part)) xs
    → Fit (outputs (part_of r.part)) (limit (part_of r.part)) (over (strided r.slice a k (outputs (part_of r.part))) xs)
values-over r a k xs b f =
    let p = part_of r.part in
    fit-over (outputs p) (limit p) (strided r.slice a k (outputs p)) xs (length-strided r.slice a k (outputs p))
    (below-strided r.slice (limit p) a k (outputs p) b.slices.below (limit-pos p)) f

-- the bytes of a slice, stored over those in use
bytes-over : (r : Registers) → Below r
    → all_below (drop (part_of r.part).banks (over (slice_bytes r) r.calibration)) 1 ≡ true
bytes-over r b =
    let e : length (slice_bytes r) ≡ (part_of r.part).banks = length-bytes r.slice (part_of r.part).banks in
    subst (λ (k : ℕ). all_below (drop k (over (slice_bytes r) r.calibration)) 1 ≡ true) e (rw (drop-over (slice_bytes r) r.calibration, e) b.calibrations)

pub stored-below : (r : Registers) (c : Command) → Below r → Below (stored r c)
stored-below r Individual b =
    cond_both Below (eqb (multiplex r.configuration) 0) _ _
    (λ _. holding-below r _ _ _ _ _ _ b b.calibrations (values-over r 0 1 r.waiting0 b b.waiting0s) b.waiting1s b.slices)
    (λ _. holding-below r _ _ _ _ _ _ b b.calibrations (values-over r 0 2 r.waiting0 b b.waiting0s) (values-over r 1 2 r.waiting1 b b.waiting1s) b.slices)
stored-below r Calibration b = holding-below r _ _ _ _ _ _ b (bytes-over r b) b.waiting0s b.waiting1s b.slices
stored-below r Global b =
    cond_both Below (copies r) _ _ (λ _. holding-below r _ _ _ _ _ _ b b.calibrations b.waiting0s b.waiting1s b.slices) (λ _. b)
stored-below r Configuration b =
    cond_both Below (copies r) _ _ (λ _. holding-below r _ _ _ _ _ _ b b.calibrations b.waiting0s b.waiting1s b.slices) (λ _. b)

-- a bit of a slice goes into a field that is in use
pub took-below : (r : Registers) (c : Command) (k bit : ℕ) → k < 2 * outputs (part_of r.part) → Below r → Below (took r k bit (field_limit (part_of r.part) c))
took-below r c k bit h b =
    let p = part_of r.part in
    let v = pushed (get_or r.slice k 0) bit (field_limit p c) in
    let l : v < limit p =
    lt_of_lt_of_le (mod-lt (get_or r.slice k 0 * 2 + bit) (field-limit-pos p c)) (field-limit-le p (usable r.part) c) in
    holding-below r _ _ _ _ _ _ b b.calibrations b.waiting0s b.waiting1s (fit-set (2 * outputs p) (limit p) r.slice k v h l b.slices)

-- new flags and active values
pub showing-below : (r : Registers) (hot lit active : ℕ) (active0 active1 : List ℕ)
    → Below r
    → hot < 2
    → lit < 2
    → Fit (outputs (part_of r.part)) (limit (part_of r.part)) active0
    → Fit (outputs (part_of r.part)) (limit (part_of r.part)) active1
    → Below (showing r hot lit active active0 active1)
showing-below r hot lit active active0 active1 b h l p q =
    record {
      hot = h;
      lit = l;
      calibrations = b.calibrations;
      waiting0s = b.waiting0s;
      waiting1s = b.waiting1s;
      active0s = p;
      active1s = q;
      slices = b.slices;
    }
