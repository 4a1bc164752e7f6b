-- Laws of the parts, the commands and their slices: every row is usable, and what is said of slices is said of any row that is. A command is
-- one of four. The table of slice lengths is tested whole, once, and `slice-table` turns the test into the rule. Assumes nothing.
use mathlib.Core.Path.{◌≡◌, refl, sym, ap, ap₂, ◌∙◌, subst}
use mathlib.Core.Bool.{Bool, true, false, cond, ◌&&◌, ◌||◌}
use mathlib.Core.List.{List, [], ◌∷◌}
use Prim.Native.Nat.{ℕ, suc, ◌+◌, ◌*◌, ◌/◌, ◌%◌, ◌^◌, ◌<◌, ◌≤◌}
use native.Mathlib.Omega.{arith}
use lib.Dec.{T, eqb, ltb, leb, eqb→eq, ltb→lt, leb→le}
use borrow.Author.Tests.{leb-true, ltb-true}
use lib.ListN.{length, get_or}
use Rattle.parts.specs.Parts.{Part, max6972, max6973, max6974, max6975, rows, no_part, known_in, row_from, part_of, row_index, multiplex}
use Rattle.parts.specs.Parts.{glb4, subframes, limit, is_count, code, command_at, slice_bits, period, sink_current, Usable, WholeFrames}
use Rattle.parts.specs.declared.command.Command.{Command}
use Rattle.parts.specs.declared.command.Command.TheVariants.{Individual, Calibration, Global, Configuration}
use Rattle.tables.proofs.Booleans.{and_both, or-false, cond_both}
use Rattle.tables.proofs.Table.{every_place, every_place-at}

-- what holds of each row holds of the row of any number
pub each_row : (P : Part → Type 0) → P max6972 → P max6973 → P max6974 → P max6975 → (n : ℕ) → P (part_of n)
each_row P a b c d n =
    cond_both P (eqb n max6972.name) _ _ (λ _. a)
    (λ _. cond_both P (eqb n max6973.name) _ _ (λ _. b) (λ _. cond_both P (eqb n max6974.name) _ _ (λ _. c) (λ _. d)))

-- a number is known where the row that it is read as has it
known_from : (p : Part) (ps : List Part) (n : ℕ) → known_in (p ∷ ps) n ≡ eqb n (row_from p ps n).name
known_from p [] n = sym (or-false (eqb n p.name))
known_from p (q ∷ qs) n = go (eqb n p.name) refl (known_from q qs n) where
  go : (t : Bool) → eqb n p.name ≡ t → known_in (q ∷ qs) n ≡ eqb n (row_from q qs n).name → (t || known_in (q ∷ qs) n) ≡ eqb n (cond t p (row_from q qs n)).name
  go true e rest = sym e
  go false e rest = rest

-- four numbers of subframes, each 1 to 128
subframes-by :
    (p : Part)
    → length p.subframes_by ≡ 4
    → T (every_place (λ k n. ltb 0 n) 0 p.subframes_by)
    → T (every_place (λ k n. leb n 128) 0 p.subframes_by)
    → (configuration : ℕ) → (1 ≤ subframes p configuration) × (subframes p configuration ≤ 128)
subframes-by p e t u configuration =
    let k : ℕ = multiplex configuration + 2 * glb4 configuration in
    let l : k < length p.subframes_by = omega (arith, e) in (
      ltb→lt 0 (subframes p configuration) (every_place-at (λ k n. ltb 0 n) p.subframes_by t k l),
      leb→le (subframes p configuration) 128 (every_place-at (λ k n. leb n 128) p.subframes_by u k l),
    )

-- a row by the tests of its numbers
abbrev within : Part → Bool
within p =
    leb 1 p.banks
    && (leb p.banks 3 && (leb 8 p.width && (leb p.width 14 && (leb p.edge p.clocks && ltb (sink_current p 255) (2 ^ 20)))))

pub usable-row :
    (p : Part)
    → within p ≡ true
    → limit p ≡ p.clocks
    → length p.subframes_by ≡ 4
    → T (every_place (λ k n. ltb 0 n) 0 p.subframes_by)
    → T (every_place (λ k n. leb n 128) 0 p.subframes_by)
    → Usable p
usable-row p w c e t u =
    let a = and_both (leb 1 p.banks) _ w in
    let b = and_both (leb p.banks 3) _ a.1 in
    let d = and_both (leb 8 p.width) _ b.1 in
    let f = and_both (leb p.width 14) _ d.1 in
    let g = and_both (leb p.edge p.clocks) (ltb (sink_current p 255) (2 ^ 20)) f.1 in
    record {
      some_bank = leb-true 1 p.banks a.0;
      few_banks = leb-true p.banks 3 b.0;
      wide = leb-true 8 p.width d.0;
      narrow = leb-true p.width 14 f.0;
      clocks = c;
      edge = leb-true p.edge p.clocks g.0;
      subframes = subframes-by p e t u;
      current = ltb-true (sink_current p 255) (2 ^ 20) g.1;
    }

-- every row can be used
pub usable : (n : ℕ) → Usable (part_of n)
usable n =
    each_row Usable (usable-row max6972 refl refl refl tt tt) (usable-row max6973 refl refl refl tt tt) (usable-row max6974 refl refl refl tt tt)
    (usable-row max6975 refl refl refl tt tt) n

-- a number of subframes, by its place, makes frames of which the period has a whole number
abbrev whole : Part → ℕ → ℕ → Bool
whole p k n = eqb (period / (n * ((1 + k % 2) * p.clocks)) * (n * ((1 + k % 2) * p.clocks))) period

whole_row : (p : Part) → length p.subframes_by ≡ 4 → T (every_place (whole p) 0 p.subframes_by) → WholeFrames p
whole_row p e t configuration =
    let m : ℕ = multiplex configuration in
    let k : ℕ = m + 2 * glb4 configuration in
    let l : k < length p.subframes_by = omega (arith, e) in
    let n : ℕ = subframes p configuration in
    let same : k % 2 ≡ m = omega arith in
    subst (λ (j : ℕ). period / (n * ((1 + j) * p.clocks)) * (n * ((1 + j) * p.clocks)) ≡ period) same (eqb→eq _ _ (every_place-at (whole p) p.subframes_by t k l))

-- every row's are
pub whole-frames : (n : ℕ) → WholeFrames (part_of n)
whole-frames n = each_row WholeFrames (whole_row max6972 refl tt) (whole_row max6973 refl tt) (whole_row max6974 refl tt) (whole_row max6975 refl tt) n

pub row-index-lt : (n : ℕ) → row_index n < 4
row-index-lt n =
    cond_both (λ (i : ℕ). i < 4) (eqb n max6972.name) _ _ (λ _. omega arith)
    (λ _. cond_both (λ (i : ℕ). suc i < 4) (eqb n max6973.name) _ _ (λ _. omega arith)
    (λ _. cond_both (λ (i : ℕ). suc (suc i) < 4) (eqb n max6974.name) _ _ (λ _. omega arith) (λ _. omega arith)))

pub code_lt : (c : Command) → code c < 4
code_lt Individual = omega arith
code_lt Calibration = omega arith
code_lt Global = omega arith
code_lt Configuration = omega arith

pub command-code : (c : Command) → command_at (code c) ≡ c
command-code Individual = refl
command-code Calibration = refl
command-code Global = refl
command-code Configuration = refl

pub count-bounds : (n : ℕ) → is_count n ≡ true → (1 ≤ n) × (n ≤ 1023)
count-bounds n e = let b = and_both (leb 1 n) (leb n 1023) e in (leb-true 1 n b.0, leb-true n 1023 b.1)

-- ---- the table of slice lengths

-- as the code has it: a row of eight for each command, by part and multiplex bit
abbrev pub table : List ℕ
table =
    192 ∷ 384 ∷ 224 ∷ 448 ∷ 288 ∷ 576 ∷ 336 ∷ 672 ∷ 16 ∷ 16 ∷ 16 ∷ 16 ∷ 24 ∷ 24 ∷ 24 ∷ 24 ∷ 16 ∷ 16 ∷ 16 ∷ 16 ∷ 24 ∷ 24 ∷ 24 ∷ 24 ∷ 16 ∷ 16 ∷ 16 ∷ 16 ∷ 24 ∷ 24 ∷ 24 ∷ 24 ∷ []

-- the row at a place
abbrev row_at : ℕ → Part
row_at i = get_or rows i no_part

-- an entry is the length that its place says
abbrev entry : ℕ → ℕ → Bool
entry k x = eqb x (slice_bits (row_at (k / 2 % 4)) (command_at (k / 8)) (k % 2))

row-at : (n : ℕ) → row_at (row_index n) ≡ part_of n
row-at n = by (eqb n max6972.name) (eqb n max6973.name) (eqb n max6974.name) where
  by : (s t u : Bool) → row_at (cond s 0 (suc (cond t 0 (suc (cond u 0 1))))) ≡ cond s max6972 (cond t max6973 (cond u max6974 max6975))
  by true t u = refl
  by false true u = refl
  by false false true = refl
  by false false false = refl

pub slice-table : (c : Command) (n m : ℕ) → m < 2 → get_or table (code c * 8 + row_index n * 2 + m) 0 ≡ slice_bits (part_of n) c m
slice-table c n m h =
    let g = code_lt c in
    let r = row-index-lt n in
    let k : ℕ = code c * 8 + row_index n * 2 + m in
    let i : k < 32 = omega arith in
    let e1 : k / 2 % 4 ≡ row_index n = omega arith in
    let e2 : k / 8 ≡ code c = omega arith in
    let e3 : k % 2 ≡ m = omega arith in
    eqb→eq (get_or table k 0) (slice_bits (row_at (k / 2 % 4)) (command_at (k / 8)) (k % 2)) (every_place-at entry table tt k i)
    ∙ ap (λ (j : ℕ). slice_bits (row_at j) (command_at (k / 8)) (k % 2)) e1
    ∙ ap (λ (j : ℕ). slice_bits (row_at (row_index n)) (command_at j) (k % 2)) e2
    ∙ ap (λ (j : ℕ). slice_bits (row_at (row_index n)) (command_at (code c)) j) e3
    ∙ ap₂ (λ (p : Part) (d : Command). slice_bits p d m) (row-at n) (command-code c)
