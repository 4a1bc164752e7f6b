-- The laws of Laid of specs/Blocks: words of eight bytes, each stored over the end of the one before; the words of groups; and blocks of
-- them. Assumes nothing.
use mathlib.Core.Path.{◌≡◌, refl, sym, ap, ap₂, ◌∙◌, subst, subst₂}
use mathlib.Core.Bool.{Bool}
use mathlib.Core.List.{List, [], ◌∷◌, ◌++◌, append_assoc, append-nil, map}
use Prim.Native.Nat.{ℕ, zero, suc, ◌+◌, ◌-◌, ◌*◌, ◌/◌, ◌%◌, ◌^◌, ◌≤◌, ◌<◌}
use native.Mathlib.Nat.{add-zero, add-mul, zero-mul, mul_assoc}
use native.Mathlib.Omega.{arith}
use lib.ListN.{length, get_or, take, drop, length-append, length-drop, length-map, drop_of_length-le}
use lib.Seq.{length-take-le, take-append-add, take_at, take-take, take_all, drop-drop, paste}
use lib.Pow.{shl-shr, shl_exact}
use Rattle.bits.specs.Bits.{bits, number, fields}
use Rattle.bits.specs.Groups.{groups}
use Rattle.bits.specs.Words.{group_numbers, high_bits}
use Rattle.packing.specs.Writing.{Stored}
use Rattle.packing.specs.Blocks.{group_words, Laid}
use Rattle.bits.proofs.Laws.{length-bits, length_fields, bits-add, number_lt, fields-more, fields_at, take-fields}
use Rattle.bits.proofs.Groups.{length-groups, get_d-groups, fields-groups, length-high_bits}

-- ---- nothing yet, and one part behind another

pub laid_none : (a : List ℕ) (at end : ℕ) → Laid a a at 0 end []
laid_none a at end =
    record { said = ap (λ (n : ℕ). fields 8 (take n a)) (add-zero at) ∙ sym (append-nil (fields 8 (take at a))); rest = refl }

-- behind `stop` nothing changed, so behind `end`
rest-behind : (a b : List ℕ) (stop end : ℕ) → stop ≤ end → drop stop b ≡ drop stop a → drop end b ≡ drop end a
rest-behind a b stop end l e =
    let s : stop + (end - stop) ≡ end = omega arith in
    ap (λ (n : ℕ). drop n b) (sym s) ∙ sym (drop-drop (end - stop) stop b) ∙ ap (drop (end - stop)) e ∙ drop-drop (end - stop) stop a ∙ ap (λ (n : ℕ). drop n a) s

pub laid_then : {a b c : List ℕ} {at n m k stop end : ℕ} {bs cs : List Bool} → k ≡ at + n → stop ≤ end → Laid a b at n end bs → Laid b c k m stop cs
    → Laid a c at (n + m) end (bs ++ cs)
laid_then {a} {b} {c} {at} {n} {m} {k} {stop} {end} {bs} {cs} q l d e =
    let s : at + (n + m) ≡ k + m = omega arith in
    record {
      said =
          ap (λ (j : ℕ). fields 8 (take j c)) s ∙ e.said ∙ ap (λ (j : ℕ). fields 8 (take j b) ++ cs) q ∙ ap (λ (z : List Bool). z ++ cs) d.said
          ∙ append_assoc (fields 8 (take at a)) bs cs;
      rest = rest-behind b c stop end l e.rest ∙ d.rest;
    }

-- ---- the first k bytes of a word that is stored

pub laid_word : (k x : ℕ) {a b : List ℕ} {at : ℕ} → k ≤ 8 → at ≤ length a → Stored a b at 8 (bits 64 x) → Laid a b at k (at + 8) (bits (8 * k) (x / 2 ^ (64 - 8 * k)))
laid_word k x {a} {b} {at} l room d = record { said = said; rest = d.rest } where
  old : List Bool
  old = fields 8 (take at a)

  long : length old ≡ at * 8
  long = length_fields 8 (take at a) ∙ ap (λ (n : ℕ). n * 8) (length-take-le at a room)

  all : length (take (at + 8) b) ≡ at + 8
  all = omega (arith, length_fields 8 (take (at + 8) b), ap length d.said, length-append old (bits 64 x), length-bits 64 x, long)

  parts : bits 64 x ≡ bits (8 * k) (x / 2 ^ (64 - 8 * k)) ++ bits (64 - 8 * k) x
  parts =
      let e : 64 ≡ 8 * k + (64 - 8 * k) = omega arith in
      ap (λ (n : ℕ). bits n x) e ∙ bits-add (8 * k) (64 - 8 * k) x

  said : fields 8 (take (at + k) b) ≡ old ++ bits (8 * k) (x / 2 ^ (64 - 8 * k))
  said =
      let h : at + k ≤ at + 8 = omega arith in
      let e : (at + k) * 8 ≡ length old + 8 * k = omega (arith, long) in
      ap (fields 8) (sym (take-take (at + k) (at + 8) b h))
      ∙ sym (take-fields 8 (at + k) (take (at + 8) b) (omega (arith, all)))
      ∙ ap₂ take e d.said
      ∙ take-append-add old (bits 64 x) (8 * k)
      ∙ ap (λ (z : List Bool). old ++ z) (ap (take (8 * k)) parts ∙ take_at (bits (8 * k) (x / 2 ^ (64 - 8 * k))) (bits (64 - 8 * k) x) (8 * k) (length-bits (8 * k) (x / 2 ^ (64 - 8 * k))))

-- ---- words one after another, k bytes of each

get_d_map : (f : ℕ → ℕ) (l : List ℕ) (j : ℕ) → j < length l → get_or (map f l) j 0 ≡ f (get_or l j 0)
get_d_map f [] j h = absurd (omega arith)
get_d_map f (x ∷ l) zero h = refl
get_d_map f (x ∷ l) (suc j) h = get_d_map f l j (omega arith)

-- none of them yet
pub words-none : (k : ℕ) (ws a : List ℕ) (from end : ℕ) → Laid a a from (0 * k) end (fields (8 * k) (take 0 (high_bits (8 * k) ws)))
unfolding fields
words-none k ws a from end = subst (λ (n : ℕ). Laid a a from n end []) (sym (zero-mul k)) (laid_none a from end)

-- the next word, behind j of them
pub words-next : (k j : ℕ) (ws : List ℕ) {a b c : List ℕ} {from at end : ℕ} → k ≤ 8 → j < length ws → at ≡ from + j * k → at ≤ length b → at + 8 ≤ end
    → Laid a b from (j * k) end (fields (8 * k) (take j (high_bits (8 * k) ws))) → Stored b c at 8 (bits 64 (get_or ws j 0))
    → Laid a c from ((j + 1) * k) end (fields (8 * k) (take (j + 1) (high_bits (8 * k) ws)))
unfolding high_bits
words-next k j ws {a} {b} {c} {from} {at} {end} h l q room inside d e =
    let hs : List ℕ = high_bits (8 * k) ws in
    let n : j * k + k ≡ (j + 1) * k = omega (arith, add-mul j 1 k) in
    let m : j < length hs = omega (arith, length-high_bits (8 * k) ws) in
    let bs : fields (8 * k) (take j hs) ++ bits (8 * k) (get_or ws j 0 / 2 ^ (64 - 8 * k)) ≡ fields (8 * k) (take (j + 1) hs)
    = ap (λ (z : List Bool). fields (8 * k) (take j hs) ++ z) (sym (fields_at (8 * k) j hs m ∙ ap (bits (8 * k)) (get_d_map (λ (x : ℕ). x / 2 ^ (64 - 8 * k)) ws j l)))
    ∙ fields-more (8 * k) j 1 hs in
    subst₂ (λ (m : ℕ) (z : List Bool). Laid a c from m end z) n bs (laid_then q inside d (laid_word k (get_or ws j 0) h room e))

-- all of them
pub words-all : (k j n : ℕ) (ws : List ℕ) {a b : List ℕ} {from end : ℕ} → 8 * k ≡ n → j ≡ length ws
    → Laid a b from (j * k) end (fields (8 * k) (take j (high_bits (8 * k) ws))) → Laid a b from (j * k) end (fields n (high_bits n ws))
words-all k j n ws {a} {b} {from} {end} e f d =
    let l : length (high_bits n ws) ≤ j = omega (arith, length-high_bits n ws) in
    subst (λ (z : List Bool). Laid a b from (j * k) end z)
    (ap (λ (m : ℕ). fields m (take j (high_bits m ws))) e ∙ ap (fields n) (take_all j (high_bits n ws) l)) d

-- ---- the words of groups

pub length-words : (w k : ℕ) (vs : List ℕ) → length (group_words w k vs) ≡ k
unfolding group_words
length-words w k vs = length-map (group_numbers w (groups 4 k vs)) (λ g. g * 2 ^ (64 - 4 * w)) ∙ length-groups 4 w k vs

-- the word of the group that begins at the value 4 j
pub get_d_words : (w k j : ℕ) (vs : List ℕ) → j < k → get_or (group_words w k vs) j 0 ≡ number (fields w (take 4 (drop (j * 4) vs))) * 2 ^ (64 - 4 * w)
unfolding group_words
get_d_words w k j vs l =
    get_d_map (λ (x : ℕ). x * 2 ^ (64 - 4 * w)) (group_numbers w (groups 4 k vs)) j (omega (arith, length-groups 4 w k vs))
    ∙ ap (λ (x : ℕ). x * 2 ^ (64 - 4 * w)) (get_d-groups 4 w k j vs l)

-- a group's number has its bits, so that it is not cut by the shift
pub word-exact : (w : ℕ) (g : List ℕ) → 4 * w ≤ 64 → length g ≡ 4 → (number (fields w g) * 2 ^ (64 - 4 * w)) % 2 ^ 64 ≡ number (fields w g) * 2 ^ (64 - 4 * w)
word-exact w g h e =
    let l : length (fields w g) ≡ 4 * w = length_fields w g ∙ ap (λ (n : ℕ). n * w) e in
    shl_exact (4 * w) (64 - 4 * w) 64 (subst (λ (n : ℕ). number (fields w g) < 2 ^ n) l (number_lt (fields w g))) (omega arith)

-- their high bits are the values' fields
pub words-fields : (w k : ℕ) (vs : List ℕ) → k * 4 ≤ length vs → fields (4 * w) (high_bits (4 * w) (group_words w k vs)) ≡ fields w (take (k * 4) vs)
unfolding high_bits group_words
words-fields w k vs h = ap (fields (4 * w)) (back (64 - 4 * w) (group_numbers w (groups 4 k vs))) ∙ fields-groups 4 w k vs h
  where
    back : (n : ℕ) (gs : List ℕ) → map (λ x. x / 2 ^ n) (map (λ g. g * 2 ^ n) gs) ≡ gs
    back n [] = refl
    back n (g ∷ gs) = ap₂ (λ (x : ℕ) (r : List ℕ). x ∷ r) (shl-shr g n) (back n gs)

-- ---- blocks of 128 values, of 16 w bytes

-- the bytes of i values, where these are eights
pub eights : (w i : ℕ) → i % 8 ≡ 0 → i * w ≡ 8 * (i / 8 * w)
eights w i e =
    let f : i ≡ 8 * (i / 8) = omega arith in
    ap (λ (n : ℕ). n * w) f ∙ mul_assoc 8 (i / 8) w

pub blocks-none : (w : ℕ) (vs a : List ℕ) (at end : ℕ) → Laid a a at (0 / 8 * w) end (fields w (take 0 vs))
unfolding fields
blocks-none w vs a at end = subst (λ (n : ℕ). Laid a a at n end []) (sym (zero-mul w)) (laid_none a at end)

-- a block behind i values
pub block-next : (w i : ℕ) (vs block ws : List ℕ) {a b c : List ℕ} {at to stop end : ℕ} → w % 2 ≡ 0 → i % 8 ≡ 0 → i + 128 ≤ length vs → to ≡ at + i / 8 * w → stop ≤ end
    → block ≡ take 128 (drop i vs) → ws ≡ group_words w 32 block → Laid a b at (i / 8 * w) end (fields w (take i vs))
    → Laid b c to (32 * (w / 2)) stop (fields (4 * w) (high_bits (4 * w) ws)) → Laid a c at ((i + 128) / 8 * w) end (fields w (take (i + 128) vs))
block-next w i vs block ws {a} {b} {c} {at} {to} {stop} {end} even whole inside q h cut e d f =
    let long : length block ≡ 128 = ap length cut ∙ length-take-le 128 (drop i vs) (omega (arith, length-drop i vs)) in
    let n : 32 * (w / 2) ≡ 16 * w = omega arith in
    let bs : fields (4 * w) (high_bits (4 * w) ws) ≡ fields w (take 128 (drop i vs))
    = ap (λ (z : List ℕ). fields (4 * w) (high_bits (4 * w) z)) e ∙ words-fields w 32 block (omega arith) ∙ ap (fields w) (take_all 128 block (omega arith) ∙ cut) in
    let m : i / 8 + 16 ≡ (i + 128) / 8 = omega arith in
    subst₂ (λ (k : ℕ) (z : List Bool). Laid a c at k end z) (sym (add-mul (i / 8) 16 w) ∙ ap (λ (k : ℕ). k * w) m) (fields-more w i 128 vs)
    (laid_then q h d (subst₂ (λ (k : ℕ) (z : List Bool). Laid b c to k stop z) n bs f))

-- ---- a list that is filled from the front

pub paste_all : (ys l : List ℕ) (j : ℕ) → length ys ≡ length l → length l ≤ j → paste l 0 ys j ≡ ys
paste_all ys l j e h =
    let m : length ys ≤ j = omega arith in
    ap₂ (λ (x y : List ℕ). x ++ y) (take_all j ys m) (drop_of_length-le l {i = 0 + j} (omega arith)) ∙ append-nil ys
