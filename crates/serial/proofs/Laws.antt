-- What stands at a place: the bit of a number, of fields, of padded bits; the state of a frame's bit; the byte of packed bits.
-- Each by induction on the list or the width; the loops cite them place by place. Assumes nothing.
use mathlib.Core.Path.{◌≡◌, refl, sym, ap, ap₂, ◌∙◌}
use mathlib.Core.Bool.{Bool, true, false, cond}
use mathlib.Core.List.{List, [], ◌∷◌, ◌++◌, map, map-append}
use Prim.Native.Nat.{ℕ, zero, suc, ◌+◌, ◌-◌, ◌*◌, ◌/◌, ◌%◌, ◌^◌, ◌<◌, ◌≤◌}
use native.Mathlib.Nat.{mod-lt, suc-mul, zero-add}
use native.Mathlib.Omega.{arith}
use lib.Dec.{eqb, ltb}
use borrow.Author.Tests.{ltb-true, ltb-false}
use lib.ListN.{length, get_or, take, drop, replicate, length-append, length-map, length-take, length-drop, get_or-append, get_or-map}
use lib.Seq.{get_or-drop, get_or-take, get_or-append-add, drop-drop, take-suc, length-take-le}
use Rattle.bits.specs.Bits.{is_one, digit, bits, number, fields, split, padded, bytes_of, bytes_for}
use Rattle.bits.proofs.Laws.{digit-is_one, length-padded, length-bits, length_fields, number_append}
use Rattle.parts.specs.Wire.{low, high, data_bit, state_code, state_at, lows, highs, Edge, low_clocks, clocked_at, states_at}
use Rattle.serial.specs.States.{data_bits, digit_at, frame_states}

-- ---- bits

pub get_d_bits : (w v i : ℕ) → i < w → get_or (bits w v) i false ≡ is_one (v / 2 ^ (w - 1 - i) % 2)
unfolding bits
get_d_bits zero v i h = absurd (omega arith)
get_d_bits (suc w) v zero h = let e : suc w - 1 - 0 ≡ w = omega arith in rw e
get_d_bits (suc w) v (suc i) h =
    let e : suc w - 1 - suc i ≡ w - 1 - i = omega arith in
    rw e (get_d_bits w v i (omega arith))

pub get_d-fields : (w : ℕ) (vs : List ℕ) (q r : ℕ) → q < length vs → r < w → get_or (fields w vs) (q * w + r) false ≡ get_or (bits w (get_or vs q 0)) r false
unfolding fields
get_d-fields w [] q r h k = absurd (omega arith)
get_d-fields w (v ∷ vs) zero r h k =
    let e : 0 * w + r ≡ r = omega arith in
    rw e (get_or-append (bits w v) (fields w vs) false r (rw (length-bits w v) k))
get_d-fields w (v ∷ vs) (suc q) r h k =
    let e : suc q * w + r ≡ length (bits w v) + (q * w + r) = rw (length-bits w v, suc-mul) (omega arith) in
    rw e (get_or-append-add (bits w v) (fields w vs) (q * w + r) false ∙ get_d-fields w vs q r (omega arith) k)

-- the bit of bytes at any place
pub get_d-bytes : (ys : List ℕ) (i : ℕ) → i < 8 * length ys → digit (get_or (fields 8 ys) i false) ≡ get_or ys (i / 8) 0 / 2 ^ (7 - i % 8) % 2
get_d-bytes ys i h =
    let e : i ≡ i / 8 * 8 + i % 8 = omega arith in
    ap (λ (k : ℕ). digit (get_or (fields 8 ys) k false)) e
    ∙ ap digit (get_d-fields 8 ys (i / 8) (i % 8) (omega arith) (omega arith) ∙ get_d_bits 8 (get_or ys (i / 8) 0) (i % 8) (omega arith))
    ∙ digit-is_one (get_or ys (i / 8) 0 / 2 ^ (7 - i % 8) % 2) (mod-lt _ (omega arith))

-- ---- states

lows-digits : (bs : List Bool) → map state_code (lows bs) ≡ map digit bs
lows-digits [] = refl
lows-digits (b ∷ bs) = ap (◌∷◌ (digit b)) (lows-digits bs)

highs-digits : (bs : List Bool) → map state_code (highs bs) ≡ map (λ b. 2 + digit b) bs
highs-digits [] = refl
highs-digits (b ∷ bs) = ap (◌∷◌ (2 + digit b)) (highs-digits bs)

states-digits : (e : Edge) (bs : List Bool) → states_at e bs ≡ map digit (take (low_clocks e) bs) ++ map (λ b. 2 + digit b) (drop (low_clocks e) bs)
unfolding clocked_at
states-digits e bs =
    map-append state_code (lows (take (low_clocks e) bs)) (highs (drop (low_clocks e) bs))
    ∙ ap₂ ◌++◌ (lows-digits (take (low_clocks e) bs)) (highs-digits (drop (low_clocks e) bs))

pub length-states_at : (e : Edge) (bs : List Bool) → length (states_at e bs) ≡ length bs
length-states_at e bs = rw (states-digits e bs, length-append, length-map, length-map, length-take, length-drop) (omega arith)

-- bits at low load before a place, and at high load from it on
get_d-low-high : (n : ℕ) (bs : List Bool) (i : ℕ) → i < length bs
    → get_or (map digit (take n bs) ++ map (λ b. 2 + digit b) (drop n bs)) i 0 ≡ cond (ltb i n) 0 2 + digit (get_or bs i false)
get_d-low-high n bs i h = by (ltb i n) refl where
  by : (t : Bool) → ltb i n ≡ t → get_or (map digit (take n bs) ++ map (λ b. 2 + digit b) (drop n bs)) i 0 ≡ cond (ltb i n) 0 2 + digit (get_or bs i false)
  by true e =
      let k : i < n = ltb-true i n e in
      let l : i < length (map digit (take n bs)) = rw (length-map, length-take) (omega arith) in
      rw e
      (get_or-append (map digit (take n bs)) (map (λ b. 2 + digit b) (drop n bs)) 0 i l
      ∙ get_or-map digit (take n bs) i false
      ∙ ap digit (get_or-take n bs i false k)
      ∙ sym (zero-add (digit (get_or bs i false))))
  by false e =
      let k : n ≤ i = ltb-false i n e in
      let l : length (map digit (take n bs)) ≡ n = length-map (take n bs) digit ∙ length-take-le n bs (omega arith) in
      let m : i ≡ length (map digit (take n bs)) + (i - n) = rw l (omega arith) in
      let z : n + (i - n) ≡ i = omega arith in
      rw e
      (ap (λ (j : ℕ). get_or (map digit (take n bs) ++ map (λ b. 2 + digit b) (drop n bs)) j 0) m
      ∙ get_or-append-add (map digit (take n bs)) (map (λ b. 2 + digit b) (drop n bs)) (i - n) 0
      ∙ at_high (drop n bs) (i - n) (rw length-drop (omega arith))
      ∙ ap (λ (b : Bool). 2 + digit b) (get_or-drop n bs (i - n) false ∙ ap (λ (j : ℕ). get_or bs j false) z)) where
        at_high : (xs : List Bool) (j : ℕ) → j < length xs → get_or (map (λ b. 2 + digit b) xs) j 0 ≡ 2 + digit (get_or xs j false)
        at_high [] j h = absurd (omega arith)
        at_high (x ∷ xs) zero h = refl
        at_high (x ∷ xs) (suc j) h = at_high xs j (omega arith)

-- the state of a bit: at low load before the edge, at high load after it
pub get_d-states_at : (e : Edge) (bs : List Bool) (i : ℕ) → i < length bs → get_or (states_at e bs) i 0 ≡ cond (ltb i (low_clocks e)) 0 2 + digit (get_or bs i false)
get_d-states_at e bs i h = ap (λ (l : List ℕ). get_or l i 0) (states-digits e bs) ∙ get_d-low-high (low_clocks e) bs i h

-- the states of a packed frame
pub length-frame_states : (e : Edge) (frame : List ℕ) (n : ℕ) → n ≤ 8 * length frame → length (frame_states e frame n) ≡ n
unfolding frame_states
length-frame_states e frame n h =
    length-states_at e (take n (fields 8 frame)) ∙ length-take-le n (fields 8 frame) (rw (length_fields 8 frame) (omega arith))

pub get_d-frame_states : (e : Edge) (frame : List ℕ) (n i : ℕ) → n ≤ 8 * length frame → i < n
    → get_or (frame_states e frame n) i 0 ≡ cond (ltb i (low_clocks e)) 0 2 + get_or frame (i / 8) 0 / 2 ^ (7 - i % 8) % 2
unfolding frame_states
get_d-frame_states e frame n i h k =
    let l : length (take n (fields 8 frame)) ≡ n = length-take-le n (fields 8 frame) (rw (length_fields 8 frame) (omega arith)) in
    get_d-states_at e (take n (fields 8 frame)) i (rw l k)
    ∙ ap (λ (b : Bool). cond (ltb i (low_clocks e)) 0 2 + digit b) (get_or-take n (fields 8 frame) i false k)
    ∙ ap (λ (d : ℕ). cond (ltb i (low_clocks e)) 0 2 + d) (get_d-bytes frame i (omega arith))

-- ---- packed data bits

digit-eqb : (n : ℕ) → n < 2 → digit (eqb n 1) ≡ n
digit-eqb zero h = refl
digit-eqb (suc zero) h = refl
digit-eqb (suc (suc n)) h = absurd (omega arith)

data_bit-state_at : (s : ℕ) → data_bit (state_at s) ≡ eqb (s % 2) 1
data_bit-state_at s = by (ltb s 2) where
  by : (t : Bool) → data_bit (cond t (low (eqb (s % 2) 1)) (high (eqb (s % 2) 1))) ≡ eqb (s % 2) 1
  by true = refl
  by false = refl

-- the data bit at a place, also past the last
pub get_d-data_bits : (states : List ℕ) (i : ℕ) → digit (get_or (data_bits states) i false) ≡ digit_at states i
get_d-data_bits states i =
    ap digit (get_or-map (λ s. data_bit (state_at s)) states i 0 ∙ data_bit-state_at (get_or states i 0)) ∙ digit-eqb (get_or states i 0 % 2) (mod-lt _ (omega arith))

get_d-zeros : (n i : ℕ) → get_or (replicate n false) i false ≡ false
get_d-zeros zero i = refl
get_d-zeros (suc n) zero = refl
get_d-zeros (suc n) (suc i) = get_d-zeros n i

pub get_d-padded : (bs : List Bool) (i : ℕ) → get_or (padded bs) i false ≡ get_or bs i false
unfolding padded
get_d-padded bs i = behind bs i where
  behind : (xs : List Bool) (k : ℕ) → get_or (xs ++ replicate ((8 - length bs % 8) % 8) false) k false ≡ get_or xs k false
  behind [] k = get_d-zeros ((8 - length bs % 8) % 8) k
  behind (x ∷ xs) zero = refl
  behind (x ∷ xs) (suc k) = behind xs k

pub get_d-split : (w n : ℕ) (bs : List Bool) (j : ℕ) → j < n → get_or (split w n bs) j 0 ≡ number (take w (drop (j * w) bs))
unfolding split
get_d-split w zero bs j h = absurd (omega arith)
get_d-split w (suc n) bs zero h = let e : 0 * w ≡ 0 = omega arith in rw e
get_d-split w (suc n) bs (suc j) h =
    let e : w + j * w ≡ suc j * w = rw suc-mul (omega arith) in
    get_d-split w n (drop w bs) j (omega arith) ∙ ap (λ (l : List Bool). number (take w l)) (drop-drop (j * w) w bs ∙ ap (λ (k : ℕ). drop k bs) e)

pub length-padded-eights : (bs : List Bool) → length (padded bs) ≡ 8 * bytes_for (length bs)
length-padded-eights bs = omega (arith, length-padded bs)

pub get_d-bytes_of : (bs : List Bool) (j : ℕ) → j < bytes_for (length bs) → get_or (bytes_of bs) j 0 ≡ number (take 8 (drop (j * 8) (padded bs)))
unfolding bytes_of
get_d-bytes_of bs j h = get_d-split 8 (length (padded bs) / 8) (padded bs) j (rw (length-padded-eights bs) (omega arith))

-- one more data bit behind k of them
pub number-next : (states : List ℕ) (at k : ℕ) → at + k < length (padded (data_bits states))
    → number (take (suc k) (drop at (padded (data_bits states)))) ≡ number (take k (drop at (padded (data_bits states)))) * 2 + digit_at states (at + k)
unfolding number
number-next states at k h =
    let bs : List Bool = padded (data_bits states) in
    let l : k < length (drop at bs) = rw length-drop (omega arith) in
    ap number (take-suc (drop at bs) k false l)
    ∙ number_append (take k (drop at bs)) (get_or (drop at bs) k false ∷ [])
    ∙ ap (λ (d : ℕ). number (take k (drop at bs)) * 2 + d)
    (single (get_or (drop at bs) k false)
    ∙ ap digit (get_or-drop at bs k false ∙ get_d-padded (data_bits states) (at + k))
    ∙ get_d-data_bits states (at + k)) where
      single : (b : Bool) → digit b * 1 + 0 ≡ digit b
      single true = refl
      single false = refl
