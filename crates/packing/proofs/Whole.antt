-- A whole run: what is laid in blocks, a writer behind it, and zeros up to a byte's end are the bytes of all the bits, and so what packing
-- answers and leaves. Assumes nothing.
use mathlib.Core.Path.{◌≡◌, sym, ap, ap₂, ◌∙◌}
use mathlib.Core.Bool.{Bool, true, false}
use mathlib.Core.List.{List, ◌++◌, append_assoc, append-nil}
use Prim.Native.Nat.{ℕ, ◌+◌, ◌-◌, ◌*◌, ◌/◌, ◌%◌, ◌≤◌, ◌<◌}
use native.Mathlib.Omega.{arith}
use lib.ListN.{length, get_or, take, drop, replicate, length-append, length-drop, take-append-drop}
use lib.Seq.{length-take-le, take_all, drop-drop}
use Rattle.bits.specs.Bits.{bits, fields, bytes_of, bytes_for, over, over_at, room_fits}
use Rattle.packing.specs.Packing.{packed, packed_out}
use Rattle.std.specs.Prelude.{Some, None}
use Rattle.packing.specs.Writing.{written_bits, Pushed}
use Rattle.packing.specs.Blocks.{Laid}
use Rattle.packing.specs.declared.writer.Writer.{Writer}
use Rattle.bits.proofs.Fits.{room_fits-room}
use Rattle.bits.proofs.Laws.{length_fields, bits-zero, fields-append, bytes-unique, bytes-of-bits, bytes_of-append, below-take}
use Rattle.packing.proofs.Answers.{packed-room_fits, packed-refused, packed_out-room_fits, packed_out-refused}
use Rattle.packing.proofs.Laid.{eights}
use Rattle.packing.proofs.Writing.{then, rest-room}

-- n bytes laid from the byte `at` on, up to `end` at most; a writer behind them that ends there, with zeros up to a byte's end
module _ {old before mid after : List ℕ} {p q r : Writer} {at n end m k : ℕ} {cs bs : List Bool} (inside : at ≤ length old) (here : p.at ≡ at + n)
    (empty : p.have ≡ 0) (laid : Laid old before at n end cs) (d : Pushed before mid p q m bs) (e : Pushed mid after q r k (bits k 0)) (fewer : k < 8) (none : r.have ≡ 0) where
  closed-count : r.at ≡ p.at + bytes_for m
  closed-count = omega (arith, d.count, e.count)

  closed : r.at ≡ end → r.at ≤ length after → ((i : ℕ) → get_or old i 0 < 256) → ((i : ℕ) → get_or after i 0 < 256) → after ≡ over_at at (bytes_of (cs ++ bs)) old
  unfolding over over_at written_bits bits
  closed stop room b b' =
      let f = then d e in
      let first : List ℕ = take at old in
      let ys : List ℕ = take r.at after in
      let said : fields 8 ys ≡ (fields 8 first ++ (cs ++ bs)) ++ replicate k false
      = sym (append-nil (fields 8 ys)) ∙ ap (λ (j : ℕ). fields 8 ys ++ bits j r.acc) (sym none) ∙ f.said
      ∙ ap₂ (λ (x y : List Bool). x ++ (bs ++ y)) (ap (λ (j : ℕ). fields 8 (take p.at before) ++ bits j p.acc) empty ∙ append-nil (fields 8 (take p.at before)) ∙ ap (λ (j : ℕ). fields 8 (take j before)) here ∙ laid.said) (bits-zero k)
      ∙ sym (append_assoc (fields 8 first ++ cs) bs (replicate k false)) ∙ ap (λ (x : List Bool). x ++ replicate k false) (append_assoc (fields 8 first) cs bs) in
      let whole : length (fields 8 first) % 8 ≡ 0 = omega (arith, length_fields 8 first) in
      let g : ys ≡ first ++ bytes_of (cs ++ bs)
      = bytes-unique ys (fields 8 first ++ (cs ++ bs)) k fewer (below-take 256 r.at after (omega arith) b') said ∙ bytes_of-append (fields 8 first) (cs ++ bs) whole
      ∙ ap (λ (z : List ℕ). z ++ bytes_of (cs ++ bs)) (bytes-of-bits first (below-take 256 at old (omega arith) b)) in
      let m : r.at ≡ at + length (bytes_of (cs ++ bs))
      = sym (length-take-le r.at after room) ∙ ap length g ∙ length-append first (bytes_of (cs ++ bs)) ∙ ap (λ (z : ℕ). z + length (bytes_of (cs ++ bs))) (length-take-le at old inside) in
      let behind : drop r.at after ≡ drop r.at old = f.rest ∙ ap (λ (z : ℕ). drop z before) stop ∙ laid.rest ∙ ap (λ (z : ℕ). drop z old) (sym stop) in
      sym (take-append-drop r.at after) ∙ ap₂ (λ (x y : List ℕ). x ++ y) g (behind ∙ ap (λ (z : ℕ). drop z old) m ∙ sym (drop-drop (length (bytes_of (cs ++ bs))) at old))
      ∙ append_assoc first (bytes_of (cs ++ bs)) (drop (length (bytes_of (cs ++ bs))) (drop at old))

-- it is what packing answers and leaves where the fields fit; where they do not, nothing is done
module _ (widest w : ℕ) (vs : List ℕ) (at : ℕ) where
  pub packed-run : {old before mid after : List ℕ} {p q r : Writer} {n m k : ℕ} {cs bs : List Bool} → room_fits widest w (length vs) at (length old) ≡ true
      → p.at ≡ at + n → p.have ≡ 0 → 8 * n + m ≡ length vs * w → cs ++ bs ≡ fields w vs → Laid old before at n (at + bytes_for (length vs * w)) cs
      → Pushed before mid p q m bs → Pushed mid after q r k (bits k 0) → k < 8 → r.have ≡ 0 → length after ≡ length old
      → ((i : ℕ) → get_or old i 0 < 256) → ((i : ℕ) → get_or after i 0 < 256)
      → (Some (r.at - at) ≡ packed widest w (length vs) at (length old)) × (after ≡ packed_out widest w vs at old)
  packed-run {old} {before} {mid} {after} {p} {q} {r} {n} {m} {k} {cs} {bs} e here empty long both laid d f fewer none same b b' =
      let room = room_fits-room widest w (length vs) at (length old) e in
      let inside : at ≤ length old = omega arith in
      let end : r.at ≡ at + bytes_for (length vs * w) = omega (arith, closed-count inside here empty laid d f fewer none) in
      let bytes : r.at - at ≡ bytes_for (length vs * w) = omega arith in (
        ap Some bytes ∙ sym (packed-room_fits widest w (length vs) at (length old) e),
        closed inside here empty laid d f fewer none end (omega arith) b b' ∙ ap (λ (z : List Bool). over_at at (bytes_of z) old) both ∙ sym (packed_out-room_fits widest w vs at old e),
      )

  pub packed_none : (before : List ℕ) → room_fits widest w (length vs) at (length before) ≡ false
      → (None ≡ packed widest w (length vs) at (length before)) × (before ≡ packed_out widest w vs at before)
  packed_none before e = (sym (packed-refused widest w (length vs) at (length before) e), sym (packed_out-refused widest w vs at before e))

-- ---- k values and the others

-- the others, as a slice gives them
rest_is : (vs : List ℕ) (k : ℕ) → take (length vs - k) (drop k vs) ≡ drop k vs
rest_is vs k = take_all (length vs - k) (drop k vs) (omega (arith, length-drop k vs))

-- their bits
pub rest-bits : (w : ℕ) (vs : List ℕ) (k : ℕ) → k % 8 ≡ 0 → k ≤ length vs → 8 * (k / 8 * w) + length (take (length vs - k) (drop k vs)) * w ≡ length vs * w
rest-bits w vs k e h = omega (arith, eights w k e, rest-room w vs (take (length vs - k) (drop k vs)) k h (rest_is vs k))

-- their fields
pub rest-fields : (w : ℕ) (vs : List ℕ) (k : ℕ) → fields w (take k vs) ++ fields w (take (length vs - k) (drop k vs)) ≡ fields w vs
rest-fields w vs k =
    sym (fields-append w (take k vs) (take (length vs - k) (drop k vs)))
    ∙ ap (fields w) (ap (λ (z : List ℕ). take k vs ++ z) (rest_is vs k) ∙ take-append-drop k vs)
