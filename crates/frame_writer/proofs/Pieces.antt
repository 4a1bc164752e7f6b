-- What the writer puts, piece by piece, is the frame: header, slices and tail, each a whole number of bytes. Assumes nothing.
use mathlib.Core.Path.{◌≡◌, refl, sym, ap, ap₂, ◌∙◌}
use mathlib.Core.Bool.{Bool, false}
use mathlib.Core.List.{List, ◌++◌, append_assoc}
use Prim.Native.Nat.{ℕ, ◌+◌, ◌*◌, ◌<◌}
use native.Mathlib.Omega.{arith}
use mathlib.Core.Logic.{◌⊎◌, ⊎_elim}
use lib.ListN.{length, get_or, replicate, length-append}
use Rattle.bits.specs.Bits.{bits, fields, bytes_of, bytes_for, over, over_at}
use Rattle.bits.proofs.Laws as bit
use Rattle.parts.specs.Parts.{part_of, field_width}
use Rattle.parts.specs.Wire.{command_count, header}
use Rattle.parts.specs.declared.command.Command.{Command}
use Rattle.parts.specs.declared.command.Command.TheVariants.{Individual, Calibration, Global, Configuration}
use Rattle.frames.specs.Frames.{field_count, field_bits, slices_bits, tail_bits, frame_of}
use Rattle.frames.specs.declared.told.Told.{Told}
use Rattle.frames.specs.declared.told.Tail.{Tail}
use Rattle.frames.proofs.Lengths.{frame-room}
use Rattle.frames.proofs.Pieces.{length-header, length-slices, length-frame_of, frame-pieces}
use Rattle.frame_writer.specs.Writing.{settings, settings_of, slices_of, header_number, list_wrong}
use Rattle.frame_writer.proofs.Writable.{length-settings_of}

pub bits-header : (c : Command) → bits 24 (header_number c) ≡ header c 0
unfolding header command_count bits
bits-header Individual = refl
bits-header Calibration = refl
bits-header Global = refl
bits-header Configuration = refl

-- ---- three pieces put one behind the other

over-three : (xs ys zs l : List ℕ) {a b : ℕ} → a ≡ length xs → b ≡ a + length ys → over_at b zs (over_at a ys (over_at 0 xs l)) ≡ over (xs ++ (ys ++ zs)) l
over-three xs ys zs l {a} {b} ea eb =
    let e : b ≡ length (xs ++ ys) = eb ∙ ap (λ (n : ℕ). n + length ys) ea ∙ sym (length-append xs ys) in
    ap₂ (λ (n : ℕ) (k : ℕ). over_at n zs (over_at k ys (over_at 0 xs l))) e ea
    ∙ ap (λ (z : List ℕ). over_at (length (xs ++ ys)) zs (over_at (length xs) ys z)) (bit.over_at-zero xs l)
    ∙ ap (over_at (length (xs ++ ys)) zs) (bit.over-append xs ys l)
    ∙ bit.over-append (xs ++ ys) zs l ∙ ap (λ (z : List ℕ). over z l) (append_assoc xs ys zs)

module _ (t : Told) (tail : Tail) (byte : ℕ) (bytes values : List ℕ) (len : length (settings t byte bytes values) ≡ field_count t) where
  -- what the code puts is the frame
  pub put-together : (out : List ℕ) {h a b r : ℕ} {one two three : List ℕ} → h ≡ header_number t.command
      → (one ≡ over_at 0 (bytes_of (bits 24 h)) out) × (a ≡ 0 + bytes_for 24)
      → (two ≡ over_at a (slices_of t t.command byte bytes values) one) × (b ≡ a + bytes_for (slices_bits t))
      → (three ≡ over_at b (bytes_of (tail_bits tail)) two) × (r ≡ b + bytes_for tail.length)
      → (three ≡ over (frame_of t tail (settings t byte bytes values)) out) × (r ≡ length (frame_of t tail (settings t byte bytes values)))
  unfolding slices_of
  put-together out {h} {a} {b} {r} {one} {two} {three} eh p q s = (
    s.0 ∙ ap (over_at b zs) (q.0 ∙ ap (over_at a ys) (p.0 ∙ ap (λ (z : List Bool). over_at 0 (bytes_of z) out) (ap (bits 24) eh ∙ bits-header t.command)))
        ∙ over-three xs ys zs out (p.1 ∙ sym lx) (q.1 ∙ ap (λ (n : ℕ). a + n) (sym ly))
        ∙ ap (λ (z : List ℕ). over z out) (sym (frame-pieces t tail vs len)),
    s.1 ∙ regroup ∙ sym (frame-room t tail) ∙ sym (length-frame_of t tail vs len),
  ) where
    vs : List ℕ
    vs = settings t byte bytes values

    xs : List ℕ
    xs = bytes_of (header t.command 0)

    ys : List ℕ
    ys = bytes_of (fields (field_bits t) vs)

    zs : List ℕ
    zs = bytes_of (tail_bits tail)

    lx : length xs ≡ 0 + bytes_for 24
    lx = bit.length-bytes_of (header t.command 0) ∙ ap bytes_for (length-header t.command 0)

    ly : length ys ≡ bytes_for (slices_bits t)
    ly = bit.length-bytes_of (fields (field_bits t) vs) ∙ ap bytes_for (length-slices t tail vs len)

    regroup : b + bytes_for tail.length ≡ 3 + bytes_for (slices_bits t) + bytes_for tail.length
    regroup = omega (arith, p.1, q.1)

-- a global or a configuration frame has one byte again and again
pub same_byte : (t : Told) (byte : ℕ) (bytes values : List ℕ) → (t.command ≡ Global) ⊎ (t.command ≡ Configuration)
    → (replicate (field_count t) byte ≡ settings t byte bytes values) × (8 ≡ field_bits t)
same_byte t byte bytes values e = ⊎_elim (λ g. of Global g refl refl) (λ g. of Configuration g refl refl) e where
  of : (c : Command) → t.command ≡ c → replicate (field_count t) byte ≡ settings_of t c byte bytes values → 8 ≡ field_width (part_of t.part) c
      → (replicate (field_count t) byte ≡ settings t byte bytes values) × (8 ≡ field_bits t)
  of c e f g = (
    f ∙ sym (ap (λ (k : Command). settings_of t k byte bytes values) e),
    g ∙ sym (ap (λ (k : Command). field_width (part_of t.part) k) e),
  )

-- what each arm of the code puts is the slices: fields vs of w bits, or whole bytes
module _ (t : Told) (byte : ℕ) (bytes values : List ℕ) (list : list_wrong t.command (field_count t) (length bytes) (length values) ≡ false) {vs : List ℕ} {w : ℕ}
    (ev : vs ≡ settings t byte bytes values) (ew : w ≡ field_bits t) where
  pub length-settings : length vs * w ≡ slices_bits t
  length-settings = ap₂ (λ (x y : ℕ). x * y) (ap length ev ∙ length-settings_of t t.command byte bytes values list) ew

  pub put-fields : (at : ℕ) (out : List ℕ) {last : List ℕ} {r : ℕ} → (last ≡ over_at at (bytes_of (fields w vs)) out) × (r ≡ at + bytes_for (length vs * w))
      → (last ≡ over_at at (slices_of t t.command byte bytes values) out) × (r ≡ at + bytes_for (slices_bits t))
  unfolding slices_of
  put-fields at out p = (
    p.0 ∙ ap₂ (λ (k : ℕ) (z : List ℕ). over_at at (bytes_of (fields k z)) out) ew ev,
    p.1 ∙ ap (λ (n : ℕ). at + bytes_for n) length-settings,
  )

  pub put_whole : w ≡ 8 → ((i : ℕ) → get_or vs i 0 < 256) → (at : ℕ) (out : List ℕ) {last : List ℕ} {r : ℕ} → (last ≡ over_at at vs out) × (r ≡ at + length vs)
      → (last ≡ over_at at (slices_of t t.command byte bytes values) out) × (r ≡ at + bytes_for (slices_bits t))
  put_whole eight small at out p =
      let n : length vs ≡ bytes_for (length vs * w) = omega (arith, ap (λ (k : ℕ). length vs * k) eight) in
      put-fields at out (
        p.0 ∙ ap (λ (z : List ℕ). over_at at z out) (sym (ap (λ (k : ℕ). bytes_of (fields k vs)) eight ∙ bit.bytes-of-bits vs small)),
        p.1 ∙ ap (λ (k : ℕ). at + k) n,
      )
