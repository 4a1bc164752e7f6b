-- The fields that a frame holds: where a field is a byte they are the frame's own bytes, from the fourth on. Assumes nothing.
use mathlib.Core.Logic.{◌⊎◌, ⊎_elim}
use mathlib.Core.Path.{◌≡◌, refl, sym, ap, ap₂, ◌∙◌}
use mathlib.Core.Bool.{Bool, not}
use mathlib.Core.List.{List}
use Prim.Native.Nat.{ℕ, ◌+◌, ◌<◌, ◌≤◌}
use native.Mathlib.Omega.{arith}
use lib.ListN.{length, get_or, take, drop, length-drop}
use lib.Seq.{get_or-drop, get_or-take}
use Rattle.bits.specs.Bits.{fields, split}
use Rattle.bits.proofs.Laws as bit
use Rattle.parts.specs.Parts.{part_of, subframes}
use Rattle.tables.specs.Lists.{all_below}
use Rattle.frames.specs.Frames.{field_count, field_bits}
use Rattle.frames.specs.declared.told.Told.{Told}
use Rattle.frames.proofs.Lengths.{count-some}
use Rattle.tables.specs.Lists.{all_same}
use Rattle.parts.specs.Parts.{field_width}
use Rattle.parts.specs.declared.command.Command.{Command}
use Rattle.parts.specs.declared.command.Command.TheVariants.{Global, Configuration}
use Rattle.frame_reader.specs.declared.answer.Read.TheVariants.{Byte}
use Rattle.frame_reader.specs.Reading.{held_fields, copies_differ, found, bytes_found, values_found}

module _ (t : Told) (frame : List ℕ) where
  pub held-split : 3 ≤ length frame → held_fields t frame ≡ split (field_bits t) (field_count t) (fields 8 (drop 3 frame))
  unfolding held_fields
  held-split h = ap (split (field_bits t) (field_count t)) (bit.drop-fields 8 3 frame h)

  pub held_bytes : field_bits t ≡ 8 → 3 + field_count t ≤ length frame → ((i : ℕ) → get_or frame i 0 < 256) → held_fields t frame ≡ take (field_count t) (drop 3 frame)
  held_bytes w l b =
      held-split (omega arith)
      ∙ ap (λ (k : ℕ). split k (field_count t) (fields 8 (drop 3 frame))) w
      ∙ bit.split-bytes (field_count t) (drop 3 frame) (omega (arith, length-drop 3 frame)) (λ i. rw get_or-drop (b (3 + i)))

  pub held_first : 0 < t.devices → held_fields t frame ≡ take (field_count t) (drop 3 frame) → get_or (held_fields t frame) 0 0 ≡ get_or frame 3 0
  held_first d e = ap (λ (l : List ℕ). get_or l 0 0) e ∙ get_or-take (field_count t) (drop 3 frame) 0 0 (count-some t d) ∙ get_or-drop 3 frame 0 0

  module _ {n : ℕ} (h : held_fields t frame ≡ take (field_count t) (drop 3 frame)) (en : n ≡ field_count t) where
    same-list : take n (drop 3 frame) ≡ held_fields t frame
    same-list = ap (λ (k : ℕ). take k (drop 3 frame)) en ∙ sym h

    pub all-held-below : {m : ℕ} {r : Bool} → m ≡ subframes (part_of t.part) t.configuration → r ≡ all_below (take n (drop 3 frame)) m
        → not r ≡ not (all_below (held_fields t frame) (subframes (part_of t.part) t.configuration))
    all-held-below em e = ap not (e ∙ ap₂ (λ (l : List ℕ) (k : ℕ). all_below l k) same-list em)

    pub all-held-same : {r : Bool} → 0 < t.devices → r ≡ all_same (take n (drop 3 frame)) (get_or frame 3 0)
        → not r ≡ not (all_same (held_fields t frame) (get_or (held_fields t frame) 0 0))
    all-held-same d e = ap not (e ∙ ap₂ (λ (l : List ℕ) (k : ℕ). all_same l k) same-list (sym (held_first d h)))

-- a command whose fields are one byte again and again
pub record OneByte (t : Told) (c : Command) : Type 0 where
  pub wide : field_width (part_of t.part) c ≡ 8
  pub differ : (vs : List ℕ) → copies_differ c vs ≡ not (all_same vs (get_or vs 0 0))
  pub answer : (vs : List ℕ) → found t c vs ≡ Byte (get_or vs 0 0)
  pub bytes : (vs l : List ℕ) → bytes_found c vs l ≡ l
  pub values : (vs l : List ℕ) → values_found c vs l ≡ l

pub one_byte : (t : Told) (c : Command) → (c ≡ Global) ⊎ (c ≡ Configuration) → OneByte t c
one_byte t c e =
    ⊎_elim
    (λ g. rw g (record { wide = refl; differ = λ vs. refl; answer = λ vs. refl; bytes = λ vs l. refl; values = λ vs l. refl }))
    (λ g. rw g (record { wide = refl; differ = λ vs. refl; answer = λ vs. refl; bytes = λ vs l. refl; values = λ vs l. refl }))
    e
