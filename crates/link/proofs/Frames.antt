-- The frames that the writer writes from a set are the model's frames of each device's slices, state for state: the bytes hold the bits of
-- the frame, the fields of the frame are those of the slices. So a restore and its parts are the model's; and a set whose frames the writer
-- accepts is proper. Assumes nothing.
use mathlib.Core.Path.{◌≡◌, refl, sym, ap, ap₂, ◌∙◌}
use mathlib.Core.Bool.{Bool, false}
use mathlib.Core.List.{List, [], ◌∷◌, ◌++◌, map, flatten, map-append}
use Prim.Native.Nat.{ℕ, ◌-◌, ◌%◌, ◌<◌}
use native.Mathlib.Omega.{arith}
use lib.ListN.{length, take, replicate}
use lib.Seq.{take_at}
use borrow.Author.Tests.{ltb-true, eqb-true, not-false}
use Rattle.bits.specs.Bits.{fields, bytes_of, padded}
use Rattle.bits.proofs.Laws.{bits_of_bytes}
use Rattle.parts.specs.Parts.{part_of, limit, subframes, field_width, restore_order}
use Rattle.parts.specs.Wire.{Edge, state_code, states_at, lows, frame, clocked_at}
use Rattle.parts.specs.declared.command.Command.{Command}
use Rattle.parts.specs.declared.command.Command.TheVariants.{Individual, Calibration, Global, Configuration}
use Rattle.serial.specs.States as serial
use Rattle.frames.specs.Frames.{tail_bits, frame_bits, frame_of, frame_length}
use Rattle.frame_writer.specs.Writing.{settings}
use Rattle.frames.specs.declared.told.Tail.{Tail}
use Rattle.frames.proofs.Lengths.{subframes-small}
use Rattle.frame_writer.proofs.Writable.{length-settings_of}
use Rattle.frame_writer.proofs.Writable as writer
use Rattle.frames.proofs.Pieces.{length-frame_bits}
use Rattle.model.specs.Device.{frame_states}
use Rattle.model.specs.Set.{Set, Proper, owned, slice_of, frame_fields}
use Rattle.model.specs.Restore.{Piece, piece_states, piece_of, pieces_of, pieces_states}
use Rattle.model.proofs.Lists.{take-map, all-below}
use Rattle.model.proofs.Set.{fields-slices}
use Rattle.link.specs.Restore.{tails_of, told, set_byte, written_frame, Writable, frame_size, frame_part, restore_part, restore_states}

-- the first bits of bytes are the bits that they were made of
take-bytes : (bs : List Bool) (n : ℕ) → length bs ≡ n → take n (fields 8 (bytes_of bs)) ≡ bs
unfolding padded
take-bytes bs n e = ap (λ (l : List Bool). take n l) (bits_of_bytes bs) ∙ take_at bs (replicate ((8 - length bs % 8) % 8) false) n e

module _ {s : Set} {tail : Command → Tail} (w : Writable s tail) where
  -- what the writer accepts
  pub accepted-writable : (c : Command) → writer.Writable (told s c) (tail c) (set_byte s c) s.calibration s.individual (frame_length (told s c) (tail c))
  accepted-writable c = writer.writable (told s c) (tail c) (set_byte s c) s.calibration s.individual (frame_length (told s c) (tail c)) (w.accepted c)

  pub writable-proper : Proper s
  writable-proper =
      let g : s.global < subframes (part_of s.part) s.configuration = ltb-true _ _ (not-false _ (accepted-writable Global).value) in
      record {
        configuration = w.configuration;
        global = omega (arith, subframes-small s.part s.configuration);
        calibration = all-below 256 s.calibration w.calibration;
        calibration_length = eqb-true _ _ (not-false _ (accepted-writable Calibration).list);
        individual = all-below (limit (part_of s.part)) s.individual (not-false _ (accepted-writable Individual).value);
        individual_length = eqb-true _ _ (not-false _ (accepted-writable Individual).list);
      }

  fields-settings_of : (c : Command) → settings (told s c) (set_byte s c) s.calibration s.individual ≡ frame_fields s c
  fields-settings_of Individual = refl
  fields-settings_of Calibration = refl
  fields-settings_of Global = refl
  fields-settings_of Configuration = refl

  -- the states of the bytes are those of the frame's bits
  written_frame-states : (e : Edge) (c : Command) → serial.frame_states e (written_frame s c (tail c)) (frame_size s c (tail c))
      ≡ states_at e (frame c 0 (fields (field_width (part_of s.part) c) (frame_fields s c)) (tails_of tail c))
  unfolding serial.frame_states frame_of frame_bits
  written_frame-states e c =
      let vs : List ℕ = settings (told s c) (set_byte s c) s.calibration s.individual in
      let n = length-settings_of (told s c) c (set_byte s c) s.calibration s.individual (accepted-writable c).list in
      ap (states_at e) (take-bytes (frame_bits (told s c) (tail c) vs) (frame_size s c (tail c)) (length-frame_bits (told s c) (tail c) vs n))
      ∙ ap (λ (l : List ℕ). states_at e (frame c 0 (fields (field_width (part_of s.part) c) l) (tail_bits (tail c)))) (fields-settings_of c)

  module _ (edge : Command → Edge) (gap : Command → List Bool) where
    abbrev piece : Command → Piece
    piece c = piece_of (part_of s.part) (owned s) edge gap (tails_of tail) c

    pub part-states : (c : Command) → frame_part s edge gap tail c ≡ map state_code (piece_states (piece c))
    unfolding frame_part piece_states frame_states
    part-states c =
        ap (λ (l : List ℕ). map state_code (lows (gap c)) ++ l) (written_frame-states (edge c) c)
        ∙ ap (λ (bs : List Bool). map state_code (lows (gap c)) ++ map state_code (clocked_at (edge c) (frame c 0 bs (tails_of tail c)))) (fields-slices s writable-proper c)
        ∙ sym (map-append state_code (lows (gap c)) (frame_states (edge c) c 0 (map (slice_of (part_of s.part) c) (owned s)) (tails_of tail c)))

    parts-states : (cs : List Command) → flatten (map (frame_part s edge gap tail) cs) ≡ map state_code (flatten (map piece_states (map piece cs)))
    unfolding flatten
    parts-states [] = refl
    parts-states (c ∷ cs) =
        ap₂ (λ (a b : List ℕ). a ++ b) (part-states c) (parts-states cs)
        ∙ sym (map-append state_code (piece_states (piece c)) (flatten (map piece_states (map piece cs))))

    pub restore-states : restore_states s edge gap tail ≡ map state_code (pieces_states (part_of s.part) (owned s) edge gap (tails_of tail))
    unfolding pieces_of
    restore-states = parts-states restore_order

    pub restore-part : (j : ℕ) → restore_part s edge gap tail j ≡ map state_code (flatten (map piece_states (take j (pieces_of (part_of s.part) (owned s) edge gap (tails_of tail)))))
    unfolding pieces_of
    restore-part j =
        ap (λ (l : List (List ℕ)). flatten l) (take-map (frame_part s edge gap tail) j restore_order)
        ∙ parts-states (take j restore_order)
        ∙ ap (λ (l : List Piece). map state_code (flatten (map piece_states l))) (sym (take-map piece j restore_order))
