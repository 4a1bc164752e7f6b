-- An individual frame is its header, each group's bytes and its tail: a slice has eight values for each bank and phase, so that the values
-- of all slices are whole groups at any width. Assumes nothing.
use mathlib.Core.Path.{◌≡◌, sym, ap, ◌∙◌}
use mathlib.Core.List.{List, ◌++◌}
use Prim.Native.Nat.{ℕ, ◌+◌, ◌*◌, ◌%◌}
use native.Mathlib.Nat.{mul_assoc, mul_left_comm, mul-mod_right}
use lib.ListN.{length}
use Rattle.bits.specs.Bits.{bytes_of}
use Rattle.bits.specs.Groups.{in_groups, group_bytes}
use Rattle.bits.proofs.Groups.{bytes-in_groups}
use Rattle.parts.specs.Parts.{Part, part_of, multiplex}
use Rattle.parts.specs.Wire.{header}
use Rattle.parts.specs.declared.command.Command.TheVariants.{Individual}
use Rattle.frames.specs.Frames.{told_of, field_count, tail_bits, frame_of}
use Rattle.frames.specs.declared.told.Tail.{Tail}
use Rattle.frames.proofs.Pieces.{frame-pieces}

module _ (part devices configuration : ℕ) where
  -- the values of all slices are eights
  values-eights : field_count (told_of part devices Individual configuration) % 8 ≡ 0
  values-eights =
      let p : Part = part_of part in
      let m : ℕ = 1 + multiplex configuration in
      ap (λ (k : ℕ). k % 8) (ap (λ (k : ℕ). devices * k) (mul_assoc 8 p.banks m) ∙ mul_left_comm devices 8 (p.banks * m)) ∙ mul-mod_right 8 (devices * (p.banks * m))

  pub framed-groups : (tail : Tail) (values : List ℕ) → length values ≡ field_count (told_of part devices Individual configuration)
      → frame_of (told_of part devices Individual configuration) tail values
      ≡ bytes_of (header Individual 0) ++ (group_bytes (part_of part).width (in_groups (part_of part).width values) ++ bytes_of (tail_bits tail))
  framed-groups tail values len =
      frame-pieces (told_of part devices Individual configuration) tail values len
      ∙ ap (λ (z : List ℕ). bytes_of (header Individual 0) ++ (z ++ bytes_of (tail_bits tail))) (sym (bytes-in_groups (part_of part).width values (ap (λ (n : ℕ). n % 8) len ∙ values-eights)))
