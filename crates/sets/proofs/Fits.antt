-- What the lists of a set have whose lengths fit: as many bytes and values as its devices' shares. Assumes nothing.
use mathlib.Core.Path.{◌≡◌}
use mathlib.Core.Bool.{true}
use Prim.Native.Nat.{ℕ, ◌*◌}
use lib.Dec.{eqb}
use borrow.Author.Tests.{eqb-true}
use Rattle.tables.proofs.Booleans.{and_both}
use Rattle.parts.specs.Parts.{part_of, multiplex, slice_fields}
use Rattle.parts.specs.declared.command.Command.TheVariants.{Individual}
use Rattle.sets.specs.Sets.{lengths_fit}

pub lengths-are :
    (part devices configuration bytes values : ℕ)
    → lengths_fit part devices configuration bytes values ≡ true
    → (bytes ≡ devices * (part_of part).banks) × (values ≡ devices * slice_fields (part_of part) Individual (multiplex configuration))
lengths-are part devices configuration bytes values e =
    let all_bytes : ℕ = devices * (part_of part).banks in
    let all_values : ℕ = devices * slice_fields (part_of part) Individual (multiplex configuration) in
    let b = and_both (eqb bytes all_bytes) (eqb values all_values) e in
    (eqb-true bytes all_bytes b.0, eqb-true values all_values b.1)
