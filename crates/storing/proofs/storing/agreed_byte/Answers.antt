use Rattle.std.proofs.Common.{◌≡◌, ◌≤◌, length, ap, arith}
use Rattle.parts.specs.Parts.{part_of}
use Rattle.parts.specs.declared.part.Constants.{Constants}
use Rattle.parts.proofs.Laws.{usable}
use Rattle.storing.proofs.Lists.{all_same-bytes}
use Rattle.storing.proofs.storing.agreed_byte.Goals as goal

pub returns : goal.returns
returns c = let a = c.args in
    let banks : c.constants_of-banks.result.banks ≡ (part_of a.part).banks = ap (λ (k : Constants). k.banks) c.constants_of-banks.ensures in
    let few : (part_of a.part).banks ≤ length a.slice.now = omega (arith, (usable a.part).few_banks) in
    rw (c.then_some.ensures, c.all_have.ensures, banks, all_same-bytes a.slice.now (part_of a.part).banks _ few)
