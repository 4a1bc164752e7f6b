-- A number is parted into two and two values, and then each two into one and one. Assumes nothing.
use mathlib.Core.Path.{refl}
use Rattle.unpacking.proofs.Lanes as lanes
use Rattle.unpacking.proofs.groups.Lanes.four_of.Goals as goal

pub returns : goal.returns
returns c = let a = c.args in
    lanes.four-parted a.self.width a.x c.low_bits.result a.self.narrow c.requires c.low_bits.ensures a.self.masks refl
