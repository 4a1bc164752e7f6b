-- What a rising edge of load reads as, by what the line showed: the low clocks since the last high one, and the first high bit. A device takes
-- three readings; what it makes of them, by numbers, is `rising` in specs/Device. docs/RULES.md, "One device, clock by clock".
use Rattle.std.specs.Prelude.{◌≡◌, Bool, false, List, [], ◌∷◌, ◌++◌, take}
use Rattle.parts.specs.Wire.{State, low, high, Edge, early, exact, late, sync}

-- the bits of the low clocks since the last high one, after those that were seen before
abbrev pub low_run : List Bool → List State → List Bool
low_run seen [] = seen
low_run seen (low b ∷ ls) = low_run (seen ++ b ∷ []) ls
low_run seen (high b ∷ ls) = low_run [] ls

-- the last of seen are bs
abbrev pub EndsIn : List Bool → List Bool → Type 0
EndsIn seen bs = (before : List Bool) × (seen ≡ before ++ bs)

-- seen: the bits of the low clocks before the edge; first: the first high bit; got: the command bits among them
-- early: SYNC but for its last bit, which is first. exact: SYNC, then first. late: SYNC and a command bit, then first
abbrev pub RisesAs : Edge → List Bool → Bool → List Bool → Type 0
RisesAs early seen first got = EndsIn seen (take 7 sync) × (first ≡ false) × (got ≡ [])
RisesAs exact seen first got = EndsIn seen sync × (got ≡ first ∷ [])
RisesAs late seen first got = (c : Bool) × EndsIn seen (sync ++ c ∷ []) × (got ≡ c ∷ first ∷ [])
