-- The judgement of a lent chain in one pass over its records. That it finds what the tests of calls/specs/Chain say is in proofs/Pass.
use Rattle.std.specs.Prelude.{true, ◌&&◌, Option, None, Some, ℕ, Bool, List}
use Rattle.std.specs.Option.{option_or}
use Rattle.std.specs.List.{fold}
use Rattle.parts.specs.Parts.{known}
use Rattle.device.specs.Judgement.{fits}
use Rattle.device.specs.declared.device.Device.{Device}
use Rattle.calls.specs.Chain.{has_part}
use Rattle.judgement.specs.declared.judging.Judged.{Judged}

-- before the first record
abbrev pub unjudged : Judged
unjudged = record { part = None; known = true; same = true; fits = true }

-- a record is of the first one's part
abbrev pub is_alike : Option ℕ → Device → Bool
is_alike None d = true
is_alike (Some first) d = has_part first d

-- one record more: its part is the first one's
abbrev pub judged_with : Judged → Device → Judged
judged_with j d =
    record {
      part = option_or j.part (Some d.registers.part);
      known = j.known && known d.registers.part;
      same = j.same && is_alike j.part d;
      fits = j.fits && fits d;
    }

-- all records
abbrev pub judged_from : Judged → List Device → Judged
judged_from j ds = fold judged_with j ds
