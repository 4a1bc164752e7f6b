-- A lent chain: a list of device records, device 1 first. What line states do to it, clock by clock, and the tests by which its records
-- are judged. docs/RULES.md, "One device, clock by clock" and "Refusal numbers".
use Rattle.std.specs.Prelude.{ℕ, Bool, true, List, [], ◌∷◌, eqb}
use Rattle.machine.specs.Machine.{relays}
use Rattle.parts.specs.Parts.{known}
use Rattle.device.specs.Step.{fresh_device}
use Rattle.device.specs.Judgement.{fits}
use Rattle.device.specs.Run.{clock_record}
use Rattle.device.specs.declared.device.Device.{Device}
use Rattle.tables.specs.Lists.{every}

-- the devices after line states, one to a clock, and what the last one sent: in each clock every device advances by one, the state acts on device
-- 1 and what each device sends on the next, and every device watches its lines, by what it was sent
abbrev pub through : List Device → List ℕ → List Device × List ℕ
through ds ss = relays clock_record ds ss

-- a record is of a part
abbrev pub has_part : ℕ → Device → Bool
has_part p d = eqb d.registers.part p

-- each record's part is known
abbrev pub all_known : List Device → Bool
all_known ds = every (λ d. known d.registers.part) ds

-- the records are of one part, the first one's
abbrev pub same_parts : List Device → Bool
same_parts [] = true
same_parts (d ∷ ds) = every (has_part d.registers.part) ds

-- each record holds only what it can
abbrev pub all_fit : List Device → Bool
all_fit ds = every fits ds

-- stands where a list has no device
abbrev pub blank : Device
blank = fresh_device 0 0 0
