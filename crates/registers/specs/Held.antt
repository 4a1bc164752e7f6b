-- What a device holds: its registers, a bit going into the slice, the count sent on, waiting values that become active, a fault setting, an expiry of
-- its watchdog, and the registers of a fresh device.
use Rattle.std.specs.Prelude.{ℕ, ◌+◌, ◌%◌, cond, List, eqb, get_or, set, take, replicate}
use Rattle.parts.specs.Parts.{part_of, outputs}
use Rattle.parts.specs.declared.command.Command.{Command}
use Rattle.parts.specs.declared.command.Command.TheVariants.{Individual, Calibration, Global, Configuration}
use Rattle.phases.specs.Phases.{pushed}
use Rattle.watch.specs.declared.watch.Watch.{Watch}
use Rattle.registers.specs.declared.registers.Registers.{Registers}

-- the registers with a new configuration, calibration, waiting global byte, waiting values and slice, and all else as it was
abbrev pub holding : Registers → ℕ → List ℕ → ℕ → List ℕ → List ℕ → List ℕ → Registers
holding r configuration calibration waiting waiting0 waiting1 slice =
    record {
      part = r.part;
      overtemperature = r.overtemperature;
      openled = r.openled;
      configuration = configuration;
      calibration = calibration;
      waiting = waiting;
      active = r.active;
      waiting0 = waiting0;
      waiting1 = waiting1;
      active0 = r.active0;
      active1 = r.active1;
      slice = slice;
      position = r.position;
      watch = r.watch;
    }

-- the registers with another slice coming in
abbrev pub with_slice : Registers → List ℕ → Registers
with_slice r s = holding r r.configuration r.calibration r.waiting r.waiting0 r.waiting1 s

-- what of its calibration is in use: a byte for each bank of its part
abbrev pub bank_bytes : Registers → List ℕ
bank_bytes r = take (part_of r.part).banks r.calibration

-- what is in use of values that it holds: one for each output
abbrev pub output_values : Registers → List ℕ → List ℕ
output_values r values = take (outputs (part_of r.part)) values

-- a bit goes into field k of the slice, which is kept below m
abbrev pub took : Registers → ℕ → ℕ → ℕ → Registers
took r k bit m = with_slice r (set r.slice k (pushed (get_or r.slice k 0) bit m))

-- the fault flag of a command's kind: C0 = 0 overtemperature, C0 = 1 open LED
abbrev pub fault : Registers → Command → ℕ
fault r Individual = r.overtemperature
fault r Calibration = r.openled
fault r Global = r.overtemperature
fault r Configuration = r.openled

-- the count sent on; a fault stands where its flag is not 0
abbrev pub raised : ℕ → ℕ → ℕ
raised count flag = cond (eqb flag 0) (count % 1024) ((count + 1) % 1024)

-- ---- what no line state changes

-- the registers with new fault flags and active values, and all else as it was
abbrev pub showing : Registers → ℕ → ℕ → ℕ → List ℕ → List ℕ → Registers
showing r overtemperature openled active active0 active1 =
    record {
      part = r.part;
      overtemperature = overtemperature;
      openled = openled;
      configuration = r.configuration;
      calibration = r.calibration;
      waiting = r.waiting;
      active = active;
      waiting0 = r.waiting0;
      waiting1 = r.waiting1;
      active0 = active0;
      active1 = active1;
      slice = r.slice;
      position = r.position;
      watch = r.watch;
    }

-- waiting values become active
abbrev pub activated : Registers → Registers
activated r = showing r r.overtemperature r.openled r.waiting r.waiting0 r.waiting1

-- the fault of a kind is set: 0 overtemperature, else open LED
abbrev pub flagged : Registers → ℕ → ℕ → Registers
flagged r kind flag =
    cond (eqb kind 0) (showing r flag r.openled r.active r.active0 r.active1)
    (showing r r.overtemperature flag r.active r.active0 r.active1)

-- an expiry of the watchdog: every individual value becomes 0, waiting and active, MUX1 too, and nothing else changes
abbrev pub cleared : Registers → Registers
cleared r =
    record {
      part = r.part;
      overtemperature = r.overtemperature;
      openled = r.openled;
      configuration = r.configuration;
      calibration = r.calibration;
      waiting = r.waiting;
      active = r.active;
      waiting0 = replicate 24 0;
      waiting1 = replicate 24 0;
      active0 = replicate 24 0;
      active1 = replicate 24 0;
      slice = r.slice;
      position = r.position;
      watch = r.watch;
    }

-- the registers with another watchdog
abbrev pub with_watch : Registers → Watch → Registers
with_watch r w =
    record {
      part = r.part;
      overtemperature = r.overtemperature;
      openled = r.openled;
      configuration = r.configuration;
      calibration = r.calibration;
      waiting = r.waiting;
      active = r.active;
      waiting0 = r.waiting0;
      waiting1 = r.waiting1;
      active0 = r.active0;
      active1 = r.active1;
      slice = r.slice;
      position = r.position;
      watch = w;
    }

-- zeros, no faults, and a watchdog
abbrev pub zeros : ℕ → Watch → Registers
zeros part w =
    record {
      part = part;
      overtemperature = 0;
      openled = 0;
      configuration = 0;
      calibration = replicate 3 0;
      waiting = 0;
      active = 0;
      waiting0 = replicate 24 0;
      waiting1 = replicate 24 0;
      active0 = replicate 24 0;
      active1 = replicate 24 0;
      slice = replicate 48 0;
      position = 0;
      watch = w;
    }
