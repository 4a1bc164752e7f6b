-- A device's position in the frame, in clocks: 0 when fresh, and below the frame's length. One clock of a device, and what a configuration that
-- shortens the frame makes of the position. docs/RULES.md, "One device, clock by clock".
use Rattle.std.specs.Prelude.{ℕ, suc, ◌%◌, Bool, cond, ◌==◌, nat_lt}
use Rattle.parts.specs.Parts.{part_of, frame_clocks}
use Rattle.registers.specs.Held.{activated}
use Rattle.registers.specs.declared.registers.Registers.{Registers}

-- the clocks of the frame that the registers say
abbrev pub length_in : Registers → ℕ
length_in r = frame_clocks (part_of r.part) r.configuration

-- the position is below them
abbrev pub position_fits : Registers → Bool
position_fits r = nat_lt r.position (length_in r)

-- the registers at another position
abbrev pub placed_at : Registers → ℕ → Registers
placed_at r position =
    record {
      part = r.part;
      overtemperature = r.overtemperature;
      openled = r.openled;
      configuration = r.configuration;
      calibration = r.calibration;
      waiting = r.waiting;
      active = r.active;
      waiting0 = r.waiting0;
      waiting1 = r.waiting1;
      active0 = r.active0;
      active1 = r.active1;
      slice = r.slice;
      position = position;
      watch = r.watch;
    }

-- the position one clock later
abbrev pub next : Registers → ℕ
next r = suc r.position % length_in r

-- one clock: where the position returns to 0 the waiting values become active
unfoldable pub ticked : Registers → Registers
ticked r = placed_at (cond (next r == 0) (activated r) r) (next r)

-- a position in a frame whose length changes: a shorter one takes it modulo the new length
abbrev pub refit : ℕ → ℕ → ℕ → ℕ
refit old new position = cond (nat_lt new old) (position % new) position

-- what became of registers, with their position in the frame that they now say; 0 that is reached so is no boundary
abbrev pub refitted : Registers → Registers → Registers
refitted old new = placed_at new (refit (length_in old) (length_in new) new.position)
