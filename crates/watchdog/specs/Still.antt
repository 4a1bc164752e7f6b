-- A line that has stood still for a number of clocks at the end of many, and what each device of a chain is sent, clock by clock.
use Rattle.std.specs.Prelude.{ℕ, ◌+◌, ◌≤◌, ◌≡◌, false, ◌⊎◌, length}
use mathlib.Core.List.{List, [], ◌∷◌, ◌++◌, map, flatten}
use Rattle.parts.specs.Wire.{State, state_code}
use Rattle.machine.specs.Machine.{relay_one}
use Rattle.watch.specs.Watch.{data_bit, load_bit, last_of, moved}
use Rattle.watchdog.specs.Watched.{Watched, clock_watched}

-- a line that stood at a level, and had then stood still for count clocks, took these levels, clock by clock: in the last n clocks or more it did
-- not change, where those before the first count only if it did not change in any
pub record StillFor (n count level : ℕ) (clocks : List (List ℕ)) : Type 0 where
  pub before : List (List ℕ)
  pub since : List (List ℕ)
  pub joined : clocks ≡ before ++ since
  pub still : moved (last_of level (flatten before)) (flatten since) ≡ false
  pub long : (n ≤ length since) ⊎ ((before ≡ []) × (n ≤ count + length since))

-- the levels of the data line in each clock
abbrev pub data_levels : List (List State) → List (List ℕ)
data_levels clocks = map (λ sent. map data_bit (map state_code sent)) clocks

-- the levels of the load line
abbrev pub load_levels : List (List State) → List (List ℕ)
load_levels clocks = map (λ sent. map load_bit (map state_code sent)) clocks

-- one of the two lines that a device watches did not change in as many clocks as its limit, at the end of these
abbrev pub Stopped : Watched → List (List State) → Type 0
Stopped w clocks =
    StillFor w.watch.limit w.watch.din.still w.watch.din.level (data_levels clocks)
    ⊎ StillFor w.watch.limit w.watch.loadi.still w.watch.loadi.level (load_levels clocks)

-- a device after clocks in which it is sent these
unfoldable pub clocks_watched : Watched → List (List State) → Watched
clocks_watched w [] = w
clocks_watched w (sent ∷ clocks) = clocks_watched (clock_watched w sent).0 clocks

-- what a chain sends in each clock of the states that it is given
unfoldable pub sent_by : List Watched → List State → List (List State)
sent_by ws [] = []
sent_by ws (l ∷ ls) = (relay_one clock_watched ws l).1 ∷ sent_by (relay_one clock_watched ws l).0 ls
