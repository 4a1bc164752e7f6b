-- Worked examples of the watchdog, enabled by bit 1, computed. Assumes nothing.
use mathlib.Core.Path.{◌≡◌, refl}
use mathlib.Core.Bool.{Bool, true, false}
use mathlib.Core.List.{List, [], ◌∷◌, map}
use Prim.Native.Nat.{ℕ}
use lib.ListN.{take, replicate}
use Rattle.bits.specs.Bits.{bits, number, fields, split}
use Rattle.parts.specs.Parts.{max6974}
use Rattle.parts.specs.Wire.{State, low, high, header, command_count, clocked_at}
use Rattle.parts.specs.declared.command.Command.{Command}
use Rattle.parts.specs.declared.command.Command.TheVariants.{Individual, Calibration, Configuration}
use Rattle.machine.specs.Machine.{run, relay, relay_one}
use Rattle.watch.specs.declared.watch.Watch.{Watch}
use Rattle.watch.specs.Watch.{line, last_of, moved, watching, expired}
use Rattle.model.specs.Device.{Values, Phase, hunting, taking, passing, slice, at, load, activated, header_states, step_device}
use Rattle.clocked.specs.Clock.{Clocked, registers_of, length_in, tick, step_clocked}
use Rattle.watchdog.specs.Watched.{Watched, cleared, watch_after, clock_watched, step_watched, run_watched, expires, expired_within}

-- values that wait, values that are active, and what is left of either by an expiry
abbrev one : Values
one = record { global = 7; mux0 = 1 ∷ []; mux1 = 2 ∷ [] }

abbrev two : Values
two = record { global = 9; mux0 = 3 ∷ []; mux1 = 4 ∷ [] }

abbrev zeros : ℕ → Values
zeros global = record { global = global; mux0 = replicate 24 0; mux1 = replicate 24 0 }

-- a 6974 with a configuration, in a phase, at a position
abbrev device : ℕ → Phase → ℕ → Clocked
device configuration phase position = record {
  device = at (record { part = max6974; configuration = configuration; calibration = []; waiting = one; active = two; overtemperature = false; openled = false }) phase;
  position = position;
}

-- one whose slice of three bytes lacks its last bit
abbrev before : ℕ → Command → List ℕ → Clocked
before configuration c bytes = device configuration (taking (slice c 0) 0 (take 23 (fields 8 bytes))) 10

-- one whose individual slice lacks its last bit
abbrev before_individual : Clocked
before_individual = device 0x02 (taking (slice Individual 0) 0 (take 287 (fields 12 (replicate 24 5)))) 5

-- one that waits for SYNC, its bit set
abbrev idle : ℕ → Clocked
idle position = device 0x02 (hunting 0) position

-- a watchdog by its limit, the levels of data and load, and their counts
abbrev dog : ℕ → ℕ → ℕ → ℕ → ℕ → Watch
dog limit d l m n = record { din = line m d; loadi = line n l; limit = limit; bit = 1 }

abbrev guarded : Clocked → Watch → Watched
guarded c s = record { clocked = c; watch = s }

-- after one clock
abbrev after : Watched → List State → Watched
after w sent = (clock_watched w sent).0

abbrev waits : Watched → Values
waits w = (registers_of w.clocked).waiting

abbrev active : Watched → Values
active w = (registers_of w.clocked).active

-- a watchdog at the end of a clock in which its device was sent these and then holds a configuration
abbrev seen : ℕ → List State → Watch → Watch
seen configuration sent s = watch_after (device configuration (hunting 0) 0) sent s

-- 5a: limit 1, configuration 0x03: expiry on its last bit, counts 1 and 1
abbrev enabling : Watched
enabling = after (guarded (before 0 Configuration (0x03 ∷ 0x03 ∷ 0x03 ∷ [])) (dog 1 1 1 0 0)) (high true ∷ [])

pub enabling-clock : (enabling.watch ≡ dog 1 1 1 1 1) × (active enabling ≡ zeros 9)
unfolding clock_watched watching last_of moved expired cleared run tick step_clocked step_device load activated length_in number split fields bits
enabling-clock = (refl, refl)

-- 5b: count 9 of limit 10, a still line, the bit cleared on this clock: no expiry, counts 0
abbrev disabling : Watched
disabling = after (guarded (before 0x02 Configuration (0x00 ∷ 0x00 ∷ 0x00 ∷ [])) (dog 10 0 1 9 9)) (high false ∷ [])

pub disabling-clock : (disabling.watch ≡ dog 10 0 1 0 0) × (active disabling ≡ two)
unfolding clock_watched watching last_of moved expired cleared run tick step_clocked step_device load activated length_in number split fields bits
disabling-clock = (refl, refl)

-- 5c: boundary and expiry in one clock: active individual values 0, with the global byte that waited
abbrev returning : Watched
returning = after (guarded (idle 524287) (dog 10 0 0 9 9)) []

pub boundary-and-expiry : (active returning ≡ zeros 7) × (returning.clocked.position ≡ 0)
unfolding clock_watched watching last_of moved expired cleared run tick step_clocked step_device load activated length_in number split fields bits
boundary-and-expiry = (refl, refl)

-- 5d: store and expiry in one clock: the slice just stored is 0
pub store-and-expiry : waits (after (guarded before_individual (dog 10 1 1 9 9)) (high true ∷ [])) ≡ zeros 7
unfolding clock_watched watching last_of moved expired cleared run tick step_clocked step_device load activated length_in number split fields bits
store-and-expiry = refl

-- without the expiry it would wait
pub store-alone : waits (after (guarded before_individual (dog 10 1 1 8 8)) (high true ∷ [])) ≡ record { global = 7; mux0 = replicate 24 5; mux1 = 2 ∷ [] }
unfolding clock_watched watching last_of moved expired cleared run tick step_clocked step_device load activated length_in number split fields bits
store-alone = refl

-- 5e: a burst onto levels 0 and 1 with counts 500: counts 0, levels 0 and 1
pub burst-toggles : seen 0x02 (header_states Calibration 0) (dog 1000 0 1 500 500) ≡ dog 1000 0 1 0 0
unfolding watching last_of moved header_states clocked_at header command_count bits
burst-toggles = refl

-- 5f: two devices, states 0 1 0 1 0: device 2 counts 5 and 5, device 1 0 and 5
pub second-idle : map (λ w. w.watch)
    (run_watched (guarded (idle 0) (dog 100 0 0 0 0) ∷ guarded (idle 0) (dog 100 0 0 0 0) ∷ []) (low false ∷ low true ∷ low false ∷ low true ∷ low false ∷ [])).0
    ≡ dog 100 0 0 0 5 ∷ dog 100 0 0 5 5 ∷ []
unfolding clock_watched watching last_of moved expired cleared relay relay_one run tick step_clocked step_device load activated length_in
second-idle = refl

-- 5g: bit clear, states 1 3 3, the bit then set, state 3: counts 1 and 1
pub levels-followed : seen 0x02 (high true ∷ []) (seen 0 (high true ∷ []) (seen 0 (high true ∷ []) (seen 0 (low true ∷ []) (dog 100 0 0 0 0)))) ≡ dog 100 1 1 1 1
unfolding watching last_of moved
levels-followed = refl

-- 5h: limit 3, four still clocks: expiry on the third and the fourth
abbrev still : List Bool
still =
    let chain : List Watched = guarded (idle 0) (dog 3 0 0 0 0) ∷ [] in
    let states : List State = low false ∷ low false ∷ low false ∷ low false ∷ [] in
    expires chain states 1 1 ∷ expires chain states 2 1 ∷ expires chain states 3 1 ∷ expires chain states 4 1 ∷ expired_within chain states 2 1 ∷ expired_within chain states 4 1 ∷ []

pub third-and-fourth : still ≡ false ∷ false ∷ true ∷ true ∷ false ∷ true ∷ []
unfolding expired_within clock_watched watching last_of moved expired cleared relay relay_one run tick step_clocked step_device load activated length_in
third-and-fourth = refl

-- 5i: limit 4, states 1 0 1 0: expiry on the fourth, by the load line alone
abbrev toggling : List Bool
toggling =
    let chain : List Watched = guarded (idle 0) (dog 4 0 0 0 0) ∷ [] in
    let states : List State = low true ∷ low false ∷ low true ∷ low false ∷ [] in
    expires chain states 1 1 ∷ expires chain states 2 1 ∷ expires chain states 3 1 ∷ expires chain states 4 1 ∷ []

pub load-alone : toggling ≡ false ∷ false ∷ false ∷ true ∷ []
unfolding clock_watched watching last_of moved expired cleared relay relay_one run tick step_clocked step_device load activated length_in
load-alone = refl

-- 5j: MUX1 is cleared while D0 is 0, and global values are not
abbrev clearing : Watched
clearing = after (guarded (idle 5) (dog 10 0 0 9 9)) []

pub mux1-too : (waits clearing ≡ zeros 7) × (active clearing ≡ zeros 9)
unfolding clock_watched watching last_of moved expired cleared run tick step_clocked step_device load activated length_in
mux1-too = (refl, refl)

-- 5k: count 2,000,000 stays, and expires again
pub count-stays : (seen 0x02 [] (dog 2000000 0 0 2000000 2000000) ≡ dog 2000000 0 0 2000000 2000000) × (expired (seen 0x02 [] (dog 2000000 0 0 2000000 2000000)) ≡ true)
unfolding watching last_of moved expired
count-stays = (refl, refl)

-- 5l: an expiry within a calibration frame leaves that frame, the global byte and the position
abbrev calibrating : Watched
calibrating = after (guarded (before 0x02 Calibration (1 ∷ 2 ∷ 3 ∷ [])) (dog 10 1 1 9 9)) (high true ∷ [])

pub frame-goes-on : ((registers_of calibrating.clocked).calibration ≡ 1 ∷ 2 ∷ 3 ∷ []) × (calibrating.clocked.device.phase ≡ passing)
    × (calibrating.clocked.position ≡ 11) × (waits calibrating ≡ zeros 7)
unfolding clock_watched watching last_of moved expired cleared run tick step_clocked step_device load activated length_in number split fields bits
frame-goes-on = (refl, refl, refl, refl)

-- the single step leaves levels and counts alone
pub single_step : (step_watched (guarded (before 0 Configuration (0x03 ∷ 0x03 ∷ 0x03 ∷ [])) (dog 1 0 0 0 0)) (high true)).0.watch ≡ dog 1 0 0 0 0
unfolding step_watched
single_step = refl
