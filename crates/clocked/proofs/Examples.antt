-- Worked examples of a device's clock, computed. Assumes nothing.
use mathlib.Core.Path.{◌≡◌, refl}
use mathlib.Core.Bool.{true, false}
use mathlib.Core.List.{List, [], ◌∷◌, map, flatten}
use Prim.Native.Nat.{ℕ}
use lib.ListN.{take}
use Rattle.bits.specs.Bits.{bits, number, fields, split}
use Rattle.parts.specs.Parts.{Part, max6974, max6975}
use Rattle.parts.specs.Wire.{State, low, high, exact, header, frame, command_count, clocked_at}
use Rattle.parts.specs.declared.command.Command.{Command}
use Rattle.parts.specs.declared.command.Command.TheVariants.{Global, Configuration}
use Rattle.machine.specs.Machine.{run, chain, clock}
use Rattle.model.specs.Device.{Values, Phase, hunting, taking, slice, at, slice_length, load, activated, fault, header_states, frame_states, step_device}
use Rattle.clocked.specs.Clock.{Clocked, registers_of, length_in, tick, step_clocked, run_clocked}

-- values that wait, and values that are active
abbrev one : Values
one = record { global = 7; mux0 = 1 ∷ []; mux1 = 2 ∷ [] }

abbrev two : Values
two = record { global = 9; mux0 = 3 ∷ []; mux1 = 4 ∷ [] }

-- a device of a part with a configuration, in a phase, at a position
abbrev device : Part → ℕ → Phase → ℕ → Clocked
device p configuration phase position = record {
  device = at (record { part = p; configuration = configuration; calibration = []; waiting = one; active = two; overtemperature = false; openled = false }) phase;
  position = position;
}

-- one whose slice of three bytes lacks its last bit
abbrev before : Part → ℕ → Command → List ℕ → ℕ → Clocked
before p configuration c bytes position = device p configuration (taking (slice c 0) 0 (take 23 (fields 8 bytes))) position

-- one that waits for SYNC, at 0
abbrev idle : Part → Clocked
idle p = device p 0 (hunting 0) 0

-- a chain of it alone, after states given to the chain
abbrev alone : Clocked → List State → List Clocked
alone c ls = (run_clocked (c ∷ []) ls).0

abbrev positions : List Clocked → List ℕ
positions cs = map (λ c. c.position) cs

abbrev actives : List Clocked → List Values
actives cs = map (λ c. (registers_of c).active) cs

abbrev waitings : List Clocked → List ℕ
waitings cs = map (λ c. (registers_of c).waiting.global) cs

-- GLB4 set in all copies, in no copy, and in copies that differ elsewhere
abbrev set : List ℕ
set = 0x10 ∷ 0x10 ∷ 0x10 ∷ []

abbrev clear : List ℕ
clear = 0 ∷ 0 ∷ 0 ∷ []

abbrev differing : List ℕ
differing = 0x10 ∷ 0x12 ∷ 0x10 ∷ []

-- 4a: a return to 0 on the clock of a store: the old waiting values are active, the new ones wait
pub return-on-store : (actives (alone (before max6974 0 Global (5 ∷ 5 ∷ 5 ∷ []) 524287) (high true ∷ [])) ≡ one ∷ [])
    × (waitings (alone (before max6974 0 Global (5 ∷ 5 ∷ 5 ∷ []) 524287) (high true ∷ [])) ≡ 5 ∷ [])
unfolding clock chain run tick step_clocked step_device load activated length_in number split fields bits
return-on-store = (refl, refl)

-- 4b: two devices, a configuration frame of 72 states: both at 72
pub two-at-72 : positions (run_clocked (idle max6974 ∷ idle max6974 ∷ []) (frame_states exact Configuration 0 (fields 8 clear ∷ fields 8 clear ∷ []) [])).0 ≡ 72 ∷ 72 ∷ []
unfolding clock chain run tick step_clocked step_device load activated length_in number split fields bits frame_states header_states clocked_at frame header command_count slice_length fault flatten
two-at-72 = refl

-- 4c: a 6975 at 200,001 when GLB4 is stored: 68,929
pub glb4-shortens : positions (alone (before max6975 0 Configuration set 200000) (high false ∷ [])) ≡ 68929 ∷ []
unfolding clock chain run tick step_clocked step_device load activated length_in number split fields bits
glb4-shortens = refl

-- 4d: at 131,072: 0, and nothing becomes active
pub modulo-no-boundary : (positions (alone (before max6975 0 Configuration set 131071) (high false ∷ [])) ≡ 0 ∷ [])
    × (actives (alone (before max6975 0 Configuration set 131071) (high false ∷ [])) ≡ two ∷ [])
unfolding clock chain run tick step_clocked step_device load activated length_in number split fields bits
modulo-no-boundary = (refl, refl)

-- 4e: GLB4 cleared on the return from 131,071: a boundary, then 0
pub cleared-on-return : (positions (alone (before max6975 0x10 Configuration clear 131071) (high false ∷ [])) ≡ 0 ∷ [])
    × (actives (alone (before max6975 0x10 Configuration clear 131071) (high false ∷ [])) ≡ one ∷ [])
unfolding clock chain run tick step_clocked step_device load activated length_in number split fields bits
cleared-on-return = (refl, refl)

-- 4f: one clock earlier: 131,071, then 131,072 and no boundary
pub cleared-before-return : (positions (alone (before max6975 0x10 Configuration clear 131070) (high false ∷ [])) ≡ 131071 ∷ [])
    × (positions (alone (before max6975 0x10 Configuration clear 131070) (high false ∷ low false ∷ [])) ≡ 131072 ∷ [])
    × (actives (alone (before max6975 0x10 Configuration clear 131070) (high false ∷ low false ∷ [])) ≡ two ∷ [])
unfolding clock chain run tick step_clocked step_device load activated length_in number split fields bits
cleared-before-return = (refl, refl, refl)

-- 4g: copies that differ at 200,001: 200,001
pub copies-differ : positions (alone (before max6975 0 Configuration differing 200000) (high false ∷ [])) ≡ 200001 ∷ []
unfolding clock chain run tick step_clocked step_device load activated length_in number split fields bits
copies-differ = refl

-- 4h: GLB4 on a 6974 at 200,001: 200,001
pub glb4-on-6974 : positions (alone (before max6974 0 Configuration set 200000) (high false ∷ [])) ≡ 200001 ∷ []
unfolding clock chain run tick step_clocked step_device load activated length_in number split fields bits
glb4-on-6974 = refl

-- 4i: the single step through the same configuration at 200,000: 68,928
pub single_step : (step_clocked (before max6975 0 Configuration set 200000) (high false)).0.position ≡ 68928
unfolding step_clocked step_device load length_in number split fields bits
single_step = refl
