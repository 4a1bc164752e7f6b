-- While the host gives states at low load every device ages, and nothing else but phases changes. By induction on the states. Assumes nothing.
use mathlib.Core.Path.{◌≡◌, refl, sym, ap, ◌∙◌}
use mathlib.Core.Bool.{Bool}
use mathlib.Core.List.{List, [], ◌∷◌, map, map-id, map-map}
use Prim.Native.Nat.{ℕ, zero, suc}
use native.Mathlib.Omega.{arith}
use lib.ListN.{length}
use borrow.Author.Tests.{le-ltb}
use Rattle.parts.specs.Wire.{State, low, lows}
use Rattle.machine.specs.Machine.{All, run, chain, clock}
use Rattle.machine.proofs.Machine.{run-one, chain-nil}
use Rattle.model.specs.Device.{passing, at, step_device, registers_in}
use Rattle.clocked.specs.Clock.{Clocked, registers_of, length_of, Placed, tick, aged, refit, step_clocked, run_clocked, devices_in}
use Rattle.clocked.proofs.Aged.{ticks, ticks-aged}

-- a device with one phase for all
abbrev pub unphased : Clocked → Clocked
unphased c = record { device = at (registers_of c) passing; position = c.position }

-- a frame of the same length keeps the position
refit-same : (n position : ℕ) → refit n n position ≡ position
refit-same n position = rw (le-ltb n n (omega arith))

unphased-tick : (c : Clocked) → tick (unphased c) ≡ unphased (tick c)
unfolding tick
unphased-tick c = refl

unphased-ticks : (n : ℕ) (c : Clocked) → unphased (ticks n c) ≡ ticks n (unphased c)
unphased-ticks zero c = refl
unphased-ticks (suc n) c = unphased-ticks n (tick c) ∙ ap (ticks n) (sym (unphased-tick c))

unphased-all : (n : ℕ) (cs : List Clocked) → map unphased (map (ticks n) cs) ≡ map (ticks n) (map unphased cs)
unphased-all n [] = refl
unphased-all n (c ∷ cs) = rw (unphased-ticks n c, unphased-all n cs)

low_step : (c : Clocked) (b : Bool) → ◌≡◌ {A = Clocked × List State} (unphased (step_clocked c (low b)).0, (step_clocked c (low b)).1) (unphased c, [])
unfolding step_clocked step_device
low_step c b = rw (refit-same (length_of c) c.position)

low-one : (cs : List Clocked) (b : Bool) → map unphased (clock step_clocked tick cs (low b)).0 ≡ map unphased (map tick cs)
unfolding clock chain
low-one [] b = refl
low-one (c ∷ cs) b =
    let e = low_step (tick c) b in
    let s : (step_clocked (tick c) (low b)).1 ≡ [] = ap (λ r. r.1) e in
    let d : unphased (step_clocked (tick c) (low b)).0 ≡ unphased (tick c) = ap (λ r. r.0) e in
    rw (run-one step_clocked (tick c) (low b), s, chain-nil step_clocked (map tick cs), d)

low-ticks : (bs : List Bool) (cs : List Clocked) → map unphased (run_clocked cs (lows bs)).0 ≡ map unphased (map (ticks (length bs)) cs)
unfolding run
low-ticks [] cs = ap (map unphased) (sym (map-id cs))
low-ticks (b ∷ bs) cs =
    let ts : List Clocked = (clock step_clocked tick cs (low b)).0 in
    low-ticks bs ts ∙ unphased-all (length bs) ts ∙ ap (map (ticks (length bs))) (low-one cs b)
    ∙ sym (unphased-all (length bs) (map tick cs)) ∙ ap (map unphased) (map-map (ticks (length bs)) tick cs)

aged-all : (n : ℕ) (cs : List Clocked) → All Placed cs → map (ticks n) cs ≡ map (aged n) cs
aged-all n [] h = refl
aged-all n (c ∷ cs) h = rw (ticks-aged n c h.0, aged-all n cs h.1)

-- Low: every device ages
pub low-aged : (bs : List Bool) (cs : List Clocked) → All Placed cs → map unphased (run_clocked cs (lows bs)).0 ≡ map unphased (map (aged (length bs)) cs)
low-aged bs cs h = low-ticks bs cs ∙ ap (map unphased) (aged-all (length bs) cs h)

-- the same of registers, and of positions
registers-unphased : (cs : List Clocked) → registers_in (devices_in (map unphased cs)) ≡ registers_in (devices_in cs)
registers-unphased [] = refl
registers-unphased (c ∷ cs) = rw (registers-unphased cs)

positions-unphased : (cs : List Clocked) → map (λ c. c.position) (map unphased cs) ≡ map (λ c. c.position) cs
positions-unphased [] = refl
positions-unphased (c ∷ cs) = rw (positions-unphased cs)

pub low-registers : (bs : List Bool) (cs : List Clocked) → All Placed cs
    → registers_in (devices_in (run_clocked cs (lows bs)).0) ≡ registers_in (devices_in (map (aged (length bs)) cs))
low-registers bs cs h =
    sym (registers-unphased (run_clocked cs (lows bs)).0) ∙ ap (λ (ts : List Clocked). registers_in (devices_in ts)) (low-aged bs cs h)
    ∙ registers-unphased (map (aged (length bs)) cs)

pub low-positions : (bs : List Bool) (cs : List Clocked) → All Placed cs
    → map (λ c. c.position) (run_clocked cs (lows bs)).0 ≡ map (λ c. c.position) (map (aged (length bs)) cs)
low-positions bs cs h =
    sym (positions-unphased (run_clocked cs (lows bs)).0) ∙ ap (map (λ (c : Clocked). c.position)) (low-aged bs cs h)
    ∙ positions-unphased (map (aged (length bs)) cs)
