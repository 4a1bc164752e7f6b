-- What a run sends depends neither on clocks nor on watchdogs: a device's position, its individual values, its active values and its watchdog decide
-- nothing that it sends. The run clock by clock and the plain one, device by device, are one machine, seen with all these forgotten after each
-- step. By the view. Assumes nothing.
use mathlib.Core.Path.{◌≡◌, refl, sym, ap, ◌∙◌}
use mathlib.Core.Bool.{Bool, true, false, cond}
use mathlib.Core.List.{List, [], ◌∷◌, map, map-id}
use Prim.Native.Nat.{ℕ}
use lib.Dec.{eqb}
use Rattle.machine.specs.Machine as machine
use Rattle.machine.specs.Machine.{chain, All}
use Rattle.machine.proofs.Machine.{chain-view, clocks-still, relays-clocks, relays-view}
use Rattle.parts.specs.Parts.{multiplex}
use Rattle.parts.specs.declared.command.Command.{Command}
use Rattle.parts.specs.declared.command.Command.TheVariants.{Individual, Calibration, Global, Configuration}
use Rattle.phases.specs.declared.phase.Phase.TheVariants.{Passing}
use Rattle.phases.specs.declared.phase.Sent.TheVariants.{Header}
use Rattle.watch.specs.Watch.{fresh_watch, expired, watching}
use Rattle.watch.specs.declared.watch.Watch.{Watch}
use Rattle.registers.specs.Held.{holding, with_slice, with_watch, activated, cleared}
use Rattle.registers.specs.declared.registers.Registers.{Registers}
use Rattle.positions.specs.Positions.{next, placed_at, ticked}
use Rattle.storing.specs.Stored.{stored, copies}
use Rattle.device.specs.Step.{step, at, ticked_device, sent_states}
use Rattle.device.specs.Run.{step_record, watched, clock_record}
use Rattle.device.specs.declared.device.Device.{Device}
use Rattle.device.specs.declared.device.Stepped.{Stepped}
use Rattle.device.proofs.Shown.{shown}
use Rattle.calls.specs.Chain.{through}
use Rattle.turns.proofs.Timed.{step_plain, pass_plain}
use Rattle.turns.proofs.Acts.{run-seen, Reads, Acts, stays, passes, moves, stores, acts}

-- registers without individual values, active values and watchdog, at position 0
abbrev bare_registers : Registers → Registers
bare_registers r = with_watch (shown 0 [] [] 0 (holding r r.configuration r.calibration r.waiting [] [] r.slice)) (fresh_watch 0 0)

abbrev bare : Device → Device
bare d = record { registers = bare_registers d.registers; place = d.place }

-- what is sent, and what is left of the device
abbrev bare_step : Stepped → Device × List ℕ
bare_step x = (bare x.device, sent_states x.sent)

step_bare : Device → ℕ → Device × List ℕ
step_bare d s = bare_step (step d s)

-- ---- one step

stored-bare : (r : Registers) (c : Command) → bare_registers (stored r c) ≡ bare_registers (stored (bare_registers r) c)
stored-bare r Individual = by (eqb (multiplex r.configuration) 0) refl
  where
    by : (b : Bool) → eqb (multiplex r.configuration) 0 ≡ b → bare_registers (stored r Individual) ≡ bare_registers (stored (bare_registers r) Individual)
    by true e = rw e
    by false e = rw e
stored-bare r Calibration = refl
stored-bare r Global = by (copies r) refl
  where
    by : (b : Bool) → copies r ≡ b → bare_registers (stored r Global) ≡ bare_registers (stored (bare_registers r) Global)
    by true e = rw e
    by false e = rw e
stored-bare r Configuration = by (copies r) refl
  where
    by : (b : Bool) → copies r ≡ b → bare_registers (stored r Configuration) ≡ bare_registers (stored (bare_registers r) Configuration)
    by true e = rw e
    by false e = rw e

acts-bare : {r : Registers} {x y : Stepped} → Acts r (bare_registers r) x y → bare_step x ≡ bare_step y
acts-bare (stays p) = refl
acts-bare (passes p s) = refl
acts-bare (moves slice p) = refl
acts-bare {r} (stores slice c n) = ap (λ (q : Registers). (at q Passing, sent_states (Header c n))) (stored-bare (with_slice r slice) c)

step-bare : (d : Device) (s : ℕ) → bare_step (step d s) ≡ step_bare (bare d) s
unfolding step_bare
step-bare d s =
    let r : Registers = d.registers in
    let e : Reads r (bare_registers r) = record { part = refl; configuration = refl; slice = refl; overtemperature = refl; openled = refl } in
    acts-bare (acts r (bare_registers r) e d.place s)

record-bare : (d : Device) (s : ℕ) → (bare (step_record d s).0, (step_record d s).1) ≡ step_bare (bare d) s
unfolding step_record
record-bare d s = step-bare d s

plain-bare : (d : Device) (s : ℕ) → (bare (step_plain d s).0, (step_plain d s).1) ≡ step_bare (bare d) s
unfolding step_plain
plain-bare d s = step-bare d s

-- ---- one clock

ticked-bare : (r : Registers) → bare_registers (ticked r) ≡ bare_registers r
unfolding ticked
ticked-bare r = go (eqb (next r) 0)
  where
    go : (b : Bool) → bare_registers (placed_at (cond b (activated r) r) (next r)) ≡ bare_registers r
    go true = refl
    go false = refl

watched-bare : (sent : List ℕ) (r : Registers) → bare_registers (watched sent r) ≡ bare_registers r
unfolding watched
watched-bare sent r = go (expired w)
  where
    w : Watch
    w = watching r.configuration sent r.watch

    go : (b : Bool) → bare_registers (cond b (cleared (with_watch r w)) (with_watch r w)) ≡ bare_registers r
    go true = refl
    go false = refl

clock-bare : (d : Device) (ss : List ℕ) → (bare (clock_record d ss).0, (clock_record d ss).1) ≡ machine.run step_bare (bare d) ss
unfolding clock_record
clock-bare d ss =
    let x : Device × List ℕ = machine.run step_record (ticked_device d) ss in
    ap (λ (r : Registers). (record { registers = r; place = x.0.place }, x.1)) (watched-bare ss x.0.registers)
    ∙ run-seen step_bare step_record bare record-bare (ticked_device d) ss
    ∙ ap (λ (r : Registers). machine.run step_bare (record { registers = r; place = d.place }) ss) (ticked-bare d.registers)

-- ---- a run

always : {A : Type 0} (xs : List A) → All (λ _. Unit {0}) xs
always [] = tt
always (x ∷ xs) = (tt, always xs)

through-bare : (ds : List Device) (ss : List ℕ) → (map bare (through ds ss).0, (through ds ss).1) ≡ chain step_bare (map bare ds) ss
through-bare ds ss =
    simp map-id at (relays-view (λ d xs. machine.run step_bare d xs) clock_record bare (λ (x : ℕ). x) (λ _. Unit {0}) (λ _. Unit {0}) (λ d xs p q. tt)
    (λ d xs p q. always (clock_record d xs).1) (λ d xs p q. simp map-id (clock-bare d xs)) ds ss (always ds) (always ss))
    ∙ relays-clocks step_bare (λ (d : Device). d) (map bare ds) ss ∙ clocks-still step_bare (map bare ds) ss

pass-bare : (ds : List Device) (ss : List ℕ) → (map bare (pass_plain ds ss).0, (pass_plain ds ss).1) ≡ chain step_bare (map bare ds) ss
pass-bare ds ss =
    simp map-id at (chain-view step_bare step_plain bare (λ (x : ℕ). x) (λ _. Unit {0}) (λ d s u. tt) (λ d s u. rw map-id (plain-bare d s)) ds ss (always ds))

pub sent-plain : (ds : List Device) (ss : List ℕ) → (through ds ss).1 ≡ (pass_plain ds ss).1
sent-plain ds ss = ap (λ (y : List Device × List ℕ). y.1) (through-bare ds ss ∙ sym (pass-bare ds ss))
