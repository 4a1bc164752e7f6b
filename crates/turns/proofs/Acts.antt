-- What a line state does to two records that agree in all that it reads: it moves the phase, or the slice too, or stores, and does the same in
-- both. So a device steps as it did with another watchdog. By cases on the phase. Assumes nothing.
use mathlib.Core.Path.{◌≡◌, refl, sym, ap}
use mathlib.Core.Bool.{Bool, true, false, cond}
use mathlib.Core.List.{List, map-id}
use Prim.Native.Nat.{ℕ, ◌+◌, ◌/◌, ◌%◌}
use lib.Dec.{ltb}
use lib.ListN.{get_or, set}
use Rattle.machine.specs.Machine as machine
use Rattle.machine.proofs.Machine.{run-view}
use Rattle.parts.specs.Parts.{part_of, field_width, field_limit}
use Rattle.parts.specs.declared.command.Command.{Command}
use Rattle.parts.specs.declared.command.Command.TheVariants.{Individual, Calibration, Global, Configuration}
use Rattle.phases.specs.Phases.{phase_of, heard, rising, opening, counting, pushed}
use Rattle.phases.specs.declared.phase.Place.{Place}
use Rattle.phases.specs.declared.phase.Phase.{Phase}
use Rattle.phases.specs.declared.phase.Phase.TheVariants.{Hunting, Opening, Counting, Slice, Passing, Lost}
use Rattle.phases.specs.declared.phase.Sent.TheVariants.{One, Header}
use Rattle.watch.specs.declared.watch.Watch.{Watch}
use Rattle.registers.specs.Held.{with_slice, with_watch, fault, raised}
use Rattle.registers.specs.declared.registers.Registers.{Registers}
use Rattle.turns.proofs.Stored.{stored-watch}
use Rattle.storing.specs.Stored.{stored}
use Rattle.device.specs.Step.{step, step_high, moved, sending, slice_length, refit_device, sent_states}
use Rattle.device.specs.Run.{step_record}
use Rattle.device.specs.declared.device.Device.{Device}
use Rattle.device.specs.declared.device.Stepped.{Stepped}

-- machines that send the same, seen through f
pub run-seen : {S S' X : Type 0} (go : S → X → S × List X) (go' : S' → X → S' × List X) (f : S' → S) → ((s : S') (x : X) → (f (go' s x).0, (go' s x).1) ≡ go (f s) x)
    → (s : S') (xs : List X) → (f (machine.run go' s xs).0, (machine.run go' s xs).1) ≡ machine.run go (f s) xs
run-seen {X = X} go go' f same s xs =
    simp map-id at (run-view go go' f (λ (x : X). x) (λ _. Unit {0}) (λ s x u. tt) (λ s x u. rw map-id (same s x)) s xs tt)

-- ---- one line state

-- registers that agree in what a line state reads; what a store keeps of the others may differ
pub record Reads (r q : Registers) : Type 0 where
  pub part : q.part ≡ r.part
  pub configuration : q.configuration ≡ r.configuration
  pub slice : q.slice ≡ r.slice
  pub overtemperature : q.overtemperature ≡ r.overtemperature
  pub openled : q.openled ≡ r.openled

-- any registers with themselves
pub reads_same : (r : Registers) → Reads r r
reads_same r = record { part = refl; configuration = refl; slice = refl; overtemperature = refl; openled = refl }

-- what a line state makes of both
pub data Acts (r q : Registers) : Stepped → Stepped → Type 0 where
  stays : (p : Phase) → Acts r q (moved r p) (moved q p)
  passes : (p : Phase) (s : ℕ) → Acts r q (sending r p (One s)) (sending q p (One s))
  moves : (slice : List ℕ) (p : Phase) → Acts r q (moved (with_slice r slice) p) (moved (with_slice q slice) p)
  stores : (slice : List ℕ) (c : Command) (n : ℕ)
      → Acts r q (sending (stored (with_slice r slice) c) Passing (Header c n)) (sending (stored (with_slice q slice) c) Passing (Header c n))

fault-reads : (r q : Registers) (c : Command) → q.overtemperature ≡ r.overtemperature → q.openled ≡ r.openled → fault q c ≡ fault r c
fault-reads r q Individual e f = e
fault-reads r q Calibration e f = f
fault-reads r q Global e f = e
fault-reads r q Configuration e f = f

module _ (r q : Registers) (e : Reads r q) where
  high-acts : (p : Phase) (s : ℕ) → Acts r q (step_high r p s) (step_high q p s)
  high-acts (Hunting window) s = stays (rising window (s % 2))
  high-acts (Opening read) s = stays (opening read (s % 2))
  high-acts (Counting c read) s = stays (counting c read (s % 2))
  high-acts (Slice c n taken) s =
      let y : Registers = with_slice r (bits r) in
      let z : Registers = with_slice q (bits q) in
      go (ltb (taken + 1) (slice_length r c)) (bits r) (fault y c) (ltb (taken + 1) (slice_length q c)) (bits q) (fault z c) (rw (e.part, e.configuration)) (rw (e.part, e.slice))
      (fault-reads y z c e.overtemperature e.openled)
    where
      -- the slice with the bit
      bits : Registers → List ℕ
      bits z =
          let k : ℕ = taken / field_width (part_of z.part) c in
          set z.slice k (pushed (get_or z.slice k 0) (s % 2) (field_limit (part_of z.part) c))

      next : Registers → Bool → List ℕ → ℕ → Stepped
      next z b l f = cond b (moved (with_slice z l) (Slice c n (taken + 1))) (sending (stored (with_slice z l) c) Passing (Header c (raised n f)))

      go : (b : Bool) (l : List ℕ) (f : ℕ) (b' : Bool) (l' : List ℕ) (f' : ℕ) → b' ≡ b → l' ≡ l → f' ≡ f → Acts r q (next r b l f) (next q b' l' f')
      go true l f b' l' f' x y z = rw (x, y) (moves l (Slice c n (taken + 1)))
      go false l f b' l' f' x y z = rw (x, y, z) (stores l c (raised n f))
  high-acts Passing s = passes Passing s
  high-acts Lost s = stays Lost

  pub acts : (p : Place) (s : ℕ) → Acts r q (step (record { registers = r; place = p }) s) (step (record { registers = q; place = p }) s)
  acts p s = go (ltb s 2)
    where
      go : (b : Bool) → Acts r q (cond b (moved r (heard (phase_of p) s)) (step_high r (phase_of p) s)) (cond b (moved q (heard (phase_of p) s)) (step_high q (phase_of p) s))
      go true = stays (heard (phase_of p) s)
      go false = high-acts (phase_of p) s

-- ---- with another watchdog

module _ (w : Watch) where
  abbrev pub rewatched : Device → Device
  rewatched d = record { registers = with_watch d.registers w; place = d.place }

  acts-watch : {r : Registers} {x y : Stepped} → Acts r (with_watch r w) x y → y ≡ record { device = rewatched x.device; sent = x.sent }
  acts-watch (stays p) = refl
  acts-watch (passes p s) = refl
  acts-watch (moves slice p) = refl
  acts-watch {r} (stores slice c n) = ap (λ (q : Registers). sending q Passing (Header c n)) (stored-watch w (with_slice r slice) c)

  pub step-watched : (d : Device) (s : ℕ) → (rewatched (step_record d s).0, (step_record d s).1) ≡ step_record (rewatched d) s
  unfolding step_record
  step-watched d s =
      let r : Registers = d.registers in
      let e : Reads r (with_watch r w) = record { part = refl; configuration = refl; slice = refl; overtemperature = refl; openled = refl } in
      ap (λ (y : Stepped). (refit_device r y.device, sent_states y.sent)) (sym (acts-watch (acts r (with_watch r w) e d.place s)))
