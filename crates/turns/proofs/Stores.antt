-- A device that stores: nothing is sent before the last bit of its slice, and at that state its watchdog hears it with the configuration then held.
-- What it has heard before goes into its record first, as `settled` says it. By induction on the states, and by cases on what is stored. Assumes
-- nothing.
use mathlib.Core.Path.{◌≡◌, refl, sym, ap, ◌∙◌, subst}
use mathlib.Core.Bool.{Bool, true, false, cond, ◌||◌}
use mathlib.Core.List.{List, [], ◌∷◌, ◌++◌}
use Prim.Native.Nat.{ℕ, ◌+◌, ◌-◌, ◌/◌, ◌%◌, ◌^◌}
use native.Mathlib.Omega.{arith}
use lib.Dec.{eqb, ltb}
use lib.ListN.{length}
use Rattle.tables.proofs.Booleans.{cond_both}
use Rattle.machine.specs.Machine.{and_then}
use Rattle.machine.proofs.Machine.{run-one, run-append}
use Rattle.parts.specs.Parts.{part_of, multiplex, field_width, field_limit}
use Rattle.parts.specs.declared.command.Command.{Command}
use Rattle.parts.specs.declared.command.Command.TheVariants.{Individual, Calibration, Global, Configuration}
use Rattle.watch.specs.Kept.{expired_by, watch_in, listened}
use Rattle.watch.proofs.Clocks.{told, listened-bit}
use Rattle.watch.specs.declared.watch.Watch.{Watch}
use Rattle.watch.specs.declared.kept.Listened.{Listened}
use Rattle.phases.specs.Phases.{phase_of, heard}
use Rattle.phases.specs.declared.phase.Phase.{Phase}
use Rattle.phases.specs.declared.phase.Phase.TheVariants.{Hunting, Opening, Counting, Slice, Passing, Lost}
use Rattle.phases.specs.declared.phase.Sent.{Sent}
use Rattle.phases.specs.declared.phase.Sent.TheVariants.{Nothing, One, Header}
use Rattle.registers.specs.Held.{with_watch, with_slice, took, fault, raised}
use Rattle.registers.specs.declared.registers.Registers.{Registers}
use Rattle.positions.specs.Running.{dated}
use Rattle.storing.specs.Stored.{stored, copies}
use Rattle.device.specs.Step.{step, step_high, at, moved, sending, slice_length, sent_states}
use Rattle.device.specs.declared.device.Device.{Device}
use Rattle.device.specs.declared.device.Stepped.{Stepped}
use Rattle.intake.specs.Intake.{Taken, stopped, dated_by, dated_step, step_in, unless_sent, high_taken}
use Rattle.intake.proofs.Settled.{dated-slice}
use Rattle.turns.specs.Watching.{is_on, cleared_if, cleared_device, hearing}
use Rattle.turns.proofs.Timed.{Timed, stamp, stamped, states, timed, step_timed, run_timed, timed-none, timed-cons, states-stamped}
use Rattle.turns.proofs.Taking.{High}
use Rattle.turns.proofs.Hearing.{heard_registers, after, hearing-after, hearing-on}
use Rattle.turns.proofs.Heard.{less_one, Quiet, quietly, SliceOnly, step-slice, cleared-hearing, hearing-quiet, quietly-hearing, late-quiet, quietly-on}
use Rattle.turns.proofs.Late.{Packet, packet, singles, before, step_late, run_late, singles-none, singles-cons, singles-append}

-- ---- where the last state of a turn stores

pub record StoresLast (d : Device) (ss : List ℕ) (k : ℕ) (c : Command) (n : ℕ) (t : Taken) : Type 0 where
  pub init : List ℕ
  pub last : ℕ
  pub rest : List ℕ
  pub whole : ss ≡ init ++ last ∷ rest
  pub quiet : Quiet d init
  pub high : High (timed k (init ++ last ∷ []))
  pub far : t.at ≡ k + length init + 1
  pub sends : (step (quietly d init) last).sent ≡ Header c n
  pub device : (step_in (k + length init + 1) (quietly d init) last).device ≡ t.device

no_header : {c : Command} {n : ℕ} → Nothing ≡ Header c n → ⊥
no_header e = let w : ◌≡◌ {A = ℕ} 0 1 = ap count e in omega (arith, w)
  where
    count : Sent → ℕ
    count Nothing = 0
    count (One s) = 0
    count (Header c n) = 1

one-header : {s : ℕ} {c : Command} {n : ℕ} → One s ≡ Header c n → ⊥
one-header e = let w : ◌≡◌ {A = ℕ} 0 1 = ap count e in omega (arith, w)
  where
    count : Sent → ℕ
    count Nothing = 0
    count (One s) = 0
    count (Header c n) = 1

pub stores-last : (ss : List ℕ) (d : Device) (k : ℕ) (c : Command) (n : ℕ) → (high_taken d ss k).sent ≡ Header c n → StoresLast d ss k c n (high_taken d ss k)
unfolding high_taken quietly
stores-last [] d k c n e = absurd (no_header e)
stores-last (s ∷ ss) d k c n e = go (λ h. stores-last ss (step_in (k + 1) d s).device (k + 1) c n h) (ltb s 2) refl e
  where
    x : Stepped
    x = step_in (k + 1) d s

    taken : Bool → Sent → Taken
    taken l y = cond l (stopped d k Nothing) (unless_sent y (high_taken x.device ss (k + 1)) (stopped x.device (k + 1) y))

    -- nothing is sent, so the device is that of the step
    same : (step d s).sent ≡ Nothing → x.device ≡ (step d s).device
    same f = ap (λ (y : Sent). dated_by y (k + 1) d.registers (step d s).device) f

    quiet-on : (step d s).sent ≡ Nothing → ltb s 2 ≡ false → StoresLast x.device ss (k + 1) c n (high_taken x.device ss (k + 1)) → StoresLast d (s ∷ ss) k c n (high_taken x.device ss (k + 1))
    quiet-on f l r =
        let e1 : k + 1 + length r.init + 1 ≡ k + length (s ∷ r.init) + 1 = omega arith in
        let g : quietly x.device r.init ≡ quietly (step d s).device r.init = ap (λ (y : Device). quietly y r.init) (same f) in
        record {
          init = s ∷ r.init;
          last = r.last;
          rest = r.rest;
          whole = ap (λ (xs : List ℕ). s ∷ xs) r.whole;
          quiet = Quiet.also f (subst (λ (y : Device). Quiet y r.init) (same f) r.quiet);
          high = rw (timed-cons k s (r.init ++ r.last ∷ [])) (High.also l r.high);
          far = r.far ∙ e1;
          sends = ap (λ (y : Device). (step y r.last).sent) (sym g) ∙ r.sends;
          device = ap (λ (y : Device). (step_in (k + length (s ∷ r.init) + 1) y r.last).device) (sym g)
              ∙ ap (λ (m : ℕ). (step_in m (quietly x.device r.init) r.last).device) (sym e1) ∙ r.device;
        }

    Further : Type 0
    Further = (high_taken x.device ss (k + 1)).sent ≡ Header c n → StoresLast x.device ss (k + 1) c n (high_taken x.device ss (k + 1))

    by : Further → (y : Sent) → (step d s).sent ≡ y → ltb s 2 ≡ false → (taken false y).sent ≡ Header c n → StoresLast d (s ∷ ss) k c n (taken false y)
    by on Nothing f l h = quiet-on f l (on h)
    by on (One b) f l h = absurd (one-header h)
    by on (Header a m) f l h =
        let e0 : k + 1 ≡ k + 0 + 1 = omega arith in
        record {
          init = [];
          last = s;
          rest = ss;
          whole = refl;
          quiet = Quiet.none;
          high = rw (timed-cons k s [], timed-none (k + 1)) (High.also l High.none);
          far = e0;
          sends = f ∙ h;
          device = ap (λ (m : ℕ). (step_in m d s).device) (sym e0);
        }

    go : Further → (l : Bool) → ltb s 2 ≡ l → (taken l (step d s).sent).sent ≡ Header c n → StoresLast d (s ∷ ss) k c n (taken l (step d s).sent)
    go on true l h = absurd (no_header h)
    go on false l h = by on (step d s).sent refl l h

-- ---- the store

stored-watch : (w : Watch) (r : Registers) (c : Command) → stored (with_watch r w) c ≡ with_watch (stored r c) w
stored-watch w r Individual = by (eqb (multiplex r.configuration) 0) refl
  where
    by : (b : Bool) → eqb (multiplex r.configuration) 0 ≡ b → stored (with_watch r w) Individual ≡ with_watch (stored r Individual) w
    by true e = rw e
    by false e = rw e
stored-watch w r Calibration = refl
stored-watch w r Global = by (copies r) refl
  where
    by : (b : Bool) → copies r ≡ b → stored (with_watch r w) Global ≡ with_watch (stored r Global) w
    by true e = rw e
    by false e = rw e
stored-watch w r Configuration = by (copies r) refl
  where
    by : (b : Bool) → copies r ≡ b → stored (with_watch r w) Configuration ≡ with_watch (stored r Configuration) w
    by true e = rw e
    by false e = rw e

dated-watch : (w : Watch) (t : ℕ) (old new : Registers) → dated t (with_watch old w) (with_watch new w) ≡ with_watch (dated t old new) w
unfolding dated
dated-watch w t old new = refl

dated-keeps : (t : ℕ) (old new : Registers) → (dated t old new).slice ≡ new.slice
unfolding dated
dated-keeps t old new = refl

stored-slice : (r : Registers) (c : Command) → (stored r c).slice ≡ r.slice
stored-slice r Individual = cond_both (λ (x : Registers). x.slice ≡ r.slice) (eqb (multiplex r.configuration) 0) _ _ (λ _. refl) (λ _. refl)
stored-slice r Calibration = refl
stored-slice r Global = cond_both (λ (x : Registers). x.slice ≡ r.slice) (copies r) _ _ (λ _. refl) (λ _. refl)
stored-slice r Configuration = cond_both (λ (x : Registers). x.slice ≡ r.slice) (copies r) _ _ (λ _. refl) (λ _. refl)

-- what a store makes of registers whose slice is then sl
abbrev pub stored_with : ℕ → Registers → List ℕ → Command → Registers
stored_with t r sl c = dated t r (stored (with_slice r sl) c)

-- a device that stores at a state: whatever it has heard, the slice that is then whole is stored into what it holds
pub record Stores (e : Device) (s t : ℕ) (c : Command) (n : ℕ) : Type 0 where
  pub slice : List ℕ
  pub is : (b : Listened) → step_in t (hearing b e) s ≡ record { device = at (stored_with t (heard_registers b e.registers) slice c) Passing; sent = Header c n }

header-same : {c a : Command} {n m : ℕ} → Header a m ≡ Header c n → (a ≡ c) × (m ≡ n)
header-same e = (ap command e, ap count e)
  where
    command : Sent → Command
    command Nothing = Individual
    command (One s) = Individual
    command (Header c n) = c

    count : Sent → ℕ
    count Nothing = 0
    count (One s) = 0
    count (Header c n) = n

fault-heard : (x : Bool) (w : Watch) (r : Registers) (sl : List ℕ) (c : Command) → fault (with_slice (with_watch (cleared_if x r) w) sl) c ≡ fault (with_slice r sl) c
fault-heard true w r sl Individual = refl
fault-heard true w r sl Calibration = refl
fault-heard true w r sl Global = refl
fault-heard true w r sl Configuration = refl
fault-heard false w r sl Individual = refl
fault-heard false w r sl Calibration = refl
fault-heard false w r sl Global = refl
fault-heard false w r sl Configuration = refl

record HighStores (r : Registers) (p : Phase) (s t : ℕ) (c : Command) (n : ℕ) : Type 0 where
  pub slice : List ℕ
  pub is : (b : Listened)
      → dated_step t (heard_registers b r) (step_high (heard_registers b r) p s) ≡ record { device = at (stored_with t (heard_registers b r) slice c) Passing; sent = Header c n }

high-stores : (r : Registers) (p : Phase) (s t : ℕ) (c : Command) (n : ℕ) → (step_high r p s).sent ≡ Header c n → HighStores r p s t c n
high-stores r (Hunting window) s t c n e = absurd (no_header e)
high-stores r (Opening read) s t c n e = absurd (no_header e)
high-stores r (Counting a read) s t c n e = absurd (no_header e)
high-stores r (Slice a m k) s t c n e = by (ltb (k + 1) (slice_length r a)) refl e
  where
    taken : Registers → Registers
    taken z = took z (k / field_width (part_of z.part) a) (s % 2) (field_limit (part_of z.part) a)

    more : Registers → Bool → Stepped
    more z l = cond l (moved (taken z) (Slice a m (k + 1))) (sending (stored (taken z) a) Passing (Header a (raised m (fault (taken z) a))))

    heard-more : (x : Bool) (w : Watch) → ltb (k + 1) (slice_length r a) ≡ false
        → let z : Registers = with_watch (cleared_if x r) w in
        dated_step t z (more z (ltb (k + 1) (slice_length z a))) ≡ record { device = at (stored_with t z (taken r).slice a) Passing; sent = Header a (raised m (fault (taken r) a)) }
    heard-more true w l = rw (l, fault-heard true w r (taken r).slice a)
    heard-more false w l = rw (l, fault-heard false w r (taken r).slice a)

    by : (l : Bool) → ltb (k + 1) (slice_length r a) ≡ l → (more r l).sent ≡ Header c n → HighStores r (Slice a m k) s t c n
    by true l f = absurd (no_header f)
    by false l f =
        let h = header-same f in
        record {
          slice = (taken r).slice;
          is = λ b. heard-more b.expired b.watch l
              ∙ ap (λ (z : Command). record { device = at (stored_with t (heard_registers b r) (taken r).slice z) Passing; sent = Header z (raised m (fault (taken r) a)) }) h.0
              ∙ ap (λ (z : ℕ). record { device = at (stored_with t (heard_registers b r) (taken r).slice c) Passing; sent = Header c z }) h.1;
        }
high-stores r Passing s t c n e = absurd (one-header e)
high-stores r Lost s t c n e = absurd (no_header e)

pub stores : (e : Device) (s t : ℕ) (c : Command) (n : ℕ) → (step e s).sent ≡ Header c n → Stores e s t c n
stores e s t c n h = by (ltb s 2) refl h
  where
    r : Registers
    r = e.registers

    p : Phase
    p = phase_of e.place

    by : (l : Bool) → ltb s 2 ≡ l → (cond l (moved r (heard p s)) (step_high r p s)).sent ≡ Header c n → Stores e s t c n
    by true l f = absurd (no_header f)
    by false l f =
        let g : HighStores r p s t c n = high-stores r p s t c n f in
        record { slice = g.slice; is = λ b. ap (λ (z : Bool). dated_step t (heard_registers b r) (cond z (moved (heard_registers b r) (heard p s)) (step_high (heard_registers b r) p s))) l ∙ g.is b }

-- what is heard before goes into the record first, and the slice that was collected before does not matter
settled-heard : (t : ℕ) (b : Listened) (r : Registers) (old sl : List ℕ) (c : Command)
    → stored_with t (heard_registers b (with_slice r old)) sl c ≡ with_watch (stored_with t (cleared_if b.expired r) sl c) b.watch
settled-heard t b r old sl c = go b.expired
  where
    both : (q : Registers) → dated t (with_watch q b.watch) (stored (with_watch (with_slice q sl) b.watch) c) ≡ with_watch (stored_with t q sl c) b.watch
    both q = ap (λ (z : Registers). dated t (with_watch q b.watch) z) (stored-watch b.watch (with_slice q sl) c) ∙ dated-watch b.watch t q (stored (with_slice q sl) c)

    go : (x : Bool) → stored_with t (with_watch (cleared_if x (with_slice r old)) b.watch) sl c ≡ with_watch (stored_with t (cleared_if x r) sl c) b.watch
    go true = dated-slice t (with_watch (cleared_if true r) b.watch) old _ ∙ both (cleared_if true r)
    go false = dated-slice t (with_watch r b.watch) old _ ∙ both r

-- ---- the states up to a store, heard

stored-watched : (r : Registers) (c : Command) → (stored r c).watch ≡ r.watch
stored-watched r Individual = cond_both (λ (x : Registers). x.watch ≡ r.watch) (eqb (multiplex r.configuration) 0) _ _ (λ _. refl) (λ _. refl)
stored-watched r Calibration = refl
stored-watched r Global = cond_both (λ (x : Registers). x.watch ≡ r.watch) (copies r) _ _ (λ _. refl) (λ _. refl)
stored-watched r Configuration = cond_both (λ (x : Registers). x.watch ≡ r.watch) (copies r) _ _ (λ _. refl) (λ _. refl)

dated-watched : (t : ℕ) (old new : Registers) → (dated t old new).watch ≡ new.watch
unfolding dated
dated-watched t old new = refl

settled-watched : (x : Bool) (t : ℕ) (r : Registers) (sl : List ℕ) (c : Command) → (stored_with t (cleared_if x r) sl c).watch ≡ r.watch
settled-watched x t r sl c = dated-watched t (cleared_if x r) (stored (with_slice (cleared_if x r) sl) c) ∙ stored-watched (with_slice (cleared_if x r) sl) c ∙ go x
  where
    go : (y : Bool) → (cleared_if y r).watch ≡ r.watch
    go true = refl
    go false = refl

pub quietly-slice : (d : Device) (ss : List ℕ) → Quiet d ss → SliceOnly d.registers (quietly d ss).registers
unfolding quietly
quietly-slice d [] Quiet.none = record { slice = d.registers.slice; is = refl }
quietly-slice d (s ∷ ss) (Quiet.also e q) =
    let a : SliceOnly d.registers (step d s).device.registers = step-slice d s e in
    let b : SliceOnly (step d s).device.registers (quietly (step d s).device ss).registers = quietly-slice (step d s).device ss q in
    record { slice = b.slice; is = b.is ∙ ap (λ (r : Registers). with_slice r b.slice) a.is }

-- what a device holds after a store in clock t, having expired before it or not
abbrev pub settled_registers : Bool → ℕ → Registers → List ℕ → Command → Registers
settled_registers x t r sl c = stored_with t (cleared_if x r) sl c

-- a device that has heard b0 takes states at which nothing is sent, and then the one with which it stores
module _ (d : Device) (b0 : Listened) (same : b0.watch.bit ≡ d.registers.watch.bit) (init : List ℕ) (quiet : Quiet d init) (last k : ℕ) (c : Command) (n : ℕ)
    (sends : (step (quietly d init) last).sent ≡ Header c n) where
  abbrev r : Registers
  r = d.registers

  abbrev e : Device
  e = quietly d init

  -- the clock of the store
  abbrev t : ℕ
  t = k + length init + 1

  abbrev on : Bool
  on = is_on r

  abbrev h : Listened
  h = listened on k init b0.watch

  abbrev late : Bool
  late = expired_by on (k + length init) h.watch

  abbrev a : Listened
  a = told h.watch ((b0.expired || h.expired) || late)

  abbrev slice : List ℕ
  slice = (stores e last t c n sends).slice

  abbrev U : Registers
  U = settled_registers a.expired t r slice c

  heard-bit : h.watch.bit ≡ r.watch.bit
  heard-bit = listened-bit on k init b0.watch ∙ same

  watch-kept : e.registers.watch.bit ≡ r.watch.bit
  watch-kept = ap (λ (z : Registers). z.watch.bit) (quietly-slice d init quiet).is

  on-heard : is_on (heard_registers (after b0 h) e.registers) ≡ on
  on-heard = hearing-on (after b0 h) e.registers (heard-bit ∙ sym watch-kept) ∙ quietly-on d init quiet

  -- before the state of the store
  init-late : run_late (hearing b0 d) (singles k init) ≡ (hearing (after b0 h) e, [])
  init-late =
      late-quiet (hearing b0 d) init k (hearing-quiet b0 d init quiet)
      ∙ ap (λ (o : Bool). (hearing (listened o k init b0.watch) (quietly (hearing b0 d) init), [])) (hearing-on b0 r same)
      ∙ ap (λ (z : Device). (hearing h z, [])) (quietly-hearing b0 d init quiet)
      ∙ ap (λ (z : Device). (z, [])) (hearing-after b0 h e)

  -- cleared where it has expired by then
  before-store : before t (hearing (after b0 h) e) ≡ hearing a e
  before-store =
      ap (λ (o : Bool). cleared_device (expired_by o (t - 1) h.watch) (hearing (after b0 h) e)) on-heard
      ∙ ap (λ (m : ℕ). cleared_device (expired_by on m h.watch) (hearing (after b0 h) e)) (less_one (k + length init))
      ∙ cleared-hearing late (hearing (after b0 h) e)
      ∙ hearing-after (after b0 h) (told h.watch late) e

  -- the registers that the store leaves
  store-registers : stored_with t (heard_registers a e.registers) slice c ≡ with_watch U h.watch
  store-registers =
      ap (λ (z : Registers). stored_with t (heard_registers a z) slice c) (quietly-slice d init quiet).is
      ∙ settled-heard t a r (quietly-slice d init quiet).slice slice c

  acts : run_timed (before t (hearing (after b0 h) e)) (stamp t last ∷ []) ≡ (at (with_watch U h.watch) Passing, stamped t (sent_states (Header c n)))
  unfolding step_timed
  acts =
      let g = (stores e last t c n sends).is a in
      ap (λ (y : Device). run_timed y (stamp t last ∷ [])) before-store ∙ run-one step_timed (hearing a e) (stamp t last)
      ∙ ap (λ (x : Stepped). (x.device, stamped t (sent_states x.sent))) g
      ∙ ap (λ (z : Registers). (at z Passing, stamped t (sent_states (Header c n)))) store-registers

  -- the bit goes by the configuration then held
  pub on-stored : (w : Watch) → w.bit ≡ r.watch.bit → is_on (with_watch U w) ≡ is_on U
  on-stored w f =
      ap (λ (m : ℕ). eqb (U.configuration / 2 ^ m % 2) 1) (f ∙ sym (ap (λ (z : Watch). z.bit) (settled-watched a.expired t r slice c)))

  -- what a device makes of a state and sends, late
  abbrev lately : Watch → Bool → Device × List Timed → Device × List Packet
  lately w o y = (
    record { registers = with_watch y.0.registers (watch_in o (is_on y.0.registers) t (last ∷ []) w); place = y.0.place },
    packet t (states y.1),
  )

  store-late : step_late (hearing (after b0 h) e) (record { clock = t; states = last ∷ [] })
      ≡ (at (with_watch U (watch_in on (is_on U) t (last ∷ []) h.watch)) Passing, packet t (sent_states (Header c n)))
  unfolding step_late
  store-late =
      ap (lately h.watch (is_on (heard_registers (after b0 h) e.registers))) acts
      ∙ ap (λ (o : Bool). lately h.watch o (at (with_watch U h.watch) Passing, stamped t (sent_states (Header c n)))) on-heard
      ∙ ap (λ (o : Bool). (at (with_watch U (watch_in on o t (last ∷ []) h.watch)) Passing, packet t (states (stamped t (sent_states (Header c n)))))) (on-stored h.watch heard-bit)
      ∙ ap (λ (zs : List ℕ). (at (with_watch U (watch_in on (is_on U) t (last ∷ []) h.watch)) Passing, packet t zs)) (states-stamped t (sent_states (Header c n)))

  pub late-stores : run_late (hearing b0 d) (singles k (init ++ last ∷ []))
      ≡ (at (with_watch U (watch_in on (is_on U) t (last ∷ []) h.watch)) Passing, packet t (sent_states (Header c n)))
  late-stores =
      ap (run_late (hearing b0 d)) (singles-append k init (last ∷ []))
      ∙ run-append step_late (hearing b0 d) (singles k init) (singles (k + length init) (last ∷ []))
      ∙ ap (λ (y : Device × List Packet). and_then y (λ z. run_late z (singles (k + length init) (last ∷ [])))) init-late
      ∙ ap (run_late (hearing (after b0 h) e)) (singles-cons (k + length init) last [] ∙ ap (λ (xs : List Packet). record { clock = t; states = last ∷ [] } ∷ xs) (singles-none t))
      ∙ run-one step_late (hearing (after b0 h) e) (record { clock = t; states = last ∷ [] })
      ∙ store-late

  -- the slice that is stored is what the device then holds
  pub stored-whole : (q : Taken) → (step_in t e last).device ≡ q.device → slice ≡ q.device.registers.slice
  stored-whole q f =
      let g = (stores e last t c n sends).is (told e.registers.watch false) in
      sym (dated-keeps t e.registers (stored (with_slice e.registers slice) c) ∙ stored-slice (with_slice e.registers slice) c)
      ∙ sym (ap (λ (x : Stepped). x.device.registers.slice) g) ∙ ap (λ (y : Device). y.registers.slice) f
