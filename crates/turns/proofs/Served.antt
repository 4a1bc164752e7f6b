-- What a turn makes of its device, with what the watchdog hears, is the late run of it over what is under way and its own states; where it then
-- passes, it has heard the high states that follow as well. For a device that sends nothing, one that stores, and one that passes. Assumes nothing.
use mathlib.Core.Path.{◌≡◌, refl, sym, ap, ◌∙◌}
use mathlib.Core.Bool.{Bool, true, false, ◌||◌}
use mathlib.Core.List.{List, [], ◌∷◌, ◌++◌, map}
use Prim.Native.Nat.{ℕ, ◌+◌, ◌-◌, ◌<◌}
use native.Mathlib.Omega.{arith}
use lib.ListN.{length, get_or, take, drop}
use lib.Seq.{get_or-drop}
use Rattle.tables.proofs.Booleans.{or-false}
use Rattle.machine.specs.Machine as machine
use Rattle.machine.proofs.Machine.{run-nil, run-one}
use Rattle.parts.specs.Wire.{header, states_of}
use Rattle.parts.specs.declared.command.Command.{Command}
use Rattle.watch.specs.Kept.{expired_by, watch_in, listened}
use Rattle.watch.proofs.Clocks.{listened-bit}
use Rattle.watch.specs.declared.watch.Watch.{Watch}
use Rattle.watch.specs.declared.kept.Listened.{Listened}
use Rattle.phases.specs.Phases.{place_of}
use Rattle.phases.specs.declared.phase.Phase.TheVariants.{Passing}
use Rattle.phases.specs.declared.phase.Sent.{Sent}
use Rattle.phases.specs.declared.phase.Sent.TheVariants.{Nothing, One, Header}
use Rattle.registers.specs.Held.{with_watch, with_slice}
use Rattle.registers.specs.declared.registers.Registers.{Registers}
use Rattle.device.specs.Step.{step, at, sent_states}
use Rattle.device.specs.declared.device.Device.{Device}
use Rattle.intake.specs.Intake.{Taken, stopped, dated_by, step_in, progress_of}
use Rattle.intake.specs.declared.taken.Progress.{Progress}
use Rattle.intake.proofs.Settled.{Settles}
use Rattle.turns.specs.Front.{after_header}
use Rattle.turns.specs.Watching.{is_on, cleared_if, hearing, reached, overheard}
use Rattle.turns.proofs.Onward.{heard_onward, watched_taken}
use Rattle.turns.proofs.LeavingStates.{header-parts}
use Rattle.turns.proofs.Timed.{Timed, timed, step_timed, run_timed, stamped}
use Rattle.turns.proofs.Taking.{passer, Takes}
use Rattle.turns.proofs.Hearing.{after, hearing-after, hearing-on}
use Rattle.turns.proofs.Heard.{less_one, none-sent, Quiet, quietly, run-quiet, hearing-quiet, quietly-hearing, late-quiet}
use Rattle.turns.proofs.Stores.{StoresLast, settled_registers, late-stores, stored-whole, on-stored, stores}
use Rattle.turns.proofs.Passing.{passed, late-header}
use Rattle.turns.proofs.Late.{Packet, packet, singles, step_late, run_late}

-- ---- what is under way

-- the packet of a header that is under way, sent in clock t
abbrev pub under_way : ℕ → Sent → List Packet
under_way t Nothing = []
under_way t (One b) = []
under_way t (Header c n) = record { clock = t; states = states_of (header c n) } ∷ []

-- a header has states
pub packet-header : (t : ℕ) (c : Command) (n : ℕ) → packet t (sent_states (Header c n)) ≡ under_way t (Header c n)
packet-header t c n = rw (header-parts c n)

abbrev pub heard_before : Device → Sent → ℕ → Listened
heard_before d p t = reached p (is_on d.registers) t d.registers.watch

pub ins-late : (d : Device) (p : Sent) (t : ℕ) → ((c : Command) (n : ℕ) → p ≡ Header c n → n < 1024) → run_late d (under_way t p) ≡ (hearing (heard_before d p t) (after_header d p), [])
ins-late d Nothing t few = run-nil step_late d
ins-late d (One b) t few = run-nil step_late d
ins-late d (Header c n) t few = run-one step_late d (record { clock = t; states = states_of (header c n) }) ∙ late-header d c n t (few c n refl)

before-bit : (d : Device) (p : Sent) (t : ℕ) → (heard_before d p t).watch.bit ≡ d.registers.watch.bit
before-bit d Nothing t = refl
before-bit d (One b) t = refl
before-bit d (Header c n) t = refl

-- a header changes no register
same-registers : (d : Device) (p : Sent) → (after_header d p).registers ≡ d.registers
same-registers d Nothing = refl
same-registers d (One b) = refl
same-registers d (Header c n) = refl

-- ---- states that were taken

take_own : (xs ys : List ℕ) (k : ℕ) → k ≡ length xs → take k (xs ++ ys) ≡ xs
take_own xs ys k e = ap (λ (n : ℕ). take n (xs ++ ys)) e ∙ go xs
  where
    go : (zs : List ℕ) → take (length zs) (zs ++ ys) ≡ zs
    go [] = refl
    go (z ∷ zs) = ap (λ (us : List ℕ). z ∷ us) (go zs)

both-none : {A : Type 0} (xs ys : List A) → xs ++ ys ≡ [] → (xs ≡ []) × (ys ≡ [])
both-none [] ys e = (refl, e)
both-none (x ∷ xs) ys e = absurd (omega (arith, ap length e))

map-none : {A B : Type 0} (f : A → B) (xs : List A) → map f xs ≡ [] → xs ≡ []
map-none f [] e = refl
map-none f (x ∷ xs) e = absurd (omega (arith, ap length e))

-- a run that sends nothing is of states at which nothing is sent
run_none : (ss : List ℕ) (d : Device) (k : ℕ) → (run_timed d (timed k ss)).1 ≡ [] → Quiet d ss
unfolding timed machine.run step_timed
run_none [] d k e = Quiet.none
run_none (s ∷ ss) d k e =
    let b = both-none (stamped (k + 1) (sent_states (step d s).sent)) (run_timed (step_in (k + 1) d s).device (timed (k + 1) ss)).1 e in
    let f : (step d s).sent ≡ Nothing = none-sent (step d s).sent (map-none (λ x. record { clock = k + 1; state = x }) (sent_states (step d s).sent) b.0) in
    let g : (step_in (k + 1) d s).device ≡ (step d s).device = ap (λ (y : Sent). dated_by y (k + 1) d.registers (step d s).device) f in
    Quiet.also f (run_none ss (step d s).device (k + 1) (ap (λ (y : Device). (run_timed y (timed (k + 1) ss)).1) (sym g) ∙ b.1))

-- ---- a device that sends nothing

-- clearing leaves the slice
slice-cleared : (x : Bool) (w : Watch) (r : Registers) (sl : List ℕ) → with_watch (with_slice (cleared_if x r) sl) w ≡ with_watch (cleared_if x (with_slice r sl)) w
slice-cleared true w r sl = refl
slice-cleared false w r sl = refl

module _ (ss : List ℕ) (d : Device) (p : Sent) (k end : ℕ) where
  abbrev b0 : Listened
  b0 = heard_before d p k

  abbrev dd : Device
  dd = after_header d p

  abbrev on : Bool
  on = is_on d.registers

  bit-dd : b0.watch.bit ≡ dd.registers.watch.bit
  bit-dd = before-bit d p k ∙ sym (ap (λ (r : Registers). r.watch.bit) (same-registers d p))

  on-dd : is_on dd.registers ≡ on
  on-dd = ap is_on (same-registers d p)

  -- late, over its own states
  quiet-late : (own : List ℕ) → Quiet dd own → run_late (hearing b0 dd) (singles k own) ≡ (hearing (after b0 (listened on k own b0.watch)) (quietly dd own), [])
  quiet-late own q =
      late-quiet (hearing b0 dd) own k (hearing-quiet b0 dd own q)
      ∙ ap (λ (o : Bool). (hearing (listened o k own b0.watch) (quietly (hearing b0 dd) own), [])) (hearing-on b0 dd.registers bit-dd ∙ on-dd)
      ∙ ap (λ (z : Device). (hearing (listened on k own b0.watch) z, [])) (quietly-hearing b0 dd own q)
      ∙ ap (λ (z : Device). (z, [])) (hearing-after b0 (listened on k own b0.watch) (quietly dd own))

  -- and what the turn makes of it
  quiet-watched : (e : Device) (j : ℕ) (own : List ℕ) → Settles d (stopped e j Nothing) → take (j - k) (drop k ss) ≡ own
      → (watched_taken d p (progress_of (stopped e j Nothing)) ss k end).device ≡ hearing (after b0 (listened on k own b0.watch)) e
  unfolding watched_taken overheard heard_onward
  quiet-watched e j own st o =
      let B : Listened = listened on k own b0.watch in
      let sl : List ℕ = e.registers.slice in
      let r : Registers = d.registers in
      ap (λ (zs : List ℕ). of (listened on k zs b0.watch)) o
      ∙ ap (λ (x : Bool). record { registers = with_watch (with_slice (cleared_if (b0.expired || x) r) sl) B.watch; place = e.place }) (sym (or-false B.expired))
      ∙ ap (λ (z : Registers). record { registers = z; place = e.place }) (slice-cleared (b0.expired || B.expired) B.watch r sl)
      ∙ ap (λ (z : Taken). record { registers = with_watch (cleared_if (b0.expired || B.expired) z.device.registers) B.watch; place = e.place }) st
    where
      of : Listened → Device
      of b = record { registers = with_watch (with_slice (cleared_if (b0.expired || (b.expired || false)) d.registers) e.registers.slice) b.watch; place = e.place }

  pub served-quiet : (low : Bool) (e : Device) (j : ℕ) → Settles d (stopped e j Nothing) → (x : Takes low dd (drop k ss) k (stopped e j Nothing))
      → run_late (hearing b0 dd) (singles k x.own) ≡ ((watched_taken d p (progress_of (stopped e j Nothing)) ss k end).device, [])
  served-quiet low e j st x =
      let q : Quiet dd x.own = run_none x.own dd k (ap (λ (y : Device × List Timed). y.1) x.runs) in
      let f : quietly dd x.own ≡ e = ap (λ (y : Device × List Timed). y.0) (sym (run-quiet dd x.own k q) ∙ x.runs) in
      let o : take (j - k) (drop k ss) ≡ x.own = ap (take (j - k)) x.whole ∙ take_own x.own x.rest (j - k) (omega (arith, x.far)) in
      quiet-late x.own q ∙ ap (λ (y : Device). (hearing (after b0 (listened on k x.own b0.watch)) y, [])) f
      ∙ ap (λ (y : Device). (y, [])) (sym (quiet-watched e j x.own st o))

  -- ---- a device that stores

  or_assoc : (x y z : Bool) → (x || (y || z)) ≡ ((x || y) || z)
  or_assoc true y z = refl
  or_assoc false y z = refl

  rewatched : (x : Bool) (v w : Watch) (r : Registers) → with_watch (cleared_if x r) w ≡ with_watch (cleared_if x (with_watch r v)) w
  rewatched true v w r = refl
  rewatched false v w r = refl

  get_d-own : (xs ys : List ℕ) (y : ℕ) → get_or (xs ++ y ∷ ys) (length xs) 0 ≡ y
  get_d-own [] ys y = refl
  get_d-own (x ∷ xs) ys y = get_d-own xs ys y

  -- a device that stores and then passes: its registers, that the late run leaves them, and that the turn leaves them with what follows heard
  pub record ServedStore (c : Command) (n : ℕ) (T : Taken) (own : List ℕ) : Type 0 where
    pub registers : Registers
    pub runs : run_late (hearing b0 dd) (singles k own) ≡ (passer registers, under_way T.at (Header c n))
    pub watched : (watched_taken d p (progress_of T) ss k end).device ≡ passed T.at (take (end - T.at) (drop T.at ss)) (passer registers)

  module _ (c : Command) (n : ℕ) (T : Taken) (l : StoresLast dd (drop k ss) k c n T) (sent : T.sent ≡ Header c n) (place : T.device.place ≡ place_of Passing) where
    abbrev t : ℕ
    t = k + length l.init + 1

    abbrev sl : List ℕ
    sl = (stores (quietly dd l.init) l.last t c n l.sends).slice

    abbrev whole : Progress
    whole = record { slice = sl; place = place_of Passing; at = t; sent = Header c n }

    is_whole : progress_of T ≡ whole
    is_whole =
        ap (λ (z : List ℕ). record { slice = z; place = T.device.place; at = T.at; sent = T.sent })
        (sym (stored-whole dd b0 bit-dd l.init l.quiet l.last k c n l.sends T l.device))
        ∙ ap (λ z. record { slice = sl; place = z; at = T.at; sent = T.sent }) place
        ∙ ap (λ (z : ℕ). record { slice = sl; place = place_of Passing; at = z; sent = T.sent }) l.far
        ∙ ap (λ (z : Sent). record { slice = sl; place = place_of Passing; at = t; sent = z }) sent

    -- what is heard up to the store, the watchdog being that of registers z
    abbrev heard_in : Registers → Listened
    heard_in z = listened (is_on z) k l.init b0.watch

    abbrev late_in : Registers → Bool
    late_in z = expired_by (is_on z) (k + length l.init) (heard_in z).watch

    -- the registers that the store leaves
    abbrev settled_in : Registers → Registers
    settled_in z = settled_registers ((b0.expired || (heard_in z).expired) || late_in z) t z sl c

    abbrev following : List ℕ
    following = take (end - t) (drop t ss)

    -- the watchdog at the end of that clock
    abbrev then_watch : Registers → Watch
    then_watch z = watch_in (is_on z) (is_on (settled_in z)) t (l.last ∷ []) (heard_in z).watch

    abbrev served_in : Registers → Device
    served_in z = hearing (listened (is_on (settled_in z)) t following (then_watch z)) (at (settled_in z) Passing)

    own-init : take (k + length l.init - k) (drop k ss) ≡ l.init
    own-init = ap (take (k + length l.init - k)) l.whole ∙ take_own l.init (l.last ∷ l.rest) (k + length l.init - k) (omega arith)

    own-last : get_or ss (k + length l.init) 0 ≡ l.last
    own-last = sym (get_or-drop k ss (length l.init) 0) ∙ ap (λ (xs : List ℕ). get_or xs (length l.init) 0) l.whole ∙ get_d-own l.init l.rest l.last

    -- what the turn makes of it, by where it looks for what it heard
    abbrev looked : ℕ → List ℕ → ℕ → Device
    looked m own s =
        let r : Registers = d.registers in
        let B : Listened = listened on k own b0.watch in
        let U : Registers = settled_registers (b0.expired || (B.expired || expired_by on m B.watch)) t r sl c in
        hearing (listened (is_on U) t following (watch_in on (is_on U) t (s ∷ []) B.watch)) (at U Passing)

    served-whole : (watched_taken d p whole ss k end).device ≡ served_in d.registers
    unfolding watched_taken overheard heard_onward
    served-whole =
        ap (λ (m : ℕ). looked m (take (m - k) (drop k ss)) (get_or ss m 0)) (less_one (k + length l.init))
        ∙ ap (λ (own : List ℕ). looked (k + length l.init) own (get_or ss (k + length l.init) 0)) own-init
        ∙ ap (looked (k + length l.init) l.init) own-last
        ∙ ap (λ (x : Bool). let U : Registers = settled_registers x t d.registers sl c in
        hearing (listened (is_on U) t following (watch_in on (is_on U) t (l.last ∷ []) (heard_in d.registers).watch)) (at U Passing))
        (or_assoc b0.expired (heard_in d.registers).expired (late_in d.registers))

    abbrev R : Registers
    R = with_watch (settled_in dd.registers) (then_watch dd.registers)

    then-bit : (then_watch dd.registers).bit ≡ dd.registers.watch.bit
    then-bit = listened-bit (is_on dd.registers) k l.init b0.watch ∙ bit-dd

    on-R : is_on R ≡ is_on (settled_in dd.registers)
    on-R = on-stored dd b0 bit-dd l.init l.quiet l.last k c n l.sends (then_watch dd.registers) then-bit

    served-passed : served_in dd.registers ≡ passed t following (passer R)
    served-passed =
        let w : Watch = then_watch dd.registers in
        let L : Listened = listened (is_on (settled_in dd.registers)) t following w in
        ap (λ (z : Registers). at z Passing) (rewatched L.expired w L.watch (settled_in dd.registers))
        ∙ ap (λ (o : Bool). hearing (listened o t following w) (passer R)) (sym on-R)

    pub served-stores : ServedStore c n T (l.init ++ l.last ∷ [])
    served-stores = record {
      registers = R;
      runs = late-stores dd b0 bit-dd l.init l.quiet l.last k c n l.sends
          ∙ ap (λ (xs : List Packet). (passer R, xs)) (packet-header t c n)
          ∙ ap (λ (m : ℕ). (passer R, under_way m (Header c n))) (sym l.far);
      watched = ap (λ (q : Progress). (watched_taken d p q ss k end).device) is_whole ∙ served-whole ∙ ap served_in (sym (same-registers d p)) ∙ served-passed
          ∙ ap (λ (m : ℕ). passed m (take (end - m) (drop m ss)) (passer R)) (sym l.far);
    }

-- ---- a device that passes

pub served-passes : (ss : List ℕ) (d : Device) (p : Sent) (k end b : ℕ) → ((c : Command) (n : ℕ) → p ≡ Header c n → ⊥)
    → (watched_taken d p (progress_of (stopped d k (One b))) ss k end).device ≡ passed k (take (end - k) (drop k ss)) d
unfolding watched_taken overheard heard_onward listened
served-passes ss d p k end b h = go p h
  where
    none : take (k - k) (drop k ss) ≡ []
    none = let e : k - k ≡ 0 = omega arith in ap (λ (n : ℕ). take n (drop k ss)) e

    go : (q : Sent) → ((c : Command) (n : ℕ) → q ≡ Header c n → ⊥) → (watched_taken d q (progress_of (stopped d k (One b))) ss k end).device ≡ passed k (take (end - k) (drop k ss)) d
    go Nothing h = rw none
    go (One x) h = rw none
    go (Header c n) h = absurd (h c n refl)
