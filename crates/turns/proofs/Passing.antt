-- What a device hears that stores nothing: the header under way, which is one packet and changes both lines, and the high states that it passes.
-- High states go through passing devices as they are; each of these has then heard them. By induction on the states, and on the devices. Assumes
-- nothing.
use mathlib.Core.Path.{◌≡◌, refl, ap, ◌∙◌}
use mathlib.Core.Bool.{Bool, true, false, not, ◌||◌}
use mathlib.Core.List.{List, [], ◌∷◌, ◌++◌, map}
use Prim.Native.Nat.{ℕ, ◌+◌, ◌-◌, ◌/◌, ◌%◌, ◌^◌, ◌<◌}
use native.Mathlib.Omega.{arith}
use lib.Dec.{eqb, ltb}
use Rattle.machine.specs.Machine as machine
use Rattle.machine.specs.Machine.{chain, and_then}
use Rattle.machine.proofs.Machine.{run-one, run-append}
use Rattle.parts.specs.Parts.{code}
use Rattle.parts.specs.Wire.{header, states_of}
use Rattle.parts.specs.declared.command.Command.{Command}
use Rattle.watch.specs.Watch.{data_bit, load_bit, last_of, moved}
use Rattle.watch.specs.Kept.{expired_by, watch_in, moved_in, listened}
use Rattle.watch.proofs.Clocks.{told, moved_in_lem}
use Rattle.watch.specs.declared.watch.Watch.{Watch}
use Rattle.watch.specs.declared.kept.Listened.{Listened}
use Rattle.phases.specs.declared.phase.Phase.TheVariants.{Slice, Passing}
use Rattle.phases.specs.declared.phase.Sent.TheVariants.{Header}
use Rattle.registers.specs.Held.{with_watch}
use Rattle.registers.specs.declared.registers.Registers.{Registers}
use Rattle.device.specs.Step.{at}
use Rattle.device.specs.declared.device.Device.{Device}
use Rattle.turns.specs.Front.{slice_start}
use Rattle.turns.specs.Watching.{is_on, cleared_device, hearing, reached}
use Rattle.turns.proofs.LeavingStates.{bit_states, header-parts}
use Rattle.turns.proofs.Timed.{Timed, stamp, stamped, states, step_timed, run_timed}
use Rattle.turns.proofs.Header.{run-header}
use Rattle.turns.proofs.Taking.{passer, AllPass}
use Rattle.turns.proofs.Hearing.{heard_registers, hearing-after, hearing-on}
use Rattle.turns.proofs.Heard.{less_one, cleared-hearing}
use Rattle.turns.proofs.Late.{Packet, packet, singles, before, step_late, run_late, relay_late}

-- ---- the header under way

or-true : (a : Bool) → (a || true) ≡ true
or-true true = refl
or-true false = refl

-- both levels are seen, so the line changes
module _ (c : Command) (n : ℕ) where
  header-data : (level : ℕ) → moved level (map data_bit (states_of (header c n))) ≡ true
  unfolding moved
  header-data level = rw (header-parts c n) (or-true (not (eqb level 1)))

  header-load : (level : ℕ) → moved level (map load_bit (states_of (header c n))) ≡ true
  unfolding moved
  header-load level =
      let h : (code c / 2 % 2 + 2) / 2 ≡ 1 = omega arith in
      rw (header-parts c n, h) (or-true (not (eqb level 0)))

  header-data-last : (level : ℕ) → last_of level (map data_bit (states_of (header c n))) ≡ n % 2
  unfolding last_of bit_states
  header-data-last level =
      let h : (n / 2 ^ 0 % 2 + 2) % 2 ≡ n % 2 = omega arith in
      rw (header-parts c n) h

  header-load-last : (level : ℕ) → last_of level (map load_bit (states_of (header c n))) ≡ 1
  unfolding last_of bit_states
  header-load-last level =
      let h : (n / 2 ^ 0 % 2 + 2) / 2 ≡ 1 = omega arith in
      rw (header-parts c n) h

  header-heard : (on : Bool) (t : ℕ) (w : Watch) → watch_in on on t (states_of (header c n)) w ≡ moved_in on t (n % 2) 1 w
  header-heard on t w =
      moved_in_lem on t (states_of (header c n)) (n % 2) 1 w (header-data w.din.level) (header-load w.loadi.level) (header-data-last w.din.level) (header-load-last w.loadi.level)

-- what a device makes of a packet and sends, late
abbrev lately : Packet → Watch → Bool → Device × List Timed → Device × List Packet
lately x w o y = (
  record { registers = with_watch y.0.registers (watch_in o (is_on y.0.registers) x.clock x.states w); place = y.0.place },
  packet x.clock (states y.1),
)

pub late-header : (d : Device) (c : Command) (n t : ℕ) → n < 1024
    → step_late d (record { clock = t; states = states_of (header c n) }) ≡ (hearing (reached (Header c n) (is_on d.registers) t d.registers.watch) (slice_start d c n), [])
unfolding step_late
late-header d c n t few =
    let r : Registers = d.registers in
    let on : Bool = is_on r in
    let x : Bool = expired_by on (t - 1) r.watch in
    let b : Listened = told r.watch x in
    let packet-in : Packet = record { clock = t; states = states_of (header c n) } in
    let a : run_timed (before t d) (stamped t (states_of (header c n))) ≡ (hearing b (slice_start d c n), []) =
    ap (λ (y : Device). run_timed y (stamped t (states_of (header c n)))) (cleared-hearing x d) ∙ run-header (hearing b d) c n t few in
    ap (lately packet-in r.watch on) a
    ∙ ap (λ (o : Bool). (at (with_watch (heard_registers b r) (watch_in on o t (states_of (header c n)) r.watch)) (Slice c n 0), [])) (hearing-on b r refl)
    ∙ ap (λ (w : Watch). (at (with_watch (heard_registers b r) w) (Slice c n 0), [])) (header-heard c n on t r.watch)

-- ---- high states that are passed

-- what a device has heard that passes these, k clocks being over
abbrev pub passed : ℕ → List ℕ → Device → Device
passed k hs d = hearing (listened (is_on d.registers) k hs d.registers.watch) d

-- all of them are high
pub data AllHigh : List ℕ → Type 0 where
  none : AllHigh []
  also : {s : ℕ} {ss : List ℕ} → ltb s 2 ≡ false → AllHigh ss → AllHigh (s ∷ ss)

pass-timed : (r : Registers) (t s : ℕ) → ltb s 2 ≡ false → step_timed (passer r) (stamp t s) ≡ (passer r, stamp t s ∷ [])
unfolding step_timed
pass-timed r t s e = rw e refl

pass-late : (r : Registers) (k s : ℕ) → ltb s 2 ≡ false
    → step_late (passer r) (record { clock = k + 1; states = s ∷ [] })
    ≡ (hearing (told (watch_in (is_on r) (is_on r) (k + 1) (s ∷ []) r.watch) (expired_by (is_on r) k r.watch)) (passer r), record { clock = k + 1; states = s ∷ [] } ∷ [])
unfolding step_late
pass-late r k s e =
    let on : Bool = is_on r in
    let x : Bool = expired_by on k r.watch in
    let b : Listened = told r.watch x in
    let one : Packet = record { clock = k + 1; states = s ∷ [] } in
    let f : before (k + 1) (passer r) ≡ passer (heard_registers b r) =
    ap (λ (n : ℕ). cleared_device (expired_by on n r.watch) (passer r)) (less_one k) ∙ cleared-hearing x (passer r) in
    let a : run_timed (before (k + 1) (passer r)) (stamp (k + 1) s ∷ []) ≡ (passer (heard_registers b r), stamp (k + 1) s ∷ []) =
    ap (λ (y : Device). run_timed y (stamp (k + 1) s ∷ [])) f ∙ run-one step_timed (passer (heard_registers b r)) (stamp (k + 1) s) ∙ pass-timed (heard_registers b r) (k + 1) s e in
    ap (lately one r.watch on) a
    ∙ ap (λ (o : Bool). (at (with_watch (heard_registers b r) (watch_in on o (k + 1) (s ∷ []) r.watch)) Passing, one ∷ [])) (hearing-on b r refl)

pub late-pass : (r : Registers) (k : ℕ) (hs : List ℕ) → AllHigh hs → run_late (passer r) (singles k hs) ≡ (passed k hs (passer r), singles k hs)
unfolding singles listened machine.run
late-pass r k [] AllHigh.none = refl
late-pass r k (s ∷ hs) (AllHigh.also e h) =
    let on : Bool = is_on r in
    let w : Watch = watch_in on on (k + 1) (s ∷ []) r.watch in
    let b : Listened = told w (expired_by on k r.watch) in
    let q : Registers = heard_registers b r in
    ap (λ (y : Device × List Packet). ((run_late y.0 (singles (k + 1) hs)).0, y.1 ++ (run_late y.0 (singles (k + 1) hs)).1)) (pass-late r k s e)
    ∙ ap (λ (y : Device × List Packet). (y.0, record { clock = k + 1; states = s ∷ [] } ∷ y.1)) (late-pass q (k + 1) hs h)
    ∙ ap (λ (o : Bool). (hearing (listened o (k + 1) hs w) (passer q), record { clock = k + 1; states = s ∷ [] } ∷ singles (k + 1) hs)) (hearing-on b r refl)
    ∙ ap (λ (y : Device). (y, record { clock = k + 1; states = s ∷ [] } ∷ singles (k + 1) hs)) (hearing-after b (listened on (k + 1) hs w) (passer r))

-- through passing devices
pub passed-all : (ps : List Device) (k : ℕ) (hs : List ℕ) → AllPass ps → AllPass (map (passed k hs) ps)
passed-all [] k hs AllPass.none = AllPass.none
passed-all (d ∷ ps) k hs (AllPass.also a) = AllPass.also (passed-all ps k hs a)

pub relay-pass : (ps : List Device) (k : ℕ) (hs : List ℕ) (xs : List Packet) → AllPass ps → AllHigh hs
    → relay_late ps (singles k hs ++ xs) ≡ ((relay_late (map (passed k hs) ps) xs).0, singles k hs ++ (relay_late (map (passed k hs) ps) xs).1)
unfolding chain
relay-pass [] k hs xs AllPass.none h = refl
relay-pass (d ∷ ps) k hs xs (AllPass.also {r} a) h =
    ap (λ (y : Device × List Packet). (y.0 ∷ (relay_late ps y.1).0, (relay_late ps y.1).1))
    (run-append step_late (passer r) (singles k hs) xs ∙ ap (λ (y : Device × List Packet). and_then y (λ z. run_late z xs)) (late-pass r k hs h))
    ∙ ap (λ (y : List Device × List Packet). ((run_late (passed k hs (passer r)) xs).0 ∷ y.0, y.1)) (relay-pass ps k hs (run_late (passed k hs (passer r)) xs).1 a h)
