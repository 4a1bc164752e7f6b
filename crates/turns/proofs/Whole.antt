-- A whole run, refused or not: what holds before each turn of its loop, and that it leaves and answers what calls/specs/Calls says.
use mathlib.Core.Path.{◌≡◌, refl, ap, sym, ◌∙◌}
use mathlib.Core.Bool.{Bool, true, false, cond}
use mathlib.Core.List.{List, map}
use Prim.Native.Nat.{ℕ, zero, suc, ◌^◌, ◌<◌, ◌≤◌}
use native.Mathlib.Omega.{arith}
use lib.Dec.{eqb}
use lib.ListN.{length}
use Rattle.bits.specs.Bits.{over}
use Rattle.tables.specs.Refusals.{content}
use Rattle.device.specs.declared.device.Device.{Device}
use Rattle.calls.specs.Chain.{through}
use Rattle.calls.specs.Calls.{run_refusal, run_after, run_room}
use Rattle.cursor.specs.declared.entry.Ran.{Ran}
use Rattle.cursor.specs.Cursor.{begin_run, halted}
use Rattle.turns.specs.Front.{put_all, put_end, Running, now_at, turning, turns, started, enough, front_run}
use Rattle.cursor.specs.Answer.{ran, run_answer}
use Rattle.turns.specs.Ending.{run_under, run_end, by_clock_device}
use Rattle.turns.proofs.LeavingStates.{put-over, put-end-all}
use borrow.Author.Tests.{eq-eqb}
use Rattle.turns.proofs.Turns.{Good, measure, good_start, good-next, nearer-next, turns-on, turns-stop, near-start}
use Rattle.turns.proofs.Late.{Packet, singles, relay_late, states_in}
use Rattle.turns.proofs.Same.{all-neat, front-run-same}
use Rattle.turns.proofs.ByClock.{run-by-clock}
use Rattle.calls.proofs.Accepted.{Accepted, accepted-run}
use Rattle.turns.proofs.Room.{room-enough}

pub record Going (n : ℕ) (ss : List ℕ) (room t : ℕ) (s : Running) : Type 0 where
  pub good : Good n ss room s
  pub near : measure (length ss) n s.cursor ≤ t
  pub some : 0 < n
  pub few : n < 1024

-- with t turns left at most, the run from s on ends at fin
pub record Stands (n : ℕ) (ss : List ℕ) (room t : ℕ) (fin s : Running) : Type 0 where
  pub devices : length s.devices ≡ n
  pub out : length s.out ≡ room
  pub written : s.cursor.written ≤ room
  pub last : turns t ss s ≡ fin
  pub live : s.cursor.going ≡ true → Going n ss room t s

pub stands-next : (n : ℕ) (ss : List ℕ) (room t : ℕ) (fin s : Running) → Stands n ss room (suc t) fin s → s.cursor.going ≡ true → Stands n ss room t fin (turning ss s)
stands-next n ss room t fin s h v =
    let g : Going n ss room (suc t) s = h.live v in
    let next : Good n ss room (turning ss s) = good-next n ss room s g.some g.good in
    record {
      devices = next.devices;
      out = next.out;
      written = next.written;
      last = sym (turns-on t ss s v) ∙ h.last;
      live = λ _. record {
        good = next;
        near = omega (arith, g.near, nearer-next n ss room s g.some g.few g.good v);
        some = g.some;
        few = g.few;
      };
    }

pub stands-zero : (n : ℕ) (ss : List ℕ) (room : ℕ) (fin s : Running) → Stands n ss room zero fin s → s.cursor.going ≡ true → ⊥
stands-zero n ss room fin s h v =
    let g : Going n ss room zero s = h.live v in
    omega (arith, g.near, nearer-next n ss room s g.some g.few g.good v)

pub stands-end : (n : ℕ) (ss : List ℕ) (room t : ℕ) (fin s : Running) → Stands n ss room t fin s → s.cursor.going ≡ false → s ≡ fin
stands-end n ss room t fin s h v = sym (turns-stop t ss s v) ∙ h.last

-- an accepted run begins
pub stands-start : (ds : List Device) (ss os : List ℕ) → run_refusal ds ss (length os) ≡ 0
    → Stands (length ds) ss (length os) (enough ss) (run_end ds ss os) (now_at ds (begin_run (length ds) ss) os)
unfolding run_under front_run
stands-start ds ss os z =
    let e = eq-eqb (run_refusal ds ss (length os)) 0 z in
    let h : Accepted ds ss (length os) = accepted-run ds ss (length os) e in
    let g : Good (length ds) ss (length os) (started ds ss os) = good_start ds ss os h.some in
    record {
      devices = refl;
      out = refl;
      written = g.written;
      last = rw e refl;
      live = λ _. record { good = g; near = near-start ds ss h.few; some = h.some; few = h.few };
    }

-- ---- what it leaves

-- an accepted run: with every device brought up to the last clock it is the run clock by clock, and what was sent is written
front_same : (ds : List Device) (ss os : List ℕ) → length ss < 2 ^ 63 → Accepted ds ss (length os)
    → (map (by_clock_device (length ss)) (front_run ds ss os).devices ≡ (through ds ss).0) × ((front_run ds ss os).out ≡ over (through ds ss).1 os) ×
    ((front_run ds ss os).cursor.written ≡ length (through ds ss).1)
front_same ds ss os short h =
    let w : List Device × List Packet = relay_late ds (singles 0 ss) in
    let s = front-run-same ds ss os h.some h.few (all-neat ds h.fit) short h.below in
    let c : ◌≡◌ {A = List Device × List ℕ} (map (by_clock_device (length ss)) w.0, states_in w.1) (through ds ss) = run-by-clock ds ss short h.fit in
    let o : states_in w.1 ≡ (through ds ss).1 = ap (λ (x : List Device × List ℕ). x.1) c in
    let r : length (through ds ss).1 ≤ length os = omega (arith, room-enough ds ss h.fit, h.enough_room) in (
      ap (map (by_clock_device (length ss))) s.0 ∙ ap (λ (x : List Device × List ℕ). x.0) c,
      s.1 ∙ ap (put_all os 0) o ∙ put-over os (through ds ss).1 r,
      s.2 ∙ ap (λ (xs : List ℕ). put_end (length os) 0 (length xs)) o ∙ put-end-all (length os) (length (through ds ss).1) r,
    )

-- what a run leaves and answers, its devices brought up to the last clock where it is accepted, is what calls/specs/Calls says; a list of states
-- that is lent is shorter than 2 ^ 63
pub run-same : (ds : List Device) (ss os : List ℕ) → length ss < 2 ^ 63
    → (ran (run_refusal ds ss (length os)) (run_end ds ss os).cursor.written ≡ run_answer ds ss (length os)) ×
    (content (run_refusal ds ss (length os)) (run_end ds ss os).devices (map (by_clock_device (length ss)) (run_end ds ss os).devices) ≡ run_after ds ss (length os)) ×
    ((run_end ds ss os).out ≡ run_room ds ss os)
unfolding run_under
run-same ds ss os short = go (eqb (run_refusal ds ss (length os)) 0) refl
  where
    answers : Bool → ℕ → Ran
    answers t n = record { returned = cond t n 0; refusal = run_refusal ds ss (length os) }

    by : Bool → Running
    by t = cond t (front_run ds ss os) (now_at ds halted os)

    go : (t : Bool) → eqb (run_refusal ds ss (length os)) 0 ≡ t
        → (answers t (by t).cursor.written ≡ answers t (length (through ds ss).1)) ×
        (cond t (map (by_clock_device (length ss)) (by t).devices) (by t).devices ≡ cond t (through ds ss).0 ds) × ((by t).out ≡ cond t (over (through ds ss).1 os) os)
    go false e = (refl, refl, refl)
    go true e =
        let s = front_same ds ss os short (accepted-run ds ss (length os) e) in
        (ap (λ (n : ℕ). answers true n) s.2, s.0, s.1)
