-- The claims about the calls on a chain, and about one step: the model's devices, room, what calls keep, flags, the phase that is lit now. Each is
-- a law of link, turns or lit_now said of the claim's own terms. Assumes nothing.
use mathlib.Core.Path.{◌≡◌, ap, ◌∙◌}
use mathlib.Core.Bool.{true, false}
use mathlib.Core.List.{List, ◌∷◌}
use Prim.Native.Nat.{ℕ}
use lib.ListN.{length}
use borrow.Author.Tests.{eq-eqb}
use Rattle.tables.specs.Refusals.{first}
use Rattle.device.specs.Judgement.{fits}
use Rattle.device.specs.declared.device.Device.{Device}
use Rattle.calls.specs.Calls.{run_refusal}
use Rattle.calls.specs.History.{Call, fresh, refusal_of, after, after_calls}
use Rattle.calls.specs.Told.{own_table}
use Rattle.calls.proofs.Accepted.{accepted-run}
use Rattle.model.proofs.Lists.{All-weaker}
use Rattle.link.specs.View.{Arrays}
use Rattle.link.proofs.View.{Sound}
use Rattle.link.proofs.Device.{agree-watched, keep}
use Rattle.link.proofs.Calls.{Whole, own-refusal, whole-calls, whole-start, length-after_calls, length-after}
use Rattle.link.proofs.Modelled.{call_same}
use Rattle.link.proofs.Flags.{flag-calls, flag-start}
use Rattle.link.proofs.Told.{told-calls, told-start}
use Rattle.turns.proofs.Room.{room-enough}
use Rattle.parts.specs.Parts.{multiplex}
use Rattle.lit_now.specs.LitNow.{device_at, lit_now_refusal, lit_now}
use Rattle.lit_now.specs.declared.now.LitNow.{LitNow}
use Rattle.lit_now.proofs.Answered.{accepted-call, lit-now-schedule, phase-mux0}
use Rattle.claims.specs.Claims.{start, start_part, StepModelled, CallModelled, Room, Kept, Flags}

pub step-modelled : StepModelled
step-modelled d s a f =
    let o : Sound d = record { fit = f; arrays = a } in
    (agree-watched d s o, (keep d s o).fit)

pub call-modelled : CallModelled
call-modelled = call_same

pub room : Room
unfolding refusal_of
room ds ss out e =
    let a = accepted-run ds ss (length out) (eq-eqb (run_refusal ds ss (length out)) 0 e) in
    (room-enough ds ss a.fit, a.enough_room)

-- a chain that was made fresh, and what was called since
pub whole-premises : (p bit limit : ℕ) (records : List Device) (earlier : List Call) → refusal_of records (fresh p bit limit) ≡ 0
    → Whole (start_part p bit limit records earlier) (start p bit limit records earlier)
unfolding after_calls
whole-premises p bit limit records earlier e = whole-calls p (after records (fresh p bit limit)) earlier (whole-start p bit limit records e)

pub length-start : (p bit limit : ℕ) (records : List Device) (earlier : List Call) → length (start p bit limit records earlier) ≡ length records
length-start p bit limit records earlier = length-after_calls records (fresh p bit limit ∷ earlier)

pub kept : Kept
unfolding after_calls
kept p bit limit records earlier c e =
    let w = whole-premises p bit limit records earlier e in
    let l = length-start p bit limit records earlier in
    let now = start p bit limit records earlier in (
      l,
      w.one_part,
      told-calls (bit, limit) (after records (fresh p bit limit)) earlier (told-start p bit limit records e),
      All-weaker Sound (λ d. fits d ≡ true) (λ d o. o.fit) now w.sound,
      All-weaker Sound Arrays (λ d o. o.arrays) now w.sound,
      own-refusal _ now c w ∙ ap (λ (n : ℕ). first (own_table n c)) l,
    )

pub flags : Flags
unfolding after_calls
flags p bit limit records earlier device kind e one many small =
    flag-calls device kind one small (after records (fresh p bit limit)) earlier false (rw (length-after records (fresh p bit limit)) many)
    (flag-start p bit limit records device kind e)

pub lit-mux0 : (ds : List Device) (device output : ℕ) → lit_now_refusal ds device output ≡ 0 → multiplex (device_at ds device).registers.configuration ≡ 0
    → (lit_now ds device output).phase ≡ 0
lit-mux0 ds device output e m =
    ap (λ (a : LitNow). a.phase) (lit-now-schedule ds device output e).told ∙ phase-mux0 (device_at ds device) (accepted-call ds device output e).fits m
