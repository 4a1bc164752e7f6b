-- A refused run leaves all as it was; the turns of an accepted one end where the run ends, and then every device is brought up to its last clock.
-- Assumes nothing.
use Rattle.std.proofs.Common.{◌∙◌, length, map, ap, sym, subst, refl, ◌<◌, ◌^◌, arith, rules}
use Rattle.std.proofs.lemmas.List.{append-nil, take_all, drop_all}
use Rattle.std.specs.Prelude.{Ok, Err}
use Rattle.tables.proofs.Rows.{named, refused, accepted, kept, changed}
use Rattle.calls.specs.Calls.{run_refusal, returned, run_devices}
use Rattle.bits.specs.Bits.{over}
use Rattle.refusals.proofs.Found.{run-refusal-found}
use Rattle.cursor.specs.Cursor.{begin_run}
use Rattle.cursor.specs.declared.cursor.Cursor.{Cursor}
use Rattle.turns.specs.Front.{Running, now_at, enough}
use Rattle.turns.specs.Ending.{run_end, by_clock_device}
use Rattle.turns.proofs.Turns.{measure}
use Rattle.turns.proofs.Whole.{stands-start, run-same}
use Rattle.chain.proofs.Outcome.{number-of-refused, accepted-none, accepted-is, written-is, handed-on}
use Rattle.chain.proofs.Standing.{Standing, standing-good, standing-nearer, standing-next, standing-end, turned-on}
use Rattle.chain.proofs.run.Goals as goal

pub returns-in_err-cursor : goal.returns-in_err-cursor
returns-in_err-cursor c =
    let xs = c.args.chain.now in
    let ss = c.args.states.now in
    let os = c.args.returned.now in
    let begin = begin_run (length xs) ss in
    let outcome = rw (c.judge-judged.ensures, run-refusal-found) at c.in_err-cursor.ensures in
    let found = number-of-refused _ (run_refusal xs ss (length os)) begin outcome in
    record {
      value = handed-on c.from_residual.result c.in_err-cursor.field-0.0 _ c.from_residual.ensures.1 (refused Err (Ok (length (returned xs ss))) found (named c.in_err-cursor.field-0.0));
      chain_after = kept xs (run_devices xs ss) found (named c.in_err-cursor.field-0.0);
      returned_after = kept os (over (returned xs ss) os) found (named c.in_err-cursor.field-0.0);
    }

pub loop-cursor-init : goal.loop-cursor-init
loop-cursor-init c =
    let xs = c.args.chain.now in
    let ss = c.args.states.now in
    let os = c.args.returned.now in
    let begin = begin_run (length xs) ss in
    let outcome = rw (c.judge-judged.ensures, run-refusal-found) at c.in_ok-cursor.ensures in
    let zero = accepted-none (run_refusal xs ss (length os)) begin c.in_ok-cursor.cursor outcome in
    let first = accepted-is (run_refusal xs ss (length os)) begin c.in_ok-cursor.cursor outcome in
    subst (λ (k : Cursor). Standing xs ss os (now_at xs k os)) (sym first) (record { left = enough ss; stands = stands-start xs ss os zero })

pub loop-cursor-smaller : goal.loop-cursor-smaller
loop-cursor-smaller c =
    let xs = c.args.chain.now in
    let ss = c.args.states.now in
    let os = c.args.returned.now in
    let l = c.loop-cursor in
    let s = now_at l.chain l.cursor l.returned in
    let g = standing-good xs ss os s l.invariant c.loop-cursor-test.true in
    let near : l.cursor.index < length l.chain = omega (arith, g.index, g.devices) in
    subst (λ (r : Running). measure (length ss) (length xs) r.cursor < measure (length ss) (length xs) l.cursor)
    (sym (turned-on l.chain l.cursor ss l.returned _ c.take_turn-taken.result c.turn_after-next.result c.turn_after-next.new.returned near
    c.take_turn-taken.ensures c.turn_after-next.ensures.0 c.turn_after-next.ensures.1))
    (standing-nearer xs ss os s l.invariant c.loop-cursor-test.true)

pub loop-cursor-preserved : goal.loop-cursor-preserved
loop-cursor-preserved c =
    let xs = c.args.chain.now in
    let ss = c.args.states.now in
    let os = c.args.returned.now in
    let l = c.loop-cursor in
    let s = now_at l.chain l.cursor l.returned in
    let g = standing-good xs ss os s l.invariant c.loop-cursor-test.true in
    let near : l.cursor.index < length l.chain = omega (arith, g.index, g.devices) in
    subst (Standing xs ss os)
    (sym (turned-on l.chain l.cursor ss l.returned _ c.take_turn-taken.result c.turn_after-next.result c.turn_after-next.new.returned near
    c.take_turn-taken.ensures c.turn_after-next.ensures.0 c.turn_after-next.ensures.1))
    (standing-next xs ss os s l.invariant c.loop-cursor-test.true)

pub returns : goal.returns
returns c =
    let xs = c.args.chain.now in
    let ss = c.args.states.now in
    let os = c.args.returned.now in
    let l = c.loop-cursor in
    let begin = begin_run (length xs) ss in
    let outcome = rw (c.judge-judged.ensures, run-refusal-found) at c.in_ok-cursor.ensures in
    let zero = accepted-none (run_refusal xs ss (length os)) begin c.in_ok-cursor.cursor outcome in
    let last = standing-end xs ss os (now_at l.chain l.cursor l.returned) l.invariant c.loop-cursor-test.false in
    let short : length ss < 2 ^ 63 = search rules in
    let same = run-same xs ss os short in
    let written = written-is (run_refusal xs ss (length os)) _ _ zero same.0 in
    let closed = ap (λ (r : Running). map (by_clock_device (length ss)) r.devices) last
    ∙ changed (run_end xs ss os).devices (sym zero) refl refl
    ∙ same.1 in
    record {
      value = accepted Err (sym zero) refl (ap Ok (ap (λ (r : Running). r.cursor.written) last ∙ written));
      chain_after = grind (arith, append-nil, take_all, drop_all, c.close.ensures, closed);
      returned_after = ap (λ (r : Running). r.out) last ∙ same.2;
    }
