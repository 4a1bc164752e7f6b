-- AcceptedExactly: one argument for any answer, any lent list and any table whose numbers rise, used for each operation. Assumes nothing.
use mathlib.Core.Path.{◌≡◌, refl, sym, ap, subst, ◌∙◌}
use mathlib.Core.Bool.{Bool, true, false, cond}
use mathlib.Core.List.{List, [], ◌∷◌}
use Rattle.std.specs.Prelude.{Ok, Err}
use Prim.Native.Nat.{ℕ, suc}
use native.Mathlib.Omega.{arith}
use lib.Dec.{eqb, ltb}
use lib.ListN.{length}
use borrow.Author.Tests.{eqb-true, eqb-false, eq-eqb, ne_eqb}
use Rattle.bits.specs.Bits.{over}
use Rattle.tables.specs.Refusals.{Row, first, Lowest, answer, content, number_in}
use Rattle.tables.proofs.Rows as rows
use Rattle.parts.specs.declared.command.Command.{Command}
use Rattle.parts.specs.declared.command.Command.TheVariants.{Individual, Calibration, Global, Configuration}
use Rattle.serial.specs.States.{frame_rows, clocked_answer, clocked_out, state_rows, data_bytes_answer, data_bytes_out}
use Rattle.frame_writer.specs.Writing.{write_table, write_refusal, written, written_out}
use Rattle.frame_reader.specs.Reading.{held_fields, found, read_table, read_refusal, read, read_bytes, read_values}
use Rattle.return_reader.specs.Returns.{return_table, return_refusal, return_read}
use Rattle.frames.specs.declared.told.Told.{Told}
use Rattle.frames.specs.declared.told.Tail.{Tail}
use Rattle.device.specs.Judgement.{Answer, judgement, step_refusals, refused_with}
use Rattle.device.specs.declared.device.Device.{Device}
use Rattle.calls.specs.Calls.{fresh_refusal, run_table, run_refusal, returned as chain_returned, fault_refusal}
use Rattle.calls.specs.History.{Call, fresh, run, fault, table_of, refusal_of, effect, after}
use Rattle.model.specs.Set.{Set, Own, owned}
use Rattle.link.proofs.Calls.{after-effect}
use Rattle.cursor.specs.Answer.{ran}
use Rattle.cursor.specs.declared.entry.Ran.{Ran}
use Rattle.subframes.specs.Answers.{on_rows, lead_rows, on_answer, lead_answer}
use Rattle.schedule.specs.Answers.{lit_rows, lit_answer, lit_clocks_answer}
use Rattle.device_light.specs.OfDevice.{device_rows, device_answer, device_clocks_answer}
use Rattle.lit_now.specs.LitNow.{refused as unlit, lit_now_table, lit_now_refusal, lit_now}
use Rattle.lit_now.specs.declared.now.LitNow.{LitNow}
use Rattle.differences.specs.Groups.{Pair, ◌against◌, differs_at, groups, in_groups, compared}
use Rattle.compare.specs.Compare.{difference, compare_table, compare_refusal, comparison}
use Rattle.differences.specs.declared.compared.Compared.{Compared}
use Rattle.arguments.specs.Arguments.{parsed, asked_rows, judged}
use Rattle.answers.specs.Answers.{accepted, refused}
use Rattle.answers.specs.declared.answer.Answer.{Answer as RowAnswer}
use Rattle.capi_bits.specs.PartAnswers.{part_rows}
use Rattle.current.specs.Answers.{current_table, current_refusal, current, current_out}
use Rattle.current.specs.Answers as currents
use Rattle.current.specs.declared.sign.Current.{Current}
use Rattle.claims.specs.Tables.{Exactly, Answers, Leaves}
use Rattle.claims.specs.Claims as claim

-- ---- any table, any answer, any lent list

module _ (table : List Row) (up : rows.above 0 table ≡ true) (ok : rows.positive table ≡ true) where
  lowest-first : (n : ℕ) → Lowest n table → first table ≡ n
  lowest-first n l = at (eqb (first table) 0) refl where
    at : (b : Bool) → eqb (first table) 0 ≡ b → first table ≡ n
    at true e = absurd (rows.none-applies table ok (eqb-true (first table) 0 e) n l.applies)
    at false e =
        let m = rows.lowest table up (eqb-false (first table) 0 e) in
        omega (arith, m.least n l.applies, l.least (first table) m.applies)

  exactly : Exactly table (first table)
  exactly = record {
    accepts = rows.none-given table up;
    accepted = rows.none-applies table ok;
    refuses = lowest-first;
    refused = rows.lowest table up;
  }

  module _ {A : Type 0} (number_of : A → ℕ) (refusal : ℕ → A) (asked : A) (zero : number_of asked ≡ 0) (number : (n : ℕ) → number_of (refusal n) ≡ n) where
    abbrev given : A
    given = answer (first table) refusal asked

    taken : first table ≡ 0 → given ≡ asked
    taken e = ap (λ (b : Bool). cond b asked (refusal (first table))) (eq-eqb (first table) 0 e)

    turned : (first table ≡ 0 → ⊥) → given ≡ refusal (first table)
    turned h = ap (λ (b : Bool). cond b asked (refusal (first table))) (ne_eqb (first table) 0 h)

    given-number : number_of given ≡ first table
    given-number = at (eqb (first table) 0) refl where
      at : (b : Bool) → eqb (first table) 0 ≡ b → number_of given ≡ first table
      at true e = let z = eqb-true (first table) 0 e in ap number_of (taken z) ∙ zero ∙ sym z
      at false e = ap number_of (turned (eqb-false (first table) 0 e)) ∙ number (first table)

    answers : Answers number_of table refusal asked given
    answers = record {
      exactly = subst (Exactly table) (sym given-number) exactly;
      accepted = λ e. taken (sym given-number ∙ e);
      refused = λ h. turned (λ z. h (given-number ∙ z)) ∙ ap refusal (sym given-number);
    }

    leaves : {X : Type 0} (before after : List X) → Leaves (number_of given) before after (content (first table) before after)
    leaves before after = record {
      accepted = λ e. ap (λ (b : Bool). cond b after before) (eq-eqb (first table) 0 (sym given-number ∙ e));
      refused = λ h. ap (λ (b : Bool). cond b after before) (ne_eqb (first table) 0 (λ z. h (given-number ∙ z)));
    }

itself : (n : ℕ) → n ≡ n
itself n = refl

-- ---- frames and line states

writes : (t : Told) (tail : Tail) (byte : ℕ) (bytes values out : List ℕ) → claim.Writes t tail byte bytes values out
unfolding written written_out write_refusal
writes t tail byte bytes values out =
    let table = write_table t tail byte bytes values (length out) in
    (answers table refl refl number_in Err _ refl itself, leaves table refl refl number_in Err _ refl itself out _)

reads : (t : Told) (tail : Tail) (frame bytes values : List ℕ) → claim.Reads t tail frame bytes values
unfolding read read_bytes read_values read_refusal
reads t tail frame bytes values =
    let table = read_table t tail frame (length bytes) (length values) in (
      answers table refl refl number_in Err _ refl itself,
      leaves table refl refl number_in Err _ refl itself bytes _,
      leaves table refl refl number_in Err _ refl itself values _,
    )

reads-return : (part devices : ℕ) (c : Command) (tail : Tail) (frame : List ℕ) → claim.ReadsReturn part devices c tail frame
unfolding return_read return_refusal
reads-return part devices c tail frame = answers (return_table part devices c tail frame) refl refl number_in Err _ refl itself

gives-states : (frame : List ℕ) (n edge : ℕ) (out : List ℕ) → claim.GivesStates frame n edge out
unfolding clocked_answer clocked_out
gives-states frame n edge out =
    let table = frame_rows (length frame) n edge (length out) in
    (answers table refl refl number_in Err _ refl itself, leaves table refl refl number_in Err _ refl itself out _)

packs-states : (states out : List ℕ) → claim.PacksStates states out
unfolding data_bytes_answer data_bytes_out
packs-states states out =
    let table = state_rows states (length out) in
    (answers table refl refl number_in Err _ refl itself, leaves table refl refl number_in Err _ refl itself out _)

-- ---- calls

table-refusal : (ds : List Device) (c : Call) → refusal_of ds c ≡ first (table_of ds c)
unfolding refusal_of fresh_refusal run_refusal fault_refusal
table-refusal ds (fresh part bit limit) = refl
table-refusal ds (run ss out) = refl
table-refusal ds (fault device kind flag) = refl

-- the numbers of each table rise
table-rises : (ds : List Device) (c : Call) → rows.above 0 (table_of ds c) ≡ true
table-rises ds (fresh part bit limit) = refl
table-rises ds (run ss out) = refl
table-rises ds (fault device kind flag) = refl

table-positive : (ds : List Device) (c : Call) → rows.positive (table_of ds c) ≡ true
table-positive ds (fresh part bit limit) = refl
table-positive ds (run ss out) = refl
table-positive ds (fault device kind flag) = refl

calls : (ds : List Device) (c : Call) → claim.Calls ds c
calls ds c = (
  subst (Exactly (table_of ds c)) (sym (table-refusal ds c)) (exactly (table_of ds c) (table-rises ds c) (table-positive ds c)),
  record {
    accepted = λ e. after-effect ds c ∙ ap (λ (b : Bool). cond b (effect ds c) ds) (eq-eqb (refusal_of ds c) 0 e);
    refused = λ h. after-effect ds c ∙ ap (λ (b : Bool). cond b (effect ds c) ds) (ne_eqb (refusal_of ds c) 0 h);
  },
)

-- a run's answer, by its number
ran-answer : (n count : ℕ) → ran n count ≡ answer n (λ m. ran m 0) (ran 0 count)
ran-answer n count = at (eqb n 0) refl where
  at : (b : Bool) → eqb n 0 ≡ b → ran n count ≡ answer n (λ m. ran m 0) (ran 0 count)
  at true e = ap (λ (m : ℕ). ran m count) (eqb-true n 0 e) ∙ sym (ap (λ (b : Bool). cond b (ran 0 count) (ran n 0)) e)
  at false e =
      ap (λ (b : Bool). record { returned = cond b count 0; refusal = n }) e
      ∙ ap (λ (b : Bool). record { returned = cond b 0 0; refusal = n }) (sym e)
      ∙ sym (ap (λ (b : Bool). cond b (ran 0 count) (ran n 0)) e)

runs : (ds : List Device) (ss out : List ℕ) → claim.RunAnswers ds ss out
unfolding run_refusal
runs ds ss out =
    let table = run_table ds ss (length out) in
    let n : ℕ = length (chain_returned ds ss) in
    let number : Ran → ℕ = λ q. q.refusal in
    let refused : ℕ → Ran = λ m. ran m 0 in
    let left : List ℕ = over (chain_returned ds ss) out in
    subst (λ (r : Ran). Answers number table refused (ran 0 n) r × Leaves r.refusal out left (content (first table) out left)) (sym (ran-answer (first table) n))
    (answers table refl refl number refused (ran 0 n) refl itself, leaves table refl refl number refused (ran 0 n) refl itself out _)

-- ---- a comparison that is not refused has the number 0

groups-zero : (n g : ℕ) (ps : List Pair) (none : Compared) → none.refusal ≡ 0 → (in_groups n g ps none).refusal ≡ 0
unfolding in_groups
groups-zero n g [] none e = e
groups-zero n g ((xs against ys) ∷ ps) none e = at (ltb (differs_at xs ys) (length xs)) (groups-zero n (suc g) ps none e) where
  at : (b : Bool) → (in_groups n (suc g) ps none).refusal ≡ 0 → (cond b (compared 0 n g (differs_at xs ys)) (in_groups n (suc g) ps none)).refusal ≡ 0
  at true h = refl
  at false h = h

difference-zero : (n : ℕ) (os : List Own) (ds : List Device) → (difference n os ds).refusal ≡ 0
unfolding difference
difference-zero n [] ds = refl
difference-zero n (o ∷ os) [] = refl
difference-zero n (o ∷ os) (d ∷ ds) = groups-zero n 1 (groups o d) (difference (suc n) os ds) (difference-zero (suc n) os ds)

compares : (s : Set) (ds : List Device)
    → Answers (λ (r : Compared). r.refusal) (compare_table s ds) (λ n. compared n 0 0 0) (difference 1 (owned s) ds) (comparison s ds)
unfolding comparison compare_refusal
compares s ds = answers (compare_table s ds) refl refl (λ (r : Compared). r.refusal) (λ n. compared n 0 0 0) (difference 1 (owned s) ds) (difference-zero 1 (owned s) ds) itself

pub gives-current : (s : Set) (out : List ℕ) → claim.GivesCurrent s out
unfolding current current_out current_refusal
gives-current s out =
    let table = current_table s (length out) in
    let number : Current → ℕ = λ r. r.refusal in
    (answers table refl refl number currents.refused _ refl itself, leaves table refl refl number currents.refused _ refl itself out _)

-- ---- all

pub accepted-exactly : claim.AcceptedExactly
unfolding on_answer lead_answer lit_answer lit_clocks_answer device_answer device_clocks_answer lit_now_refusal lit_now judged
accepted-exactly = record {
  writes = writes;
  reads = reads;
  reads_return = reads-return;
  gives_states = gives-states;
  packs_states = packs-states;
  judges = λ d. exactly (judgement d) refl refl;
  steps = λ d s. answers (step_refusals d s) refl refl (λ (a : Answer). a.refusal) (refused_with d) _ refl itself;
  calls = calls;
  runs = runs;
  compares = compares;
  gives_current = gives-current;
  on = λ part configuration global s. answers (on_rows part configuration s) refl refl number_in Err _ refl itself;
  lead = λ part configuration global from w. answers (lead_rows part configuration from w) refl refl number_in Err _ refl itself;
  lit = λ part configuration global value output s clock phase. answers (lit_rows part configuration value output s clock phase) refl refl number_in Err _ refl itself;
  device_lit = λ d output s clock phase. answers (device_rows d output s clock phase) refl refl number_in Err _ refl itself;
  lit_clocks = λ part configuration global value output s phase. answers (lit_rows part configuration value output s 0 phase) refl refl number_in Err _ refl itself;
  device_lit_clocks = λ d output s phase. answers (device_rows d output s 0 phase) refl refl number_in Err _ refl itself;
  lit_now = λ ds device output. answers (lit_now_table ds device output) refl refl (λ (a : LitNow). a.refusal) unlit _ refl itself;
  row = λ part number. answers (part_rows part) refl refl (λ (a : RowAnswer). a.refusal) refused (accepted number) refl itself;
  arguments = λ part devices. answers (asked_rows (parsed part) (parsed devices)) refl refl number_in Err _ refl itself;
}
