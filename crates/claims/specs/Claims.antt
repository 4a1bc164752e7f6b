-- Every claim of this library, each a type: a reader who trusts the checker reads the definitions in the crates' specs/ and this file. The
-- proofs are in proofs/, one for each, under the same name in small letters. What a claim says of an operation is said with the definitions
-- that the operation's contract cites: of bytes written and read, of lent records and lent room. Numbers that stand for bytes are below 256,
-- as their types say. docs/RULES.md fixes the terms.
use Rattle.std.specs.Prelude.{ℕ, ◌+◌, ◌-◌, ◌*◌, ◌/◌, ◌^◌, ◌<◌, ◌≤◌, ◌≡◌, Bool, true, false, cond, eqb, leb, pos, neg_ℤ, length, take, get_or, replicate, ◌<ℤ◌, Ok, Err}
use mathlib.Core.List.{List, [], ◌∷◌, ◌++◌, map, flatten}
use Rattle.bits.specs.Bits.{digit, bits, fields, bytes_of, bytes_for, over}
use Rattle.bits.specs.Groups.{group_size, in_groups, group_bytes}
use Rattle.parts.specs.Parts.{Part, max6972, max6973, max6974, max6975, multiplex, glb4, rows, known, part_of, outputs, subframes, phase_count, frame_clocks, period, period_frames, sink_current, restore_order, is_count, Usable}
use Rattle.tables.specs.Refusals.{first, number_in}
use Rattle.parts.specs.Wire.{State, high, Edge, edge_at, state_at, state_code, states_at, states_of, lows, clocked, header, frame}
use Rattle.parts.specs.declared.command.Command.{Command}
use Rattle.parts.specs.declared.command.Command.TheVariants.{Individual, Configuration}
use Rattle.serial.specs.States.{data_bits, frame_states, frame_rows, clocked_answer, clocked_out, state_rows, data_bytes_answer, data_bytes_out}
use Rattle.frames.specs.Frames.{told_of, field_count, tail_bits, frame_of}
use Rattle.frame_writer.specs.Writing.{settings, write_table, written, written_out}
use Rattle.frame_reader.specs.Reading.{held_fields, room_short, read_table, found, bytes_found, values_found, read, read_bytes, read_values}
use Rattle.return_reader.specs.Returns as returns
use Rattle.frames.specs.declared.told.Told.{Told}
use Rattle.frames.specs.declared.told.Tail.{Tail}
use Rattle.frame_laws.specs.RoundTrip.{ReadBack, WrittenAgain, byte_read, bytes_read, values_read}
use Rattle.phases.specs.Phases.{phase_of, window_of}
use Rattle.positions.specs.Positions.{length_in}
use Rattle.watch.specs.Watch.{enabled}
use Rattle.device.specs.Step.{single_step, slice_length}
use Rattle.device.specs.Judgement.{Answer, fits, judgement, step_refusals, accepted_step, refused_with, step_answer}
use Rattle.device.specs.declared.device.Device.{Device}
use Rattle.calls.specs.Chain.{blank}
use Rattle.calls.specs.Calls.{room_for, run_devices, returned, run_table, run_room}
use Rattle.calls.specs.History.{Call, fresh, run, table_of, refusal_of, effect, after, after_calls, states_given, answered, answers, Runs, Settles}
use Rattle.calls.specs.Told.{part_told, watch_told, flag_in, flag_told, own_table}
use Rattle.calls.specs.Expiry.{expires, expired_within, CalmCalls, Calm}
use Rattle.model.specs.Lists.{All, Pairwise}
use Rattle.model.specs.Device.{faults, fault, counted, begun, registers_in}
use Rattle.model.specs.Edge.{low_run, RisesAs}
use Rattle.model.specs.Device as model
use Rattle.model.specs.Set.{Set, Own, OwnProper, owned}
use Rattle.model.specs.Restore.{pieces_states, states_until, returns_of, RegistersHold}
use Rattle.clocked.specs.Clock.{Clocked, Placed, Running, run_clocked, devices_in, last_boundary}
use Rattle.clocked.specs.Clock as clock
use Rattle.clocked.specs.Cut.{CutClocked}
use Rattle.watchdog.specs.Watched.{Watched, clocks_in, step_watched, run_watched}
use Rattle.watchdog.specs.Watched as watchdog
use Rattle.watchdog.specs.Faded.{faded, faint}
use Rattle.watchdog.specs.Still.{Stopped, sent_by}
use Rattle.device.specs.Run.{step_record}
use Rattle.device.specs.Run as stepping
use Rattle.link.specs.View.{device_of, clocked_of, watched_of, registers_of, Arrays, registers_at, registers_all, Holds}
use Rattle.link.specs.Called.{called}
use Rattle.link.specs.Restore.{Writable, frame_part, restore_part, restore_states, restore_then, gap_after, tails_of, arrival}
use Rattle.cursor.specs.Answer.{ran, run_answer}
use Rattle.cursor.specs.declared.entry.Ran.{Ran}
use Rattle.subframes.specs.Subframes.{level, is_on, lead_of, how_many_from}
use Rattle.schedule.specs.Light.{total, is_lit, lit_at, in_run, lit_count}
use Rattle.subframes.specs.Answers.{on_rows, lead_rows, on_answer, lead_answer}
use Rattle.schedule.specs.Answers.{lit_rows, lit_run, lit_answer, lit_clocks_answer, clocks}
use Rattle.device_light.specs.OfDevice.{is_shown, shown_run, device_rows, device_answer, device_clocks_answer}
use Rattle.schedule.specs.Moments.{Visited}
use Rattle.lit_now.specs.LitNow.{refused as unlit, shown_now, device_at, lit_now_table, lit_now_refusal, lit_now}
use Rattle.lit_now.specs.BySchedule.{BySchedule}
use Rattle.lit_now.specs.declared.now.LitNow.{LitNow}
use Rattle.differences.specs.Groups.{same, compared}
use Rattle.compare.specs.Compare.{difference, compare_table, compare_refusal, comparison}
use Rattle.compare.specs.Differences.{FirstDifference}
use Rattle.differences.specs.declared.compared.Compared.{Compared}
use Rattle.current.specs.Current.{value_in, drawn, drawn_in_clock, figure, sum, device_figures, sign_total}
use Rattle.current.specs.Answers.{current_table, current_refusal, current, current_out, drawing}
use Rattle.current.specs.Answers as current
use Rattle.current.specs.Most.{most_drawn, brightest, brightest_set}
use Rattle.current.specs.declared.sign.Current.{Current}
use Rattle.arguments.specs.Arguments.{parsed, value_of, asked_rows, asked}
use Rattle.answers.specs.Answers.{accepted, refused}
use Rattle.answers.specs.declared.answer.Answer.{Answer as RowAnswer}
use Rattle.capi_bits.specs.PartAnswers.{part_rows, of_part}
use Rattle.claims.specs.Tables.{Exactly, Answers, Leaves}
use Rattle.claims.specs.Examples.{Each, examples, edge_examples, clock_examples, watch_examples}

-- each is a byte
abbrev pub Bytes : List ℕ → Type 0
Bytes bytes = (i : ℕ) → get_or bytes i 0 < 256

-- ---- demands 1 and 2: every operation accepts exactly what no number of its table refuses, and refuses with the lowest that applies

-- the writer: the frame's bytes, and in front of the output the frame
abbrev pub Writes : Told → Tail → ℕ → List ℕ → List ℕ → List ℕ → Type 0
Writes t tail byte bytes values out =
    let frame : List ℕ = frame_of t tail (settings t byte bytes values) in
    Answers number_in (write_table t tail byte bytes values (length out)) Err (Ok (length frame)) (written t tail byte bytes values (length out))
    × Leaves (number_in (written t tail byte bytes values (length out))) out (over frame out) (written_out t tail byte bytes values out)

-- the reader: the byte or how many values, and these in front of the lent list of its command
abbrev pub Reads : Told → Tail → List ℕ → List ℕ → List ℕ → Type 0
Reads t tail frame bytes values =
    let number : ℕ = number_in (read t tail frame (length bytes) (length values)) in
    Answers number_in (read_table t tail frame (length bytes) (length values)) Err (Ok (found t t.command (held_fields t frame))) (read t tail frame (length bytes) (length values))
    × Leaves number bytes (bytes_found t.command (held_fields t frame) bytes) (read_bytes t tail frame bytes (length values))
    × Leaves number values (values_found t.command (held_fields t frame) values) (read_values t tail frame (length bytes) values)

-- the return reader: the count
abbrev pub ReadsReturn : ℕ → ℕ → Command → Tail → List ℕ → Type 0
ReadsReturn part devices c tail frame =
    Answers number_in (returns.return_table part devices c tail frame) Err (Ok (returns.count_of (fields 8 frame))) (returns.return_read part devices c tail frame)

-- a frame's line states with an edge: how many, and these in front of the lent states
abbrev pub GivesStates : List ℕ → ℕ → ℕ → List ℕ → Type 0
GivesStates frame n edge out =
    Answers number_in (frame_rows (length frame) n edge (length out)) Err (Ok n) (clocked_answer frame n edge out)
    × Leaves (number_in (clocked_answer frame n edge out)) out (over (frame_states (edge_at edge) frame n) out) (clocked_out frame n edge out)

-- returned states, packed: how many bytes, and these in front of the lent bytes
abbrev pub PacksStates : List ℕ → List ℕ → Type 0
PacksStates states out =
    Answers number_in (state_rows states (length out)) Err (Ok (bytes_for (length states))) (data_bytes_answer states out)
    × Leaves (number_in (data_bytes_answer states out)) out (over (bytes_of (data_bits states)) out) (data_bytes_out states out)

-- a call on a lent chain: its effect on the records
abbrev pub Calls : List Device → Call → Type 0
Calls ds c = Exactly (table_of ds c) (refusal_of ds c) × Leaves (refusal_of ds c) ds (effect ds c) (after ds c)

-- a run, beside that: how many states the last device sent, and these in front of the lent room
abbrev pub RunAnswers : List Device → List ℕ → List ℕ → Type 0
RunAnswers ds ss out =
    Answers (λ (r : Ran). r.refusal) (run_table ds ss (length out)) (λ n. ran n 0) (ran 0 (length (returned ds ss))) (run_answer ds ss (length out))
    × Leaves (run_answer ds ss (length out)).refusal out (over (returned ds ss) out) (run_room ds ss out)

-- the current of a set: the sign's figures, and those of each device in front of the lent list
abbrev pub GivesCurrent : Set → List ℕ → Type 0
GivesCurrent s out =
    Answers (λ (r : Current). r.refusal) (current_table s (length out)) current.refused (drawing (sign_total s)) (current s (length out))
    × Leaves (current s (length out)).refusal out (over (device_figures s) out) (current_out s out)

-- every public operation that can refuse, for any input
pub record AcceptedExactly : Type 0 where
  pub writes : (t : Told) (tail : Tail) (byte : ℕ) (bytes values out : List ℕ) → Writes t tail byte bytes values out
  pub reads : (t : Told) (tail : Tail) (frame bytes values : List ℕ) → Reads t tail frame bytes values
  pub reads_return : (part devices : ℕ) (c : Command) (tail : Tail) (frame : List ℕ) → ReadsReturn part devices c tail frame
  pub gives_states : (frame : List ℕ) (n edge : ℕ) (out : List ℕ) → GivesStates frame n edge out
  pub packs_states : (states out : List ℕ) → PacksStates states out
  pub judges : (d : Device) → Exactly (judgement d) (first (judgement d))
  pub steps : (d : Device) (s : ℕ) → Answers (λ (a : Answer). a.refusal) (step_refusals d s) (refused_with d) (accepted_step (single_step d s)) (step_answer d s)
  pub calls : (ds : List Device) (c : Call) → Calls ds c
  pub runs : (ds : List Device) (ss out : List ℕ) → RunAnswers ds ss out
  pub compares : (s : Set) (ds : List Device)
      → Answers (λ (r : Compared). r.refusal) (compare_table s ds) (λ n. compared n 0 0 0) (difference 1 (owned s) ds) (comparison s ds)
  pub gives_current : (s : Set) (out : List ℕ) → GivesCurrent s out
  pub on : (part configuration global s : ℕ)
      → Answers number_in (on_rows part configuration s) Err (Ok (is_on (part_of part) configuration global s)) (on_answer part configuration global s)
  pub lead : (part configuration global from w : ℕ)
      → Answers number_in (lead_rows part configuration from w) Err (Ok (lead_of (part_of part) configuration global from w)) (lead_answer part configuration global from w)
  pub lit : (part configuration global value output s clock phase : ℕ)
      → Answers number_in (lit_rows part configuration value output s clock phase) Err (Ok (is_lit (part_of part) configuration global value output s clock))
      (lit_answer part configuration global value output s clock phase)
  pub device_lit : (d : Device) (output s clock phase : ℕ)
      → Answers number_in (device_rows d output s clock phase) Err (Ok (is_shown d.registers output s clock phase)) (device_answer d output s clock phase)
  pub lit_clocks : (part configuration global value output s phase : ℕ)
      → Answers number_in (lit_rows part configuration value output s 0 phase) Err (Ok (lit_run (part_of part) configuration global value output s))
      (lit_clocks_answer part configuration global value output s phase)
  pub device_lit_clocks : (d : Device) (output s phase : ℕ)
      → Answers number_in (device_rows d output s 0 phase) Err (Ok (shown_run d.registers output s phase)) (device_clocks_answer d output s phase)
  pub lit_now : (ds : List Device) (device output : ℕ)
      → Answers (λ (r : LitNow). r.refusal) (lit_now_table ds device output) unlit (shown_now (device_at ds device).registers output) (lit_now ds device output)
  -- subframes per frame, or bits of a slice: `number` is the row's
  pub row : (part number : ℕ) → Answers (λ (a : RowAnswer). a.refusal) (part_rows part) refused (accepted number) (of_part part number)
  pub arguments : (part devices : List ℕ)
      → Answers number_in (asked_rows (parsed part) (parsed devices)) Err (Ok (record { part = value_of (parsed part); devices = value_of (parsed devices) })) (asked part devices)

-- ---- demand 2: frames

-- written, read back: whatever the writer accepts, the reader, told the same and lent enough, accepts, and gives the same values
abbrev pub WrittenRead : Type 0
WrittenRead =
    (t : Told) (tail : Tail) (byte : ℕ) (bytes values out : List ℕ) (n : ℕ)
    → byte < 256
    → Bytes bytes
    → written t tail byte bytes values (length out) ≡ Ok n
    → (lent_bytes lent_values : List ℕ)
    → room_short t.command (field_count t) (length lent_bytes) (length lent_values) ≡ false
    → ReadBack t tail (take n (written_out t tail byte bytes values out)) (settings t byte bytes values) lent_bytes lent_values

-- read, written again: whatever the reader accepts, the writer, given what was read, writes to the same bytes
abbrev pub ReadWritten : Type 0
ReadWritten =
    (t : Told) (tail : Tail) (frame bytes values out : List ℕ)
    → Bytes frame
    → ((n : ℕ) → read t tail frame (length bytes) (length values) ≡ Err n → ⊥)
    → length frame ≤ length out
    → WrittenAgain t tail frame (byte_read t tail frame bytes values) (bytes_read t tail frame bytes values) (values_read t tail frame bytes values) out

-- request Three, an individual frame in groups: two values of 12 bits are three bytes and four of 14 are seven; of any part, any N, multiplexed
-- or not, with any tail, it is its header, then each group's bytes in wire order, then its tail
pub record InGroups : Type 0 where
  pub sizes : map (λ p. group_size p.width) rows ≡ 2 ∷ 4 ∷ 2 ∷ 4 ∷ []
  pub bytes : map (λ p. group_size p.width * p.width / 8) rows ≡ 3 ∷ 7 ∷ 3 ∷ 7 ∷ []
  pub whole : (w : ℕ) (group : List ℕ) → length group ≡ group_size w → 8 * length (bytes_of (fields w group)) ≡ group_size w * w
  pub framed :
      (part devices configuration : ℕ) (tail : Tail) (values : List ℕ)
      → length values ≡ field_count (told_of part devices Individual configuration)
      → frame_of (told_of part devices Individual configuration) tail values
      ≡ bytes_of (header Individual 0) ++ (group_bytes (part_of part).width (in_groups (part_of part).width values) ++ bytes_of (tail_bits tail))

-- ---- demand 2: registers. The device that reads like docs/RULES.md is model/specs/Device, its clock clocked/specs/Clock, its watchdog
-- watch/specs/Watch and watchdog/specs/Watched; a record is seen as one by link/specs/View

-- one line state: a record that fits takes the single step as the model's device does, and still fits
abbrev pub StepModelled : Type 0
StepModelled =
    (d : Device) (s : ℕ)
    → Arrays d
    → fits d ≡ true
    → ((watched_of (step_record d s).0, map state_at (step_record d s).1) ≡ step_watched (watched_of d) (state_at s)) × (fits (step_record d s).0 ≡ true)

-- a call: an accepted fresh, run or fault setting does to the records what it does to the model's devices, their clocks and their watchdogs, and
-- a run returns the same
abbrev pub CallModelled : Type 0
CallModelled =
    (ds : List Device) (c : Call)
    → All Arrays ds
    → refusal_of ds c ≡ 0
    → ◌≡◌ {A = List Watched × List State} (map watched_of (after ds c), map state_at (answered ds c)) (called (map watched_of ds) c)

-- a frame is 524,288 clocks, or 131,072 where GLB4 is set on a 6973 or a 6975
pub record FrameLength : Type 0 where
  pub of6972 : (configuration : ℕ) → frame_clocks max6972 configuration ≡ 524288
  pub of6973 : (configuration : ℕ) → frame_clocks max6973 configuration ≡ cond (eqb (glb4 configuration) 1) 131072 524288
  pub of6974 : (configuration : ℕ) → frame_clocks max6974 configuration ≡ 524288
  pub of6975 : (configuration : ℕ) → frame_clocks max6975 configuration ≡ cond (eqb (glb4 configuration) 1) 131072 524288

-- ---- where load rises: with SYNC's last bit, with the first command bit, or with the second

-- the phase of a record after line states, as the model's device has it
abbrev pub phase_after : Device → List State → model.Phase
phase_after d ls = (device_of (stepping.run d (map state_code ls)).0).phase

-- the low bits that a record has seen once it was given line states: those of its window and of the states, since the last high clock
abbrev pub lows_seen : Device → List State → List Bool
lows_seen d ls = low_run (bits 9 (window_of (phase_of d.place))) ls

-- a rising edge, after any line history ls
pub record RisingEdge : Type 0 where
  -- no history fits two of the three readings
  pub one :
      (ls : List State) (first : Bool) (e f : Edge) (got had : List Bool)
      → RisesAs e (low_run [] ls) first got
      → RisesAs f (low_run [] ls) first had
      → (e ≡ f) × (got ≡ had)
  -- each is accepted, whatever the record held and saw before: it is in the header, with exactly the command bits that were seen
  pub accepted :
      (d : Device) (ls : List State) (first : Bool) (e : Edge) (got : List Bool)
      → Arrays d
      → fits d ≡ true
      → RisesAs e (low_run [] ls) first got
      → phase_after d (ls ++ high first ∷ []) ≡ begun got
  -- a record hunts after a low clock and when it is fresh; what it has seen is one of the readings
  pub heard :
      (d : Device) (ls : List State) (first : Bool) (window : ℕ) (e : Edge) (got : List Bool)
      → Arrays d
      → fits d ≡ true
      → phase_after d ls ≡ model.hunting window
      → RisesAs e (lows_seen d ls) first got
      → phase_after d (ls ++ high first ∷ []) ≡ begun got
  -- or it is none of them: every other rising edge is lost
  pub lost :
      (d : Device) (ls : List State) (first : Bool) (window : ℕ)
      → Arrays d
      → fits d ≡ true
      → phase_after d ls ≡ model.hunting window
      → ((e : Edge) (got : List Bool) → RisesAs e (lows_seen d ls) first got → ⊥)
      → phase_after d (ls ++ high first ∷ []) ≡ model.lost

-- every device sends the exact edge: of a frame that comes with any edge it keeps its own slice and sends on the frame of those behind it
abbrev pub SentOn : Type 0
SentOn =
    (d : Device) (e : Edge) (c : Command) (n : ℕ) (slice behind tail : List Bool)
    → Arrays d
    → fits d ≡ true
    → n < 1024
    → length slice ≡ slice_length d.registers c
    → (stepping.run d (states_at e (frame c n (slice ++ behind) tail))).1 ≡ states_of (frame c (counted n (fault c (registers_of d.registers))) behind tail)

-- ---- demand 3

-- any records, told to be a part's and a watchdog's bit and limit, made fresh, and any calls after that
abbrev pub start : ℕ → ℕ → ℕ → List Device → List Call → List Device
start p bit limit records earlier = after_calls records (fresh p bit limit ∷ earlier)

-- the part told to the last accepted fresh of them
abbrev pub start_part : ℕ → ℕ → ℕ → List Device → List Call → ℕ
start_part p bit limit records earlier = part_told (after records (fresh p bit limit)) p earlier

-- a device's position next returns to 0 within n clocks
abbrev pub ReturnsWithin : ℕ → Device → Type 0
ReturnsWithin n d = length_in d.registers - d.registers.position ≤ n

-- the states that calls gave a chain `now` after those of a restore are enough clocks for each position, as the last frame left it, to return to 0
abbrev pub Waited : List Device → List ℕ → List Call → Type 0
Waited now restore calls = All (ReturnsWithin (length (states_given now calls) - length restore)) (run_devices now restore)

-- the fresh was accepted; then a set for as many devices and the part told last, which the writer accepts, and the calls of a restore
pub record RestorePremises (p bit limit : ℕ) (records : List Device) (earlier during : List Call) (s : Set) (tail : Command → Tail) : Type 0 where
  pub accepted : refusal_of records (fresh p bit limit) ≡ 0
  pub writable : Writable s tail
  pub devices : s.devices ≡ length records
  pub part : s.part ≡ start_part p bit limit records earlier
  -- until the fourth frame ends no fault flag changes
  pub runs : Runs (start p bit limit records earlier) during

-- what holds of a chain `now`, as it stood before the restore, once the calls `during` gave the first k states of the set's restore. Each device may
-- expire before the clock `from` of the restore, and `before` says what then stands for its old registers: those that it had, by whether it has
-- expired in the restore
pub record Outcome (from : ℕ → ℕ) (before : Bool → model.Registers → model.Registers) (now : List Device) (during : List Call) (s : Set)
    (edge : Command → Edge) (gap : Command → List Bool) (tail : Command → Tail) (last : List Bool) (k : ℕ) : Type 0 where
  -- all four frames were given; then fault settings, runs of low states and calls that change nothing, until each position has returned to 0; to the
  -- end of the last of these clocks no device expires from its clock on: each device's registers in use hold the values of its own slices
  pub restored :
      length (restore_states s edge gap tail) ≤ k
      → (later : List Call)
      → Settles (after_calls now during) later
      → Waited now (restore_states s edge gap tail) (during ++ later)
      → CalmCalls from now (during ++ later)
      → Pairwise Holds (owned s) (after_calls now (during ++ later))
  -- j frames were given, and of what follows them at most the clocks at low load: the runs wrote the first j returns, with the exact edge, and
  -- nothing else, whatever expires
  pub returned :
      (j : ℕ)
      → length (restore_part s edge gap tail j) ≤ k
      → k ≤ length (restore_part s edge gap tail j) + length (gap_after gap last j)
      → answers now during ≡ flatten (map states_of (take j (returns_of (tails_of tail) (registers_all now))))
  -- up to the cut no device expires from its clock on: in each device, 1 to N, each group is new exactly where its slice had fully arrived; what is
  -- active is what waited at the device's last boundary in the restore, or the old active values where none fell
  pub cut :
      (device : ℕ) (o : Own)
      → 1 ≤ device
      → device ≤ s.devices
      → k ≤ length (restore_then s edge gap tail last)
      → CalmCalls from now during
      → let after : ℕ → Clocked = λ j. clocked_of (get_or (run_devices now (take j (restore_then s edge gap tail last))) (device - 1) blank) in
      CutClocked (λ c j. leb (arrival s gap tail c device) j) k (last_boundary after k) (get_or (owned s) (device - 1) o)
      (before (expired_within now (restore_then s edge gap tail last) k device) (registers_at now device)) (registers_at (after_calls now during) device)

-- any records made fresh, any calls, then the calls of a restore, whose runs gave the first k states of it, for any k and any edge of each frame
abbrev pub Restores : (Set → (Command → Edge) → (Command → List Bool) → (Command → Tail) → ℕ → ℕ) → (Bool → model.Registers → model.Registers) → Type 0
Restores from before =
    (p bit limit : ℕ) (records : List Device) (earlier during : List Call) (s : Set) (edge : Command → Edge) (gap : Command → List Bool) (tail : Command → Tail)
    (last : List Bool) (k : ℕ)
    → RestorePremises p bit limit records earlier during s tail
    → states_given (start p bit limit records earlier) during ≡ take k (restore_then s edge gap tail last)
    → Outcome (from s edge gap tail) before (start p bit limit records earlier) during s edge gap tail last k

-- demand 3: no watchdog expires from the restore's first clock to the end, and what is not new is old
abbrev pub DemandThree : Type 0
DemandThree = Restores (λ s edge gap tail device. 1) (λ expired old. old)

-- request Five, the second claim: watchdogs may expire up to the last clock of the configuration frame, the clocks before it and its tail included,
-- and none expires after it to the end. The end and the returns are as they are, and the cut too, save that an individual group is wholly 0 in
-- place of old once its device has expired in the restore
abbrev pub DemandThreeExpired : Type 0
DemandThreeExpired = Restores (λ s edge gap tail device. length (frame_part s edge gap tail Configuration) + 1) faded

-- both follow from this: each device may expire in any clock before that of its own individual slice's last bit
abbrev pub DemandThreeEach : Type 0
DemandThreeEach = Restores (λ s edge gap tail device. arrival s gap tail Individual device) faded

-- what the runs write while the frame after the first j comes in, packed, is what the return reader accepts: it gives the number of flags up
abbrev pub Counted : Type 0
Counted =
    (p bit limit : ℕ) (records : List Device) (earlier former during : List Call) (s : Set) (edge : Command → Edge) (gap : Command → List Bool) (tail : Command → Tail)
    (last : List Bool) (j : ℕ)
    → RestorePremises p bit limit records earlier (former ++ during) s tail
    → j < 4
    → let c : Command = get_or restore_order j Individual in
    let now : List Device = after_calls (start p bit limit records earlier) former in
    states_given (start p bit limit records earlier) former ≡ restore_part s edge gap tail j
    → states_given now during ≡ frame_part s edge gap tail c ++ map state_code (lows last)
    → returns.return_read s.part s.devices c (tail c) (bytes_of (data_bits (answers now during))) ≡ Ok (faults c (registers_all (start p bit limit records earlier)))

-- the enabling bit of a device's watchdog is clear in a configuration
abbrev pub Clear : ℕ → Device → Type 0
Clear configuration d = enabled d.registers.watch configuration ≡ false

-- each count of a device and n clocks more are below its limit
abbrev pub Short : ℕ → Device → Type 0
Short n d = (d.registers.watch.din.still + n < d.registers.watch.limit) × (d.registers.watch.loadi.still + n < d.registers.watch.limit)

-- of a chain `now`: one run of the restore of a set, and one of low states
pub record RestoredBy (p bit limit : ℕ) (records : List Device) (earlier : List Call) (s : Set) (edge : Command → Edge) (gap : Command → List Bool) (tail : Command → Tail)
    (last : List Bool) (now : List Device) (restore wait : Call) : Type 0 where
  pub restore_accepted : refusal_of now restore ≡ 0
  pub wait_accepted : refusal_of (after_calls now (restore ∷ [])) wait ≡ 0
  pub premises : RestorePremises p bit limit records earlier (restore ∷ []) s tail
  pub given : states_given now (restore ∷ []) ≡ restore_then s edge gap tail []
  pub settles : Settles (after_calls now (restore ∷ [])) (wait ∷ [])
  pub waited : Waited now (restore_states s edge gap tail) (restore ∷ wait ∷ [])
  pub restored : CalmCalls (λ device. arrival s gap tail Individual device) now (restore ∷ wait ∷ []) → Pairwise Holds (owned s) (after_calls now (restore ∷ wait ∷ []))
  -- a set that clears the enabling bits: none expires after the configuration frame; in a chain in which they are clear, none at all
  pub cleared : All (Clear s.configuration) now → CalmCalls (λ device. length (frame_part s edge gap tail Configuration) + 1) now (restore ∷ wait ∷ [])
  pub clear : All (Clear s.configuration) now → All (λ d. Clear d.registers.configuration d) now → Calm now (restore ∷ wait ∷ [])
  -- watchdogs whose limits are longer than the two runs: none at all, enabled or not
  pub short : All (Short (length (restore_then s edge gap tail last))) now → Calm now (restore ∷ wait ∷ [])

-- nothing above is empty: whatever was called since an accepted fresh, one run of the restore of any set for the chain and one of 524,288 low
-- states are accepted, meet the premises above, and restore the set; the premises on expiries are met by clear bits, and by long limits
abbrev pub Restorable : Type 0
Restorable =
    (p bit limit : ℕ) (records : List Device) (earlier : List Call) (s : Set) (edge : Command → Edge) (gap : Command → List Bool) (tail : Command → Tail) (last : List Bool)
    (out room : List ℕ)
    → refusal_of records (fresh p bit limit) ≡ 0
    → Writable s tail
    → s.devices ≡ length records
    → s.part ≡ start_part p bit limit records earlier
    → room_for (length (restore_states s edge gap tail)) ≤ length out
    → length last ≡ 524288
    → room_for 524288 ≤ length room
    → RestoredBy p bit limit records earlier s edge gap tail last (start p bit limit records earlier) (run (restore_states s edge gap tail) out)
    (run (map state_code (lows last)) room)

-- no wait is longer: whatever a device holds, its position returns to 0 within 524,288 clocks
abbrev pub LongestWait : Type 0
LongestWait = (d : Device) → ReturnsWithin 524288 d

-- ---- the watchdog

-- of any lent records, in an accepted run of states
pub record Watchdogs : Type 0 where
  -- where each enabling bit is clear at the end of each clock, every device but for its watchdog is as without one, and the returns too
  pub clear :
      (ds : List Device) (ss out : List ℕ)
      → All Arrays ds
      → refusal_of ds (run ss out) ≡ 0
      → ((clock : ℕ) → 1 ≤ clock → clock ≤ length ss → All (λ d. Clear d.registers.configuration d) (run_devices ds (take clock ss)))
      → ◌≡◌ {A = List Clocked × List State} (map clocked_of (run_devices ds ss), map state_at (returned ds ss)) (run_clocked (map clocked_of ds) (map state_at ss))
  -- whatever expires: but for individual values every device is as without a watchdog, and the returns too
  pub expiry :
      (ds : List Device) (ss out : List ℕ)
      → All Arrays ds
      → refusal_of ds (run ss out) ≡ 0
      → (map faint (map clocked_of (run_devices ds ss)) ≡ map faint (run_clocked (map clocked_of ds) (map state_at ss)).0)
      × (map state_at (returned ds ss) ≡ (run_clocked (map clocked_of ds) (map state_at ss)).1)
  -- device 1, 2, .. expires only where one of its two lines has not changed for as many clocks as its limit, by what it was sent in them
  pub stopped :
      (ds : List Device) (ss out : List ℕ) (clock device : ℕ)
      → All Arrays ds
      → refusal_of ds (run ss out) ≡ 0
      → 1 ≤ device
      → device ≤ length ds
      → expires ds ss clock device ≡ true
      → Stopped (watched_of (get_or ds (device - 1) blank)) (sent_by (take (device - 1) (map watched_of ds)) (take clock (map state_at ss)))

-- ---- the calls themselves

-- of any lent records: an accepted run of n states returns at most n + 23, and has that room
abbrev pub Room : Type 0
Room =
    (ds : List Device) (ss out : List ℕ)
    → refusal_of ds (run ss out) ≡ 0
    → (length (returned ds ss) ≤ room_for (length ss)) × (room_for (length ss) ≤ length out)

-- after an accepted fresh and any calls, there are as many records, each of the part told last and with the watchdog's bit and limit told last, each
-- fits and has arrays of the lengths of their types, and no call is refused for them
abbrev pub Kept : Type 0
Kept =
    (p bit limit : ℕ) (records : List Device) (earlier : List Call) (c : Call)
    → refusal_of records (fresh p bit limit) ≡ 0
    → let now : List Device = start p bit limit records earlier in
    (length now ≡ length records)
    × All (λ d. d.registers.part ≡ start_part p bit limit records earlier) now
    × All (λ d. (d.registers.watch.bit, d.registers.watch.limit) ≡ watch_told (after records (fresh p bit limit)) (bit, limit) earlier) now
    × All (λ d. fits d ≡ true) now
    × All Arrays now
    × (refusal_of now c ≡ first (own_table (length records) c))

-- flags are inputs: after an accepted fresh and any calls, a device's flag of a kind is what the last accepted setting of it since the last
-- accepted fresh gave, and 0 where there was none
abbrev pub Flags : Type 0
Flags =
    (p bit limit : ℕ) (records : List Device) (earlier : List Call) (device kind : ℕ)
    → refusal_of records (fresh p bit limit) ≡ 0
    → 1 ≤ device
    → device ≤ length records
    → kind < 2
    → flag_in (get_or (start p bit limit records earlier) (device - 1) blank).registers kind ≡ digit (flag_told (after records (fresh p bit limit)) device kind false earlier)

-- ---- is it running?

-- same: every register in use is the set's
abbrev pub SameHolds : Type 0
SameHolds =
    (s : Set) (ds : List Device)
    → All Arrays ds
    → comparison s ds ≡ same
    → Pairwise Holds (owned s) ds

-- every register in use is the set's: same, unless it is refused
abbrev pub HoldsSame : Type 0
HoldsSame =
    (s : Set) (ds : List Device)
    → compare_refusal s ds ≡ 0
    → Pairwise Holds (owned s) ds
    → comparison s ds ≡ same

-- after a restore, and whatever settles until each position has returned to 0, where no device expires from the clock of its individual slice on:
-- a comparison of that set and that chain is not refused, and says same
abbrev pub RestoredSame : Type 0
RestoredSame =
    (p bit limit : ℕ) (records : List Device) (earlier during later : List Call) (s : Set) (edge : Command → Edge) (gap : Command → List Bool) (tail : Command → Tail)
    (last : List Bool)
    → RestorePremises p bit limit records earlier during s tail
    → let now : List Device = start p bit limit records earlier in
    states_given now during ≡ restore_then s edge gap tail last
    → Settles (after_calls now during) later
    → Waited now (restore_states s edge gap tail) (during ++ later)
    → CalmCalls (λ device. arrival s gap tail Individual device) now (during ++ later)
    → comparison s (after_calls now (during ++ later)) ≡ same

-- neither refused nor same: the first difference
abbrev pub Named : Type 0
Named =
    (s : Set) (ds : List Device) (o : Own)
    → All Arrays ds
    → compare_refusal s ds ≡ 0
    → (comparison s ds ≡ same → ⊥)
    → FirstDifference (comparison s ds) o (owned s) ds

-- ---- light

-- a frame has exactly g + 1 ON subframes
abbrev pub FrameOn : Type 0
FrameOn =
    (part configuration global : ℕ)
    → how_many_from (is_on (part_of part) configuration global) 0 (subframes (part_of part) configuration) ≡ level (part_of part) configuration global + 1

-- the lead of every window lies strictly between -S and S
abbrev pub WindowLead : Type 0
WindowLead =
    (part configuration global from w : ℕ)
    → (neg_ℤ (pos (subframes (part_of part) configuration)) <ℤ lead_of (part_of part) configuration global from w)
    × (lead_of (part_of part) configuration global from w <ℤ pos (subframes (part_of part) configuration))

-- the run of clocks that is answered for a subframe: an output is lit at each clock of it, and at no other; and it is answered wherever the
-- question about one clock is
pub record LitClocks : Type 0 where
  pub numbers : (part configuration global value output s clock phase from to : ℕ)
      → lit_clocks_answer part configuration global value output s phase ≡ Ok (clocks from to)
      → first (lit_rows part configuration value output s clock phase) ≡ 0
      → lit_answer part configuration global value output s clock phase ≡ Ok (in_run from to clock)
  pub numbers_answered : (part configuration value output s clock phase : ℕ)
      → first (lit_rows part configuration value output s clock phase) ≡ 0
      → first (lit_rows part configuration value output s 0 phase) ≡ 0
  pub device : (d : Device) (output s clock phase from to : ℕ)
      → device_clocks_answer d output s phase ≡ Ok (clocks from to)
      → first (device_rows d output s clock phase) ≡ 0
      → device_answer d output s clock phase ≡ Ok (in_run from to clock)
  pub device_answered : (d : Device) (output s clock phase : ℕ)
      → first (device_rows d output s clock phase) ≡ 0
      → first (device_rows d output s 0 phase) ≡ 0

-- lit now, of any lent chain: an accepted question is answered as the schedule says at the device's position; nonmultiplexed the phase is MUX0;
-- and the clocks of one frame go through the schedule, each moment once, of any row
pub record LitAtPosition : Type 0 where
  pub now :
      (ds : List Device) (device output : ℕ)
      → lit_now_refusal ds device output ≡ 0
      → BySchedule (device_at ds device).registers output (lit_now ds device output)
  pub mux0 :
      (ds : List Device) (device output : ℕ)
      → lit_now_refusal ds device output ≡ 0
      → multiplex (device_at ds device).registers.configuration ≡ 0
      → (lit_now ds device output).phase ≡ 0
  pub frame : (p : Part) (configuration : ℕ) → Visited p configuration

-- the lit clocks of an ON subframe are as many as the value has outside the edge zones, for an even output and for an odd one, of any row
abbrev pub LitCount : Type 0
LitCount = (p : Part) (value output : ℕ) → how_many_from (lit_at p value output) 0 p.clocks ≡ lit_count p value

-- ---- current

-- the answer is the sum over the schedule: an accepted set draws, over its devices and 524,288 clocks one after the other, the current of each
-- sink that is lit in that clock; the average is that sum divided, and the remainder what is left
abbrev pub SumOverSchedule : Type 0
SumOverSchedule =
    (s : Set) (out : List ℕ)
    → let r : Current = current s (length out) in
    let drawn_over : Own → ℕ = λ o. total (drawn_in_clock (part_of s.part) o) 524288 in
    r.refusal ≡ 0
    → (r.total ≡ sum (map drawn_over (owned s)))
    × (r.total ≡ r.average * 524288 + r.remainder)
    × (r.remainder < 524288)
    × (take (3 * s.devices) (current_out s out) ≡ flatten (map figure (map drawn_over (owned s))))

-- what a device draws, added up clock by clock, is frames times g + 1 times, over banks, outputs and phases, an output's lit clocks of an ON
-- subframe times the current of its bank; of any row, and any global byte
abbrev pub ClosedForm : Type 0
ClosedForm =
    (p : Part) (o : Own)
    → 1 ≤ subframes p o.configuration
    → drawn p o
    ≡ period_frames p o.configuration * (level p o.configuration o.global + 1)
    * total
    (λ bank.
    total (λ k. total (λ phase. lit_count p (value_in o (8 * bank + k) phase)) (phase_count o.configuration)) 8 * sink_current p (get_or o.calibration bank 0))
    p.banks

-- the clocks over which it is added up are 524,288, in whole frames, for every part and configuration
abbrev pub Period : Type 0
Period = (part configuration : ℕ) → period_frames (part_of part) configuration * frame_clocks (part_of part) configuration ≡ 524288

-- the largest totals, and that they fit
pub record Largest : Type 0 where
  -- no device of a row that a set can have draws more than the most, and one of each part draws it, at any configuration
  pub device : (p : Part) (o : Own) → Usable p → OwnProper p o → drawn p o ≤ most_drawn p
  pub device_reached :
      (part configuration : ℕ)
      → (configuration < 256 → OwnProper (part_of part) (brightest (part_of part) configuration))
      × (drawn (part_of part) (brightest (part_of part) configuration) ≡ most_drawn (part_of part))
  -- no accepted set of N devices draws more than N times that, and one of each N draws it
  pub sign :
      (s : Set) (room : ℕ)
      → s.configuration < 256
      → Bytes s.calibration
      → current_refusal s room ≡ 0
      → sign_total s ≤ s.devices * most_drawn (part_of s.part)
  pub sign_reached :
      (part devices configuration room : ℕ)
      → known part ≡ true
      → is_count devices ≡ true
      → 3 * devices ≤ room
      → (current_refusal (brightest_set part devices configuration) room ≡ 0)
      × (sign_total (brightest_set part devices configuration) ≡ devices * most_drawn (part_of part))
  -- the most of each part, in the order of the rows; of 1023 devices of any part; and of 1820 of the 6972
  pub parts : map most_drawn rows ≡ 3650707456000 ∷ 3665080320000 ∷ 2986942464000 ∷ 2998702080000 ∷ []
  pub most : (part devices : ℕ) → devices ≤ 1023 → devices * most_drawn (part_of part) ≤ 3749377167360000
  pub longer : 1820 * most_drawn max6972 ≡ 6644287569920000
  -- all of this is below 2 ^ 53, for any part and up to 2457 devices; the average of 1023 is not below 2 ^ 32
  pub fits : (part devices : ℕ) → devices ≤ 2457 → devices * most_drawn (part_of part) < 2 ^ 53
  pub average : 2 ^ 32 ≤ 1023 * most_drawn max6973 / period

-- ---- any row: nothing above is said of a number of banks or a width

-- what a restore does to devices of the model that have the row p, in any phases, with any registers and watchdogs and at any positions, where os is
-- each device's own, and each expires in no clock from that of its individual slice on
pub record RowRestores (p : Part) (os : List Own) (ws : List Watched) (edge : Command → Edge) (gap tail : Command → List Bool) (last : List Bool) : Type 0 where
  pub restored :
      All (clock.ReturnsWithin (length last)) (clocks_in (run_watched ws (pieces_states p os edge gap tail)).0)
      → watchdog.CalmFrom (states_until p os gap tail Individual) ws (pieces_states p os edge gap tail ++ lows last)
      → Pairwise RegistersHold os (registers_in (devices_in (clocks_in (run_watched ws (pieces_states p os edge gap tail ++ lows last)).0)))
  pub returned : (run_watched ws (pieces_states p os edge gap tail ++ lows last)).1 ≡ flatten (map clocked (returns_of tail (registers_in (devices_in (clocks_in ws)))))
  pub cut :
      (k device : ℕ) (o : Own) (z : Watched)
      → 1 ≤ device
      → device ≤ length os
      → k ≤ length (pieces_states p os edge gap tail ++ lows last)
      → ((clock : ℕ) → states_until p os gap tail Individual device ≤ clock → clock ≤ k → watchdog.expires ws (pieces_states p os edge gap tail ++ lows last) clock device ≡ false)
      → let after : ℕ → Clocked = λ j. (get_or (run_watched ws (take j (pieces_states p os edge gap tail ++ lows last))).0 (device - 1) z).clocked in
      CutClocked (λ c j. leb (states_until p os gap tail c device) j) k (last_boundary after k) (get_or os (device - 1) o)
      (faded (watchdog.expired_within ws (pieces_states p os edge gap tail ++ lows last) k device) (clock.registers_of (get_or ws (device - 1) z).clocked))
      (clock.registers_of (after k))

-- a made-up row of four banks with values of 8 bits, and one of one bank with values of 10 bits
abbrev pub four_banks : Part
four_banks = record { name = 1; banks = 4; width = 8; edge = 4; clocks = 256; subframes_by = 16 ∷ 8 ∷ 4 ∷ 2 ∷ []; least = 1; step = 1 }

abbrev pub one_bank : Part
one_bank = record { name = 2; banks = 1; width = 10; edge = 8; clocks = 1024; subframes_by = 100 ∷ 50 ∷ 100 ∷ 50 ∷ []; least = 1; step = 1 }

-- a device's own of a row, all its bytes and values 1 but the configuration
abbrev pub ones : Part → Own
ones p = record { configuration = 0; calibration = replicate p.banks 1; global = 1; individual = replicate (outputs p) 1 }

-- demand 3 and the light of any row; a fifth row may have any number of banks and any width, and one that a record has room for is usable
pub record AnyRow : Type 0 where
  pub restores :
      (p : Part) (os : List Own) (ws : List Watched) (edge : Command → Edge) (gap tail : Command → List Bool) (last : List Bool)
      → 1 ≤ length ws
      → length ws ≤ 1023
      → Running p
      → Pairwise (λ o r. OwnProper p o × (r.part ≡ p)) os (registers_in (devices_in (clocks_in ws)))
      → All Placed (clocks_in ws)
      → RowRestores p os ws edge gap tail last
  pub frame_on :
      (p : Part) (configuration global : ℕ)
      → 1 ≤ subframes p configuration
      → how_many_from (is_on p configuration global) 0 (subframes p configuration) ≡ level p configuration global + 1
  pub window_lead :
      (p : Part) (configuration global from w : ℕ)
      → 1 ≤ subframes p configuration
      → (neg_ℤ (pos (subframes p configuration)) <ℤ lead_of p configuration global from w) × (lead_of p configuration global from w <ℤ pos (subframes p configuration))
  pub made_up : OwnProper four_banks (ones four_banks) × OwnProper one_bank (ones one_bank)
  -- the frames of a row have clocks
  pub running : Running four_banks × ((p : Part) → Usable p → Running p)
  pub parts : (part : ℕ) → Usable (part_of part)
  pub fifth : Usable one_bank

-- ---- the lettered examples

-- a to z hold
abbrev pub ExamplesHold : Type 0
ExamplesHold = Each examples

-- 2a to 2i hold
abbrev pub EdgeExamplesHold : Type 0
EdgeExamplesHold = Each edge_examples

-- 4a to 4i hold
abbrev pub ClockExamplesHold : Type 0
ClockExamplesHold = Each clock_examples

-- 5a to 5l hold
abbrev pub WatchExamplesHold : Type 0
WatchExamplesHold = Each watch_examples
