-- Laws of the report's lines: those of the frames behind the configuration frame, from one frame on, with the input as it stands there;
-- and those of all four, by the answer for the configuration frame. Assumes nothing.
use Rattle.std.proofs.Common.{◌≡◌, ℕ, Result, Ok, Err, is_err, ◌+◌, ◌<◌, true, false, cond, List, [], ◌++◌, length, get_or, drop, refl, sym, ap, ◌∙◌, append-nil, append_assoc, add-one, drop-cons}
use borrow.Author.Tests.{eq-eqb, ne_eqb}
use Rattle.tables.specs.declared.refusal.Refusal.{Refusal}
use Rattle.tables.specs.Refusals.{numbered}
use Rattle.bits.specs.Bits.{bytes_for}
use Rattle.parts.specs.declared.command.Command.{Command}
use Rattle.parts.specs.declared.command.Command.TheVariants.{Individual}
use Rattle.frame_reader.specs.declared.answer.Read.{Read}
use Rattle.frames.specs.Frames.{told_of}
use Rattle.report.specs.Lines.{trailing_line, frame_line}
use Rattle.report.specs.Report.{frame_size, answer_of, is_refused, later_commands, lines_of}

-- an answer is refused where it is an Err
pub refused-err : (answer : Result Read Refusal) → is_refused (numbered answer) ≡ is_err answer
refused-err (Ok read) = refl
refused-err (Err refusal) = refl

module _ (part devices configuration : ℕ) where
  -- the lines of the frames from a place on, where `rest` is the input from there on
  abbrev pub lines_from : ℕ → List ℕ → List ℕ
  lines_from place rest = lines_of part devices configuration (drop place later_commands) rest

  -- the frame at a place is the command's, has n bits, and the reader gives an answer for it
  pub record FrameAt (place : ℕ) (rest : List ℕ) (c : Command) (n : ℕ) (answer : Result Read ℕ) : Type 0 where
    pub early : place < 3
    pub command : c ≡ get_or later_commands place Individual
    pub size : n ≡ frame_size (told_of part devices c configuration)
    pub read : answer ≡ answer_of (told_of part devices c configuration) rest

  -- its line, and those of the next
  lines_step : {place n : ℕ} {rest : List ℕ} {c : Command} {answer : Result Read ℕ} → FrameAt place rest c n answer
      → lines_from place rest ≡ frame_line c n answer ++ cond (is_refused answer) [] (lines_from (place + 1) (drop (bytes_for n) rest))
  unfolding lines_of
  lines_step {place} {n} {rest} {c} {answer} f =
      rw (f.size, f.read, f.command) (rw (drop-cons later_commands place Individual f.early, add-one place) refl)

  -- the same, refused and accepted
  pub lines-refused : {place n : ℕ} {rest : List ℕ} {c : Command} {answer : Result Read ℕ} → FrameAt place rest c n answer → is_refused answer ≡ true
      → lines_from place rest ≡ frame_line c n answer
  lines-refused {place} {n} {rest} {c} {answer} f refused = rw (lines_step f, refused) (append-nil (frame_line c n answer))

  pub lines-accepted : {place n : ℕ} {rest : List ℕ} {c : Command} {answer : Result Read ℕ} → FrameAt place rest c n answer → is_refused answer ≡ false
      → lines_from place rest ≡ frame_line c n answer ++ lines_from (place + 1) (drop (bytes_for n) rest)
  lines-accepted f accepted = rw (lines_step f, accepted)

  -- the lines of the frame at hand are put behind those that stand
  pub last-put : {place n : ℕ} {rest : List ℕ} (before all now : List ℕ) {after : List ℕ} {c : Command} {answer : Result Read ℕ} → FrameAt place rest c n answer
      → now ++ lines_from place rest ≡ before ++ all → after ≡ now ++ frame_line c n answer → is_refused answer ≡ true → after ≡ before ++ all
  last-put before all now f text put refused = put ∙ ap (λ (l : List ℕ). now ++ l) (sym (lines-refused f refused)) ∙ text

  pub next-put : {place n : ℕ} {rest : List ℕ} (before all now : List ℕ) {after : List ℕ} {c : Command} {answer : Result Read ℕ} → FrameAt place rest c n answer
      → now ++ lines_from place rest ≡ before ++ all → after ≡ now ++ frame_line c n answer → is_refused answer ≡ false
      → after ++ lines_from (place + 1) (drop (bytes_for n) rest) ≡ before ++ all
  next-put {place} {n} {rest} before all now {c = c} {answer = answer} f text put accepted =
      ap (λ (l : List ℕ). l ++ lines_from (place + 1) (drop (bytes_for n) rest)) put
      ∙ append_assoc now (frame_line c n answer) (lines_from (place + 1) (drop (bytes_for n) rest))
      ∙ ap (λ (l : List ℕ). now ++ l) (sym (lines-accepted f accepted))
      ∙ text

  -- behind the last frame
  pub lines-over : (rest : List ℕ) → (length rest ≡ 0 → ⊥) → lines_from 3 rest ≡ trailing_line
  unfolding lines_of
  lines-over rest h = rw (ne_eqb (length rest) 0 h)

  pub lines_none : (rest : List ℕ) → length rest ≡ 0 → lines_from 3 rest ≡ []
  unfolding lines_of
  lines_none rest h = rw (eq-eqb (length rest) 0 h)
