use Rattle.std.proofs.Common.{◌≡◌, ℕ, Some, None, Result, Ok, Err, List, ◌++◌, ◌%◌, drop, sym, ap, ◌∙◌, arith, append_assoc}
use Rattle.bits.specs.Bits.{bytes_for}
use Rattle.parts.specs.declared.command.Command.TheVariants.{Configuration}
use Rattle.frames.specs.declared.told.Told.{Told}
use Rattle.frame_reader.specs.declared.answer.Read.{Read}
use Rattle.frame_reader.specs.declared.answer.Read.TheVariants as R
use Rattle.report.specs.Lines.{part_line, frame_line}
use Rattle.report.specs.Report.{frame_size, answer_of, byte_in, later_commands, lines_of, configuration_of, all_lines}
use Rattle.report.proofs.whole.put_all.Goals as goal

-- an answer that is no byte has its line alone
other : (part devices n : ℕ) (input : List ℕ) (answer : Result Read ℕ) → n ≡ frame_size (configuration_of part devices) → byte_in answer ≡ None
    → frame_line Configuration n answer ≡ all_lines part devices input answer
unfolding all_lines
other part devices n input (Ok (R.Byte b)) size none = absurd (cc)
other part devices n input (Ok (R.Bytes m)) size none = rw size
other part devices n input (Ok (R.Values m)) size none = rw size
other part devices n input (Err m) size none = rw size

-- behind a byte stand the other frames
byte : (part devices n b : ℕ) (input rest : List ℕ) (answer : Result Read ℕ) → n ≡ frame_size (configuration_of part devices) → rest ≡ drop (bytes_for n) input
    → byte_in answer ≡ Some b
    → part_line part devices (b % 2) ++ (frame_line Configuration n answer ++ lines_of part devices b later_commands rest)
    ≡ all_lines part devices input answer
unfolding all_lines
byte part devices n b input rest (Ok (R.Byte a)) size behind some = let e : a ≡ b = cc in rw (behind, size, e)
byte part devices n b input rest (Ok (R.Bytes m)) size behind some = absurd (cc)
byte part devices n b input rest (Ok (R.Values m)) size behind some = absurd (cc)
byte part devices n b input rest (Err m) size behind some = absurd (cc)

-- three texts, each put behind the one before
three : (o a b c : List ℕ) {p q r : List ℕ} → p ≡ o ++ a → q ≡ p ++ b → r ≡ q ++ c → r ≡ o ++ (a ++ (b ++ c))
three o a b c first second third =
    third ∙ ap (λ (l : List ℕ). l ++ c) (second ∙ ap (λ (l : List ℕ). l ++ b) first) ∙ simp append_assoc

pub returns-in_default : goal.returns-in_default
returns-in_default c = let chain = c.args.chain in
    let input = c.args.input.now in
    c.put_frame.ensures.text
    ∙ ap (λ (text : List ℕ). c.args.lines.now.items ++ text)
    (other chain.part chain.devices _ input _ (c.frame_size-bits.ensures.value ∙ ap frame_size c.told_of-told.ensures)
    (sym c.byte_in.ensures ∙ c.in_default.is)
    ∙ ap (all_lines chain.part chain.devices input) (c.read_front-answer.ensures ∙ ap (λ (told : Told). answer_of told input) c.told_of-told.ensures))

pub returns : goal.returns
returns c = let chain = c.args.chain in
    let input = c.args.input.now in
    let read = c.read_front-answer.ensures ∙ ap (λ (told : Told). answer_of told input) c.told_of-told.ensures in
    three _ _ _ _ c.put_part.ensures.text c.put_frame-2.ensures.text c.put_rest.ensures
    ∙ ap (λ (text : List ℕ). c.args.lines.now.items ++ text)
    (byte chain.part chain.devices _ c.in-Some.configuration input c.back.result.now _ (c.frame_size-bits.ensures.value ∙ ap frame_size c.told_of-told.ensures)
    (c.back.ensures ∙ ap (λ (n : ℕ). drop n input) (omega (arith, c.div_ceil.ensures)))
    (sym c.byte_in.ensures ∙ c.in-Some.is)
    ∙ ap (all_lines chain.part chain.devices input) read)
