use Rattle.std.proofs.Common.{◌≡◌, ℕ, List, ◌++◌, drop, refl, sym, ap, ◌∙◌, ◌+◌, arith, append-nil}
use Rattle.frames.specs.declared.told.Told.{Told}
use Rattle.report.specs.Report.{frame_size, answer_of}
use Rattle.report.proofs.Restoring as laws
use Rattle.report.proofs.whole.put_rest.Goals as goal

pub returns-then-is_err : goal.returns-then-is_err
returns-then-is_err c = let l = c.loop-command in
    laws.last-put c.args.chain.part c.args.chain.devices c.args.configuration c.args.lines.now.items _ l.lines.items
    (record {
      early = omega arith;
      command = refl;
      size = c.frame_size-bits.ensures.value ∙ ap frame_size c.told_of-told.ensures;
      read = c.read_front-answer.ensures ∙ ap (λ (told : Told). answer_of told l.rest.now) c.told_of-told.ensures;
    })
    l.invariant.text
    c.put_frame.ensures.text
    (laws.refused-err c.read_front-answer.result ∙ sym c.is_err.ensures.value ∙ c.if-is_err.true)

pub loop-command-preserved : goal.loop-command-preserved
loop-command-preserved c = let l = c.loop-command in
    let chain = c.args.chain in
    record {
      commands = refl;
      text =
          ap (λ (rest : List ℕ). c.put_frame.new.lines.items ++ laws.lines_from chain.part chain.devices c.args.configuration (l.command-index + 1) rest)
          (c.back-rest.ensures ∙ ap (λ (n : ℕ). drop n l.rest.now) (omega (arith, c.div_ceil.ensures)))
          ∙ laws.next-put chain.part chain.devices c.args.configuration c.args.lines.now.items _ l.lines.items
          (record {
            early = omega arith;
            command = refl;
            size = c.frame_size-bits.ensures.value ∙ ap frame_size c.told_of-told.ensures;
            read = c.read_front-answer.ensures ∙ ap (λ (told : Told). answer_of told l.rest.now) c.told_of-told.ensures;
          })
          l.invariant.text
          c.put_frame.ensures.text
          (laws.refused-err c.read_front-answer.result ∙ sym c.is_err.ensures.value ∙ c.if-is_err.false);
      room = omega (arith, c.put_frame.ensures.room);
    }

pub returns-then-not-is_empty : goal.returns-then-not-is_empty
returns-then-not-is_empty c = let l = c.loop-command in
    let chain = c.args.chain in
    let past : l.command-index ≡ 3 = omega arith in
    c.put_trailing.ensures
    ∙ ap (λ (text : List ℕ). l.lines.items ++ text) (sym (laws.lines-over chain.part chain.devices c.args.configuration l.rest.now (grind arith)))
    ∙ ap (λ (place : ℕ). l.lines.items ++ laws.lines_from chain.part chain.devices c.args.configuration place l.rest.now) (sym past)
    ∙ l.invariant.text

pub returns-else-not-is_empty : goal.returns-else-not-is_empty
returns-else-not-is_empty c = let l = c.loop-command in
    let chain = c.args.chain in
    let past : l.command-index ≡ 3 = omega arith in
    sym (append-nil l.lines.items)
    ∙ ap (λ (text : List ℕ). l.lines.items ++ text) (sym (laws.lines_none chain.part chain.devices c.args.configuration l.rest.now (grind arith)))
    ∙ ap (λ (place : ℕ). l.lines.items ++ laws.lines_from chain.part chain.devices c.args.configuration place l.rest.now) (sym past)
    ∙ l.invariant.text
