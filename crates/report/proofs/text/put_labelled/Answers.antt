use Rattle.std.proofs.Common.{ℕ, List, ◌++◌, length, ap, ◌∙◌, arith, append_assoc, length-append}
use Rattle.report.specs.Lines.{decimal}
use Rattle.report.proofs.Decimals as laws
use Rattle.report.proofs.text.put_labelled.Goals as goal

pub returns : goal.returns
returns c = let a = c.args in
    let digits = c.as_bytes.ensures.value ∙ c.format.ensures.text ∙ laws.written-decimal a.number (omega arith) in
    let behind = c.put-2.ensures
    ∙ ap (λ (ds : List ℕ). c.put.new.lines.items ++ ds) digits
    ∙ ap (λ (bytes : List ℕ). bytes ++ decimal a.number) c.put.ensures in
    record {
      text = behind ∙ append_assoc a.lines.now.items a.text.now (decimal a.number);
      room = omega (
        arith,
        ap length behind,
        length-append (a.lines.now.items ++ a.text.now) (decimal a.number),
        length-append a.lines.now.items a.text.now,
        laws.length-digits_in 20 a.number,
      );
    }
