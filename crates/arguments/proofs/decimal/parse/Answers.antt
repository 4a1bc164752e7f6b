use Rattle.std.proofs.Common.{ℕ, ◌+◌, ◌-◌, ◌*◌, min, get_or, take, sym, ap, ◌∙◌, refl, arith}
use Rattle.arguments.specs.Arguments.{numeral}
use Rattle.arguments.proofs.Numerals as laws
use Rattle.arguments.proofs.decimal.parse.Goals as goal

pub returns-then-is_empty : goal.returns-then-is_empty
returns-then-is_empty c = laws.parsed-empty c.args.text.now (grind arith)

pub loop-byte-init : goal.loop-byte-init
unfolding numeral
loop-byte-init c = record { digits = refl; number = refl }

pub returns-then-not-is_ascii_digit : goal.returns-then-not-is_ascii_digit
returns-then-not-is_ascii_digit c = let l = c.loop-byte in
    laws.parsed-bad c.args.text.now l.byte-index (omega arith) l.invariant.digits (grind arith)

pub loop-byte-preserved : goal.loop-byte-preserved
loop-byte-preserved c = let l = c.loop-byte in
    let text = c.args.text.now in
    let byte : ℕ = get_or text l.byte-index 0 in record {
      digits = l.invariant.digits ∙ laws.digits_only-more text l.byte-index (omega arith) (grind arith);
      number =
          c.with_digit-value.ensures
          ∙ ap (λ (v : ℕ). min (v * 10 + (byte - 48)) 65535) l.invariant.number
          ∙ laws.min-step (numeral (take l.byte-index text)) (byte - 48)
          ∙ ap (λ (v : ℕ). min v 65535) (sym (laws.numeral-take text l.byte-index (omega arith)));
    }

pub returns : goal.returns
returns c = let l = c.loop-byte in
    laws.parsed-value c.args.text.now l.value l.byte-index (grind arith) (omega arith) l.invariant.digits l.invariant.number
