use Rattle.std.proofs.Common.{◌≡◌, ℕ, List, ◌++◌, ap, ◌∙◌, append_assoc}
use Rattle.report.specs.Lines.{labelled, part_text, devices_text, multiplexed_text, newline}
use Rattle.report.proofs.lines.put_part.Goals as goal

-- four texts, each put behind the one before
four : (o a b c d : List ℕ) {p q r s : List ℕ} → p ≡ o ++ a → q ≡ p ++ b → r ≡ q ++ c → s ≡ r ++ d → s ≡ o ++ (a ++ (b ++ (c ++ d)))
four o a b c d first second third fourth =
    fourth
    ∙ ap (λ (l : List ℕ). l ++ d) (third ∙ ap (λ (l : List ℕ). l ++ c) (second ∙ ap (λ (l : List ℕ). l ++ b) first))
    ∙ simp append_assoc

pub returns-clause-text : goal.returns-clause-text
returns-clause-text c = let chain = c.args.chain in
    four _ (labelled part_text chain.part) (labelled devices_text chain.devices) (labelled multiplexed_text c.args.multiplexed) newline
    (rw c.from.ensures at c.put_labelled.ensures.text)
    (rw c.from-2.ensures at c.put_labelled-2.ensures.text)
    (rw c.from-3.ensures at c.put_labelled-3.ensures.text)
    c.put.ensures
