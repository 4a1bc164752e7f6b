-- `position` looks for the first pair that differs, and there are as many pairs as the shorter list has items.
use Rattle.std.proofs.Common.{◌≡◌, ◌∙◌, not, sym, ap₂, rules}
use borrow.Author.Tests.{tests}
use Rattle.std.specs.Prelude.{unwrap_or}
use Rattle.std.specs.List.{position, zip}
use Rattle.std.proofs.lemmas.Iterator.{YieldsList-from_slice, YieldsList-from_zip}
use Rattle.std.proofs.lemmas.Iterator.Search.{position_from_yields_List}
use Rattle.std.proofs.lemmas.Slice.Zip.{length-zip}
use Rattle.differences.proofs.Differs.{place-found}
use Rattle.differences.proofs.own.first_difference.Goals as goal

pub returns-clause-value : goal.returns-clause-value
returns-clause-value g c =
    let a = c.args in
    let pairs = zip a.given.now a.held.now in
    let found : c.position-differing.result ≡ position (λ p. not (g.T.PartialEq.eq p.0 p.1)) pairs =
    position_from_yields_List (λ p. not (g.T.PartialEq.eq p.0 p.1)) c.position-differing.new.self _ c.position-differing.result c.position-differing.ensures.ran
    (YieldsList-from_zip (YieldsList-from_slice a.given.now (search rules)) (YieldsList-from_slice a.held.now (search rules))) (λ x b q k. search (rules, tests)) in
    c.unwrap_or.ensures ∙ ap₂ unwrap_or found (c.min.ensures ∙ sym (length-zip a.given.now a.held.now)) ∙ place-found (λ p. not (g.T.PartialEq.eq p.0 p.1)) pairs
