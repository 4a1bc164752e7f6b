use Rattle.std.proofs.Common.{◌≡◌, ◌-◌, ◌<◌, [], length, get_or, rules, arith, sym, ap, ◌∙◌}
use Rattle.std.proofs.lemmas.List.{nil_from_length}
use Rattle.watch.specs.Blocks.{bit_of}
use Rattle.watch.specs.Watch.{last_of}
use Rattle.watch.proofs.Clocks.{last-at}
use Rattle.watch.proofs.blocks.level_behind.Goals as goal

pub returns-in-Some : goal.returns-in-Some
returns-in-Some c = let a = c.args in
    let xs = a.states.now in
    let some : 0 < length xs = search rules in
    let last : c.in-Some.state.now ≡ get_or xs (length xs - 1) 0 = search rules in
    rw c.level_of.ensures (ap (bit_of a.din) last ∙ sym (last-at (bit_of a.din) a.level xs (length xs - 1) (omega (arith, some))))

pub returns-in-None : goal.returns-in-None
unfolding last_of
returns-in-None c = let none : c.args.states.now ≡ [] = nil_from_length c.args.states.now (search rules) in rw none
