use Rattle.std.proofs.Common.{◌≡◌, ◌-◌, ◌<◌, [], length, get_or, rules, sym}
use Rattle.std.proofs.lemmas.List.{nil_from_length}
use Rattle.watch.specs.Kept.{listened}
use Rattle.watch.proofs.Clocks.{listened-off-end}
use Rattle.watch.proofs.kept.listen_off.Goals as goal

pub returns-in-Some : goal.returns-in-Some
returns-in-Some c = let a = c.args in
    let xs = a.states.now in
    let some : 0 < length xs = search rules in
    let last : c.in-Some.state.now ≡ get_or xs (length xs - 1) 0 = search rules in
    rw c.hear-watch.ensures (sym (listened-off-end a.clock xs c.in-Some.state.now a.watch some last))

pub returns-in-None : goal.returns-in-None
unfolding listened
returns-in-None c = let none : c.args.states.now ≡ [] = nil_from_length c.args.states.now (search rules) in rw none
