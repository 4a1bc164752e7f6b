-- What the records are judged to be is what the table says of them; of an accepted setting the device is one of the chain. Assumes nothing.
use Rattle.std.proofs.Common.{◌∙◌, ◌-◌, ◌<◌, length, refl, sym, ap, arith, set, eqb, not}
use Rattle.std.proofs.lemmas.List.{get_or_default}
use Rattle.bits.specs.Bits.{digit}
use Rattle.tables.proofs.Rows.{named, kept, changed}
use Rattle.device.specs.declared.device.Device.{Device}
use Rattle.device.specs.Step.{faulted}
use Rattle.calls.specs.Chain.{blank}
use Rattle.calls.specs.Calls.{fault_devices}
use Rattle.refusals.proofs.Found.{fault-refusal-found}
use Rattle.chain.proofs.Named.{fault-named}
use Rattle.chain.proofs.bb_set_fault.Goals as goal

pub overflow_sub-place : goal.overflow_sub-place
overflow_sub-place c =
    let a = c.args in
    let found = rw c.judge-judged.ensures at c.in-Ok.ensures ∙ fault-refusal-found a.chain.now a.device a.kind in
    (fault-named a.chain.now a.device a.kind (sym found)).0

pub bounds-chain-place : goal.bounds-chain-place
bounds-chain-place c =
    let a = c.args in
    let found = rw c.judge-judged.ensures at c.in-Ok.ensures ∙ fault-refusal-found a.chain.now a.device a.kind in
    let device = fault-named a.chain.now a.device a.kind (sym found) in
    omega (arith, device.0, device.1)

pub returns-in-Ok : goal.returns-in-Ok
returns-in-Ok c =
    let a = c.args in
    let xs = a.chain.now in
    let found = rw c.judge-judged.ensures at c.in-Ok.ensures ∙ fault-refusal-found xs a.device a.kind in
    let device = fault-named xs a.device a.kind (sym found) in
    let near : a.device - 1 < length xs = omega (arith, device.0, device.1) in
    let made = c.with_fault.ensures ∙ ap (λ (d : Device). faulted d a.kind (digit (not (eqb a.flag 0)))) (get_or_default xs (a.device - 1) _ blank near) in
    (found, changed xs found refl (ap (set xs (a.device - 1)) made))

pub returns-in-Err : goal.returns-in-Err
returns-in-Err c =
    let a = c.args in
    let xs = a.chain.now in
    let found = rw c.judge-judged.ensures at c.in-Err.ensures ∙ fault-refusal-found xs a.device a.kind in
    (c.from.ensures ∙ found, kept xs (fault_devices xs a.device a.kind (not (eqb a.flag 0))) found (named c.in-Err.refusal))
