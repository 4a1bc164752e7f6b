-- An accepted fault setting names one of the devices.
use Rattle.std.proofs.Common.{◌≡◌, ℕ, ◌≤◌, ◌&&◌, List, length, refl, true, leb, ltb}
use borrow.Author.Tests.{leb-true, not-false}
use Rattle.tables.proofs.Rows.{clear}
use Rattle.tables.proofs.Booleans.{and_left, and_both}
use Rattle.device.specs.declared.device.Device.{Device}
use Rattle.calls.specs.Chain.{all_fit}
use Rattle.calls.specs.Calls.{fault_table, fault_refusal}

pub fault-named : (xs : List Device) (device kind : ℕ) → fault_refusal xs device kind ≡ 0 → (1 ≤ device) × (device ≤ length xs)
unfolding fault_refusal
fault-named xs device kind e =
    let c = clear (fault_table xs device kind) refl e in
    let t : (leb 1 device && (leb device (length xs) && (ltb kind 2 && all_fit xs))) ≡ true = not-false _ c.1.1.1.0 in
    let one = and_both (leb 1 device) (leb device (length xs) && (ltb kind 2 && all_fit xs)) t in
    (leb-true 1 device one.0, leb-true device (length xs) (and_left (leb device (length xs)) (ltb kind 2 && all_fit xs) one.1))
