-- After a restore and the wait a comparison says same: the chain then holds the set, and nothing refuses the comparison. The records are of
-- the set's part, since no call of a restore, nor what settles after it, changes it.
use mathlib.Core.Path.{◌≡◌, ap, sym, subst, ◌∙◌}
use mathlib.Core.Bool.{true, not}
use mathlib.Core.List.{List, ◌++◌}
use Prim.Native.Nat.{◌≤◌}
use native.Mathlib.Omega.{arith}
use lib.Dec.{ltb}
use lib.ListN.{length}
use borrow.Author.Tests.{eq-eqb, le-leb, not-false}
use Rattle.tables.specs.Lists.{all_below, every}
use Rattle.parts.specs.Parts.{known, part_of, limit, subframes}
use Rattle.parts.specs.declared.command.Command.{Command}
use Rattle.parts.specs.declared.command.Command.TheVariants.{Individual, Global}
use Rattle.tables.proofs.Booleans.{both-and}
use Rattle.tables.proofs.Rows.{none}
use Rattle.frames.specs.declared.told.Tail.{Tail}
use Rattle.device.specs.Judgement.{fits}
use Rattle.device.specs.declared.device.Device.{Device}
use Rattle.calls.specs.Chain.{has_part}
use Rattle.calls.specs.History.{after_calls}
use Rattle.model.specs.Set.{Set}
use Rattle.link.specs.Restore.{Writable}
use Rattle.link.proofs.View.{Sound}
use Rattle.link.proofs.Calls.{Whole, every-all, whole-runs, whole-settles, length-after_calls, calls-append}
use Rattle.link.proofs.Frames.{accepted-writable, writable-proper}
use Rattle.claims.proofs.Demand.{whole, devices, held}
use Rattle.compare.specs.Compare.{compare_table, compare_refusal}
use Rattle.claims.specs.Claims.{start, RestoredSame}
use Rattle.claims.proofs.Compared.{holds_same_lem}

-- ---- nothing refuses the comparison

accepts : (s : Set) (tail : Command → Tail) (ds : List Device) → Writable s tail → Whole s.part ds → s.devices ≡ length ds → compare_refusal s ds ≡ 0
unfolding compare_refusal
accepts s tail ds w h l =
    let proper = writable-proper w in
    let some : 1 ≤ s.devices = omega (arith, l, h.some_device) in
    let few : s.devices ≤ 1023 = omega (arith, l, h.few_devices) in
    let global : ltb s.global (subframes (part_of s.part) s.configuration) ≡ true = not-false _ (accepted-writable w Global).value in
    let individual : all_below s.individual (limit (part_of s.part)) ≡ true = not-false _ (accepted-writable w Individual).value in
    let parts : every (has_part s.part) ds ≡ true = every-all (λ d. d.registers.part ≡ s.part) (has_part s.part) (λ d e. eq-eqb d.registers.part s.part e) ds h.one_part in
    none (compare_table s ds) (
      ap not (both-and _ _ h.known_part (every-all (λ d. d.registers.part ≡ s.part) (λ d. known d.registers.part) (λ d e. ap known e ∙ h.known_part) ds h.one_part)),
      (
        ap not (both-and _ _ (both-and _ _ (le-leb 1 s.devices some) (le-leb s.devices 1023 few))
            (both-and _ _ (le-leb 1 (length ds) h.some_device) (le-leb (length ds) 1023 h.few_devices))),
        (
          ap not (both-and _ _ (both-and _ _ (eq-eqb _ _ proper.calibration_length) (eq-eqb _ _ proper.individual_length))
              (both-and _ _ (eq-eqb (length ds) s.devices (sym l)) parts)),
          (
            ap not (both-and _ _ global individual),
            (ap not (every-all Sound fits (λ d o. o.fit) ds h.sound), tt),
          ),
        ),
      ),
    )

pub restored_same_lem : RestoredSame
restored_same_lem p bit limit records earlier during later s edge gap tail last b e r t c =
    let ds : List Device = start p bit limit records earlier in
    let now : List Device = after_calls ds (during ++ later) in
    let w = whole-runs s.part ds during (whole b) b.runs in
    let v = whole-settles s.part (after_calls ds during) later w r in
    holds_same_lem s now (accepts s tail now b.writable (subst (Whole s.part) (sym (calls-append ds during later)) v) (devices b ∙ sym (length-after_calls ds (during ++ later))))
    (held b edge gap last e later r t c)
