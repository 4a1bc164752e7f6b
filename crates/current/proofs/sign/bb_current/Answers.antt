-- Of a set that is not refused the closed form is what the definition says. Assumes nothing.
use Rattle.std.proofs.Common.{◌≡◌, ◌∙◌, ℕ, ◌*◌, List, length, refl, sym, ap, arith}
use native.Mathlib.Nat.{le_of_eq}
use Rattle.tables.specs.Refusals.{first}
use Rattle.tables.proofs.Rows.{accepted, changed}
use Rattle.bits.specs.Bits.{over}
use Rattle.parts.specs.Parts.{part_of}
use Rattle.parts.proofs.Laws.{usable}
use Rattle.sets.specs.Sets.{set_of}
use Rattle.current.specs.declared.drive.Drive.{Drive}
use Rattle.current.specs.Answers.{current_table, current_refusal, current, current_out, drawing, refused}
use Rattle.current.specs.Closed.{closed_sum, closed_figures}
use Rattle.current.proofs.Answered.{devices-few, bytes-long, values-long, room-enough, global-below, sum-answered, figures-answered}
use Rattle.current.proofs.Bounds.{driven}
use Rattle.current.proofs.Devices.{fields-banks}
use Rattle.current.proofs.sign.bb_current.Goals as goal

pub drive_for-drive-requires : goal.drive_for-drive-requires
unfolding current_refusal
drive_for-drive-requires c =
    let a = c.args in
    global-below (set_of a.part a.devices a.configuration a.calibration.now a.global a.individual.now) (length a.figures.now) (sym c.in-Ok.ensures)

pub write_figures-requires : goal.write_figures-requires
unfolding current_refusal
write_figures-requires c =
    let a = c.args in
    let g = set_of a.part a.devices a.configuration a.calibration.now a.global a.individual.now in
    let n : ℕ = length a.figures.now in
    let ok : first (current_table g n) ≡ 0 = sym c.in-Ok.ensures in
    rw c.drive_for-drive.ensures (
      driven (part_of g.part) g.configuration g.global (usable g.part) (global-below g n ok),
      record {
        few = omega (arith, devices-few g n ok);
        bytes_in = le_of_eq (sym (bytes-long g n ok));
        values_in = le_of_eq (sym (values-long g n ok ∙ ap (λ (n : ℕ). g.devices * n) (fields-banks (part_of g.part) g.configuration)));
        figures_in = room-enough g n ok;
      },
    )

pub returns-in-Ok : goal.returns-in-Ok
unfolding current current_out current_refusal
returns-in-Ok c =
    let a = c.args in
    let g = set_of a.part a.devices a.configuration a.calibration.now a.global a.individual.now in
    let n : ℕ = length a.figures.now in
    let ok : first (current_table g n) ≡ 0 = sym c.in-Ok.ensures in
    let drive = c.drive_for-drive.ensures in
    record {
      value = c.accept.ensures
          ∙ accepted refused (sym ok) refl
          (ap drawing
          (c.write_figures.ensures.value
          ∙ ap (λ (d : Drive). closed_sum d g.calibration g.individual g.devices) drive
          ∙ sum-answered g n ok));
      figures_after = changed a.figures.now (sym ok) refl
          (c.write_figures.ensures.figures_after
          ∙ ap (λ (d : Drive). over (closed_figures d g.calibration g.individual g.devices) a.figures.now) drive
          ∙ ap (λ (l : List ℕ). over l a.figures.now) (figures-answered g n ok));
    }
