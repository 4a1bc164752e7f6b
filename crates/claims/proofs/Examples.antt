-- The lettered examples of docs/RULES.md: frames, returns, subframes and leads are computed; lit clocks are proved for every clock by the closed form,
-- whose ends are computed; currents are computed by the closed form, and not clock by clock. Assumes nothing.
use mathlib.Core.Path.{◌≡◌, refl, sym, ap, ◌∙◌}
use mathlib.Core.Bool.{Bool, true, false, ◌&&◌}
use mathlib.Core.List.{List}
use Rattle.std.specs.Prelude.{Ok}
use Prim.Native.Nat.{ℕ, suc, ◌/◌, ◌%◌}
use native.Mathlib.Nat.{zero-add}
use native.Mathlib.Omega.{arith}
use lib.Dec.{ltb, leb, lit≤}
use lib.ListN.{drop, replicate}
use borrow.Author.Tests.{ltb-true, ltb-false, le-leb, lt-leb}
use Rattle.tables.specs.Refusals.{first, answer, content}
use Rattle.bits.specs.Bits.{bits, number, fields, split, padded, bytes_of, over}
use Rattle.parts.specs.Parts.{part_of, period}
use Rattle.parts.specs.Wire.{command_count, header, frame, clocked_at}
use Rattle.frames.specs.Frames.{frame_bits, frame_of}
use Rattle.frame_writer.specs.Writing.{write_refusal, written, written_out}
use Rattle.frame_reader.specs.Reading.{held_fields, read_refusal}
use Rattle.machine.specs.Machine.{run, relay, relay_one}
use Rattle.watch.specs.Watch.{last_of, moved, watching, expired}
use Rattle.positions.specs.Positions.{ticked}
use Rattle.device.specs.Run.{step_record, watched, clock_record}
use Rattle.subframes.specs.Subframes.{how_many_from}
use Rattle.subframes.specs.Answers.{on_answer, lead_answer}
use Rattle.schedule.specs.Answers.{position_over}
use Rattle.schedule.specs.Light.{total, in_run, lit_from, lit_to}
use Rattle.schedule.proofs.Claims.{lights, dark}
use Rattle.model.specs.Set.{Set}
use Rattle.sets.specs.Sets.{set_of}
use Rattle.current.specs.declared.drive.Drive.{Drive}
use Rattle.current.specs.Current.{figure, device_figures, sign_total}
use Rattle.current.specs.Answers.{current_table, current_refusal, refused, drawing, current, current_out}
use Rattle.current.specs.Closed.{drive_of, closed_sum, closed_figures}
use Rattle.current.proofs.Answered.{sum-answered, figures-answered}
use Rattle.claims.specs.Examples.{Lights, draws, Says, Each, examples, three_states}

-- before the clock after one is up to that one
before-next : (c to : ℕ) → ltb c (suc to) ≡ leb c to
before-next c to = at (ltb c (suc to)) refl where
  at : (b : Bool) → ltb c (suc to) ≡ b → b ≡ leb c to
  at true e = let h = ltb-true c (suc to) e in sym (le-leb c to (omega arith))
  at false e = let h = ltb-false c (suc to) e in sym (lt-leb c to (omega arith))

-- from one clock to another, both included
lit-to : (part value : ℕ) (even : Bool) (to : ℕ) → lit_to (part_of part) value even ≡ suc to
    → Lights part value even (λ clock. leb (lit_from (part_of part) value even) clock && leb clock to)
lit-to part value even to h configuration global output s clock phase a e q =
    lights part value even configuration global output s clock phase a e q
    ∙ ap (λ (n : ℕ). Ok (in_run (lit_from (part_of part) value even) n clock)) h
    ∙ ap (λ (b : Bool). Ok (leb (lit_from (part_of part) value even) clock && b)) (before-next clock to)

-- the figures of one device are those of the sum
one-figure : (d : Drive) (calibration individual : List ℕ) → closed_figures d calibration individual 1 ≡ figure (closed_sum d calibration individual 1)
unfolding closed_figures total
one-figure d calibration individual = ap figure (sym (zero-add _))

-- what one device draws, where it is not refused: its closed form
device-draws : (part configuration : ℕ) (bytes : List ℕ) (global : ℕ) (values : List ℕ) (n : ℕ)
    → first (current_table (set_of part 1 configuration bytes global values) 3) ≡ 0
    → closed_sum (drive_of (part_of part) configuration global) bytes values 1 ≡ n
    → Says (draws part configuration bytes global values n (n / period) (n % period))
unfolding over current_refusal current current_out
device-draws part configuration bytes global values n a h =
    let s : Set = set_of part 1 configuration bytes global values in
    let drive : Drive = drive_of (part_of part) configuration global in (
      ap (λ (r : ℕ). answer r refused (drawing (sign_total s))) a ∙ ap drawing (sym (sum-answered s 3 a) ∙ h),
      ap (λ (r : ℕ). content r (replicate 3 0) (over (device_figures s) (replicate 3 0))) a
          ∙ ap (λ (l : List ℕ). over l (replicate 3 0)) (sym (figures-answered s 3 a) ∙ one-figure drive bytes values ∙ ap figure h),
    )

-- of current, t to z
currents : Each (drop 19 examples)
unfolding total
currents = (
  (device-draws _ _ _ _ _ _ refl refl, tt),
  (
    (device-draws _ _ _ _ _ _ refl refl, tt),
    (
      (device-draws _ _ _ _ _ _ refl refl, tt),
      (
        (device-draws _ _ _ _ _ _ refl refl, tt),
        (
          (device-draws _ _ _ _ _ _ refl refl, (device-draws _ _ _ _ _ _ refl refl, tt)),
          ((device-draws _ _ _ _ _ _ refl refl, tt), ((device-draws _ _ _ _ _ _ refl refl, tt), tt)),
        ),
      ),
    ),
  ),
)

-- of the 16-output parts, l to s, and what follows
sixteen : Each (drop 11 examples)
unfolding bits number fields split padded bytes_of over command_count header frame clocked_at frame_bits frame_of
    write_refusal written written_out held_fields read_refusal three_states relay relay_one run last_of moved watching expired watched clock_record ticked step_record how_many_from on_answer lead_answer position_over
sixteen = (
  ((refl, refl, refl), tt),
  (
    ((refl, refl, refl), tt),
    (
      ((refl, refl, refl), tt),
      (
        ((refl, refl, refl), tt),
        (
          ((refl, refl, refl), tt),
          (
            (refl, tt),
            (
              (
                lit-to 6972 2560 true 2559 refl,
                (
                  lit-to 6972 2560 false 4079 refl,
                  (dark 6973 32 true (lit≤ tt), (dark 6973 32 false (lit≤ tt), (lit-to 6973 33 true 32 refl, (lit-to 6973 33 false 16351 refl, tt)))),
                ),
              ),
              ((refl, (refl, tt)), currents),
            ),
          ),
        ),
      ),
    ),
  ),
)

pub examples-hold : Each examples
unfolding bits number fields split padded bytes_of over command_count header frame clocked_at frame_bits frame_of
    write_refusal written written_out held_fields read_refusal three_states relay relay_one run last_of moved watching expired watched clock_record ticked step_record how_many_from on_answer lead_answer
examples-hold = (
  ((refl, refl, refl), tt),
  (
    ((refl, refl, refl), tt),
    (
      ((refl, refl, refl), tt),
      (
        ((refl, refl, refl), tt),
        (
          ((refl, refl, refl), tt),
          (
            ((refl, refl, refl), tt),
            (
              (refl, tt),
              (
                ((refl, refl, refl), (refl, tt)),
                (
                  (refl, (refl, (refl, (refl, (refl, (refl, (refl, tt))))))),
                  (
                    (lit-to 6974 2560 true 2559 refl, (lit-to 6974 2560 false 4079 refl, tt)),
                    (
                      (dark 6975 32 true (lit≤ tt), (dark 6975 32 false (lit≤ tt), (lit-to 6975 33 true 32 refl, (lit-to 6975 33 false 16351 refl, tt)))),
                      sixteen,
                    ),
                  ),
                ),
              ),
            ),
          ),
        ),
      ),
    ),
  ),
)
