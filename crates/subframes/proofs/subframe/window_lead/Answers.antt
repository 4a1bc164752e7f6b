use mathlib.Core.Path.{◌≡◌, ap, ap₂, ◌∙◌}
use Prim.Native.Nat.{ℕ, ◌+◌, ◌-◌, ◌*◌, ◌<◌, ◌≤◌}
use native.Mathlib.Omega.{arith}
use lib.IntN.{pos, ◌-ℤ◌}
use mir.Syntax.{w32}
use mir.Facts.{to_z-of_z}
use Rattle.subframes.specs.Subframes.{on_first, level, on_count, lead}
use Rattle.subframes.specs.declared.intensity.Intensity.{Intensity}
use Rattle.parts.specs.Parts.{part_of, subframes}
use Rattle.parts.proofs.Laws.{usable}
use Rattle.subframes.proofs.Subframes.{level-lt, first-window, count-quotients, product_lt}
use Rattle.subframes.proofs.subframe.window_lead.Goals as goal

-- what two quotients are good for, of a window of w subframes from one on
record Within (i : Intensity) (from w s g end begin : ℕ) : Type 0 where
  counted : end - begin ≡ on_count s g from w
  on : s * (end - begin) < 32768
  due : w * (g + 1) < 32768

within : (i : Intensity) (from w s g end begin : ℕ)
    → from + w ≤ subframes (part_of i.part) i.configuration
    → s ≡ subframes (part_of i.part) i.configuration
    → g ≡ level (part_of i.part) i.configuration i.global
    → end ≡ on_first s g (from + w)
    → begin ≡ on_first s g from
    → Within i from w s g end begin
within i from w s g end begin h e f q r =
    let few : s ≤ 128 = omega (arith, (usable i.part).subframes i.configuration, e) in
    let l : g < s = omega (arith, level-lt i.part i.configuration i.global, e, f) in
    let c = first-window s g l from w in
    let n : end - begin ≤ 128 = omega arith in
    record {
      counted = omega (arith, count-quotients s g l from w);
      on = product_lt few n;
      due = product_lt (omega arith) (omega arith);
    }

pub difference-requires : goal.difference-requires
difference-requires c =
    let w = within c.args.intensity c.args.from c.args.w c.from-subframes.result c.level-level.result c.on_first.result c.on_first-2.result
    c.requires (c.from-subframes.ensures ∙ c.subframes_of.ensures) c.level-level.ensures c.on_first.ensures c.on_first-2.ensures in
    (w.on, w.due)

pub returns : goal.returns
returns c =
    let a = c.args in
    let e = c.from-subframes.ensures ∙ c.subframes_of.ensures in
    let w = within a.intensity a.from a.w c.from-subframes.result c.level-level.result c.on_first.result c.on_first-2.result
    c.requires e c.level-level.ensures c.on_first.ensures c.on_first-2.ensures in
    to_z-of_z {w = w32} {z = c.difference.result} (record { sfits = c.difference.type_inv }) ∙ c.difference.ensures
    ∙ ap (λ (n : ℕ). pos (c.from-subframes.result * n) -ℤ pos (a.w * (c.level-level.result + 1))) w.counted
    ∙ ap₂ (λ (n l : ℕ). lead n l a.from a.w) e c.level-level.ensures
