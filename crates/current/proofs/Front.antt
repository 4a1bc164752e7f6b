-- The figures of the first devices in the front of a list: none, and one device more. Assumes nothing.
use mathlib.Core.Path.{◌≡◌, refl, sym, ap, ◌∙◌}
use mathlib.Core.List.{List}
use Prim.Native.Nat.{ℕ, zero, suc, ◌+◌, ◌*◌}
use native.Mathlib.Numerals.{add-one}
use native.Mathlib.Omega.{arith}
use lib.ListN.{length, length-append}
use Rattle.bits.specs.Bits.{over, over_at}
use Rattle.bits.proofs.Laws.{over-append}
use Rattle.current.specs.declared.drive.Drive.{Drive}
use Rattle.current.specs.Current.{figure}
use Rattle.current.specs.Closed.{closed_at, closed_figures}

module _ (d : Drive) (calibration individual : List ℕ) where
  pub length-figures : (n : ℕ) → length (closed_figures d calibration individual n) ≡ 3 * n
  unfolding closed_figures
  length-figures zero = refl
  length-figures (suc n) =
      length-append (closed_figures d calibration individual n) (figure (closed_at d calibration individual n)) ∙ omega (arith, length-figures n)

  module _ (l : List ℕ) where
    pub figures-none : l ≡ over (closed_figures d calibration individual 0) l
    unfolding closed_figures over
    figures-none = refl

    pub figures-next : (n : ℕ) → over_at (3 * n) (figure (closed_at d calibration individual n)) (over (closed_figures d calibration individual n) l)
        ≡ over (closed_figures d calibration individual (n + 1)) l
    unfolding closed_figures
    figures-next n =
        let last : List ℕ = figure (closed_at d calibration individual n) in
        ap (λ (k : ℕ). over_at k last (over (closed_figures d calibration individual n) l)) (sym (length-figures n))
        ∙ over-append (closed_figures d calibration individual n) last l
        ∙ ap (λ (k : ℕ). over (closed_figures d calibration individual k) l) (sym (add-one n))
