-- Each turn takes eight waiting bits to the next byte, which leaves what is written as it was. Assumes nothing.
use mathlib.Core.Path.{◌≡◌}
use mathlib.Core.List.{List}
use Prim.Native.Nat.{ℕ, ◌+◌, ◌*◌, ◌≤◌}
use lib.ListN.{drop}
use Rattle.packing.specs.Writing.{written_bits}
use Rattle.packing.proofs.writer.Writer.flush.Given as goal

pub record Flushing (out₀ : List ℕ) (acc have₀ at₀ : ℕ) (out : List ℕ) (have at : ℕ) : Type 0 where
  pub said : written_bits out at have acc ≡ written_bits out₀ at₀ have₀ acc
  pub rest : drop at out ≡ drop at out₀
  pub count : 8 * at + have ≡ 8 * at₀ + have₀
  pub most : have ≤ have₀
  pub forward : at₀ ≤ at

abbrev pub invariant-loop-have : goal.invariant-loop-have
invariant-loop-have l = Flushing l.initial.out l.acc l.initial.have l.initial.at l.out l.have l.at

abbrev pub decreases-loop-have : goal.decreases-loop-have
decreases-loop-have l = l.have
