use mathlib.Core.Path.{◌≡◌, refl, sym, ap, ◌∙◌}
use mathlib.Core.List.{List, append-nil}
use Prim.Native.Nat.{ℕ, ◌+◌, ◌-◌, ◌/◌, ◌^◌, ◌≤◌, ◌<◌}
use native.Mathlib.Omega.{arith}
use lib.ListN.{length, drop, set}
use lib.Seq.{drop-set-lt, drop-drop}
use lib.Bits.{bit_and}
use Rattle.packing.specs.Writing.{written_bits}
use Rattle.packing.proofs.Writing as writing
use Rattle.packing.proofs.writer.Writer.flush.Invariants.{Flushing}
use Rattle.packing.proofs.writer.Writer.flush.Goals as goal

turn : {out₀ out : List ℕ} {acc have₀ at₀ have at : ℕ} → Flushing out₀ acc have₀ at₀ out have at → 8 ≤ have → at < length out
    → Flushing out₀ acc have₀ at₀ (set out at (bit_and (acc / 2 ^ (have - 8)) 255)) (have - 8) (at + 1)
turn {out₀} {out} {acc} {have₀} {at₀} {have} {at} i full room =
    let e : 8 + (have - 8) ≡ have = omega arith in
    record {
      said = writing.byte-written_bits out at (have - 8) acc room ∙ ap (λ (n : ℕ). written_bits out at n acc) e ∙ i.said;
      rest = drop-set-lt (at + 1) out at _ (omega arith) ∙ sym (drop-drop 1 at out) ∙ ap (drop 1) i.rest ∙ drop-drop 1 at out₀;
      count = omega arith;
      most = omega arith;
      forward = omega arith;
    }

pub loop-have-init : goal.loop-have-init
loop-have-init c = record { said = refl; rest = refl; count = refl; most = omega arith; forward = omega arith }

pub loop-have-preserved : goal.loop-have-preserved
loop-have-preserved c = turn c.loop-have.invariant (omega arith) (omega arith)

pub returns : goal.returns
returns c = let i = c.loop-have.invariant in (
  record {
    said = i.said ∙ sym (append-nil _);
    rest = i.rest;
    forward = i.forward;
    count = omega arith;
  },
  omega arith,
)
