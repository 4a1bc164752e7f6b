use Rattle.std.proofs.Common.{◌≡◌, ◌∙◌, ◌+◌, ◌<◌, ◌++◌, [], ◌∷◌, ℕ, List, length, map, take, drop, get_or, set, sym, ap, ap₂, arith}
use mathlib.Core.List.{map-append}
use lib.Seq.{drop-drop}
use Rattle.std.proofs.lemmas.List.{take_more, take_more_set, drop-set-lt, get_or-drop}
use Rattle.device.specs.declared.device.Device.{Device}
use Rattle.turns.specs.Ending.{by_clock_device}
use Rattle.chain.proofs.close.Goals as goal

module _ (f : Device → Device) (xs ys : List Device) (i : ℕ) (left : drop i ys ≡ drop i xs) where
  -- the next record is as it was
  next-left : (z : Device) → get_or ys i z ≡ get_or xs i z
  next-left z =
      let at : i + 0 ≡ i = omega arith in
      rw at at (sym (get_or-drop i ys 0 z) ∙ ap (λ (l : List Device). get_or l 0 z) left ∙ get_or-drop i xs 0 z)

  brought-more : (r z : Device) → i < length xs → i < length ys → take i ys ≡ map f (take i xs) → r ≡ f (get_or ys i z)
      → take (i + 1) (set ys i r) ≡ map f (take (i + 1) xs)
  brought-more r z h k e q =
      take_more_set ys i r k
      ∙ ap₂ (λ (l : List Device) (d : Device). l ++ (d ∷ [])) e (q ∙ ap f (next-left z))
      ∙ sym (map-append f (take i xs) (get_or xs i z ∷ []))
      ∙ ap (map f) (sym (take_more xs i z h))

  left-less : (r : Device) → drop (i + 1) (set ys i r) ≡ drop (i + 1) xs
  left-less r = drop-set-lt (i + 1) ys i r (omega arith) ∙ sym (drop-drop 1 i ys) ∙ ap (drop 1) left ∙ drop-drop 1 i xs

pub loop-device-preserved : goal.loop-device-preserved
loop-device-preserved c =
    let xs = c.args.chain.now in
    let l = c.loop-device in
    record {
      brought = brought-more (by_clock_device c.args.clock) xs l.chain l.device-index l.invariant.left c.bring.result _ c.loop-device-test.true (omega arith) l.invariant.brought c.bring.ensures;
      left = left-less (by_clock_device c.args.clock) xs l.chain l.device-index l.invariant.left c.bring.result;
    }
