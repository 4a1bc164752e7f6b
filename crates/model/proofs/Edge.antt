-- What a device makes of a rising edge. The window is the number of the last nine low bits since the last high clock, so the last seven,
-- eight or nine of them are what it says. Each reading is accepted, whatever came before; since a device is then in one phase, no line
-- history has two readings; any other rising edge is lost. Last, the same of whole line histories, by induction on their clocks. Assumes
-- nothing.
use mathlib.Core.Path.{◌≡◌, refl, sym, ap, ◌∙◌}
use mathlib.Core.Bool.{Bool, true, false, ◌&&◌, not, cond}
use mathlib.Core.List.{List, [], ◌∷◌, ◌++◌, append_assoc, append-nil}
use mathlib.Core.Logic.{◌⊎◌, inl, inr}
use Prim.Native.Nat.{ℕ, zero, suc, ◌+◌, ◌-◌, ◌*◌, ◌/◌, ◌%◌, ◌^◌, ◌≤◌, ◌<◌}
use native.Mathlib.Omega.{arith}
use lib.Dec.{eqb, leb, leb→le, nleb→lt}
use lib.ListN.{length, take, drop, length-append, length-drop, take-append-drop}
use lib.Pow.{pow_mono}
use borrow.Author.Tests.{not-true, eqb-true}
use Rattle.tables.proofs.Booleans.{and_both, cond_both}
use Rattle.bits.specs.Bits.{digit, bits, number, is_one}
use Rattle.bits.proofs.Laws.{bits-append, bits-low, bits-mod-self, bits-number, number-bits, number_append, number_lt}
use Rattle.parts.specs.Wire.{State, low, high, lows, Edge, early, exact, late, sync}
use Rattle.machine.specs.Machine.{run}
use Rattle.model.specs.Edge.{low_run, EndsIn, RisesAs}
use Rattle.model.specs.Device.{Registers, Device, Phase, hunting, lost, taking, passing, command, count, slice, at}
use Rattle.model.specs.Device.{begun, rising, window, named, step_from, step_device, run_device}
use Rattle.machine.proofs.Machine.{run-then, run-append}

-- ---- the window

-- low clocks push their bits in
abbrev pushed : ℕ → List Bool → ℕ
pushed w [] = w
pushed w (b ∷ bs) = pushed ((w * 2 + digit b) % 512) bs

pushed-append : (w : ℕ) (xs bs : List Bool) → pushed w (xs ++ bs) ≡ pushed (pushed w xs) bs
pushed-append w [] bs = refl
pushed-append w (x ∷ xs) bs = pushed-append ((w * 2 + digit x) % 512) xs bs

-- after low bits xs, bs more
pushed-number : (xs bs : List Bool) → pushed (number xs % 512) bs ≡ number (xs ++ bs) % 512
unfolding number
pushed-number xs [] = rw append-nil
pushed-number xs (b ∷ bs) =
    let e : (number xs % 512 * 2 + digit b) % 512 ≡ number (xs ++ b ∷ []) % 512 = rw number_append (omega arith) in
    rw e (pushed-number (xs ++ b ∷ []) bs ∙ rw append_assoc)

pushed-zero : (bs : List Bool) → pushed 0 bs ≡ number bs % 512
unfolding number
pushed-zero bs = pushed-number [] bs

pushed-lows : (r : Registers) (w : ℕ) (bs : List Bool) → run_device (at r (hunting w)) (lows bs) ≡ (at r (hunting (pushed w bs)), [])
unfolding run step_device
pushed-lows r w [] = refl
pushed-lows r w (b ∷ bs) = pushed-lows r ((w * 2 + digit b) % 512) bs

-- low clocks in any phase, then load rises
risen : (r : Registers) (p : Phase) (b : Bool) (bs : List Bool) (first : Bool) → run_device (at r p) (lows (b ∷ bs) ++ high first ∷ []) ≡ (at r (rising (pushed (window p) (b ∷ bs)) first), [])
unfolding run step_device
risen r p b bs first = run-then step_device (at r p) (lows (b ∷ bs)) (high first ∷ []) (pushed-lows r ((window p * 2 + digit b) % 512) bs) refl

-- ---- each reading is accepted

seven : (w : ℕ) → pushed w (take 7 sync) % 128 ≡ 0x74
unfolding bits
seven w = omega arith

eight : (w : ℕ) → pushed w sync % 256 ≡ 0xE8
unfolding bits
eight w = omega arith

nine : (w : ℕ) (c : Bool) → pushed w (sync ++ c ∷ []) ≡ 0x1D0 + digit c
unfolding bits
nine w true = omega arith
nine w false = omega arith

rising-early : (w : ℕ) → w % 128 ≡ 0x74 → rising w false ≡ begun []
rising-early w e = rw e

rising-exact : (w : ℕ) (first : Bool) → w % 256 ≡ 0xE8 → rising w first ≡ begun (first ∷ [])
rising-exact w first e = let f : w % 128 ≡ 0x68 = omega arith in rw (f, e)

rising-late : (c first : Bool) → rising (0x1D0 + digit c) first ≡ begun (c ∷ first ∷ [])
rising-late true first = refl
rising-late false first = refl

accepted : (e : Edge) (w : ℕ) (seen : List Bool) (first : Bool) (got : List Bool) → RisesAs e seen first got → rising (pushed w seen) first ≡ begun got
accepted early w seen first got ((before, s), f, g) = rw (s, f, g, pushed-append) (rising-early _ (seven (pushed w before)))
accepted exact w seen first got ((before, s), g) = rw (s, g, pushed-append) (rising-exact _ first (eight (pushed w before)))
accepted late w seen first got (c, (before, s), g) = rw (s, g, pushed-append, nine) (rising-late c first)

rises-some : (e : Edge) (first : Bool) (got : List Bool) → RisesAs e [] first got → ⊥
unfolding bits
rises-some early first got ((before, s), f, g) = omega (arith, ap length s, length-append before (take 7 sync))
rises-some exact first got ((before, s), g) = omega (arith, ap length s, length-append before sync)
rises-some late first got (c, (before, s), g) = omega (arith, ap length s, length-append before (sync ++ c ∷ []))

-- from any phase: whatever the device did and saw before these low clocks
pub opened : (e : Edge) (r : Registers) (p : Phase) (seen : List Bool) (first : Bool) (got : List Bool) → RisesAs e seen first got
    → run_device (at r p) (lows seen ++ high first ∷ []) ≡ (at r (begun got), [])
opened e r p [] first got h = absurd (rises-some e first got h)
opened e r p (b ∷ bs) first got h = rw (risen r p b bs first, accepted e (window p) (b ∷ bs) first got h)

-- ---- no line history has two readings

-- the command bits seen tell the edge
abbrev edge_of : List Bool → Edge
edge_of [] = early
edge_of (b ∷ []) = exact
edge_of (b ∷ c ∷ bs) = late

rises-edge : (e : Edge) (seen : List Bool) (first : Bool) (got : List Bool) → RisesAs e seen first got → e ≡ edge_of got
rises-edge early seen first got (s, f, g) = rw g
rises-edge exact seen first got (s, g) = rw g
rises-edge late seen first got (c, s, g) = rw g

pub one-reading : (e f : Edge) (seen : List Bool) (first : Bool) (got had : List Bool) → RisesAs e seen first got → RisesAs f seen first had → (e ≡ f) × (got ≡ had)
one-reading e f seen first got had h k =
    let a : begun got ≡ begun had = sym (accepted e 0 seen first got h) ∙ accepted f 0 seen first had k in
    let b : got ≡ had = cc in
    (rises-edge e seen first got h ∙ ap edge_of b ∙ sym (rises-edge f seen first had k), b)

-- ---- every other edge is lost

-- as many bits as k, and the number says them
ends : (k : ℕ) (seen : List Bool) → k ≤ length seen → EndsIn seen (bits k (number seen % 2 ^ k))
ends k seen h =
    let j : ℕ = length seen - k in
    let l : length (drop j seen) ≡ k = rw length-drop (omega arith) in
    let n : number seen ≡ number (take j seen) * 2 ^ k + number (drop j seen) = rw l at (ap number (sym (take-append-drop j seen)) ∙ number_append (take j seen) (drop j seen)) in
    let m : number (drop j seen) < 2 ^ k = rw l at (number_lt (drop j seen)) in
    let a : bits k (number (drop j seen)) ≡ drop j seen = rw l at (bits-number (drop j seen)) in
    let b : bits k (number seen) ≡ bits k (number (drop j seen)) = rw n (bits-low k (number (take j seen)) m) in
    let d : drop j seen ≡ bits k (number seen % 2 ^ k) = sym (bits-mod-self k (number seen) ∙ b ∙ a) in
    (take j seen, sym (take-append-drop j seen) ∙ ap (λ (bs : List Bool). take j seen ++ bs) d)

-- a number with its top bit set has all its bits
long : (k : ℕ) (seen : List Bool) → 2 ^ k ≤ number seen → k < length seen
long k seen h = go (leb (length seen) k) refl
  where
    go : (b : Bool) → leb (length seen) k ≡ b → k < length seen
    go true e = let l : length seen ≤ k = leb→le (length seen) k (rw e tt) in let m : 2 ^ length seen ≤ 2 ^ k = pow_mono l in absurd (omega (arith, number_lt seen))
    go false e = nleb→lt (length seen) k (rw e tt)

one_bit : (n : ℕ) → bits 1 n ≡ is_one (n / 1 % 2) ∷ []
unfolding bits
one_bit n = refl

-- after seen at low load, the first of them after a high clock: one of the readings, or lost
module _ (seen : List Bool) (first : Bool) where
  abbrev Read : Type 0
  Read = (e : Edge) × (got : List Bool) × RisesAs e seen first got

  read-early : eqb (number seen % 512 % 128) 0x74 && not first ≡ true → Read
  unfolding bits
  read-early h =
      let (t, z) = and_both (eqb (number seen % 512 % 128) 0x74) (not first) h in
      let n : number seen % 128 ≡ 0x74 = omega (arith, eqb-true (number seen % 512 % 128) 0x74 t) in
      (early, [], (rw n at (ends 7 seen (long 6 seen (omega arith))), not-true first z, refl))

  read-exact : eqb (number seen % 512 % 256) 0xE8 ≡ true → Read
  read-exact h =
      let n : number seen % 256 ≡ 0xE8 = omega (arith, eqb-true (number seen % 512 % 256) 0xE8 h) in
      (exact, first ∷ [], (rw n at (ends 8 seen (long 7 seen (omega arith))), refl))

  read-late : eqb (number seen % 512 / 2) 0xE8 ≡ true → Read
  read-late h =
      let t : number seen % 512 / 2 ≡ 0xE8 = eqb-true (number seen % 512 / 2) 0xE8 h in
      let n : number seen % 512 ≡ 0xE8 * 2 ^ 1 + number seen % 2 = omega arith in
      let c : Bool = is_one (number seen % 2 / 1 % 2) in
      (late, c ∷ first ∷ [], (c, rw (n, bits-append 8 1 0xE8 (number seen % 2) (omega arith), one_bit) at (ends 9 seen (long 8 seen (omega arith))), refl))

  choose : (x y z : Bool) (p q s : Phase) → (x ≡ true → Read) → (y ≡ true → Read) → (z ≡ true → Read) → Read ⊎ (cond x p (cond y q (cond z s lost)) ≡ lost)
  choose true y z p q s f g h = inl (f refl)
  choose false true z p q s f g h = inl (g refl)
  choose false false true p q s f g h = inl (h refl)
  choose false false false p q s f g h = inr refl

  judged : Read ⊎ (rising (pushed 0 seen) first ≡ lost)
  judged = rw (pushed-zero seen) (choose _ _ _ _ _ _ read-early read-exact read-late)

  rejected : ((e : Edge) (got : List Bool) → RisesAs e seen first got → ⊥) → rising (pushed 0 seen) first ≡ lost
  rejected none = go judged
    where
      go : Read ⊎ (rising (pushed 0 seen) first ≡ lost) → rising (pushed 0 seen) first ≡ lost
      go (inl (e, got, h)) = absurd (none e got h)
      go (inr l) = l

-- no low clock since: every phase after a high clock
abbrev Empty : Phase → Type 0
Empty p = window p ≡ 0

window-rising : (w : ℕ) (first : Bool) → Empty (rising w first)
window-rising w first =
    cond_both Empty (eqb (w % 128) 0x74 && not first) _ _ (λ _. refl)
    (λ _. cond_both Empty (eqb (w % 256) 0xE8) _ _ (λ _. refl) (λ _. cond_both Empty (eqb (w / 2) 0xE8) _ _ (λ _. refl) (λ _. refl)))

window-named : (n : ℕ) → Empty (named n)
window-named n =
    cond_both Empty (eqb n 0) _ _ (λ _. refl)
    (λ _. cond_both Empty (eqb n 21) _ _ (λ _. refl)
    (λ _. cond_both Empty (eqb n 42) _ _ (λ _. refl)
    (λ _. cond_both Empty (eqb n 63) _ _ (λ _. refl) (λ _. refl))))

window-from : (r : Registers) (p : Phase) (b : Bool) → Empty (step_from r p (high b)).0.phase
window-from r (hunting w) b = window-rising w b
window-from r lost b = refl
window-from r (taking command zero got) b = window-named (number (got ++ b ∷ []))
window-from r (taking (count c) zero got) b = refl
window-from r (taking (slice c n) zero got) b = refl
window-from r (taking f (suc n) got) b = refl
window-from r passing b = refl

window-high : (d : Device) (b : Bool) → Empty (step_device d (high b)).0.phase
unfolding step_device
window-high d b = window-from d.registers d.phase b

-- ---- whole line histories

-- what was in the window before the low clocks that are in it now: nothing once there was a high clock
abbrev base : ℕ → List State → ℕ
base w [] = w
base w (low b ∷ ls) = base w ls
base w (high b ∷ ls) = base 0 ls

base-zero : (ls : List State) → base 0 ls ≡ 0
base-zero [] = refl
base-zero (low b ∷ ls) = base-zero ls
base-zero (high b ∷ ls) = base-zero ls

-- the window holds the low run
window-run : (d : Device) (w : ℕ) (seen : List Bool) (ls : List State) → window d.phase ≡ pushed w seen → window (run_device d ls).0.phase ≡ pushed (base w ls) (low_run seen ls)
unfolding run step_device
window-run d w seen [] e = e
window-run d w seen (low b ∷ ls) e =
    window-run (at d.registers (hunting ((window d.phase * 2 + digit b) % 512))) w (seen ++ b ∷ []) ls (rw (e, pushed-append w seen (b ∷ [])))
window-run d w seen (high b ∷ ls) e = window-run (step_device d (high b)).0 0 [] ls (window-high d b)

-- after a low clock a device hunts
hunts : (d : Device) (seen : List Bool) (ls : List State) → (1 ≤ length seen → d.phase ≡ hunting (window d.phase)) → 1 ≤ length (low_run seen ls)
    → (run_device d ls).0.phase ≡ hunting (window (run_device d ls).0.phase)
unfolding run step_device
hunts d seen [] f h = f h
hunts d seen (low b ∷ ls) f h = hunts (at d.registers (hunting ((window d.phase * 2 + digit b) % 512))) (seen ++ b ∷ []) ls (λ _. refl) h
hunts d seen (high b ∷ ls) f h = hunts (step_device d (high b)).0 [] ls (λ g. absurd (omega (arith, g))) h

-- one high clock of a device that hunts
rises : (d : Device) (w : ℕ) (first : Bool) → d.phase ≡ hunting w → (step_device d (high first)).0.phase ≡ rising w first
unfolding step_device
rises d w first e = rw e

-- a reading has a low clock
rises-low : (e : Edge) (seen : List Bool) (first : Bool) (got : List Bool) → RisesAs e seen first got → 1 ≤ length seen
rises-low e [] first got r = absurd (rises-some e first got r)
rises-low e (b ∷ seen) first got r = omega arith

-- the device's window after a history, and then load rises
module _ (d : Device) (ls : List State) (first : Bool) where
  rising-after : (w : ℕ) → (run_device d ls).0.phase ≡ hunting w → (run_device d (ls ++ high first ∷ [])).0.phase ≡ rising w first
  unfolding run
  rising-after w e = rw (run-append step_device d ls (high first ∷ [])) (rises (run_device d ls).0 w first e)

  -- Accepted: by any device, after any history that ends in the reading
  pub edge-read : (e : Edge) (got : List Bool) → RisesAs e (low_run [] ls) first got → (run_device d (ls ++ high first ∷ [])).0.phase ≡ begun got
  edge-read e got r =
      let t : Device = (run_device d ls).0 in
      rising-after (window t.phase) (hunts d [] ls (λ g. absurd (omega (arith, g))) (rises-low e _ first got r))
      ∙ rw (window-run d (window d.phase) [] ls refl) (accepted e (base (window d.phase) ls) (low_run [] ls) first got r)

  -- any device that hunts: the bits of its window are the last that it had seen
  module _ (w : ℕ) (small : window d.phase < 512) (hunting-now : (run_device d ls).0.phase ≡ hunting w) where
    abbrev seen : List Bool
    seen = low_run (bits 9 (window d.phase)) ls

    window-seen : w ≡ pushed 0 seen
    window-seen =
        let k : window d.phase ≡ pushed 0 (bits 9 (window d.phase)) =
        sym (pushed-zero (bits 9 (window d.phase)) ∙ rw (number-bits 9 (window d.phase)) (omega arith)) in
        sym (ap window hunting-now) ∙ window-run d 0 (bits 9 (window d.phase)) ls k ∙ rw base-zero

    -- Heard: a reading is accepted
    pub edge-heard : (e : Edge) (got : List Bool) → RisesAs e seen first got → (run_device d (ls ++ high first ∷ [])).0.phase ≡ begun got
    edge-heard e got r = rising-after w hunting-now ∙ rw window-seen (accepted e 0 seen first got r)

    -- Lost: any other
    pub edge-lost : ((e : Edge) (got : List Bool) → RisesAs e seen first got → ⊥) → (run_device d (ls ++ high first ∷ [])).0.phase ≡ lost
    edge-lost none = rising-after w hunting-now ∙ rw window-seen (rejected seen first none)
