-- Low states in blocks. A window keeps the last nine bits, so that after nine low states it is made of these alone: pushed one after the other,
-- they are the low nine digits of a number whose other digits are the window before, and these are lost modulo 512. So states that are all low,
-- nine of them or more, are heard as the last nine of them are, from any window. By induction on the states before those nine. Assumes nothing.
use mathlib.Core.Path.{◌≡◌, ap, sym, ◌∙◌}
use mathlib.Core.List.{List}
use Prim.Native.Nat.{ℕ, zero, suc, ◌+◌, ◌*◌, ◌%◌, ◌<◌, ◌≤◌}
use native.Mathlib.Omega.{arith}
use lib.ListN.{length, get_or, drop}
use Rattle.phases.specs.Phases.{pushed}
use Rattle.intake.proofs.Slices.{pushed-mod}
use Rattle.turns.specs.Front.{hear_all}
use Rattle.turns.proofs.Phases.{hear-next}

-- the states from place i to place e are there, and low
abbrev pub Lows : List ℕ → ℕ → ℕ → Type 0
Lows ss i e = (k : ℕ) → i ≤ k → k < e → (k < length ss) × (get_or ss k 0 < 2)

module _ (ss : List ℕ) where
  -- the same place, by another name
  pub lows-same : (i d e : ℕ) → d ≡ e → Lows ss i d → Lows ss i e
  lows-same i d e q f = rw (sym q) f

  -- a number, and m states from place i on as digits behind it
  abbrev digits : ℕ → ℕ → ℕ → ℕ
  digits x i zero = x
  digits x i (suc m) = digits (x * 2 + get_or ss i 0) (i + 1) m

  -- m low states, heard by a window that is such a number's
  hear-digits : (m x i e : ℕ) → i + m ≡ e → Lows ss i e → hear_all (x % 512) (drop i ss) i ≡ hear_all (digits x i m % 512) (drop e ss) e
  hear-digits zero x i e q l = let p : i ≡ e = omega (arith, q) in ap (λ (n : ℕ). hear_all (x % 512) (drop n ss) n) p
  hear-digits (suc m) x i e q l =
      let here = l i (omega arith) (omega (arith, q)) in
      hear-next (x % 512) ss i i here.0 here.1 ∙ ap (λ (w : ℕ). hear_all w (drop (i + 1) ss) (i + 1)) (pushed-mod x (get_or ss i 0) 512)
      ∙ hear-digits m (x * 2 + get_or ss i 0) (i + 1) e (omega (arith, q)) (λ k a b. l k (omega (arith, a)) b)

  -- nine of them, heard by any window
  hear-nine : (w i : ℕ) → Lows ss i (i + 9) → hear_all w (drop i ss) i ≡ hear_all (digits w i 9 % 512) (drop (i + 9) ss) (i + 9)
  hear-nine w i l =
      let here = l i (omega arith) (omega arith) in
      hear-next w ss i i here.0 here.1
      ∙ hear-digits 8 (w * 2 + get_or ss i 0) (i + 1) (i + 9) (omega arith) (λ k a b. l k (omega (arith, a)) b)

  -- the digits in front are lost
  nine-digits : (w v i : ℕ) → digits w i 9 % 512 ≡ digits v i 9 % 512
  nine-digits w v i = omega arith

  nine-forget : (w v i : ℕ) → Lows ss i (i + 9) → hear_all w (drop i ss) i ≡ hear_all v (drop i ss) i
  nine-forget w v i l = hear-nine w i l ∙ ap (λ (x : ℕ). hear_all x (drop (i + 9) ss) (i + 9)) (nine-digits w v i) ∙ sym (hear-nine v i l)

  -- n low states before the nine at place j
  pub lows-forget : (n w v i j : ℕ) → i + n ≡ j → Lows ss i (j + 9) → hear_all w (drop i ss) i ≡ hear_all v (drop j ss) j
  lows-forget zero w v i j q l =
      let p : i ≡ j = omega (arith, q) in
      nine-forget w v i (λ k a b. l k a (omega (arith, b, p))) ∙ ap (λ (x : ℕ). hear_all v (drop x ss) x) p
  lows-forget (suc n) w v i j q l =
      let here = l i (omega arith) (omega (arith, q)) in
      hear-next w ss i i here.0 here.1
      ∙ lows-forget n (pushed w (get_or ss i 0) 512) v (i + 1) j (omega (arith, q)) (λ k a b. l k (omega (arith, a)) b)
