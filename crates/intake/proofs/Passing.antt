-- Blocks of a list that are taken one after the other. Assumes nothing.
use Rattle.std.proofs.Common.{◌≡◌, ℕ, ◌<◌, ◌≤◌, ◌+◌, ◌-◌, List, ◌++◌, length, get_or, drop, sym, ap, ◌∙◌, subst, inl, inr, arith}
use Rattle.std.proofs.lemmas.List.{get_or-drop, get_or_append_left, length-drop, length-append, drop_at, drop-drop}
use Rattle.std.proofs.lemmas.Bool.{cases_lt}

module _ (ss xs ys : List ℕ) (e n : ℕ) (s : drop e ss ≡ xs ++ ys) (l : length xs ≡ n) where
  -- what is left behind the block
  pub behind_block : ys ≡ drop (e + n) ss
  behind_block = sym (drop_at xs ys n l) ∙ ap (drop n) (sym s) ∙ drop-drop n e ss

  -- the block is there
  pub block_within : (j : ℕ) → j < n → e + j < length ss
  block_within j h = omega (arith, l, length-drop e ss, ap length s, length-append xs ys)

  -- a state of the block
  pub block_state : (j : ℕ) → j < n → get_or ss (e + j) 0 ≡ get_or xs j 0
  block_state j h = sym (get_or-drop e ss j 0) ∙ ap (λ (zs : List ℕ). get_or zs j 0) s ∙ get_or_append_left xs ys 0 j (subst (λ (m : ℕ). j < m) (sym l) h)

  -- what holds of all before the block and of all in it holds of all before its end
  pub behind_all : (P : ℕ → Type 0) (from : ℕ) → ((k : ℕ) → from ≤ k → k < e → (k < length ss) × P (get_or ss k 0))
      → ((k : ℕ) → k < n → P (get_or xs k 0)) → (k : ℕ) → from ≤ k → k < e + n → (k < length ss) × P (get_or ss k 0)
  behind_all P from f g k a b = elim (cases_lt k e) [
    | inl h ↦ f k a h
    | inr h ↦
        let j = k - e in
        let i : e + j ≡ k = omega arith in
        let m : j < n = omega arith in
        subst (λ (x : ℕ). (x < length ss) × P (get_or ss x 0)) i (block_within j m, subst P (sym (block_state j m)) (g j m))
  ]
