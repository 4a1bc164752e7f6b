-- The parts of n elements that `as_chunks` cuts a list into. Assumes nothing.
use mathlib.Core.Path.{◌≡◌, sym, ap, ◌∙◌}
use mathlib.Core.List.{List}
use Prim.Native.Nat.{ℕ, zero, suc, ◌+◌, ◌-◌, ◌*◌, ◌≤◌, ◌<◌}
use native.Mathlib.Nat.{zero-mul, suc-mul, add_comm}
use native.Mathlib.Omega.{arith}
use lib.ListN.{get_or, take, drop}
use lib.Seq.{drop-drop, take-take}
use Rattle.std.proofs.lemmas.List.{drop-take}
use Rattle.std.specs.Simd.{first_chunks}

pub chunk_at : (n k j : ℕ) (vs d : List ℕ) → j < k → get_or (first_chunks n k vs) j d ≡ take n (drop (j * n) vs)
chunk_at n zero j vs d l = absurd (omega arith)
chunk_at n (suc k) zero vs d l = ap (λ (m : ℕ). take n (drop m vs)) (sym (zero-mul n))
chunk_at n (suc k) (suc j) vs d l =
    let e : n + j * n ≡ suc j * n = add_comm n (j * n) ∙ sym (suc-mul j n) in
    chunk_at n k j (drop n vs) d (omega arith) ∙ ap (take n) (drop-drop (j * n) n vs ∙ ap (λ (m : ℕ). drop m vs) e)

-- the parts of a list's first m elements
pub chunk_within : (n k j m : ℕ) (vs d : List ℕ) → j < k → j * n + n ≤ m → get_or (first_chunks n k (take m vs)) j d ≡ take n (drop (j * n) vs)
chunk_within n k j m vs d l h =
    let e : m ≡ j * n + (m - j * n) = omega arith in
    chunk_at n k j (take m vs) d l
    ∙ ap (λ (z : ℕ). take n (drop (j * n) (take z vs))) e ∙ ap (take n) (drop-take (j * n) (m - j * n) vs)
    ∙ take-take n (m - j * n) (drop (j * n) vs) (omega arith)
