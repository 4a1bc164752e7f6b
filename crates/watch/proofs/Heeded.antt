-- What becomes of an ear that was told before, by its end, its limit and its next change: one lemma for each case. Assumes nothing.
use mathlib.Core.Path.{◌≡◌}
use mathlib.Core.List.{List}
use Prim.Native.Nat.{ℕ}
use Rattle.std.proofs.Common.{◌<◌, ◌≤◌, Bool, true, false, eqb, refl, le-leb, eqb-true}
use borrow.Author.Tests.{eq-eqb, lt-leb}
use Rattle.watch.specs.declared.ear.Ear.{Ear}
use Rattle.watch.specs.Ear.{next_in, ear_from, ear_on}

-- told of this stretch for this limit, and its next change is not passed
pub heeded : (e : Ear) (limit : ℕ) (ss : List ℕ) (q end : ℕ) → e.end ≡ end → e.limit ≡ limit → q ≤ e.next → ear_on e limit ss q end ≡ e
unfolding ear_on
heeded e limit ss q end s l n = rw (eq-eqb _ _ s, eq-eqb _ _ l, le-leb _ _ n)

-- the same, and its next change is passed
pub heeded_past : (e : Ear) (limit : ℕ) (ss : List ℕ) (q end : ℕ) → e.end ≡ end → e.limit ≡ limit → e.next < q
    → ear_on e limit ss q end
    ≡ record { limit = e.limit; end = e.end; level = e.level; next = next_in ss q end; changed = e.changed; long = e.long }
unfolding ear_on
heeded_past e limit ss q end s l n = rw (eq-eqb _ _ s, eq-eqb _ _ l, lt-leb _ _ n)

-- told of another stretch, or for another limit
pub unheeded : (e : Ear) (limit : ℕ) (ss : List ℕ) (q end : ℕ) → (e.end ≡ end → e.limit ≡ limit → ⊥) → ear_on e limit ss q end ≡ ear_from limit ss q end
unfolding ear_on
unheeded e limit ss q end n = go (eqb e.end end) refl (eqb e.limit limit) refl
  where
    go : (a : Bool) → eqb e.end end ≡ a → (b : Bool) → eqb e.limit limit ≡ b → ear_on e limit ss q end ≡ ear_from limit ss q end
    go false f b g = rw f
    go true f false g = rw (f, g)
    go true f true g = absurd (n (eqb-true _ _ f) (eqb-true _ _ g))
