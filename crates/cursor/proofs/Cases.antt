-- No header is under way: what is sent under the `else` of an `if let` is nothing or one state. Assumes nothing.
use mathlib.Core.Path.{◌≡◌, refl}
use mathlib.Core.List.{[], ◌∷◌}
use mathlib.Core.Logic.{⊎_elim, inl, inr}
use Rattle.parts.specs.declared.command.Command.{Command}
use Prim.Native.Nat.{ℕ}
use native.Mathlib.Omega.{arith}
use types.Run.{OneOf}
use denote.Enum.Declared.{tag_of}
use Rattle.phases.specs.declared.phase.Sent.{Sent}
use Rattle.phases.specs.declared.phase.Sent.TheVariants.{Nothing, One, Header}
use Rattle.phases.specs.contracts.phase.Sent as S

-- no header
abbrev pub NoHeader : Sent → Type 0
NoHeader p = OneOf (0 ∷ 1 ∷ []) (tag_of S.the_type p)

pub not_last : OneOf (0 ∷ 1 ∷ []) 2 → ⊥
not_last h = ⊎_elim (λ e. omega arith) (λ e. omega arith) h

-- what an `else` says of the variant
pub no_header : (p : Sent) → ((c : Command) (n : ℕ) → p ≡ Header c n → ⊥) → NoHeader p
no_header Nothing f = inl refl
no_header (One s) f = inr refl
no_header (Header c n) f = absurd (f c n refl)
