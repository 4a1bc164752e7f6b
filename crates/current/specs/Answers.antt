-- What the question about a set's current answers, for any input: the refusal of its table, or the sign's figures; and what the lent list holds
-- afterwards.
use Rattle.std.specs.Prelude.{ℕ, ◌*◌, ◌/◌, ◌%◌, not, List, [], ◌∷◌, ltb, length}
use Rattle.tables.specs.Refusals.{Row, ◌when◌, first, answer, content}
use Rattle.bits.specs.Bits.{over}
use Rattle.parts.specs.Parts.{known, is_count, period}
use Rattle.model.specs.Set.{Set}
use Rattle.sets.specs.Sets.{lengths_fit, settings_fit}
use Rattle.current.specs.Current.{device_figures, sign_total}
use Rattle.current.specs.declared.sign.Current.{Current}

-- when it is refused: the set as a comparison refuses it, and 5 where the lent list has not three numbers for each device
abbrev pub current_table : Set → ℕ → List Row
current_table s room =
    (1 when not (known s.part))
    ∷ (2 when not (is_count s.devices))
    ∷ (4 when not (lengths_fit s.part s.devices s.configuration (length s.calibration) (length s.individual)))
    ∷ (5 when ltb room (3 * s.devices))
    ∷ (6 when not (settings_fit s.part s.configuration s.global s.individual))
    ∷ []

-- the number under which it is refused, or 0
unfoldable pub current_refusal : Set → ℕ → ℕ
current_refusal s room = first (current_table s room)

-- an answer: the refusal's number alone
abbrev pub refused : ℕ → Current
refused number = record { total = 0; average = 0; remainder = 0; refusal = number }

-- or the sign's three figures, by its total
abbrev pub drawing : ℕ → Current
drawing n = record { total = n; average = n / period; remainder = n % period; refusal = 0 }

-- what is answered: the sign's average is the sign's total divided
unfoldable pub current : Set → ℕ → Current
current s room = answer (current_refusal s room) refused (drawing (sign_total s))

-- what the lent list holds afterwards: in front, the figures of each device
unfoldable pub current_out : Set → List ℕ → List ℕ
current_out s out = content (current_refusal s (length out)) out (over (device_figures s) out)
