-- The largest total of a sign: no more than its devices times the most that one draws, and so much where all are the brightest. A set that is not
-- refused has values in range, so what is each device's own is proper; what is dealt of equal bytes and values is the same to each device.
-- Assumes nothing.
use mathlib.Core.Path.{◌≡◌, refl, sym, ap, ap₂, ◌∙◌}
use mathlib.Core.Bool.{Bool, true, not, ◌&&◌}
use mathlib.Core.List.{List, [], ◌∷◌}
use Prim.Native.Nat.{ℕ, zero, suc, ◌-◌, ◌*◌, ◌<◌, ◌≤◌}
use native.Mathlib.Nat.{zero-mul, suc-mul, mul-le-mul}
use native.Mathlib.Omega.{arith}
use lib.Dec.{lit≤}
use lib.ListN.{length, get_or, replicate, length-replicate}
use borrow.Author.Tests.{eq-eqb, lt-ltb, le-ltb}
use Rattle.tables.specs.Lists.{all_below}
use Rattle.tables.specs.Refusals.{first}
use Rattle.tables.proofs.Rows.{none}
use Rattle.parts.specs.Parts.{Part, part_of, known, is_count, subframes, multiplex, limit, slice_fields, Usable}
use Rattle.parts.specs.declared.command.Command.TheVariants.{Individual}
use Rattle.parts.proofs.Laws.{each_row, usable, whole-frames}
use Rattle.parts.proofs.Rows.{limit-pos}
use Rattle.model.specs.Lists.{All}
use Rattle.model.specs.Set.{Set, Own, OwnProper, Proper, owned}
use Rattle.model.proofs.Lists.{all-at, all-below}
use Rattle.model.proofs.Set.{owned-proper, length-owned}
use Rattle.model.proofs.Devices.{own_from-equal}
use Rattle.current.specs.Current.{drawn, sum, totals_of, sign_total}
use Rattle.current.specs.Answers.{current_table, current_refusal}
use Rattle.current.specs.Most.{most_drawn, brightest, brightest_set}
use Rattle.current.proofs.Answered.{bytes-long, values-long, global-below, values-below}
use Rattle.current.proofs.Most.{drawn-most, brightest-proper, drawn-reached}

-- ---- no more

sum-most : (p : Part) → Usable p → (os : List Own) → All (OwnProper p) os → sum (totals_of p os) ≤ length os * most_drawn p
sum-most p u [] q = omega arith
sum-most p u (o ∷ os) q = omega (arith, drawn-most p u o q.0, sum-most p u os q.1, suc-mul (length os) (most_drawn p))

module _ (s : Set) (room : ℕ) (configuration : s.configuration < 256) (calibration : (i : ℕ) → get_or s.calibration i 0 < 256) (e : current_refusal s room ≡ 0) where
  passed : first (current_table s room) ≡ 0
  unfolding current_refusal
  passed = e

  proper : Proper s
  proper =
      record {
        configuration = configuration;
        global = omega (arith, global-below s room passed, ((usable s.part).subframes s.configuration).1);
        calibration = all-at 256 s.calibration calibration;
        calibration_length = bytes-long s room passed;
        individual = all-below (limit (part_of s.part)) s.individual (values-below s room passed);
        individual_length = values-long s room passed;
      }

  pub sign-most : sign_total s ≤ s.devices * most_drawn (part_of s.part)
  sign-most =
      omega
      (arith, sum-most (part_of s.part) (usable s.part) (owned s) (owned-proper s proper), ap (λ (n : ℕ). n * most_drawn (part_of s.part)) (length-owned s))

-- ---- and so much

sum-equal : (p : Part) (o : Own) (n : ℕ) → sum (totals_of p (replicate n o)) ≡ n * drawn p o
sum-equal p o zero = sym (zero-mul (drawn p o))
sum-equal p o (suc n) = omega (arith, sum-equal p o n, suc-mul n (drawn p o))

below_equal : (n m v : ℕ) → v < m → all_below (replicate n v) m ≡ true
below_equal zero m v h = refl
below_equal (suc n) m v h = ap₂ (λ (a b : Bool). a && b) (lt-ltb v m h) (below_equal n m v h)

device-reached : (part configuration : ℕ) → drawn (part_of part) (brightest (part_of part) configuration) ≡ most_drawn (part_of part)
device-reached part configuration = drawn-reached (part_of part) (usable part) configuration (whole-frames part)

-- by a device that a set can have
pub proper-reached :
    (part configuration : ℕ)
    → (configuration < 256 → OwnProper (part_of part) (brightest (part_of part) configuration))
    × (drawn (part_of part) (brightest (part_of part) configuration) ≡ most_drawn (part_of part))
proper-reached part configuration = (brightest-proper (part_of part) (usable part) configuration, device-reached part configuration)

pub sign-reached : (part devices configuration : ℕ) → sign_total (brightest_set part devices configuration) ≡ devices * most_drawn (part_of part)
unfolding owned
sign-reached part devices configuration =
    ap (λ (os : List Own). sum (totals_of (part_of part) os)) (own_from-equal (part_of part) configuration (subframes (part_of part) configuration - 1) devices 255 (limit (part_of part) - 1))
    ∙ sum-equal (part_of part) (brightest (part_of part) configuration) devices
    ∙ ap (λ (n : ℕ). devices * n) (device-reached part configuration)

pub brightest-accepted :
    (part devices configuration room : ℕ)
    → known part ≡ true
    → is_count devices ≡ true
    → 3 * devices ≤ room
    → current_refusal (brightest_set part devices configuration) room ≡ 0
unfolding current_refusal
brightest-accepted part devices configuration room k c h =
    let p : Part = part_of part in
    let fields : ℕ = slice_fields p Individual (multiplex configuration) in
    let last : limit p - 1 < limit p = omega (arith, limit-pos p) in
    let on : subframes p configuration - 1 < subframes p configuration = omega (arith, ((usable part).subframes configuration).0) in
    none (current_table (brightest_set part devices configuration) room) (
      ap not k,
      (
        ap not c,
        (
          ap not (ap₂ (λ (a b : Bool). a && b) (eq-eqb _ _ (length-replicate (devices * p.banks) 255)) (eq-eqb _ _ (length-replicate (devices * fields) (limit p - 1)))),
          (le-ltb room (3 * devices) h, (ap not (ap₂ (λ (a b : Bool). a && b) (lt-ltb _ _ on) (below_equal (devices * fields) (limit p) (limit p - 1) last)), tt)),
        ),
      ),
    )

-- ---- of the parts

part-most : (part : ℕ) → most_drawn (part_of part) ≤ 3665080320000
part-most part = each_row (λ p. most_drawn p ≤ 3665080320000) (lit≤ tt) (lit≤ tt) (lit≤ tt) (lit≤ tt) part

-- so many devices of any part, at most
pub devices-most : (part devices most : ℕ) → devices ≤ most → devices * most_drawn (part_of part) ≤ most * 3665080320000
devices-most part devices most h = mul-le-mul h (part-most part)
