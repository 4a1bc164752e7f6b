-- The laws of room_fits of specs/Bits: what each answer says, and how the bytes of fields are counted. Assumes nothing.
use mathlib.Core.Path.{◌≡◌, refl, sym, ap, ◌∙◌, subst}
use mathlib.Core.Bool.{Bool, true, false, ◌&&◌}
use Prim.Native.Nat.{ℕ, ◌+◌, ◌*◌, ◌-◌, ◌/◌, ◌%◌, ◌≤◌, ◌<◌}
use native.Mathlib.Nat.{one-mul, add-mul, mul_comm, mul_assoc, div-add-mod', mul-le-mul_right, div-lt_iff_lt-mul, le-div_iff_mul-le}
use native.Mathlib.Omega.{arith}
use borrow.Author.Tests.{leb-true, leb-false, le-leb, lt-leb}
use lib.Dec.{leb}
use Rattle.tables.proofs.Booleans.{and_left, and_right, and-false, both-and}
use Rattle.bits.specs.Bits.{bytes_for, room_fits}

-- ---- what fits
module _ (widest w n at room : ℕ) where
  pub room_fits-width : room_fits widest w n at room ≡ true → w ≤ widest
  room_fits-width e = leb-true w widest (and_left (leb w widest) (leb (at + bytes_for (n * w)) room) e)

  pub room_fits-room : room_fits widest w n at room ≡ true → at + bytes_for (n * w) ≤ room
  room_fits-room e = leb-true (at + bytes_for (n * w)) room (and_right (leb w widest) (leb (at + bytes_for (n * w)) room) e)

  pub room_fits-within : w ≤ widest → at + bytes_for (n * w) ≤ room → room_fits widest w n at room ≡ true
  room_fits-within h l = both-and (leb w widest) (leb (at + bytes_for (n * w)) room) (le-leb w widest h) (le-leb (at + bytes_for (n * w)) room l)

  pub room_fits-wide : widest < w → room_fits widest w n at room ≡ false
  room_fits-wide h = ap (λ (x : Bool). x && leb (at + bytes_for (n * w)) room) (lt-leb w widest h)

  pub room_fits-short : room < at + bytes_for (n * w) → room_fits widest w n at room ≡ false
  room_fits-short h = ap (λ (x : Bool). leb w widest && x) (lt-leb (at + bytes_for (n * w)) room h) ∙ and-false (leb w widest)

-- compared by what is left behind `at`
pub leb-behind : (x at room : ℕ) → at ≤ room → leb x (room - at) ≡ leb (at + x) room
leb-behind x at room h = by-test (leb (at + x) room) refl
  where
    by-test : (t : Bool) → leb (at + x) room ≡ t → leb x (room - at) ≡ leb (at + x) room
    by-test true e = le-leb x (room - at) (omega (arith, leb-true (at + x) room e)) ∙ sym e
    by-test false e = lt-leb x (room - at) (omega (arith, leb-false (at + x) room e)) ∙ sym e

-- the bytes of n fields, eight at a time
pub bytes_for-eights : (n w : ℕ) → bytes_for (n * w) ≡ n / 8 * w + (n % 8 * w + 7) / 8
bytes_for-eights n w =
    let e : n * w ≡ 8 * (n / 8 * w) + n % 8 * w
    = ap (λ (k : ℕ). k * w) (sym (div-add-mod' n 8)) ∙ add-mul (n / 8 * 8) (n % 8) w
    ∙ ap (λ (k : ℕ). k + n % 8 * w) (ap (λ (k : ℕ). k * w) (mul_comm (n / 8) 8) ∙ mul_assoc 8 (n / 8) w) in
    omega arith

-- the eights of n fields against the bytes that are left, by a division
module _ (n w left : ℕ) (some : 0 < w) where
  pub eights-over : left / w < n / 8 → left < bytes_for (n * w)
  eights-over h = omega (arith, (div-lt_iff_lt-mul some).0 h, bytes_for-eights n w)

  pub eights-within : n / 8 ≤ left / w → n / 8 * w ≤ left
  eights-within h = (le-div_iff_mul-le some).0 h

-- the next k of n fields have room where all have
pub room-more : (w k i n : ℕ) → i + k ≤ n → i * w + k * w ≤ n * w
room-more w k i n l = subst (λ (m : ℕ). m ≤ n * w) (add-mul i k w) (mul-le-mul_right w l)

-- the next one
pub room : (w : ℕ) {i n : ℕ} → i < n → i * w + w ≤ n * w
room w {i} {n} l = omega (arith, room-more w 1 i n (omega arith), one-mul w)
