-- The laws of specs/Unpacking: what each answer is where there are so many bits, and where there are not. Assumes nothing.
use mathlib.Core.Path.{◌≡◌, ap, ap₂, ◌∙◌}
use mathlib.Core.Bool.{Bool, true, false, ◌&&◌, cond}
use mathlib.Core.List.{List}
use Prim.Native.Nat.{ℕ, ◌+◌, ◌*◌, ◌≤◌, ◌<◌}
use borrow.Author.Tests.{le-leb, lt-leb}
use lib.Dec.{leb}
use lib.ListN.{length, take, drop}
use Rattle.tables.proofs.Booleans.{and-false}
use Rattle.bits.specs.Bits.{number, fields, split}
use Rattle.unpacking.specs.Unpacking.{unpacked, unpacked_out, number_at}
use Rattle.std.specs.Prelude.{Some, None}

pub unpacked_out-room_fits : (w : ℕ) (src : List ℕ) (at : ℕ) (values : List ℕ) → unpacked w (length values) at (length src) ≡ true
    → unpacked_out w src at values ≡ split w (length values) (fields 8 (drop at src))
unfolding unpacked_out
unpacked_out-room_fits w src at values e = rw e

pub unpacked_out-refused : (w : ℕ) (src : List ℕ) (at : ℕ) (values : List ℕ) → unpacked w (length values) at (length src) ≡ false → unpacked_out w src at values ≡ values
unfolding unpacked_out
unpacked_out-refused w src at values e = rw e

module _ (at w : ℕ) (src : List ℕ) where
  pub number_at-within : w ≤ 64 → at + w ≤ 8 * length src → number_at at w src ≡ Some (number (take w (drop at (fields 8 src))))
  unfolding number_at
  number_at-within h l =
      ap₂ (λ (x y : Bool). cond (x && y) (Some (number (take w (drop at (fields 8 src))))) None) (le-leb w 64 h) (le-leb (at + w) (8 * length src) l)

  pub number_at-wide : 64 < w → number_at at w src ≡ None
  unfolding number_at
  number_at-wide h =
      ap (λ (x : Bool). cond (x && leb (at + w) (8 * length src)) (Some (number (take w (drop at (fields 8 src))))) None) (lt-leb w 64 h)

  pub number_at-short : 8 * length src < at + w → number_at at w src ≡ None
  unfolding number_at
  number_at-short h =
      ap (λ (x : Bool). cond x (Some (number (take w (drop at (fields 8 src))))) None)
      (ap (λ (y : Bool). leb w 64 && y) (lt-leb (at + w) (8 * length src) h) ∙ and-false (leb w 64))
