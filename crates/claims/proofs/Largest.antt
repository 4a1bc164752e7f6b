-- The largest totals, from the laws of crates/current/proofs: Most and Largest. Assumes nothing.
use mathlib.Core.Path.{refl}
use native.Mathlib.Nat.{lt_of_le_of_lt}
use lib.Dec.{lit≤, lit<}
use Rattle.current.proofs.Most.{drawn-most}
use Rattle.current.proofs.Largest.{proper-reached, sign-most, sign-reached, brightest-accepted, devices-most}
use Rattle.claims.specs.Claims as claim

pub largest-totals : claim.Largest
largest-totals = record {
  device = λ p o u q. drawn-most p u o q;
  device_reached = proper-reached;
  sign = sign-most;
  sign_reached = λ part devices configuration room k c h. (brightest-accepted part devices configuration room k c h, sign-reached part devices configuration);
  parts = refl;
  most = λ part devices h. devices-most part devices 1023 h;
  longer = refl;
  fits = λ part devices h. lt_of_le_of_lt (devices-most part devices 2457 h) (lit< tt);
  average = lit≤ tt;
}
