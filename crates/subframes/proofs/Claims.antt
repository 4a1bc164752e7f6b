-- "Light" of docs/RULES.md for any row, configuration and global byte: how many subframes are ON, and the lead of a window. They follow
-- from the laws of Subframes, which hold for any S and level. Assumes nothing.
use mathlib.Core.Path.{◌≡◌}
use Prim.Native.Nat.{ℕ, ◌+◌, ◌<◌}
use native.Mathlib.Nat.{mod-lt}
use lib.IntN.{pos, neg_ℤ}
use lib.Signed.{◌<ℤ◌}
use Rattle.parts.specs.Parts.{Part, subframes}
use Rattle.subframes.specs.Subframes.{how_many_from, level, is_on, lead_of}
use Rattle.subframes.proofs.Subframes.{count-frame, lead-below}

module _ (p : Part) (configuration global : ℕ) (h : 0 < subframes p configuration) where
  -- a frame has exactly g + 1 ON subframes
  pub frame_on_lem : how_many_from (is_on p configuration global) 0 (subframes p configuration) ≡ level p configuration global + 1
  frame_on_lem = count-frame (subframes p configuration) (level p configuration global) (mod-lt global h)

  -- the lead of every window lies strictly between -S and S
  pub window-lead : (from w : ℕ) → (neg_ℤ (pos (subframes p configuration)) <ℤ lead_of p configuration global from w)
      × (lead_of p configuration global from w <ℤ pos (subframes p configuration))
  window-lead from w = lead-below (subframes p configuration) (level p configuration global) (mod-lt global h) from w
