-- Where a run stands before each turn of `bb_run`'s loop: with some number of turns left it ends where the run ends (turns/proofs/Whole).
use mathlib.Core.Path.{◌≡◌, ap, ◌∙◌}
use mathlib.Core.Bool.{true, false}
use mathlib.Core.List.{List}
use Prim.Native.Nat.{ℕ, zero, suc, ◌<◌}
use lib.ListN.{length, get_or, set}
use Rattle.std.proofs.lemmas.List.{get_or_default}
use Rattle.device.specs.declared.device.Device.{Device}
use Rattle.calls.specs.Chain.{blank}
use Rattle.cursor.specs.declared.cursor.Cursor.{Cursor}
use Rattle.turns.specs.declared.turning.Turn.{Turn}
use Rattle.turns.specs.Front.{Running, now_at, turn_taken, cursor_after, turned, turned_out, turning, on_to}
use Rattle.turns.specs.Ending.{run_end}
use Rattle.turns.proofs.Turns.{Good, measure, nearer-next, turned-device, turned-cursor}
use Rattle.turns.proofs.Whole.{Stands, stands-next, stands-zero, stands-end}

pub record Standing (xs : List Device) (ss os : List ℕ) (s : Running) : Type 0 where
  pub left : ℕ
  pub stands : Stands (length xs) ss (length os) left (run_end xs ss os) s

module _ (xs : List Device) (ss os : List ℕ) where
  pub standing-good : (s : Running) → Standing xs ss os s → s.cursor.going ≡ true → Good (length xs) ss (length os) s
  standing-good s h v = (h.stands.live v).good

  pub standing-nearer : (s : Running) → Standing xs ss os s → s.cursor.going ≡ true
      → measure (length ss) (length xs) (turning ss s).cursor < measure (length ss) (length xs) s.cursor
  standing-nearer s h v = let g = h.stands.live v in nearer-next (length xs) ss (length os) s g.some g.few g.good v

  pub standing-next : (s : Running) → Standing xs ss os s → s.cursor.going ≡ true → Standing xs ss os (turning ss s)
  standing-next s h v = go h.left h.stands
    where
      go : (t : ℕ) → Stands (length xs) ss (length os) t (run_end xs ss os) s → Standing xs ss os (turning ss s)
      go zero k = absurd (stands-zero (length xs) ss (length os) (run_end xs ss os) s k v)
      go (suc t) k = record { left = t; stands = stands-next (length xs) ss (length os) t (run_end xs ss os) s k v }

  pub standing-end : (s : Running) → Standing xs ss os s → s.cursor.going ≡ false → s ≡ run_end xs ss os
  standing-end s h v = stands-end (length xs) ss (length os) h.left (run_end xs ss os) s h.stands v

-- what a turn of the loop makes of the records, the cursor and the room
pub turned-on : (ds : List Device) (c : Cursor) (ss os : List ℕ) (e : Device) (r : Turn) (n : Cursor) (ws : List ℕ) → c.index < length ds
    → r ≡ turn_taken (get_or ds c.index e) c ss
    → n ≡ cursor_after c r.at r.sent r.ear ss (length os)
    → ws ≡ turned_out c ss os
    → now_at (set ds c.index r.device) n ws ≡ turning ss (now_at ds c os)
turned-on ds c ss os e r n ws l p q o =
    let d : Device = get_or ds c.index blank in
    let p' : r ≡ turn_taken d c ss = p ∙ ap (λ (x : Device). turn_taken x c ss) (get_or_default ds c.index e blank l) in
    let device : r.device ≡ (turned d c ss (length os)).device = ap (λ (u : Turn). u.device) p' ∙ turned-device d c ss (length os) in
    let next : n ≡ on_to c (turn_taken d c ss).ear ss (turned d c ss (length os)).cursor =
    q ∙ ap (λ (u : Turn). cursor_after c u.at u.sent u.ear ss (length os)) p' ∙ turned-cursor d c ss (length os) in
    ap (λ (x : Device). now_at (set ds c.index x) n ws) device
    ∙ ap (λ (k : Cursor). now_at (set ds c.index (turned d c ss (length os)).device) k ws) next
    ∙ ap (now_at (set ds c.index (turned d c ss (length os)).device) (on_to c (turn_taken d c ss).ear ss (turned d c ss (length os)).cursor)) o
