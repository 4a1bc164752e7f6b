-- Inside: the data line over a stretch of states at high load, by a few numbers. A watchdog whose device passes the stretch goes by them and not by
-- the states, and they serve every device that passes a part of the stretch up to its end: so the states are looked at once, and not once for each
-- device. That a watchdog which goes by them hears what it would hear clock by clock is in proofs/Ears. The state at a place is heard in the clock
-- after it, so a change at place i is one in clock i + 1.
use Rattle.std.specs.Prelude.{ℕ, ◌+◌, ◌-◌, ◌^◌, min, Bool, true, false, cond, ◌&&◌, ◌||◌, List, [], ◌∷◌, map, ◌==◌, nat_le, nat_lt, slice_index, slice_range}
use Rattle.watch.specs.declared.watch.Watch.{Watch}
use Rattle.watch.specs.declared.kept.Listened.{Listened}
use Rattle.watch.specs.declared.ear.Ear.{Ear}
use Rattle.watch.specs.declared.ear.Followed.{Followed}
use Rattle.watch.specs.Watch.{line, with_lines, data_bit}
use Rattle.watch.specs.Kept.{run_on, kept_from, expired_by, watch_in, listened}

-- ---- a line that stood at a level and takes these levels, the first of them at place i

-- the place of its first change, or where they end
unfoldable pub next_change : ℕ → List ℕ → ℕ → ℕ
next_change level [] i = i
next_change level (b ∷ bs) i = cond (level == b) (next_change b bs (i + 1)) i

-- a clock, or another where it is 0
abbrev pub or_else : ℕ → ℕ → ℕ
or_else c d = cond (c == 0) d c

-- the clock of its last change, 0 where there is none
unfoldable pub last_change : ℕ → List ℕ → ℕ → ℕ
last_change level [] i = 0
last_change level (b ∷ bs) i = or_else (last_change b bs (i + 1)) (cond (level == b) 0 (i + 1))

-- the clock of the last change after which it does not change for so many clocks, 0 where there is none
unfoldable pub last_long : ℕ → ℕ → List ℕ → ℕ → ℕ
last_long limit level [] i = 0
last_long limit level (b ∷ bs) i =
    or_else (last_long limit b bs (i + 1)) (cond (level == b) 0 (cond (nat_le (i + 1 + limit) (next_change b bs (i + 1))) (i + 1) 0))

-- ---- the data line of a run

-- its level before a place
abbrev pub level_at : List ℕ → ℕ → ℕ
level_at ss q = data_bit (slice_index ss (q - 1))

-- its levels from a place up to another
abbrev pub levels_in : List ℕ → ℕ → ℕ → List ℕ
levels_in ss q end = map data_bit (slice_range ss q end)

-- its first change from a place on, before another
abbrev pub next_in : List ℕ → ℕ → ℕ → ℕ
next_in ss q end = next_change (level_at ss q) (levels_in ss q end) q

-- the clock of its last change from a place on, before another
abbrev pub last_in : List ℕ → ℕ → ℕ → ℕ
last_in ss q end = last_change (level_at ss q) (levels_in ss q end) q

-- from place q up to `end`, for a limit; of a long stillness the last clock is not asked, since it is asked later
unfoldable pub ear_from : ℕ → List ℕ → ℕ → ℕ → Ear
ear_from limit ss q end = record {
  limit = limit;
  end = end;
  level = level_at ss end;
  next = next_in ss q end;
  changed = last_change (level_at ss q) (levels_in ss q end) q;
  long = last_long limit (level_at ss q) (levels_in ss q (end - 1)) q;
}

-- the same, where it was told from an earlier place on: then only the next change may have to be looked for
unfoldable pub ear_on : Ear → ℕ → List ℕ → ℕ → ℕ → Ear
ear_on e limit ss q end =
    cond (e.end == end && e.limit == limit)
    (record {
      limit = e.limit;
      end = e.end;
      level = e.level;
      next = cond (nat_le q e.next) e.next (next_in ss q end);
      changed = e.changed;
      long = e.long;
    })
    (ear_from limit ss q end)

-- nothing is told yet
abbrev pub no_ear : Ear
no_ear = record { limit = 0; end = 0; level = 0; next = 0; changed = 0; long = 0 }

-- ---- a watchdog that goes by them, the bit being set; load stays high

-- a count that goes on for k clocks comes to the limit
abbrev pub comes_to : ℕ → ℕ → ℕ → Bool
comes_to limit n k = nat_le limit (min (n + k) (2 ^ 64 - 1))

-- q clocks being over, up to the end of the stretch
unfoldable pub heard_by : Ear → ℕ → Watch → Listened
heard_by e q w =
    cond (nat_le e.end q) (record { watch = w; expired = false })
    (record {
      watch = with_lines w (line (cond (nat_lt q e.changed) (kept_from e.changed 0) w.din.still) e.level) w.loadi;
      expired = comes_to w.limit (run_on q w.loadi.still) (e.end - 1 - q)
          || (comes_to w.limit (run_on q w.din.still) (min e.next (e.end - 1) - q) || nat_lt q e.long);
    })

-- ---- a watchdog whose device passes a stretch, the bit being set or not

-- its lines stand as the state before place q left them
unfoldable pub followed : Bool → Ear → List ℕ → ℕ → ℕ → Watch → Followed
followed true e ss q end w = let f : Ear = ear_on e w.limit ss q end in record { heard = heard_by f q w; ear = f }
followed false e ss q end w = record { heard = listened false q (slice_range ss q end) w; ear = e }

-- wherever its lines stand: it hears the state at place q first
unfoldable pub joined : Bool → Ear → List ℕ → ℕ → ℕ → Watch → Followed
joined on e ss q end w =
    cond (nat_le end q) (record { heard = record { watch = w; expired = false }; ear = e })
    (let f : Followed = followed on e ss (q + 1) end (watch_in on on (q + 1) (slice_index ss q ∷ []) w) in
    record { heard = record { watch = f.heard.watch; expired = expired_by on q w || f.heard.expired }; ear = f.ear })
