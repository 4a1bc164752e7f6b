-- What an enum is in the `else` of an `if let`, or under `_`: the tag says which cases are left. And what a device's
-- watchdog makes of a turn, put together from its parts. Assumes nothing.
use mathlib.Core.Path.{◌≡◌, refl, sym, ap, ◌∙◌}
use mathlib.Core.Bool.{Bool, true, false}
use mathlib.Core.List.{List}
use Prim.Native.Nat.{ℕ}
use Rattle.phases.specs.declared.phase.Sent.{Sent}
use Rattle.phases.specs.declared.phase.Sent.TheVariants.{Nothing, One, Header}
use Rattle.device.specs.declared.device.Device.{Device}
use Rattle.registers.specs.Held.{with_watch, with_slice, cleared}
use Rattle.registers.specs.declared.registers.Registers.{Registers}
use Rattle.watch.specs.Watch.{line, with_lines, enabled}
use Rattle.watch.specs.Kept.{watch_by, expired_by}
use Rattle.positions.specs.Positions.{placed_at}
use Rattle.positions.specs.Running.{has_ended, position_by, by_clock, dated}
use Rattle.turns.proofs.Stored.{stored-watch, stored-cleared, stored-keeps}
use Rattle.watch.specs.declared.watch.Watch.{Watch}
use Rattle.watch.specs.declared.kept.Listened.{Listened}
use Rattle.watch.specs.declared.ear.Ear.{Ear}
use Rattle.watch.specs.declared.ear.Followed.{Followed}
use Rattle.turns.specs.declared.turning.Turn.{Turn}
use Rattle.intake.specs.Intake.{settled_by}
use Rattle.intake.specs.declared.taken.Progress.{Progress}
use Rattle.turns.specs.Watching.{is_on, cleared_if, overheard, onward, watched_turn, watched_by}
use Rattle.turns.specs.Ending.{by_clock_device, shown_if}

-- what a watchdog hears where no header is under way, or none is sent

-- what it hears, and the whole turn, from their parts

-- what is settled of registers with another watchdog
pub settled-watch : (x : Sent) (t : ℕ) (r : Registers) (w : Watch) (sl : List ℕ) → settled_by x t (with_watch r w) sl ≡ with_watch (settled_by x t r sl) w
unfolding dated
settled-watch Nothing t r w sl = refl
settled-watch (One s) t r w sl = refl
settled-watch (Header c n) t r w sl = ap (dated t (with_watch r w)) (stored-watch w (with_slice r sl) c)

-- the configuration goes by that and by no value
pub settled-configuration : (b : Bool) (x : Sent) (t : ℕ) (r : Registers) (sl : List ℕ) → (settled_by x t (cleared_if b r) sl).configuration ≡ (settled_by x t r sl).configuration
unfolding dated
settled-configuration false x t r sl = refl
settled-configuration true Nothing t r sl = refl
settled-configuration true (One s) t r sl = refl
settled-configuration true (Header c n) t r sl = stored-cleared (with_slice r sl) c

pub watched_turn-is : (d : Device) (p : Sent) (q : Progress) (e : Ear) (ss : List ℕ) (at end : ℕ) {before on x : Bool} {a : Listened} {b : Followed} {n : ℕ} {c u v : Registers}
    → before ≡ is_on d.registers → a ≡ overheard p q.sent before ss at q.at d.registers.watch → n ≡ (settled_by q.sent q.at d.registers q.slice).configuration
    → on ≡ enabled d.registers.watch n → b ≡ onward q.sent before on e ss q.at end a.watch → c ≡ with_watch (cleared_if a.expired d.registers) b.heard.watch
    → u ≡ settled_by q.sent q.at c q.slice → b.heard.expired ≡ x → v ≡ cleared_if x u
    → ◌≡◌ {A = Turn} (record { device = record { registers = v; place = q.place }; at = q.at; sent = q.sent; ear = b.ear }) (watched_turn d p q e ss at end)
unfolding watched_turn dated
watched_turn-is d p q e ss at end {before} {on} {x} {a} {b} {n} {c} {u} {v} e1 ea en e2 eb ec eu ex ev =
    let r : Registers = d.registers in
    let s : Registers = settled_by q.sent q.at (cleared_if a.expired r) q.slice in
    let known : n ≡ s.configuration = en ∙ sym (settled-configuration a.expired q.sent q.at r q.slice) in
    let same : u ≡ with_watch s b.heard.watch =
    eu ∙ ap (λ (z : Registers). settled_by q.sent q.at z q.slice) ec ∙ settled-watch q.sent q.at (cleared_if a.expired r) b.heard.watch q.slice in
    let switched : on ≡ is_on s = e2 ∙ ap (λ (m : ℕ). enabled r.watch m) known ∙ ap (λ (w : Watch). enabled w s.configuration) (sym (settled-bit a.expired q.sent q.at r q.slice)) in
    let registers : v ≡ with_watch (cleared_if b.heard.expired s) b.heard.watch =
    ev ∙ ap (cleared_if x) same ∙ cleared-watch x s b.heard.watch ∙ ap (λ (z : Bool). with_watch (cleared_if z s) b.heard.watch) (sym ex) in
    ap (λ (z : Registers). record { device = record { registers = z; place = q.place }; at = q.at; sent = q.sent; ear = b.ear }) registers
    ∙ rw (eb, switched, ea, e1)
  where
    cleared-watch : (y : Bool) (z : Registers) (w : Watch) → cleared_if y (with_watch z w) ≡ with_watch (cleared_if y z) w
    cleared-watch true z w = refl
    cleared-watch false z w = refl

    settled-bit : (y : Bool) (z : Sent) (t : ℕ) (r : Registers) (sl : List ℕ) → (settled_by z t (cleared_if y r) sl).watch ≡ r.watch
    settled-bit false Nothing t r sl = refl
    settled-bit true Nothing t r sl = refl
    settled-bit false (One s) t r sl = refl
    settled-bit true (One s) t r sl = refl
    settled-bit false (Header c n) t r sl = stored-keeps (with_slice r sl) c
    settled-bit true (Header c n) t r sl = stored-keeps (with_slice (cleared r) sl) c

-- a device at a position, with the counts of a watchdog
abbrev pub counted_with : Device → ℕ → Watch → Device
counted_with d n w =
    let v : Watch = d.registers.watch in
    record { registers = with_watch (placed_at d.registers n) (with_lines v (line w.din.still v.din.level) (line w.loadi.still v.loadi.level)); place = d.place }

-- a record brought up to a clock: its position, the counts, what is shown by then, and no value where its watchdog has expired
pub brought-counted : (t : ℕ) (d : Device) {on x ended : Bool} {w : Watch} {n : ℕ} → on ≡ is_on d.registers → w ≡ watch_by on t d.registers.watch → x ≡ expired_by on t d.registers.watch
    → n ≡ position_by t d.registers → ended ≡ has_ended t d.registers → record { registers = shown_if ended x (counted_with d n w).registers; place = d.place } ≡ by_clock_device t d
unfolding watched_by by_clock
brought-counted t d {on} {x} {ended} {w} {n} eo ew ex en ee = go ended ee
  where
    go : (b : Bool) → b ≡ has_ended t d.registers → record { registers = shown_if b x (counted_with d n w).registers; place = d.place } ≡ by_clock_device t d
    go true e = rw (ew, ex, eo, en, sym e)
    go false e = rw (ew, ex, eo, en, sym e)
