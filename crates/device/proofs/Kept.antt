-- A record that fits still fits after a single step, a clock and a fault setting, and a fresh device fits: what a chain's records were judged
-- for once holds through a run. By cases on the phase; the next place is that of a phase whose numbers fit. The position is that of
-- positions/proofs/Fits. Assumes nothing.
use mathlib.Core.Path.{◌≡◌, refl, ap, ◌∙◌}
use mathlib.Core.Bool.{Bool, true, false, cond, ◌&&◌}
use mathlib.Core.List.{List, [], ◌∷◌, map}
use Prim.Native.Nat.{ℕ, ◌+◌, ◌-◌, ◌*◌, ◌/◌, ◌%◌, ◌<◌, ◌≤◌}
use native.Mathlib.Nat.{mod-lt, lt_of_lt_of_le}
use native.Mathlib.Omega.{arith}
use lib.Dec.{eqb, ltb, leb, lit<}
use lib.ListN.{replicate}
use borrow.Author.Tests.{lt-ltb, ltb-true, le-leb, leb-true}
use Rattle.machine.specs.Machine.{All}
use Rattle.machine.proofs.Machine.{run_holds}
use Rattle.parts.specs.Parts.{part_of, outputs, multiplex, limit, field_width}
use Rattle.parts.specs.declared.command.Command.{Command}
use Rattle.phases.specs.Phases.{place_of, phase_of, window_of, heard, rising, opened, opening, counting, same_place}
use Rattle.watch.specs.Watch.{is_bit, is_limit, line_fits, watch_fits, fresh_watch, data_bit, load_bit, last_of, moved, enabled, counted, line_after, watching, expired}
use Rattle.watch.specs.declared.watch.Line.{Line}
use Rattle.watch.specs.declared.watch.Watch.{Watch}
use Rattle.registers.specs.Held.{showing, activated, cleared, with_watch, zeros}
use Rattle.device.specs.Step.{step, single_step, ticked_device, step_high, at, slice_length, faulted, fresh_device}
use Rattle.device.specs.Run.{step_record, run, under_watch, watched, clock_record}
use Rattle.device.specs.Judgement.{phase_fits, place_fits, contents_fit, fits}
use Rattle.positions.specs.Positions.{position_fits, placed_at, next, ticked}
use Rattle.positions.proofs.Fits.{refit-fits, next_fits, zero-fits}
use Rattle.widths.specs.Widths.{flags_fit, values_fit}
use Rattle.phases.specs.declared.phase.Phase.{Phase}
use Rattle.phases.specs.declared.phase.Phase.TheVariants.{Hunting, Opening, Counting, Slice, Passing, Lost}
use Rattle.phases.specs.declared.phase.Place.{Place}
use Rattle.registers.specs.declared.registers.Registers.{Registers}
use Rattle.device.specs.declared.device.Device.{Device}
use Rattle.device.specs.declared.device.Stepped.{Stepped}
use Rattle.parts.proofs.Laws.{usable}
use Rattle.parts.proofs.Rows.{limit-pos, field-width-pos, slice-bits-pos, fields-used, field_of}
use Rattle.widths.proofs.Below.{Fit, fit-zeros, below-drop, Below, below_of, of-below, stored-below, took-below, showing-below}
use Rattle.device.proofs.Places.{place-fits}
use Rattle.device.proofs.Position.{step-position, step-watch}
use Rattle.phases.proofs.Places.{Small, phase-small}
use Rattle.phases.proofs.Rising.{rising-any}
use Rattle.tables.proofs.Booleans.{and_left, and_both, both-and, cond_both}

-- ---- devices

-- a phase that a device with these registers can be in
abbrev pub Good : Registers → Phase → Type 0
Good r p = Small p × (phase_fits p r ≡ true)

pub phase-good : (q : Place) (r : Registers) → place_fits q r ≡ true → Good r (phase_of q)
phase-good q r h = (phase-small q, (and_both (same_place (place_of (phase_of q)) q) (phase_fits (phase_of q) r) h).1)

pub device-fits : (r : Registers) (p : Phase) → Below r → Good r p → contents_fit (at r p) ≡ true
device-fits r p b g = both-and (place_fits (place_of p) r) (flags_fit r && values_fit r) (place-fits p r g.0 g.1) (of-below r b)

module _ (r : Registers) where
  rising-good : (window bit : ℕ) → bit < 2 → Good r (rising window bit)
  rising-good window bit h =
      rising-any (Good r) window bit (begun 1 (omega arith) (omega arith)) (begun (2 + bit) (omega arith) (omega arith))
      (begun (4 + window % 2 * 2 + bit) (omega arith) (omega arith)) (lit< tt, refl)
    where
      begun : (read : ℕ) → 1 ≤ read → read < 64 → Good r (Opening read)
      begun read l u = (lit< tt, both-and _ _ (le-leb 1 read l) (lt-ltb read 64 u))

  opened-good : (pairs : ℕ) → Good r (opened pairs)
  opened-good pairs =
      cond_both (Good r) (eqb pairs 0) _ _ (λ _. (lit< tt, refl))
      (λ _. cond_both (Good r) (eqb pairs 21) _ _ (λ _. (lit< tt, refl))
      (λ _. cond_both (Good r) (eqb pairs 42) _ _ (λ _. (lit< tt, refl))
      (λ _. cond_both (Good r) (eqb pairs 63) _ _ (λ _. (lit< tt, refl)) (λ _. (lit< tt, refl)))))

  opening-good : (read bit : ℕ) → 1 ≤ read → Good r (opening read bit)
  opening-good read bit h =
      cond_both (Good r) (ltb (read * 2 + bit) 64) _ _
      (λ t. (lit< tt, both-and _ _ (le-leb 1 (read * 2 + bit) (omega arith)) t))
      (λ _. opened-good (read * 2 + bit - 64))

  counting-good : (c : Command) (read bit : ℕ) → 1 ≤ read → Good r (counting c read bit)
  counting-good c read bit h =
      cond_both (Good r) (ltb (read * 2 + bit) 1024) _ _
      (λ t. (lit< tt, both-and _ _ (le-leb 1 (read * 2 + bit) (omega arith)) t))
      (λ _. (
        lit< tt,
        both-and _ _ (lt-ltb ((read * 2 + bit) % 1024) 1024 (mod-lt (read * 2 + bit) (lit< tt)))
            (lt-ltb 0 (slice_length r c) (slice-bits-pos (part_of r.part) (usable r.part) c (multiplex r.configuration))),
      ))

-- ---- the step

abbrev Fits : Stepped → Type 0
Fits s = contents_fit s.device ≡ true

high_fits : (r : Registers) (p : Phase) (s : ℕ) → Below r → Good r p → Fits (step_high r p s)
high_fits r (Hunting window) s b g = device-fits r (rising window (s % 2)) b (rising-good r window (s % 2) (mod-lt s (lit< tt)))
high_fits r (Opening read) s b g =
    device-fits r (opening read (s % 2)) b (opening-good r read (s % 2) (leb-true 1 read (and_both _ _ g.1).0))
high_fits r (Counting c read) s b g =
    device-fits r (counting c read (s % 2)) b (counting-good r c read (s % 2) (leb-true 1 read (and_both _ _ g.1).0))
high_fits r (Slice c n t) s b g =
    let h = and_both (ltb n 1024) (ltb t (slice_length r c)) g.1 in
    let p = part_of r.part in
    let m = multiplex r.configuration in
    let k : t / field_width p c < 2 * outputs p =
    lt_of_lt_of_le (field_of p c m t (field-width-pos p (usable r.part) c) (ltb-true t (slice_length r c) h.1)) (fields-used p c m (mod-lt r.configuration (lit< tt))) in
    let f = took-below r c (t / field_width p c) (s % 2) k b in
    cond_both Fits (ltb (t + 1) (slice_length r c)) _ _
    (λ q. device-fits _ (Slice c n (t + 1)) f (lit< tt, both-and _ _ h.0 q))
    (λ _. device-fits _ Passing (stored-below _ c f) (lit< tt, refl))
high_fits r Passing s b g = device-fits r Passing b g
high_fits r Lost s b g = device-fits r Lost b g

-- contents that fit do so after any line state
pub contents-kept : (d : Device) (s : ℕ) → contents_fit d ≡ true → contents_fit (step d s).device ≡ true
contents-kept d s h =
    let t = and_both (place_fits d.place d.registers) _ h in
    let b = below_of d.registers t.1 in
    let g = phase-good d.place d.registers t.0 in
    cond_both Fits (ltb s 2) _ _
    (λ _. device-fits d.registers (heard (phase_of d.place) s) b (mod-lt (window_of (phase_of d.place) * 2 + s) (lit< tt), refl))
    (λ _. high_fits d.registers (phase_of d.place) s b g)

-- ---- what is not a clock

-- a phase is judged by part and configuration, and they stay
showing-phase : (p : Phase) (r : Registers) (hot lit active : ℕ) (active0 active1 : List ℕ)
    → phase_fits p (showing r hot lit active active0 active1) ≡ phase_fits p r
showing-phase (Hunting window) r hot lit active active0 active1 = refl
showing-phase (Opening read) r hot lit active active0 active1 = refl
showing-phase (Counting c read) r hot lit active active0 active1 = refl
showing-phase (Slice c count taken) r hot lit active active0 active1 = refl
showing-phase Passing r hot lit active active0 active1 = refl
showing-phase Lost r hot lit active active0 active1 = refl

showing-fits : (d : Device) (hot lit active : ℕ) (active0 active1 : List ℕ)
    → place_fits d.place d.registers ≡ true
    → Below (showing d.registers hot lit active active0 active1)
    → contents_fit (record { registers = showing d.registers hot lit active active0 active1; place = d.place }) ≡ true
showing-fits d hot lit active active0 active1 t b =
    let r = showing d.registers hot lit active active0 active1 in
    let e = showing-phase (phase_of d.place) d.registers hot lit active active0 active1 in
    both-and (place_fits d.place r) (flags_fit r && values_fit r)
    (ap (λ (x : Bool). same_place (place_of (phase_of d.place)) d.place && x) e ∙ t) (of-below r b)

-- a device whose waiting values became active
abbrev pub bounded : Device → Device
bounded d = record { registers = activated d.registers; place = d.place }

bounded-kept : (d : Device) → contents_fit d ≡ true → contents_fit (bounded d) ≡ true
bounded-kept d h =
    let t = and_both (place_fits d.place d.registers) _ h in
    let b = below_of d.registers t.1 in
    let r = d.registers in
    showing-fits d r.overtemperature r.openled r.waiting r.waiting0 r.waiting1 t.0
    (showing-below r _ _ _ _ _ b b.hot b.lit b.waiting0s b.waiting1s)

contents-faulted : (d : Device) (kind flag : ℕ) → flag < 2 → contents_fit d ≡ true → contents_fit (faulted d kind flag) ≡ true
contents-faulted d kind flag l h =
    let t = and_both (place_fits d.place d.registers) _ h in
    let b = below_of d.registers t.1 in
    let r = d.registers in
    cond_both (λ (x : Registers). contents_fit (record { registers = x; place = d.place }) ≡ true) (eqb kind 0)
    (showing r flag r.openled r.active r.active0 r.active1)
    (showing r r.overtemperature flag r.active r.active0 r.active1)
    (λ _. showing-fits d flag r.openled r.active r.active0 r.active1 t.0
    (showing-below r _ _ _ _ _ b l b.lit b.active0s b.active1s))
    (λ _. showing-fits d r.overtemperature flag r.active r.active0 r.active1 t.0
    (showing-below r _ _ _ _ _ b b.hot l b.active0s b.active1s))

contents-fresh : (part bit limit_told : ℕ) → contents_fit (fresh_device part bit limit_told) ≡ true
contents-fresh part bit limit_told =
    let p = part_of part in
    let z : (n k : ℕ) → Fit n (limit p) (replicate k 0) = λ n k. fit-zeros n (limit p) k (limit-pos p) in
    device-fits (zeros part (fresh_watch bit limit_told)) (Hunting 0)
    (record {
      hot = lit< tt;
      lit = lit< tt;
      calibrations = below-drop p.banks (replicate 3 0) 1 refl;
      waiting0s = z (outputs p) 24;
      waiting1s = z (outputs p) 24;
      active0s = z (outputs p) 24;
      active1s = z (outputs p) 24;
      slices = z (2 * outputs p) 48;
    })
    (lit< tt, refl)

-- ---- the whole record: its contents and its position

-- what is judged of a record that fits: its contents and its position
pub parts-of : (d : Device) → fits d ≡ true → (contents_fit d ≡ true) × (position_fits d.registers ≡ true)
parts-of d h =
    let b = and_both (contents_fit d) (position_fits d.registers && watch_fits d.registers.watch) h in
    (b.0, and_left (position_fits d.registers) (watch_fits d.registers.watch) b.1)

-- and its watchdog
pub watch-of : (d : Device) → fits d ≡ true → watch_fits d.registers.watch ≡ true
watch-of d h =
    let b = and_both (contents_fit d) (position_fits d.registers && watch_fits d.registers.watch) h in
    (and_both (position_fits d.registers) (watch_fits d.registers.watch) b.1).1

-- a record whose three parts fit
all_fit : (d : Device) → contents_fit d ≡ true → position_fits d.registers ≡ true → watch_fits d.registers.watch ≡ true → fits d ≡ true
all_fit d c p w =
    both-and (contents_fit d) (position_fits d.registers && watch_fits d.registers.watch) c (both-and (position_fits d.registers) (watch_fits d.registers.watch) p w)

-- contents do not depend on the position
placed-phase : (p : Phase) (r : Registers) (n : ℕ) → phase_fits p (placed_at r n) ≡ phase_fits p r
placed-phase (Hunting window) r n = refl
placed-phase (Opening read) r n = refl
placed-phase (Counting c read) r n = refl
placed-phase (Slice c count taken) r n = refl
placed-phase Passing r n = refl
placed-phase Lost r n = refl

placed-contents : (d : Device) (n : ℕ) → contents_fit (record { registers = placed_at d.registers n; place = d.place }) ≡ contents_fit d
placed-contents d n =
    let r = d.registers in
    ap (λ (x : Bool). (same_place (place_of (phase_of d.place)) d.place && x) && (flags_fit r && values_fit r)) (placed-phase (phase_of d.place) r n)

-- a record that fits is one that fits after a single step
pub kept : (d : Device) (s : ℕ) → fits d ≡ true → fits (single_step d s).device ≡ true
kept d s h =
    let t = parts-of d h in
    let e : (step d s).device.registers.position ≡ d.registers.position = step-position d s in
    all_fit (single_step d s).device (placed-contents (step d s).device _ ∙ contents-kept d s t.0)
    (refit-fits d.registers (step d s).device.registers e t.1) (ap watch_fits (step-watch d s) ∙ watch-of d h)

-- after a clock
pub kept-ticked : (d : Device) → fits d ≡ true → fits (ticked_device d) ≡ true
unfolding ticked
kept-ticked d h = go (eqb (next d.registers) 0)
  where
    r : Registers
    r = d.registers

    go : (b : Bool) → fits (record { registers = placed_at (cond b (activated r) r) (next r); place = d.place }) ≡ true
    go true =
        all_fit (record { registers = placed_at (activated r) (next r); place = d.place })
        (placed-contents (bounded d) (next r) ∙ bounded-kept d (parts-of d h).0) (next_fits r) (watch-of d h)
    go false =
        all_fit (record { registers = placed_at r (next r); place = d.place }) (placed-contents d (next r) ∙ (parts-of d h).0) (next_fits r) (watch-of d h)

pub kept-faulted : (d : Device) (kind flag : ℕ) → flag < 2 → fits d ≡ true → fits (faulted d kind flag) ≡ true
kept-faulted d kind flag l h =
    let t = parts-of d h in
    all_fit (faulted d kind flag) (contents-faulted d kind flag l t.0) (flagged (λ (x : Registers). position_fits x ≡ true) (eqb kind 0) t.1 t.1)
    (flagged (λ (x : Registers). watch_fits x.watch ≡ true) (eqb kind 0) (watch-of d h) (watch-of d h))
  where
    r : Registers
    r = d.registers

    flagged : (P : Registers → Type 0) (b : Bool) → P (showing r flag r.openled r.active r.active0 r.active1)
        → P (showing r r.overtemperature flag r.active r.active0 r.active1)
        → P (cond b (showing r flag r.openled r.active r.active0 r.active1) (showing r r.overtemperature flag r.active r.active0 r.active1))
    flagged P true p q = p
    flagged P false p q = q

-- told a bit and a limit that are in range
pub kept_fresh : (part bit limit_told : ℕ) → is_bit bit && is_limit limit_told ≡ true → fits (fresh_device part bit limit_told) ≡ true
kept_fresh part bit limit_told h =
    let b = and_both (is_bit bit) (is_limit limit_told) h in
    all_fit (fresh_device part bit limit_told) (contents-fresh part bit limit_told) (zero-fits (zeros part (fresh_watch bit limit_told)) refl)
    (both-and (is_bit bit) _ b.0 (both-and (is_limit limit_told) _ b.1 refl))

-- ---- after a clock in which the device is sent line states

-- a line that takes levels 0 and 1 stands at one of them
last-below : (level : ℕ) (bs : List ℕ) → level < 2 → All (λ b. b < 2) bs → last_of level bs < 2
unfolding last_of
last-below level [] h a = h
last-below level (b ∷ bs) h a = last-below b bs a.0 a.1

counted-most : (on change : Bool) (n : ℕ) → counted on change n ≤ 2000000
counted-most true true n = omega arith
counted-most true false n = omega arith
counted-most false change n = omega arith

line-fits : (on : Bool) (bs : List ℕ) (l : Line) → All (λ b. b < 2) bs → line_fits l ≡ true → line_fits (line_after on bs l) ≡ true
line-fits on bs l a h =
    let t = and_both (ltb l.level 2) (leb l.still 2000000) h in
    both-and (ltb (last_of l.level bs) 2) _ (lt-ltb (last_of l.level bs) 2 (last-below l.level bs (ltb-true l.level 2 t.0) a))
    (le-leb (counted on (moved l.level bs) l.still) 2000000 (counted-most on (moved l.level bs) l.still))

-- the bits of states below 4
bits_below : (bit : ℕ → ℕ) → ((s : ℕ) → s < 4 → bit s < 2) → (sent : List ℕ) → All (λ s. s < 4) sent → All (λ b. b < 2) (map bit sent)
bits_below bit h [] a = tt
bits_below bit h (s ∷ sent) a = (h s a.0, bits_below bit h sent a.1)

pub watching-fits : (configuration : ℕ) (sent : List ℕ) (w : Watch) → All (λ s. s < 4) sent → watch_fits w ≡ true → watch_fits (watching configuration sent w) ≡ true
unfolding watching
watching-fits configuration sent w a h =
    let t = and_both (is_bit w.bit) _ h in
    let u = and_both (is_limit w.limit) _ t.1 in
    let v = and_both (line_fits w.din) (line_fits w.loadi) u.1 in
    let on = enabled w configuration in
    both-and (is_bit w.bit) _ t.0
    (both-and (is_limit w.limit) _ u.0
    (both-and (line_fits (line_after on (map data_bit sent) w.din)) _ (line-fits on (map data_bit sent) w.din (bits_below data_bit (λ s l. mod-lt s (lit< tt)) sent a) v.0)
    (line-fits on (map load_bit sent) w.loadi (bits_below load_bit (λ s l. omega arith) sent a) v.1)))

-- an expiry keeps place, flags and calibration, and its values are 0
cleared-fits : (d : Device) (w : Watch) → contents_fit d ≡ true → contents_fit (record { registers = cleared (with_watch d.registers w); place = d.place }) ≡ true
cleared-fits d w h =
    let r = d.registers in
    let t = and_both (place_fits d.place r) (flags_fit r && values_fit r) h in
    let b = below_of r t.1 in
    let z : Fit (outputs (part_of r.part)) (limit (part_of r.part)) (replicate 24 0) = fit-zeros (outputs (part_of r.part)) (limit (part_of r.part)) 24 (limit-pos (part_of r.part)) in
    both-and (place_fits d.place (cleared (with_watch r w))) _ (same_place_lem (phase_of d.place) ∙ t.0)
    (of-below (cleared (with_watch r w))
    (record {
      hot = b.hot;
      lit = b.lit;
      calibrations = b.calibrations;
      waiting0s = z;
      waiting1s = z;
      active0s = z;
      active1s = z;
      slices = b.slices;
    }))
  where
    same_place_lem : (p : Phase) → same_place (place_of (phase_of d.place)) d.place && phase_fits p (cleared (with_watch d.registers w)) ≡ same_place (place_of (phase_of d.place)) d.place && phase_fits p d.registers
    same_place_lem (Hunting window) = refl
    same_place_lem (Opening read) = refl
    same_place_lem (Counting c read) = refl
    same_place_lem (Slice c count taken) = refl
    same_place_lem Passing = refl
    same_place_lem Lost = refl

-- a watchdog is no part of a phase
watched-phase : (p : Phase) (r : Registers) (w : Watch) → phase_fits p (with_watch r w) ≡ phase_fits p r
watched-phase (Hunting window) r w = refl
watched-phase (Opening read) r w = refl
watched-phase (Counting c read) r w = refl
watched-phase (Slice c count taken) r w = refl
watched-phase Passing r w = refl
watched-phase Lost r w = refl

watched-contents : (d : Device) (w : Watch) → contents_fit (record { registers = with_watch d.registers w; place = d.place }) ≡ contents_fit d
watched-contents d w =
    let r = d.registers in
    ap (λ (x : Bool). (same_place (place_of (phase_of d.place)) d.place && x) && (flags_fit r && values_fit r)) (watched-phase (phase_of d.place) r w)

under-fits : (d : Device) (w : Watch) → watch_fits w ≡ true → fits d ≡ true → fits (record { registers = under_watch d.registers w; place = d.place }) ≡ true
under-fits d w g h = go (expired w)
  where
    r : Registers
    r = d.registers

    go : (b : Bool) → fits (record { registers = cond b (cleared (with_watch r w)) (with_watch r w); place = d.place }) ≡ true
    go true = all_fit (record { registers = cleared (with_watch r w); place = d.place }) (cleared-fits d w (parts-of d h).0) (parts-of d h).1 g
    go false = all_fit (record { registers = with_watch r w; place = d.place }) (watched-contents d w ∙ (parts-of d h).0) (parts-of d h).1 g

step_fits : (d : Device) (s : ℕ) → fits d ≡ true → fits (step_record d s).0 ≡ true
unfolding step_record
step_fits d s h = kept d s h

-- A clock: a record that fits is one that fits after it, whatever states below 4 it is sent
pub kept-clock : (d : Device) (sent : List ℕ) → All (λ s. s < 4) sent → fits d ≡ true → fits (clock_record d sent).0 ≡ true
unfolding clock_record watched
kept-clock d sent a h =
    let e : Device = (run (ticked_device d) sent).0 in
    let g : fits e ≡ true = run_holds step_record (λ (x : Device). fits x ≡ true) step_fits (ticked_device d) sent (kept-ticked d h) in
    under-fits e (watching e.registers.configuration sent e.registers.watch) (watching-fits e.registers.configuration sent e.registers.watch a (watch-of e g)) g
