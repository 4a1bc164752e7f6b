-- A restore: the four frames of a set through a chain in any phases. Each frame goes by `framed-all`; the relation
-- between what is a device's own and its registers grows by one register with each frame. Assumes nothing.
use mathlib.Core.Path.{◌≡◌, refl, ap, ◌∙◌}
use mathlib.Core.Bool.{Bool, true, false}
use mathlib.Core.List.{List, [], ◌∷◌, ◌++◌, map, flatten}
use Prim.Native.Nat.{ℕ, suc, ◌+◌, ◌*◌, ◌%◌, ◌<◌}
use native.Mathlib.Omega.{arith}
use native.Mathlib.Nat.{mul-pos}
use lib.ListN.{length, length-map, length-replicate}
use Rattle.bits.proofs.Laws.{length_fields}
use Rattle.parts.specs.Parts.{Part, multiplex}
use Rattle.parts.specs.Wire.{State, Edge, lows, clocked, return_of}
use Rattle.parts.specs.declared.command.Command.{Command}
use Rattle.parts.specs.declared.command.Command.TheVariants.{Individual, Calibration, Global, Configuration}
use Rattle.model.specs.Lists.{Pairwise, how_many}
use Rattle.machine.specs.Machine.{and_then}
use Rattle.model.specs.Device.{Values, Registers, Device, slice_length, multiplexed, with_individual, load, fault, faults, activated}
use Rattle.model.specs.Device.{frame_states, step_device, run_chain, registers_in}
use Rattle.model.specs.Set.{Own, OwnProper, slice_of}
use Rattle.model.specs.Restore.{Piece, piece_states, piece_of, pieces_of, returns_of, InUse, RegistersHold}
use Rattle.model.proofs.Lists.{how_many-le}
use Rattle.machine.proofs.Machine.{chain-append, chain-nil, length-chain}
use Rattle.model.proofs.Wire.{return-states}
use Rattle.model.proofs.Frame.{load_all, Fits, passings, framed-all, quiet, quiet-sends}
use Rattle.model.proofs.Set.{load-configuration, load-calibration, load-global, load-individual}

-- a chain after the clocks before a piece's frame
abbrev after_gap : List Device → Piece → List Device
after_gap ds p = (run_chain ds (lows p.gap)).0

-- that frame
abbrev piece_frame : Piece → List State
piece_frame p = frame_states p.edge p.kind 0 p.slices p.tail

-- the chain afterwards, and what the last device sends while the frame comes in
unfoldable pub send_piece : List Device → Piece → List Device × List (List State)
send_piece ds p = ((run_chain (after_gap ds p) (piece_frame p)).0, (run_chain (after_gap ds p) (piece_frame p)).1 ∷ [])

unfoldable pub send_pieces : List Device → List Piece → List Device × List (List State)
send_pieces ds [] = (ds, [])
send_pieces ds (p ∷ ps) = and_then (send_piece ds p) (λ t. send_pieces t ps)

-- the same chain as after one run of all the states
pub pieces-run : (ds : List Device) (ps : List Piece) → (send_pieces ds ps).0 ≡ (run_chain ds (flatten (map piece_states ps))).0
unfolding send_pieces send_piece piece_states flatten
pieces-run ds [] = rw (chain-nil step_device ds)
pieces-run ds (p ∷ ps) =
    pieces-run (send_piece ds p).0 ps
    ∙ rw (chain-append step_device ds (lows p.gap ++ piece_frame p) (flatten (map piece_states ps)), chain-append step_device ds (lows p.gap) (piece_frame p))

-- a chain of one or more devices sends, over all the states, the returns and nothing else
pub pieces-sent : (ds : List Device) (ps : List Piece) → 0 < length ds → (run_chain ds (flatten (map piece_states ps))).1 ≡ flatten (send_pieces ds ps).1
unfolding send_pieces send_piece piece_states flatten
pieces-sent ds [] h = rw (chain-nil step_device ds)
pieces-sent ds (p ∷ ps) h =
    let i = pieces-sent (run_chain (after_gap ds p) (piece_frame p)).0 ps (rw (length-chain, length-chain) h) in
    rw (
      chain-append step_device ds (lows p.gap ++ piece_frame p) (flatten (map piece_states ps)),
      chain-append step_device ds (lows p.gap) (piece_frame p),
      quiet-sends p.gap ds h,
      i,
    )

piece-law : (ds : List Device) (rs : List Registers) (p : Piece) → 0 < length ds → registers_in ds ≡ rs → length rs < 1024 → Fits p.kind p.slices rs
    → send_piece ds p ≡ (passings (load_all p.kind p.slices rs), clocked (return_of p.kind (faults p.kind rs) p.tail) ∷ [])
unfolding send_piece
piece-law ds rs p l e h f =
    let a : List Device = after_gap ds p in
    let q : registers_in a ≡ rs = quiet p.gap ds ∙ e in
    let m : (0 + faults p.kind rs) % 1024 ≡ faults p.kind rs = omega (arith, how_many-le (fault p.kind) rs) in
    rw (rw (q, m) at (framed-all p.edge p.kind a 0 p.slices p.tail (rw length-chain l) (omega arith) (rw q f)), return-states)

pub registers-passings : (rs : List Registers) → registers_in (passings rs) ≡ rs
registers-passings [] = refl
registers-passings (r ∷ rs) = rw (registers-passings rs)

some : (rs : List Registers) → 0 < length rs → 0 < length (passings rs)
some rs h = rw length-map h

length-load : (c : Command) (ss : List (List Bool)) (rs : List Registers) → length (load_all c ss rs) ≡ length rs
unfolding load_all
length-load c [] rs = refl
length-load c (s ∷ ss) [] = refl
length-load c (s ∷ ss) (r ∷ rs) = ap suc (length-load c ss rs)

pub overtemperature-kept : (c : Command) (s : List Bool) (r : Registers) → (load c s r).overtemperature ≡ r.overtemperature
unfolding load
overtemperature-kept Individual s r = refl
overtemperature-kept Calibration s r = refl
overtemperature-kept Global s r = refl
overtemperature-kept Configuration s r = refl

pub openled-kept : (c : Command) (s : List Bool) (r : Registers) → (load c s r).openled ≡ r.openled
unfolding load
openled-kept Individual s r = refl
openled-kept Calibration s r = refl
openled-kept Global s r = refl
openled-kept Configuration s r = refl

fault-kept : (k c : Command) (s : List Bool) (r : Registers) → fault k (load c s r) ≡ fault k r
unfolding fault
fault-kept Individual c s r = overtemperature-kept c s r
fault-kept Calibration c s r = openled-kept c s r
fault-kept Global c s r = overtemperature-kept c s r
fault-kept Configuration c s r = openled-kept c s r

faults-kept : (k c : Command) (ss : List (List Bool)) (rs : List Registers) → faults k (load_all c ss rs) ≡ faults k rs
unfolding load_all how_many
faults-kept k c [] rs = refl
faults-kept k c (s ∷ ss) [] = refl
faults-kept k c (s ∷ ss) (r ∷ rs) = rw (fault-kept k c s r, faults-kept k c ss rs)

-- what stands in the registers after none, one, .. four of a set's frames
abbrev pub Ready : Part → Own → Registers → Type 0
Ready w o r = OwnProper w o × (r.part ≡ w)

abbrev pub Configured : Part → Own → Registers → Type 0
Configured w o r = Ready w o r × (r.configuration ≡ o.configuration)

abbrev pub Calibrated : Part → Own → Registers → Type 0
Calibrated w o r = Configured w o r × (r.calibration ≡ o.calibration)

abbrev pub GlobalWaiting : Part → Own → Registers → Type 0
GlobalWaiting w o r = Calibrated w o r × (r.waiting.global ≡ o.global)

abbrev pub AllWaiting : Part → Own → Registers → Type 0
AllWaiting w o r = GlobalWaiting w o r × InUse (multiplexed o.configuration) o.individual r.waiting.mux0 r.waiting.mux1

-- a device's own slice has the length that its registers ask for
abbrev FitsOne : Part → Command → Own → Registers → Type 0
FitsOne w c o r = (0 < length (slice_of w c o)) × (length (slice_of w c o) ≡ slice_length r c)

module _ (w : Part) (c : Command) (R Q : Own → Registers → Type 0) where
  pairwise-load : ((o : Own) (r : Registers) → R o r → Q o (load c (slice_of w c o) r)) → (os : List Own) (rs : List Registers) → Pairwise R os rs → Pairwise Q os (load_all c (map (slice_of w c) os) rs)
  unfolding load_all
  pairwise-load k [] [] b = tt
  pairwise-load k [] (r ∷ rs) b = absurd b
  pairwise-load k (o ∷ os) [] b = absurd b
  pairwise-load k (o ∷ os) (r ∷ rs) b = (k o r b.0, pairwise-load k os rs b.1)

  pub pairwise-fits : ((o : Own) (r : Registers) → R o r → FitsOne w c o r) → (os : List Own) (rs : List Registers) → Pairwise R os rs → Fits c (map (slice_of w c) os) rs
  pairwise-fits k [] [] b = tt
  pairwise-fits k [] (r ∷ rs) b = absurd b
  pairwise-fits k (o ∷ os) [] b = absurd b
  pairwise-fits k (o ∷ os) (r ∷ rs) b = (k o r b.0, pairwise-fits k os rs b.1)

fields-pos : (m b w : ℕ) → 0 < b → 0 < w → 0 < 8 * b * (1 + m) * w
fields-pos m b w h k =
    let x : 0 < 8 * b = omega arith in
    let y : 0 < 1 + m = omega arith in
    mul-pos (mul-pos x y) k

pub global-own : (m : Bool) (vs : List ℕ) (l : Values) → (with_individual m vs l).global ≡ l.global
global-own true vs l = refl
global-own false vs l = refl

in-use-own : (m : Bool) (vs : List ℕ) (l : Values) → InUse m vs (with_individual m vs l).mux0 (with_individual m vs l).mux1
in-use-own true vs l = (refl, refl)
in-use-own false vs l = refl

-- each stage's slices fit, and bring the next stage
module _ (w : Part) (o : Own) (r : Registers) where
  pub fit-configuration : Ready w o r → FitsOne w Configuration o r
  unfolding slice_of slice_length
  fit-configuration h = rw (length_fields, length-replicate, h.1) (omega arith)

  pub fit-calibration : Configured w o r → FitsOne w Calibration o r
  unfolding slice_of slice_length
  fit-calibration h = rw (length_fields, h.0.0.calibration_length, h.0.1) (omega arith)

  pub fit-global : Calibrated w o r → FitsOne w Global o r
  unfolding slice_of slice_length
  fit-global h = rw (length_fields, length-replicate, h.0.0.1) (omega arith)

  pub fit-individual : GlobalWaiting w o r → FitsOne w Individual o r
  unfolding slice_of slice_length
  fit-individual h =
      let configured : Configured w o r = h.0.0 in
      let ready : Ready w o r = configured.0 in
      let proper : OwnProper w o = ready.0 in
      rw (length_fields, proper.individual_length, configured.1, ready.1)
      (fields-pos (multiplex o.configuration) w.banks w.width proper.wide.banks proper.wide.width, refl)

  to-configured : Ready w o r → Configured w o (load Configuration (slice_of w Configuration o) r)
  to-configured h = rw (load-configuration w o h.0 r h.1) (h, refl)

  to-calibrated : Configured w o r → Calibrated w o (load Calibration (slice_of w Calibration o) r)
  to-calibrated h = rw (load-calibration w o h.0.0 r h.0.1) (h, refl)

  to-global : Calibrated w o r → GlobalWaiting w o (load Global (slice_of w Global o) r)
  to-global h = rw (load-global w o h.0.0.0 r h.0.0.1) (h, refl)

  to-all : GlobalWaiting w o r → AllWaiting w o (load Individual (slice_of w Individual o) r)
  to-all h =
      let configured : Configured w o r = h.0.0 in
      let ready : Ready w o r = configured.0 in
      let mode : Bool = multiplexed o.configuration in
      rw (load-individual w o ready.0 r ready.1 configured.1)
      ((h.0, global-own mode o.individual r.waiting ∙ h.1), in-use-own mode o.individual r.waiting)

pieces_then : (ds : List Device) (p : Piece) (ps : List Piece) {t u : List Device} {o q : List (List State)}
    → send_piece ds p ≡ (t, o) → send_pieces t ps ≡ (u, q) → send_pieces ds (p ∷ ps) ≡ (u, o ++ q)
unfolding send_pieces
pieces_then ds p ps e f = rw (e, f)

pub to-holds : (w : Part) (o : Own) (r : Registers) → AllWaiting w o r → RegistersHold o (activated r)
unfolding activated
to-holds w o r h = record { configuration = h.0.0.0.1; calibration = h.0.0.1; global = h.0.1; individual = h.1 }

-- the registers after the frame of a command, and after all four
abbrev after_frame : Part → List Own → Command → List Registers → List Registers
after_frame w os c rs = load_all c (map (slice_of w c) os) rs

abbrev after_four : Part → List Own → List Registers → List Registers
after_four w os rs = after_frame w os Individual (after_frame w os Global (after_frame w os Calibration (after_frame w os Configuration rs)))

module _ (w : Part) (os : List Own) (rs : List Registers) (b : Pairwise (Ready w) os rs) where
  pub stage1 : Pairwise (Configured w) os (after_frame w os Configuration rs)
  stage1 = pairwise-load w Configuration (Ready w) (Configured w) (to-configured w) os rs b

  pub stage2 : Pairwise (Calibrated w) os (after_frame w os Calibration (after_frame w os Configuration rs))
  stage2 = pairwise-load w Calibration (Configured w) (Calibrated w) (to-calibrated w) os _ stage1

  pub stage3 : Pairwise (GlobalWaiting w) os (after_frame w os Global (after_frame w os Calibration (after_frame w os Configuration rs)))
  stage3 = pairwise-load w Global (Calibrated w) (GlobalWaiting w) (to-global w) os _ stage2

  pub stage4 : Pairwise (AllWaiting w) os (after_four w os rs)
  stage4 = pairwise-load w Individual (GlobalWaiting w) (AllWaiting w) (to-all w) os _ stage3

module _ (w : Part) (os : List Own) (edge : Command → Edge) (gap tail : Command → List Bool) where
  sent-one : (c : Command) (R : Own → Registers → Type 0) (ds : List Device) (rs : List Registers) → 0 < length ds → registers_in ds ≡ rs → length rs < 1024
      → ((o : Own) (r : Registers) → R o r → FitsOne w c o r) → Pairwise R os rs
      → send_piece ds (piece_of w os edge gap tail c) ≡ (passings (after_frame w os c rs), clocked (return_of c (faults c rs) (tail c)) ∷ [])
  sent-one c R ds rs l e h k b = piece-law ds rs (piece_of w os edge gap tail c) l e h (pairwise-fits w c R R k os rs b)

  pub sent-four : (ds : List Device) → 0 < length ds → length (registers_in ds) < 1024 → Pairwise (Ready w) os (registers_in ds)
      → send_pieces ds (pieces_of w os edge gap tail) ≡ (passings (after_four w os (registers_in ds)), map clocked (returns_of tail (registers_in ds)))
  unfolding pieces_of send_pieces
  sent-four ds l h b =
      let n : length (registers_in ds) ≡ length ds = length-map ds (λ (d : Device). d.registers) in
      let rs : List Registers = registers_in ds in
      let r1 : List Registers = after_frame w os Configuration rs in
      let r2 : List Registers = after_frame w os Calibration r1 in
      let r3 : List Registers = after_frame w os Global r2 in
      let e1 = sent-one Configuration (Ready w) ds rs l refl h (fit-configuration w) b in
      let e2 = sent-one Calibration (Configured w) (passings r1) r1 (some r1 (simp length-load (omega arith))) (registers-passings r1) (simp length-load h) (fit-calibration w) (stage1 w os rs b) in
      let e3 = sent-one Global (Calibrated w) (passings r2) r2 (some r2 (simp length-load (omega arith))) (registers-passings r2) (simp length-load h) (fit-global w) (stage2 w os rs b) in
      let e4 = sent-one Individual (GlobalWaiting w) (passings r3) r3 (some r3 (simp length-load (omega arith))) (registers-passings r3) (simp length-load h) (fit-individual w) (stage3 w os rs b) in
      let piece : Command → Piece = piece_of w os edge gap tail in
      let f3 = pieces_then (passings r3) (piece Individual) [] e4 refl in
      let f2 = pieces_then (passings r2) (piece Global) (piece Individual ∷ []) e3 f3 in
      let f1 = pieces_then (passings r1) (piece Calibration) (piece Global ∷ piece Individual ∷ []) e2 f2 in
      let e = pieces_then ds (piece Configuration) (piece Calibration ∷ piece Global ∷ piece Individual ∷ []) e1 f1 in
      simp faults-kept at e
