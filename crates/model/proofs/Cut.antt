-- A restore cut after any number of states. A device that sends nothing stores nothing, so what has not fully arrived is old; what has
-- arrived is a whole frame of fewer slices, so `framed` says that it is new. By induction on the devices, then on the frames.
-- Assumes nothing.
use mathlib.Core.Path.{◌≡◌, refl, ap, ◌∙◌}
use mathlib.Core.Bool.{Bool, true, false, cond}
use mathlib.Core.List.{List, [], ◌∷◌, ◌++◌, map, flatten, append_assoc, append-nil}
use Prim.Native.Nat.{ℕ, zero, suc, pred, ◌+◌, ◌-◌, ◌≤◌, ◌<◌}
use native.Mathlib.Nat.{zero-sub}
use native.Mathlib.Omega.{arith}
use lib.Dec.{leb, leb→le, nleb→lt}
use lib.ListN.{length, take, drop, get_or, length-append, length-map, length-take, take-append-drop}
use lib.Seq.{take-append-add, take-take, take-nil}
use borrow.Author.Tests.{le-leb, lt-leb}
use Rattle.parts.specs.Wire.{State, low, high, lows, highs, Edge, exact, frame}
use Rattle.parts.specs.declared.command.Command.{Command}
use Rattle.machine.specs.Machine.{run}
use Rattle.model.specs.Device.{Registers, Device, Phase, hunting, lost, taking, passing, Field, command, count, slice, at}
use Rattle.model.specs.Device.{slice_length, load, fault, counted, frame_states, step_device, run_device, run_chain, registers_in}
use Rattle.model.specs.Restore.{Piece, piece_states}
use Rattle.model.proofs.Lists.{take-append, take-map, append-nil-left, append-nil-right, leb-same}
use Rattle.machine.proofs.Machine.{run-append, chain-cons, chain-empty, chain-nil, chain-append, chain-silent}
use Rattle.model.proofs.Wire.{frame-states, header_at, length-header_at, length-header_states}
use Rattle.model.proofs.Frame.{load_all, Fits, headed, framed, quiet}

-- a device that sends nothing stores nothing
still-step : (r : Registers) (p : Phase) (l : State) → (step_device (at r p) l).1 ≡ [] → (step_device (at r p) l).0.registers ≡ r
unfolding step_device
still-step r p (low b) e = refl
still-step r (hunting w) (high b) e = refl
still-step r lost (high b) e = refl
still-step r (taking command zero got) (high b) e = refl
still-step r (taking (count c) zero got) (high b) e = refl
still-step r (taking (slice c n) zero got) (high b) e = let z = length-header_states c (counted n (fault c r)) in let y = ap (λ (ls : List State). length ls) e in absurd (omega arith)
still-step r (taking f (suc n) got) (high b) e = refl
still-step r passing (high b) e = refl

still : (d : Device) (ls : List State) → (run_device d ls).1 ≡ [] → (run_device d ls).0.registers ≡ d.registers
unfolding run
still d [] e = refl
still d (l ∷ ls) e = still (step_device d l).0 ls (append-nil-right (step_device d l).1 _ e) ∙ still-step d.registers d.phase l (append-nil-left _ _ e)

-- fewer bits than a field needs
part-taken : (r : Registers) (f : Field) (n : ℕ) (got bs : List Bool) → length bs ≤ n → (run_device (at r (taking f n got)) (highs bs)).1 ≡ []
unfolding run step_device
part-taken r f n got [] h = refl
part-taken r f zero got (b ∷ bs) h = absurd (omega arith)
part-taken r f (suc n) got (b ∷ bs) h = part-taken r f n (got ++ b ∷ []) bs (omega arith)

-- of what sends nothing, no part sends anything
silent : (d : Device) (ls : List State) (m : ℕ) → (run_device d ls).1 ≡ [] → (run_device d (take m ls)).1 ≡ []
silent d ls m e =
    let f : (run_device d (take m ls ++ drop m ls)).1 ≡ [] = rw take-append-drop e in
    append-nil-left _ _ (rw run-append at f)

-- a part of a frame that holds its header
take-frame : (e : Edge) (c : Command) (n : ℕ) (ss : List (List Bool)) (tail : List Bool) (k : ℕ)
    → take (24 + k) (frame_states e c n ss tail) ≡ frame_states e c n [] (take k (flatten ss ++ tail))
unfolding flatten
take-frame e c n ss tail k = rw (frame-states e c n ss tail, frame-states e c n [] (take k (flatten ss ++ tail)), ← length-header_at e c n, take-append-add, take-map)

take-first : (e : Edge) (c : Command) (n : ℕ) (s : List Bool) (ss : List (List Bool)) (tail : List Bool) (k : ℕ)
    → take (24 + (length s + k)) (frame_states e c n (s ∷ ss) tail) ≡ frame_states e c n (s ∷ []) (take k (flatten ss ++ tail))
unfolding frame_states frame flatten
take-first e c n s ss tail k = take-frame e c n (s ∷ ss) tail (length s + k) ∙ rw (append_assoc s (flatten ss) tail, take-append-add, append-nil)

part-framed : (e : Edge) (d : Device) (c : Command) (n : ℕ) (bs : List Bool) → n < 1024 → length bs ≤ pred (slice_length d.registers c) → (run_device d (frame_states e c n [] bs)).1 ≡ []
unfolding flatten
part-framed e d c n bs h b =
    rw (frame-states e c n [] bs, run-append step_device d (header_at e c n) (highs bs), headed e d c n h)
    (part-taken d.registers (slice c n) (pred (slice_length d.registers c)) [] bs b)

module _ (e : Edge) (d : Device) (c : Command) (n : ℕ) (s : List Bool) (ss : List (List Bool)) (tail : List Bool)
    (h : n < 1024) (p : 0 < length s) (q : length s ≡ slice_length d.registers c) where
  cut-before : (m : ℕ) → m < 24 + length s → (run_device d (take m (frame_states e c n (s ∷ ss) tail))).1 ≡ []
  cut-before m l =
      let k : ℕ = pred (slice_length d.registers c) in
      let f : List State = frame_states e c n (s ∷ ss) tail in
      let bs : List Bool = take k (flatten (s ∷ ss) ++ tail) in
      let t : take m (take (24 + k) f) ≡ take m f = take-take m (24 + k) f (omega arith) in
      let b : length bs ≤ k = rw length-take (omega arith) in
      rw (← t, take-frame e c n (s ∷ ss) tail k) (silent d (frame_states e c n [] bs) m (part-framed e d c n bs h b))

  cut-behind : (k : ℕ) → run_device d (take (24 + (length s + k)) (frame_states e c n (s ∷ ss) tail))
      ≡ (at (load c s d.registers) passing, take (24 + k) (frame_states exact c (counted n (fault c d.registers)) ss tail))
  cut-behind k = rw (take-first, take-frame) (framed e d c n s [] (take k (flatten ss ++ tail)) h p q)

-- each device its slice, as far as m states of the frame reach
unfoldable pub cut_all : Command → ℕ → List (List Bool) → List Registers → List Registers
cut_all c m [] rs = rs
cut_all c m (s ∷ ss) [] = []
cut_all c m (s ∷ ss) (r ∷ rs) = cond (leb (24 + length s) m) (load c s r ∷ cut_all c (m - length s) ss rs) (r ∷ rs)

cut-frame : (e : Edge) (c : Command) (m : ℕ) (ds : List Device) (n : ℕ) (ss : List (List Bool)) (tail : List Bool) → n < 1024 → Fits c ss (registers_in ds)
    → registers_in (run_chain ds (take m (frame_states e c n ss tail))).0 ≡ cut_all c m ss (registers_in ds)
unfolding cut_all
cut-frame e c m [] n [] tail h f = rw (chain-empty step_device (take m (frame_states e c n [] tail)))
cut-frame e c m [] n (s ∷ ss) tail h f = absurd f
cut-frame e c m (d ∷ ds) n [] tail h f = absurd f
cut-frame e c m (d ∷ ds) n (s ∷ ss) tail h f =
    go (leb (24 + length s) m) refl (cut-frame exact c (m - length s) ds (counted n (fault c d.registers)) ss tail (omega arith) f.1)
  where
    go : (b : Bool) → leb (24 + length s) m ≡ b
        → registers_in (run_chain ds (take (m - length s) (frame_states exact c (counted n (fault c d.registers)) ss tail))).0 ≡ cut_all c (m - length s) ss (registers_in ds)
        → registers_in (run_chain (d ∷ ds) (take m (frame_states e c n (s ∷ ss) tail))).0
        ≡ cond b (load c s d.registers ∷ cut_all c (m - length s) ss (registers_in ds)) (d.registers ∷ registers_in ds)
    go true t i =
        let l : 24 + length s ≤ m = leb→le (24 + length s) m (rw t tt) in
        let k : ℕ = m - (24 + length s) in
        let u : 24 + (length s + k) ≡ m = omega arith in
        let v : 24 + k ≡ m - length s = omega arith in
        let q = rw (u, v) at (cut-behind e d c n s ss tail h f.0.0 f.0.1 k) in
        rw (chain-cons step_device d ds (take m (frame_states e c n (s ∷ ss) tail)) q refl, i)
    go false t i =
        let l : m < 24 + length s = nleb→lt (24 + length s) m (rw t tt) in
        let q = cut-before e d c n s ss tail h f.0.0 f.0.1 m l in
        rw (chain-silent step_device d ds (take m (frame_states e c n (s ∷ ss) tail)) q, still d (take m (frame_states e c n (s ∷ ss) tail)) q)

cut-full : (c : Command) (m : ℕ) (ss : List (List Bool)) (rs : List Registers) → 24 + length (flatten ss) ≤ m → cut_all c m ss rs ≡ load_all c ss rs
unfolding cut_all load_all flatten
cut-full c m [] rs h = refl
cut-full c m (s ∷ ss) [] h = refl
cut-full c m (s ∷ ss) (r ∷ rs) h =
    let g = rw length-append at h in
    rw (le-leb (24 + length s) m (omega arith), cut-full c (m - length s) ss rs (omega arith))

cut-none : (c : Command) (ss : List (List Bool)) (rs : List Registers) → cut_all c 0 ss rs ≡ rs
unfolding cut_all
cut-none c [] rs = refl
cut-none c (s ∷ ss) [] = refl
cut-none c (s ∷ ss) (r ∷ rs) = rw (lt-leb (24 + length s) 0 (omega arith))

pub length_cut : (c : Command) (m : ℕ) (ss : List (List Bool)) (rs : List Registers) → length (cut_all c m ss rs) ≡ length rs
unfolding cut_all
length_cut c m [] rs = refl
length_cut c m (s ∷ ss) [] = refl
length_cut c m (s ∷ ss) (r ∷ rs) = go (leb (24 + length s) m) (length_cut c (m - length s) ss rs)
  where
    go : (b : Bool) → length (cut_all c (m - length s) ss rs) ≡ length rs → length (cond b (load c s r ∷ cut_all c (m - length s) ss rs) (r ∷ rs)) ≡ suc (length rs)
    go true e = ap suc e
    go false e = refl

-- device i, from 0: new where the states given reach the end of its slice, old elsewhere
pub cut_at : (c : Command) (m : ℕ) (ss : List (List Bool)) (rs : List Registers) (i : ℕ) (z : Registers) → i < length ss → length rs ≡ length ss
    → get_or (cut_all c m ss rs) i z ≡ cond (leb (24 + length (flatten (take (suc i) ss))) m) (load c (get_or ss i []) (get_or rs i z)) (get_or rs i z)
unfolding cut_all flatten
cut_at c m [] rs i z h e = absurd (omega arith)
cut_at c m (s ∷ ss) [] i z h e = absurd (omega arith)
cut_at c m (s ∷ ss) (r ∷ rs) zero z h e = rw append-nil (go (leb (24 + length s) m))
  where
    go : (b : Bool) → get_or (cond b (load c s r ∷ cut_all c (m - length s) ss rs) (r ∷ rs)) 0 z ≡ cond b (load c s r) r
    go true = refl
    go false = refl
cut_at c m (s ∷ ss) (r ∷ rs) (suc i) z h e = go (leb (24 + length s) m) refl (cut_at c (m - length s) ss rs i z (omega arith) (omega arith))
  where
    go : (b : Bool) → leb (24 + length s) m ≡ b
        → get_or (cut_all c (m - length s) ss rs) i z ≡ cond (leb (24 + length (flatten (take (suc i) ss))) (m - length s)) (load c (get_or ss i []) (get_or rs i z)) (get_or rs i z)
        → get_or (cond b (load c s r ∷ cut_all c (m - length s) ss rs) (r ∷ rs)) (suc i) z
        ≡ cond (leb (24 + length (s ++ flatten (take (suc i) ss))) m) (load c (get_or ss i []) (get_or rs i z)) (get_or rs i z)
    go true t ih =
        let l : 24 + length s ≤ m = leb→le (24 + length s) m (rw t tt) in
        ih ∙ rw (length-append, leb-same (24 + length (flatten (take (suc i) ss))) (m - length s) (24 + (length s + length (flatten (take (suc i) ss)))) m (omega arith) (omega arith))
    go false t ih =
        let l : m < 24 + length s = nleb→lt (24 + length s) m (rw t tt) in
        rw (length-append, lt-leb (24 + (length s + length (flatten (take (suc i) ss)))) m (omega arith))

-- pieces
abbrev pub FitsAll : List Piece → List Registers → Type 0
FitsAll [] rs = Unit {0}
FitsAll (p ∷ ps) rs = Fits p.kind p.slices rs × FitsAll ps (load_all p.kind p.slices rs)

unfoldable pub cut_pieces : ℕ → List Piece → List Registers → List Registers
cut_pieces k [] rs = rs
cut_pieces k (p ∷ ps) rs = cut_pieces (k - length (piece_states p)) ps (cut_all p.kind (k - length p.gap) p.slices rs)

cut-piece : (k : ℕ) (p : Piece) (ds : List Device) → Fits p.kind p.slices (registers_in ds)
    → registers_in (run_chain ds (take k (piece_states p))).0 ≡ cut_all p.kind (k - length p.gap) p.slices (registers_in ds)
unfolding piece_states
cut-piece k p ds f =
    let q : registers_in (run_chain ds (lows (take k p.gap))).0 ≡ registers_in ds = quiet (take k p.gap) ds in
    let e = cut-frame p.edge p.kind (k - length p.gap) (run_chain ds (lows (take k p.gap))).0 0 p.slices p.tail (omega arith) (rw q f) in
    rw (take-append k (lows p.gap) (frame_states p.edge p.kind 0 p.slices p.tail), take-map, length-map, chain-append) (e ∙ rw q)

pieces_none : (ps : List Piece) (rs : List Registers) → cut_pieces 0 ps rs ≡ rs
unfolding cut_pieces
pieces_none [] rs = refl
pieces_none (p ∷ ps) rs = rw (zero-sub, zero-sub, cut-none) (pieces_none ps rs)

pub length-states : (p : Piece) → length (piece_states p) ≡ length p.gap + (24 + (length (flatten p.slices) + length p.tail))
unfolding piece_states
length-states p = rw (length-append, length-map, frame-states, length-append, length-header_at, length-map, length-append)

pub cut-pieces : (ps : List Piece) (k : ℕ) (ds : List Device) → FitsAll ps (registers_in ds)
    → registers_in (run_chain ds (take k (flatten (map piece_states ps)))).0 ≡ cut_pieces k ps (registers_in ds)
unfolding cut_pieces flatten
cut-pieces [] k ds f = rw (take-nil, chain-nil step_device ds)
cut-pieces (p ∷ ps) k ds f =
    rw (take-append k (piece_states p) (flatten (map piece_states ps)), chain-append)
    (go (k - length (piece_states p)) refl (run_chain ds (take k (piece_states p))).0 (cut-piece k p ds f.0) (λ (j : ℕ) (t : List Device) g. cut-pieces ps j t g))
  where
    go : (j : ℕ) → k - length (piece_states p) ≡ j → (t : List Device) → registers_in t ≡ cut_all p.kind (k - length p.gap) p.slices (registers_in ds)
        → ((j : ℕ) (t : List Device) → FitsAll ps (registers_in t) → registers_in (run_chain t (take j (flatten (map piece_states ps)))).0 ≡ cut_pieces j ps (registers_in t))
        → registers_in (run_chain t (take j (flatten (map piece_states ps)))).0 ≡ cut_pieces j ps (cut_all p.kind (k - length p.gap) p.slices (registers_in ds))
    go zero e t r ih = rw (chain-nil step_device t, pieces_none, r)
    go (suc j) e t r ih =
        let u : 24 + length (flatten p.slices) ≤ k - length p.gap = omega (arith, length-states p) in
        let q : registers_in t ≡ load_all p.kind p.slices (registers_in ds) = r ∙ cut-full p.kind (k - length p.gap) p.slices (registers_in ds) u in
        ih (suc j) t (rw q f.1) ∙ rw r
