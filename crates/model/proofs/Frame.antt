-- One frame, sent with any edge, through a device from any phase, and through a chain. SYNC is found whatever came before; a device takes
-- the first slice and sends on the frame of the others, with the exact edge; a chain goes by induction on its devices. Assumes nothing.
use mathlib.Core.Path.{◌≡◌, refl, ◌∙◌}
use mathlib.Core.Bool.{Bool, false}
use mathlib.Core.List.{List, [], ◌∷◌, ◌++◌, map, flatten, append_assoc, append-nil, map-append}
use Prim.Native.Nat.{ℕ, zero, suc, pred, ◌+◌, ◌*◌, ◌%◌, ◌^◌, ◌<◌}
use native.Mathlib.Nat.{mod-eq_of_lt}
use native.Mathlib.Omega.{arith}
use lib.ListN.{length, take, drop, get_or}
use Rattle.bits.specs.Bits.{digit, bits, number}
use Rattle.bits.proofs.Laws.{length-bits, number-bits}
use Rattle.parts.specs.Wire.{State, high, lows, highs, Edge, early, exact, late, clocked_at, sync}
use Rattle.parts.specs.declared.command.Command.{Command}
use Rattle.parts.specs.declared.command.Command.TheVariants.{Individual, Calibration, Global, Configuration}
use Rattle.model.specs.Lists.{Pairwise, how_many}
use Rattle.machine.specs.Machine.{run, chain}
use Rattle.model.specs.Device.{Registers, Device, Phase, hunting, taking, passing, Field, command, count, slice, at}
use Rattle.model.specs.Device.{slice_length, load, fault, faults, counted, finish, named, header_states, frame_states, step_device, run_device, run_chain, registers_in, window}
use Rattle.model.proofs.Lists.{how_many-cons}
use Rattle.machine.proofs.Machine.{run-then, chain-cons, chain-nil}
use Rattle.model.proofs.Wire.{pairs, opening, header_at, header-states, frame-states}
use Rattle.model.proofs.Edge.{opened}

-- a field is collected at high load, whatever follows
taking-run : (r : Registers) (f : Field) (n : ℕ) (got bs : List Bool) → length bs ≡ suc n
    → run_device (at r (taking f n got)) (highs bs) ≡ finish r f (got ++ bs)
unfolding run step_device
taking-run r f n got [] h = absurd (omega arith)
taking-run r f zero got (b ∷ []) h = simp append-nil
taking-run r f zero got (b ∷ c ∷ bs) h = absurd (omega arith)
taking-run r f (suc n) got (b ∷ bs) h = taking-run r f n (got ++ b ∷ []) bs (omega arith) ∙ rw append_assoc

passed : (r : Registers) (bs : List Bool) → run_device (at r passing) (highs bs) ≡ (at r passing, highs bs)
unfolding run step_device
passed r [] = refl
passed r (b ∷ bs) = rw (passed r bs)

-- the six command bits
named-pairs : (c : Command) → named (number (pairs c)) ≡ taking (count c) 9 []
unfolding bits number
named-pairs Individual = refl
named-pairs Calibration = refl
named-pairs Global = refl
named-pairs Configuration = refl

-- after the edge, the command bits that are still to come
begun-then : (d : Device) (c : Command) (ls : List State) (n : ℕ) (got bs : List Bool) → run_device d ls ≡ (at d.registers (taking command n got), [])
    → length bs ≡ suc n → got ++ bs ≡ pairs c
    → run_device d (ls ++ highs bs) ≡ (at d.registers (taking (count c) 9 []), [])
begun-then d c ls n got bs e l p = run-then step_device d ls (highs bs) e (taking-run d.registers command n got bs l ∙ rw (p, named-pairs c))

-- SYNC and the command, with any edge and from any phase
commanded : (e : Edge) (d : Device) (c : Command) → run_device d (clocked_at e (opening c)) ≡ (at d.registers (taking (count c) 9 []), [])
unfolding clocked_at bits
commanded early d c =
    begun-then d c (lows (take 7 sync) ++ high false ∷ []) 5 [] (pairs c)
    (opened early d.registers d.phase (take 7 sync) false [] (([], refl), refl, refl)) refl refl
commanded exact d c =
    let b : Bool = get_or (pairs c) 0 false in
    begun-then d c (lows sync ++ high b ∷ []) 4 (b ∷ []) (drop 1 (pairs c))
    (opened exact d.registers d.phase sync b (b ∷ []) (([], refl), refl)) refl refl
commanded late d c =
    let b : Bool = get_or (pairs c) 0 false in
    let next : Bool = get_or (pairs c) 1 false in
    begun-then d c (lows (sync ++ b ∷ []) ++ high next ∷ []) 3 (b ∷ next ∷ []) (drop 2 (pairs c))
    (opened late d.registers d.phase (sync ++ b ∷ []) next (b ∷ next ∷ []) (b, ([], refl), refl)) refl refl

highs-then : (d : Device) (a b : List Bool) {t u : Device} {o q : List State} → run_device d (highs a) ≡ (t, o) → run_device t (highs b) ≡ (u, q) → run_device d (highs (a ++ b)) ≡ (u, o ++ q)
highs-then d a b e f = rw (map-append high a b) (run-then step_device d (highs a) (highs b) e f)

-- a header, with any edge and from any phase: the start of the slice
pub headed : (e : Edge) (d : Device) (c : Command) (n : ℕ) → n < 1024
    → run_device d (header_at e c n) ≡ (at d.registers (taking (slice c n) (pred (slice_length d.registers c)) []), [])
headed e d c n h =
    let m : n % 2 ^ 10 ≡ n = mod-eq_of_lt h in
    let t = taking-run d.registers (count c) 9 [] (bits 10 n) (length-bits 10 n) in
    rw (header-states e c n) (run-then step_device d (clocked_at e (opening c)) (highs (bits 10 n)) (commanded e d c) (rw (number-bits 10 n, m) at t))

-- A device takes the first slice of a frame and sends on the frame of the others, with the exact edge
pub framed : (e : Edge) (d : Device) (c : Command) (n : ℕ) (s : List Bool) (ss : List (List Bool)) (tail : List Bool) → n < 1024 → 0 < length s → length s ≡ slice_length d.registers c
    → run_device d (frame_states e c n (s ∷ ss) tail) ≡ (at (load c s d.registers) passing, frame_states exact c (counted n (fault c d.registers)) ss tail)
unfolding flatten header_states
framed e d c n s ss tail h p l =
    rw (frame-states e c n (s ∷ ss) tail, frame-states exact c (counted n (fault c d.registers)) ss tail, append_assoc s (flatten ss) tail)
    (run-then step_device d (header_at e c n) _ (headed e d c n h)
    (highs-then _ s (flatten ss ++ tail) (taking-run d.registers (slice c n) (pred (slice_length d.registers c)) [] s (omega arith)) (passed _ (flatten ss ++ tail))))

-- every device its slice
unfoldable pub load_all : Command → List (List Bool) → List Registers → List Registers
load_all c [] rs = rs
load_all c (s ∷ ss) [] = []
load_all c (s ∷ ss) (r ∷ rs) = load c s r ∷ load_all c ss rs

abbrev pub Fits : Command → List (List Bool) → List Registers → Type 0
Fits c ss rs = Pairwise (λ s r. (0 < length s) × (length s ≡ slice_length r c)) ss rs

abbrev pub passings : List Registers → List Device
passings rs = map (λ r. at r passing) rs

-- the edge of what leaves a chain: every device sends the exact one
abbrev leaving : Edge → List Device → Edge
leaving e [] = e
leaving e (d ∷ ds) = exact

leaving-exact : (ds : List Device) → leaving exact ds ≡ exact
leaving-exact [] = refl
leaving-exact (d ∷ ds) = refl

-- A frame through a chain, with any edge and from any phases
framed-any : (e : Edge) (c : Command) (ds : List Device) (n : ℕ) (ss : List (List Bool)) (tail : List Bool) → n < 1024 → Fits c ss (registers_in ds)
    → run_chain ds (frame_states e c n ss tail) ≡ (passings (load_all c ss (registers_in ds)), frame_states (leaving e ds) c ((n + faults c (registers_in ds)) % 1024) [] tail)
unfolding load_all how_many chain
framed-any e c [] n [] tail h f = let z : (n + 0) % 1024 ≡ n = omega arith in rw z
framed-any e c [] n (s ∷ ss) tail h f = absurd f
framed-any e c (d ∷ ds) n [] tail h f = absurd f
framed-any e c (d ∷ ds) n (s ∷ ss) tail h f =
    let z : ((counted n (fault c d.registers)) + faults c (registers_in ds)) % 1024 ≡ (n + (digit (fault c d.registers) + faults c (registers_in ds))) % 1024 = omega arith in
    let t = how_many-cons (fault c) d.registers (registers_in ds) in
    rw t (chain-cons step_device d ds _ (framed e d c n s ss tail h f.0.0 f.0.1)
    (rw (z, leaving-exact ds) at (framed-any exact c ds (counted n (fault c d.registers)) ss tail (omega arith) f.1)))

-- of one device or more: what leaves has the exact edge
pub framed-all : (e : Edge) (c : Command) (ds : List Device) (n : ℕ) (ss : List (List Bool)) (tail : List Bool) → 0 < length ds → n < 1024 → Fits c ss (registers_in ds)
    → run_chain ds (frame_states e c n ss tail) ≡ (passings (load_all c ss (registers_in ds)), frame_states exact c ((n + faults c (registers_in ds)) % 1024) [] tail)
framed-all e c [] n ss tail l h f = absurd (omega arith)
framed-all e c (d ∷ ds) n ss tail l h f = framed-any e c (d ∷ ds) n ss tail h f

-- clocks at low load change nothing but phases
quiet_one : (g : List Bool) (d : Device) → (p : Phase) × (run_device d (lows g) ≡ (at d.registers p, []))
unfolding run step_device
quiet_one [] d = (d.phase, refl)
quiet_one (b ∷ g) d = quiet_one g (at d.registers (hunting ((window d.phase * 2 + digit b) % 512)))

pub quiet : (g : List Bool) (ds : List Device) → registers_in (run_chain ds (lows g)).0 ≡ registers_in ds
unfolding chain
quiet g [] = refl
quiet g (d ∷ ds) = let (p, e) = quiet_one g d in rw (e, chain-nil step_device ds)

pub quiet-sends : (g : List Bool) (ds : List Device) → 0 < length ds → (run_chain ds (lows g)).1 ≡ []
quiet-sends g [] h = absurd (omega arith)
quiet-sends g (d ∷ ds) h = let (p, e) = quiet_one g d in rw (chain-cons step_device d ds (lows g) e (chain-nil step_device ds))
