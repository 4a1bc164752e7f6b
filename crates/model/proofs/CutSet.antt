-- A restore of a set, cut after any number of states: in each device each group is wholly new or wholly old, by its slice's states_until. The
-- four frames are cut one after the other; individual slices fit because configuration has wholly arrived before them. Assumes nothing.
use mathlib.Core.Path.{◌≡◌, refl, sym, ◌∙◌}
use mathlib.Core.Bool.{Bool, true, false, cond}
use mathlib.Core.List.{List, [], ◌++◌, map, flatten}
use Prim.Native.Nat.{ℕ, suc, ◌+◌, ◌-◌, ◌≤◌, ◌<◌}
use native.Mathlib.Omega.{arith}
use lib.Dec.{T, leb, leb→le, le→leb}
use lib.ListN.{length, take, get_or, length-map}
use Rattle.parts.specs.Parts.{Part}
use Rattle.parts.specs.Wire.{low, Edge, lows}
use Rattle.parts.specs.declared.command.Command.{Command}
use Rattle.parts.specs.declared.command.Command.TheVariants.{Individual, Calibration, Global, Configuration}
use Rattle.model.specs.Lists.{Pairwise}
use Rattle.model.specs.Device.{Values, Registers, Device, multiplexed, evens, odds, with_individual, load, step_device, run_chain, registers_in}
use Rattle.model.specs.Set.{Own, OwnProper, slice_of}
use Rattle.model.specs.Restore.{piece_states, pieces_of, piece_of, pieces_states, states_in, states_until, CutFields}
use Rattle.model.proofs.Lists.{true_of, leb-same, pairwise-at, pairwise-length, get_d_map, length-flatten-take, take-append, take-map}
use Rattle.machine.proofs.Machine.{chain-append}
use Rattle.model.proofs.Frame.{quiet}
use Rattle.model.proofs.Set.{load-configuration, load-calibration, load-global, load-individual}
use Rattle.model.proofs.Restore.{Ready, Configured, Calibrated, GlobalWaiting, pairwise-fits, fit-configuration, fit-calibration, fit-global, fit-individual, stage1, stage2, stage3, global-own}
use Rattle.model.proofs.Cut.{cut_all, cut_pieces, FitsAll, cut_at, cut-pieces, length_cut, length-states}
use Rattle.tables.proofs.Booleans.{cond-and}

pub mux0-own : (m : Bool) (vs : List ℕ) (v : Values) → (with_individual m vs v).mux0 ≡ cond m (evens vs) vs
mux0-own true vs v = refl
mux0-own false vs v = refl

mux1-own : (m : Bool) (vs : List ℕ) (v : Values) (old : List ℕ) → v.mux1 ≡ old → (with_individual m vs v).mux1 ≡ cond m (odds vs) old
mux1-own true vs v old e = refl
mux1-own false vs v old e = e

-- the same by four tests, which grow one by one
record CutBy (b1 b2 b3 b4 : Bool) (o : Own) (old new : Registers) : Type 0 where
  pub part : new.part ≡ old.part
  pub configuration : new.configuration ≡ cond b1 o.configuration old.configuration
  pub calibration : new.calibration ≡ cond b2 o.calibration old.calibration
  pub global : new.waiting.global ≡ cond b3 o.global old.waiting.global
  pub mux0 : new.waiting.mux0 ≡ cond b4 (cond (multiplexed o.configuration) (evens o.individual) o.individual) old.waiting.mux0
  pub mux1 : new.waiting.mux1 ≡ cond b4 (cond (multiplexed o.configuration) (odds o.individual) old.waiting.mux1) old.waiting.mux1
  pub active : new.active ≡ old.active

by_tests : (arrived : Command → Bool) (o : Own) (old new : Registers) → CutBy (arrived Configuration) (arrived Calibration) (arrived Global) (arrived Individual) o old new
    → CutFields arrived o old new
by_tests arrived o old new h = record {
  part = h.part;
  configuration = h.configuration;
  calibration = h.calibration;
  global = h.global;
  mux0 = h.mux0;
  mux1 = h.mux1 ∙ cond-and (arrived Individual) (multiplexed o.configuration) (odds o.individual) old.waiting.mux1;
  active = h.active;
}

abbrev cut_one : Command → Bool → List Bool → Registers → Registers
cut_one c b s r = cond b (load c s r) r

module _ (w : Part) (o : Own) (p : OwnProper w o) (r : Registers) (e : r.part ≡ w) where
  cut1 : (b1 : Bool) → CutBy b1 false false false o r (cut_one Configuration b1 (slice_of w Configuration o) r)
  cut1 true = rw (load-configuration w o p r e) (record { part = refl; configuration = refl; calibration = refl; global = refl; mux0 = refl; mux1 = refl; active = refl })
  cut1 false = record { part = refl; configuration = refl; calibration = refl; global = refl; mux0 = refl; mux1 = refl; active = refl }

  cut2 : (b1 b2 : Bool) (q : Registers) → CutBy b1 false false false o r q → CutBy b1 b2 false false o r (cut_one Calibration b2 (slice_of w Calibration o) q)
  cut2 b1 true q h =
      rw (load-calibration w o p q (h.part ∙ e))
      (record { part = h.part; configuration = h.configuration; calibration = refl; global = h.global; mux0 = h.mux0; mux1 = h.mux1; active = h.active })
  cut2 b1 false q h = h

  cut3 : (b1 b2 b3 : Bool) (q : Registers) → CutBy b1 b2 false false o r q → CutBy b1 b2 b3 false o r (cut_one Global b3 (slice_of w Global o) q)
  cut3 b1 b2 true q h =
      rw (load-global w o p q (h.part ∙ e))
      (record { part = h.part; configuration = h.configuration; calibration = h.calibration; global = refl; mux0 = h.mux0; mux1 = h.mux1; active = h.active })
  cut3 b1 b2 false q h = h

  cut4 : (b1 b2 b3 b4 : Bool) (q : Registers) → (T b4 → T b1) → CutBy b1 b2 b3 false o r q → CutBy b1 b2 b3 b4 o r (cut_one Individual b4 (slice_of w Individual o) q)
  cut4 b1 b2 b3 true q i h =
      let c : q.configuration ≡ o.configuration = h.configuration ∙ rw (true_of b1 (i tt)) in
      rw (load-individual w o p q (h.part ∙ e) c)
      (record {
        part = h.part;
        configuration = h.configuration;
        calibration = h.calibration;
        global = global-own (multiplexed o.configuration) o.individual q.waiting ∙ h.global;
        mux0 = mux0-own (multiplexed o.configuration) o.individual q.waiting;
        mux1 = mux1-own (multiplexed o.configuration) o.individual q.waiting r.waiting.mux1 h.mux1;
        active = h.active;
      })
  cut4 b1 b2 b3 false q i h = h

  abbrev cut : Command → Bool → Registers → Registers
  cut c b q = cut_one c b (slice_of w c o) q

  cut-fields : (b1 b2 b3 b4 : Bool) → (T b4 → T b1) → CutBy b1 b2 b3 b4 o r (cut Individual b4 (cut Global b3 (cut Calibration b2 (cut Configuration b1 r))))
  cut-fields b1 b2 b3 b4 i = cut4 b1 b2 b3 b4 _ i (cut3 b1 b2 b3 _ (cut2 b1 b2 _ (cut1 b1)))

module _ (w : Part) (os : List Own) (edge : Command → Edge) (gap tail : Command → List Bool) where
  fits-four : (rs : List Registers) → Pairwise (Ready w) os rs → FitsAll (pieces_of w os edge gap tail) rs
  unfolding pieces_of
  fits-four rs b = (
    pairwise-fits w Configuration (Ready w) (Ready w) (fit-configuration w) os rs b,
    (
      pairwise-fits w Calibration (Configured w) (Configured w) (fit-calibration w) os _ (stage1 w os rs b),
      (
        pairwise-fits w Global (Calibrated w) (Calibrated w) (fit-global w) os _ (stage2 w os rs b),
        (pairwise-fits w Individual (GlobalWaiting w) (GlobalWaiting w) (fit-individual w) os _ (stage3 w os rs b), tt),
      ),
    ),
  )

  -- one frame of it, in one device
  cut_step : (c : Command) (m k i : ℕ) (rs : List Registers) (o : Own) (z : Registers) → i < length os → length rs ≡ length os
      → (24 + length (flatten (take (suc i) (map (slice_of w c) os))) ≤ m → states_until w os gap tail c (suc i) ≤ k)
      → (states_until w os gap tail c (suc i) ≤ k → 24 + length (flatten (take (suc i) (map (slice_of w c) os))) ≤ m)
      → get_or (cut_all c m (map (slice_of w c) os) rs) i z ≡ cut_one c (leb (states_until w os gap tail c (suc i)) k) (slice_of w c (get_or os i o)) (get_or rs i z)
  cut_step c m k i rs o z h l f g =
      let ss : List (List Bool) = map (slice_of w c) os in
      let n : length ss ≡ length os = length-map os (slice_of w c) in
      cut_at c m ss rs i z (omega arith) (l ∙ sym n) ∙ rw (leb-same (24 + length (flatten (take (suc i) ss))) m (states_until w os gap tail c (suc i)) k f g, get_d_map (slice_of w c) os i o [] h)

  length-piece : (c : Command) → length (piece_states (piece_of w os edge gap tail c)) ≡ states_in w os gap tail c
  length-piece c = length-states (piece_of w os edge gap tail c)

  -- Configuration arrives first
  order : (k i : ℕ) → T (leb (states_until w os gap tail Individual (suc i)) k) → T (leb (states_until w os gap tail Configuration (suc i)) k)
  order k i t =
      let l = leb→le (states_until w os gap tail Individual (suc i)) k t in
      le→leb (states_until w os gap tail Configuration (suc i)) k (omega (arith, length-flatten-take (suc i) (map (slice_of w Configuration) os)))

  -- Cut: after k states of the restore, in device i (from 0)
  cut-restore : (ds : List Device) → Pairwise (Ready w) os (registers_in ds) → (k i : ℕ) (o : Own) (z : Registers) → i < length os
      → CutFields (λ c. leb (states_until w os gap tail c (suc i)) k) (get_or os i o) (get_or (registers_in ds) i z)
      (get_or (registers_in (run_chain ds (take k (pieces_states w os edge gap tail))).0) i z)
  unfolding pieces_of cut_pieces
  cut-restore ds b k i o z h =
      let rs : List Registers = registers_in ds in
      let r = pairwise-at (Ready w) os rs i o z h b in
      let n : length rs ≡ length os = pairwise-length (Ready w) os rs b in
      let n1 = length-piece Configuration in
      let n2 = length-piece Calibration in
      let n3 = length-piece Global in
      let e = rw (n1, n2, n3) at (cut-pieces (pieces_of w os edge gap tail) k ds (fits-four rs b)) in
      let j1 : ℕ = k - states_in w os gap tail Configuration in
      let j2 : ℕ = j1 - states_in w os gap tail Calibration in
      let j3 : ℕ = j2 - states_in w os gap tail Global in
      let c1 : List Registers = cut_all Configuration (k - length (gap Configuration)) (map (slice_of w Configuration) os) rs in
      let c2 : List Registers = cut_all Calibration (j1 - length (gap Calibration)) (map (slice_of w Calibration) os) c1 in
      let c3 : List Registers = cut_all Global (j2 - length (gap Global)) (map (slice_of w Global) os) c2 in
      let l1 : length c1 ≡ length os = rw length_cut n in
      let l2 : length c2 ≡ length os = rw length_cut l1 in
      let l3 : length c3 ≡ length os = rw length_cut l2 in
      let f1 = cut_step Configuration (k - length (gap Configuration)) k i rs o z h n (omega arith) (omega arith) in
      let f2 = cut_step Calibration (j1 - length (gap Calibration)) k i c1 o z h l1 (omega arith) (omega arith) in
      let f3 = cut_step Global (j2 - length (gap Global)) k i c2 o z h l2 (omega arith) (omega arith) in
      let f4 = cut_step Individual (j3 - length (gap Individual)) k i c3 o z h l3 (omega arith) (omega arith) in
      let arrived : Command → Bool = λ c. leb (states_until w os gap tail c (suc i)) k in
      let g = cut-fields w (get_or os i o) r.0 (get_or rs i z) r.1 (arrived Configuration) (arrived Calibration) (arrived Global) (arrived Individual) (order k i) in
      by_tests arrived (get_or os i o) (get_or rs i z) _ (rw (e, f4, f3, f2, f1) g)

  -- with low clocks after the last frame, which change no register
  pub cut-sent : (ds : List Device) → Pairwise (Ready w) os (registers_in ds) → (last : List Bool) (k i : ℕ) (o : Own) (z : Registers) → i < length os
      → CutFields (λ c. leb (states_until w os gap tail c (suc i)) k) (get_or os i o) (get_or (registers_in ds) i z)
      (get_or (registers_in (run_chain ds (take k (pieces_states w os edge gap tail ++ lows last))).0) i z)
  cut-sent ds b last k i o z h =
      rw (
        take-append k (pieces_states w os edge gap tail) (lows last),
        take-map low (k - length (pieces_states w os edge gap tail)) last,
        chain-append step_device ds (take k (pieces_states w os edge gap tail)) (lows (take (k - length (pieces_states w os edge gap tail)) last)),
        quiet (take (k - length (pieces_states w os edge gap tail)) last) (run_chain ds (take k (pieces_states w os edge gap tail))).0,
      )
      (cut-restore ds b k i o z h)
