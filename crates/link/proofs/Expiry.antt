-- Expiries of records are those of the model's devices: clock by clock (`expires-same`), of runs in pieces (`calm-ran`, `calm-split`), and a chain
-- in which none expires is seen as a chain without watchdogs (`calm-seen`). By induction on the calls. Assumes nothing.
use mathlib.Core.Path.{◌≡◌, refl, sym, ap, subst, ◌∙◌}
use mathlib.Core.Bool.{Bool, true, false}
use mathlib.Core.List.{List, [], ◌∷◌, ◌++◌, map, map-map}
use Prim.Native.Nat.{ℕ, zero, suc, ◌+◌, ◌-◌, ◌≤◌, ◌<◌}
use native.Mathlib.Omega.{arith}
use lib.Dec.{leb, leb→le, nleb→lt}
use lib.ListN.{length, length-map, length-append, take, get_or}
use lib.Seq.{take_all, take-append-le}
use Rattle.parts.specs.Wire.{State, state_at}
use Rattle.machine.specs.Machine.{relay_one}
use Rattle.machine.proofs.Machine.{run-append, length-relays}
use Rattle.watch.specs.Watch.{expired}
use Rattle.device.specs.Run.{clock_record}
use Rattle.device.specs.declared.device.Device.{Device}
use Rattle.calls.specs.Chain.{blank}
use Rattle.calls.specs.Calls.{run_devices}
use Rattle.calls.specs.History.{Call, after, after_calls, given, states_given, Runs}
use Rattle.calls.specs.Expiry.{expires, expired_within, CalmFrom, CalmCalls}
use Rattle.model.specs.Lists.{All}
use Rattle.model.proofs.Lists.{take-append, take-map, get_d_map, All-take}
use Rattle.clocked.specs.Clock.{Clocked, run_clocked}
use Rattle.watchdog.specs.Watched.{Watched, clocks_in, run_watched}
use Rattle.watchdog.specs.Watched as watchdog
use Rattle.watchdog.proofs.Calm.{calm-clocked}
use Rattle.link.specs.View.{clocked_of, watched_of}
use Rattle.link.proofs.View.{Sound}
use Rattle.link.proofs.Device.{through-agree}
use Rattle.link.proofs.Calls.{run-one}

pub clocks-seen : (es : List Device) → clocks_in (map watched_of es) ≡ map clocked_of es
clocks-seen es = map-map (λ (w : Watched). w.clocked) watched_of es

-- ---- a run

module _ (ds : List Device) (ss : List ℕ) (sound : All Sound ds) (below : All (λ s. s < 4) ss) where
  pub expires-same : (clock device : ℕ) → 1 ≤ device → device ≤ length ds → watchdog.expires (map watched_of ds) (map state_at ss) clock device ≡ expires ds ss clock device
  expires-same clock device h l =
      let es : List Device = run_devices ds (take clock ss) in
      let n : length es ≡ length ds = length-relays clock_record ds (take clock ss) in
      let e : (run_watched (map watched_of ds) (take clock (map state_at ss))).0 ≡ map watched_of es =
      ap (λ (ls : List State). (run_watched (map watched_of ds) ls).0) (take-map state_at clock ss)
      ∙ sym (ap (λ (x : List Watched × List State). x.0) (through-agree ds (take clock ss) sound (All-take (λ s. s < 4) clock ss below))) in
      ap (λ (ws : List Watched). get_or (map (λ w. expired w.watch) ws) (device - 1) false) e
      ∙ ap (λ (bs : List Bool). get_or bs (device - 1) false) (map-map (λ (w : Watched). expired w.watch) watched_of es)
      ∙ get_d_map (λ (d : Device). expired d.registers.watch) es (device - 1) blank false (omega arith)

  pub within_same : (k device : ℕ) → 1 ≤ device → device ≤ length ds
      → watchdog.expired_within (map watched_of ds) (map state_at ss) k device ≡ expired_within ds ss k device
  unfolding watchdog.expired_within expired_within
  within_same zero device h l = refl
  within_same (suc k) device h l = rw (expires-same (suc k) device h l, within_same k device h l)

  -- devices that expire in no clock from one of their own on, from the first at the earliest
  pub calm-same : (from : ℕ → ℕ) → ((device : ℕ) → 1 ≤ from device) → CalmFrom from ds ss → watchdog.CalmFrom from (map watched_of ds) (map state_at ss)
  calm-same from f calm device clock h l m n =
      let a : length (map watched_of ds) ≡ length ds = length-map ds watched_of in
      let b : length (map state_at ss) ≡ length ss = length-map ss state_at in
      expires-same clock device h (omega arith) ∙ calm device clock h (omega arith) (omega (arith, f device)) (omega arith) m

  -- where none expires the chain is seen as one without watchdogs
  pub calm-seen : (from : ℕ → ℕ) → ((device : ℕ) → from device ≤ 1) → CalmFrom from ds ss → map clocked_of (run_devices ds ss) ≡ (run_clocked (map clocked_of ds) (map state_at ss)).0
  calm-seen from f calm =
      let ws : List Watched = map watched_of ds in
      let a : length ws ≡ length ds = length-map ds watched_of in
      let b : length (map state_at ss) ≡ length ss = length-map ss state_at in
      let c : watchdog.Calm ws (map state_at ss) =
      λ device clock h l m n. expires-same clock device h (omega arith) ∙ calm device clock h (omega arith) m (omega arith) (omega (arith, f device)) in
      sym (clocks-seen (run_devices ds ss)) ∙ ap (λ (x : List Watched × List State). clocks_in x.0) (through-agree ds ss sound below) ∙ calm-clocked ws (map state_at ss) c
      ∙ ap (λ (cs : List Clocked). (run_clocked cs (map state_at ss)).0) (clocks-seen ds)

-- ---- states one after the other

module _ (ds : List Device) (xs ys : List ℕ) where
  run-split : (zs : List ℕ) → run_devices ds (xs ++ zs) ≡ run_devices (run_devices ds xs) zs
  run-split zs = ap (λ (x : List Device × List ℕ). x.0) (run-append (relay_one clock_record) ds xs zs)

  expires-front : (clock device : ℕ) → clock ≤ length xs → expires ds (xs ++ ys) clock device ≡ expires ds xs clock device
  expires-front clock device h = rw (take-append-le clock xs ys h)

  expires-back : (clock device : ℕ) → expires ds (xs ++ ys) (length xs + clock) device ≡ expires (run_devices ds xs) ys clock device
  expires-back clock device =
      let n : length xs + clock - length xs ≡ clock = omega arith in
      rw (take-append (length xs + clock) xs ys, take_all (length xs + clock) xs (omega arith), n, run-split (take clock ys))

  module _ (from : ℕ → ℕ) where
    calm-join : CalmFrom from ds xs → CalmFrom (λ device. from device - length xs) (run_devices ds xs) ys → CalmFrom from ds (xs ++ ys)
    calm-join p q device clock h l m n f = by (leb clock (length xs)) refl
      where
        by : (b : Bool) → leb clock (length xs) ≡ b → expires ds (xs ++ ys) clock device ≡ false
        by true e = let k : clock ≤ length xs = leb→le clock (length xs) (rw e tt) in expires-front clock device k ∙ p device clock h l m k f
        by false e =
            let k : length xs < clock = nleb→lt clock (length xs) (rw e tt) in
            let a : length (xs ++ ys) ≡ length xs + length ys = length-append xs ys in
            let b : length (run_devices ds xs) ≡ length ds = length-relays clock_record ds xs in
            let c : length xs + (clock - length xs) ≡ clock = omega arith in
            ap (λ (j : ℕ). expires ds (xs ++ ys) j device) (sym c) ∙ expires-back (clock - length xs) device
            ∙ q device (clock - length xs) h (omega arith) (omega arith) (omega arith) (omega arith)

    pub calm-front : CalmFrom from ds (xs ++ ys) → CalmFrom from ds xs
    calm-front p device clock h l m n f =
        let a : length (xs ++ ys) ≡ length xs + length ys = length-append xs ys in
        sym (expires-front clock device n) ∙ p device clock h l m (omega arith) f

    pub calm-back : CalmFrom from ds (xs ++ ys) → CalmFrom (λ device. from device - length xs) (run_devices ds xs) ys
    calm-back p device clock h l m n f =
        let a : length (xs ++ ys) ≡ length xs + length ys = length-append xs ys in
        let b : length (run_devices ds xs) ≡ length ds = length-relays clock_record ds xs in
        sym (expires-back clock device) ∙ p device (length xs + clock) h (omega arith) (omega arith) (omega arith) (omega arith)

-- ---- calls one after the other

-- devices that expire in no clock from one on expire in none from a later one on
pub calm-later : (from later : ℕ → ℕ) → ((device : ℕ) → from device ≤ later device) → (ds : List Device) (cs : List Call) → CalmCalls from ds cs → CalmCalls later ds cs
calm-later from later f ds [] c = tt
calm-later from later f ds (x ∷ cs) c = (
  λ device clock h l m n k. c.0 device clock h l m n (omega (arith, f device)),
  calm-later (λ device. from device - length (given ds x)) (λ device. later device - length (given ds x)) (λ device. omega (arith, f device)) (after ds x) cs c.1,
)

pub calm-split : (from : ℕ → ℕ) (ds : List Device) (cs es : List Call) → CalmCalls from ds (cs ++ es)
    → CalmCalls from ds cs × CalmCalls (λ device. from device - length (states_given ds cs)) (after_calls ds cs) es
unfolding states_given after_calls
calm-split from ds [] es c = (tt, calm-later from (λ device. from device - 0) (λ device. omega arith) ds es c)
calm-split from ds (x ∷ cs) es c =
    let n : ℕ = length (given ds x) in
    let m : ℕ = length (states_given (after ds x) cs) in
    let k : length (given ds x ++ states_given (after ds x) cs) ≡ n + m = length-append (given ds x) (states_given (after ds x) cs) in
    let r = calm-split (λ device. from device - n) (after ds x) cs es c.1 in
    ((c.0, r.0), calm-later (λ device. from device - n - m) (λ device. from device - length (given ds x ++ states_given (after ds x) cs)) (λ device. omega arith) _ es r.1)

-- the calls of a restore are one run: its clocks are theirs, one after the other
pub calm-ran : (from : ℕ → ℕ) (ds : List Device) (cs : List Call) → Runs ds cs → CalmCalls from ds cs → CalmFrom from ds (states_given ds cs)
unfolding states_given
calm-ran from ds [] r c = λ device clock h l m n f. absurd (omega arith)
calm-ran from ds (x ∷ cs) r c =
    let e : after ds x ≡ run_devices ds (given ds x) = ap (λ (y : List Device × List ℕ). y.0) (run-one ds x r.0) in
    let q : CalmFrom (λ device. from device - length (given ds x)) (after ds x) (states_given (after ds x) cs) =
    calm-ran (λ device. from device - length (given ds x)) (after ds x) cs r.1 c.1 in
    calm-join ds (given ds x) (states_given (after ds x) cs) from c.0
    (subst (λ (es : List Device). CalmFrom (λ device. from device - length (given ds x)) es (states_given (after ds x) cs)) e q)

pub calm-pieces : (from : ℕ → ℕ) (ds : List Device) (cs : List Call) → Runs ds cs → CalmFrom from ds (states_given ds cs) → CalmCalls from ds cs
unfolding states_given
calm-pieces from ds [] r c = tt
calm-pieces from ds (x ∷ cs) r c =
    let e : after ds x ≡ run_devices ds (given ds x) = ap (λ (y : List Device × List ℕ). y.0) (run-one ds x r.0) in
    let rest : List ℕ = states_given (after ds x) cs in
    let q : CalmFrom (λ device. from device - length (given ds x)) (run_devices ds (given ds x)) rest = calm-back ds (given ds x) rest from c in (
      calm-front ds (given ds x) rest from c,
      calm-pieces (λ device. from device - length (given ds x)) (after ds x) cs r.1
          (subst (λ (es : List Device). CalmFrom (λ device. from device - length (given ds x)) es rest) (sym e) q),
    )
