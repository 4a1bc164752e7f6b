-- The claims about watchdogs of lent records, from the laws of `watchdog`: an accepted run of records is a run of the model's chain with watchdogs.
-- Assumes nothing.
use mathlib.Core.Path.{◌≡◌, sym, ap, ◌∙◌}
use mathlib.Core.Bool.{true}
use mathlib.Core.List.{List, [], ◌∷◌, map}
use Prim.Native.Nat.{ℕ, ◌-◌, ◌≤◌, ◌<◌}
use native.Mathlib.Omega.{arith}
use lib.Dec.{leb}
use lib.ListN.{length, length-map, take, get_or, get_or-map}
use borrow.Author.Tests.{eq-eqb, leb-true}
use Rattle.tables.proofs.Booleans.{and_both}
use Rattle.parts.specs.Wire.{State, state_at}
use Rattle.watch.specs.Watch.{is_bit, is_limit}
use Rattle.watch.specs.declared.watch.Watch.{Watch}
use Rattle.device.proofs.Kept.{watch-of}
use Rattle.device.specs.declared.device.Device.{Device}
use Rattle.calls.specs.Chain.{blank}
use Rattle.calls.specs.Calls.{run_refusal, run_devices, returned}
use Rattle.calls.specs.History.{run, refusal_of}
use Rattle.calls.specs.Expiry.{expires}
use Rattle.calls.proofs.Accepted.{Accepted, accepted-run}
use Rattle.model.specs.Lists.{All}
use Rattle.model.proofs.Lists.{all-below, All-take, take-map}
use Rattle.clocked.specs.Clock.{Clocked, run_clocked}
use Rattle.watchdog.specs.Watched.{Watched, clocks_in, run_watched, Disabled}
use Rattle.watchdog.specs.Faded.{faint}
use Rattle.watchdog.specs.Still.{Stopped, sent_by}
use Rattle.watchdog.proofs.Faint.{erased, returned as watched-returned}
use Rattle.watchdog.proofs.Calm.{disabled-clocked}
use Rattle.watchdog.proofs.Still.{expires-stopped}
use Rattle.link.specs.View.{device_of, clocked_of, watched_of, Arrays}
use Rattle.link.proofs.View.{Sound}
use Rattle.link.proofs.Device.{through-agree}
use Rattle.link.proofs.Modelled.{all_sound}
use Rattle.link.proofs.Expiry.{clocks-seen, expires-same}
use Rattle.claims.specs.Claims.{Clear, Watchdogs}

module _ (ds : List Device) (ss out : List ℕ) (arrays : All Arrays ds) (taken : refusal_of ds (run ss out) ≡ 0) where
  accepted : Accepted ds ss (length out)
  unfolding refusal_of
  accepted = accepted-run ds ss (length out) (eq-eqb (run_refusal ds ss (length out)) 0 taken)

  sound : All Sound ds
  sound = all_sound ds accepted.fit arrays

  below : All (λ s. s < 4) ss
  below = all-below 4 ss accepted.below

  abbrev dogs : List Watched
  dogs = map watched_of ds

  abbrev states : List State
  states = map state_at ss

  devices-seen : map clocked_of (run_devices ds ss) ≡ clocks_in (run_watched dogs states).0
  devices-seen = sym (clocks-seen (run_devices ds ss)) ∙ ap (λ (x : List Watched × List State). clocks_in x.0) (through-agree ds ss sound below)

  returns-seen : map state_at (returned ds ss) ≡ (run_clocked (map clocked_of ds) states).1
  returns-seen =
      ap (λ (x : List Watched × List State). x.1) (through-agree ds ss sound below) ∙ watched-returned dogs states
      ∙ ap (λ (cs : List Clocked). (run_clocked cs states).1) (clocks-seen ds)

  limited : (es : List Device) → All Sound es → All (λ w. 1 ≤ w.watch.limit) (map watched_of es)
  limited [] o = tt
  limited (e ∷ es) o =
      let w : Watch = e.registers.watch in
      let f = and_both (is_bit w.bit) _ (watch-of e o.0.fit) in
      let g = and_both (is_limit w.limit) _ f.1 in
      (leb-true 1 w.limit (and_both (leb 1 w.limit) (leb w.limit 2000000) g.0).0, limited es o.1)

  disabled : (es : List Device) → All (λ d. Clear d.registers.configuration d) es → All Disabled (map watched_of es)
  unfolding device_of
  disabled [] h = tt
  disabled (e ∷ es) h = (h.0, disabled es h.1)

  clear-seen : ((clock : ℕ) → 1 ≤ clock → clock ≤ length ss → All (λ d. Clear d.registers.configuration d) (run_devices ds (take clock ss)))
      → ◌≡◌ {A = List Clocked × List State} (map clocked_of (run_devices ds ss), map state_at (returned ds ss)) (run_clocked (map clocked_of ds) states)
  clear-seen h =
      let n : length states ≡ length ss = length-map ss state_at in
      let q : (clock : ℕ) → 1 ≤ clock → clock ≤ length states → All Disabled (run_watched dogs (take clock states)).0 =
      λ clock a b.
      rw (take-map state_at clock ss, ← through-agree ds (take clock ss) sound (All-take (λ s. s < 4) clock ss below))
      (disabled (run_devices ds (take clock ss)) (h clock a (omega arith))) in
      let e : map clocked_of (run_devices ds ss) ≡ (run_clocked (map clocked_of ds) states).0 =
      devices-seen ∙ disabled-clocked dogs states (limited ds sound) q ∙ ap (λ (cs : List Clocked). (run_clocked cs states).0) (clocks-seen ds) in
      rw (e, returns-seen)

  erased-seen : map faint (map clocked_of (run_devices ds ss)) ≡ map faint (run_clocked (map clocked_of ds) states).0
  erased-seen = ap (map faint) devices-seen ∙ erased dogs states ∙ ap (λ (cs : List Clocked). map faint (run_clocked cs states).0) (clocks-seen ds)

  stopped-seen : (clock device : ℕ) → 1 ≤ device → device ≤ length ds → expires ds ss clock device ≡ true
      → Stopped (watched_of (get_or ds (device - 1) blank)) (sent_by (take (device - 1) dogs) (take clock states))
  stopped-seen clock device h l e =
      let n : length dogs ≡ length ds = length-map ds watched_of in
      rw (← get_or-map watched_of ds (device - 1) blank)
      (expires-stopped dogs states clock device (watched_of blank) h (omega arith) (expires-same ds ss sound below clock device h l ∙ e))

pub watchdogs-hold : Watchdogs
watchdogs-hold = record {
  clear = λ ds ss out a e h. clear-seen ds ss out a e h;
  expiry = λ ds ss out a e. (erased-seen ds ss out a e, returns-seen ds ss out a e);
  stopped = λ ds ss out clock device a e h l x. stopped-seen ds ss out a e clock device h l x;
}
