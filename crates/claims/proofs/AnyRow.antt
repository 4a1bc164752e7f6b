-- The claim about any row, from the model's theorems and the laws of light. Assumes nothing.
use mathlib.Core.Path.{◌≡◌, refl, subst, ◌∙◌}
use mathlib.Core.Bool.{Bool, false}
use mathlib.Core.List.{List, ◌++◌, map, flatten, append-nil}
use Prim.Native.Nat.{ℕ, suc, ◌+◌, ◌-◌, ◌*◌, ◌^◌, ◌≤◌, ◌<◌}
use native.Mathlib.Nat.{mul-pos}
use native.Mathlib.Omega.{arith}
use lib.Dec.{leb, ltb, lit<, ltb→lt}
use lib.ListN.{length, length-map, length-replicate, take, get_or}
use lib.Pow.{pow_mono}
use Rattle.parts.specs.Parts.{Part, outputs, multiplex, glb4, subframes, phase_count}
use Rattle.tables.proofs.Table.{every_place-at}
use Rattle.parts.specs.Wire.{State, Edge, lows, clocked}
use Rattle.parts.specs.declared.command.Command.{Command}
use Rattle.parts.specs.declared.command.Command.TheVariants.{Individual}
use Rattle.parts.proofs.Laws.{usable, usable-row}
use Rattle.parts.proofs.Frames.{frame-clocks-pos}
use Rattle.subframes.proofs.Claims.{frame_on_lem, window-lead}
use Rattle.machine.proofs.Machine.{chain-append, length-chain}
use Rattle.model.specs.Lists.{All, Pairwise}
use Rattle.model.specs.Device.{Device, step_device, run_chain, registers_in}
use Rattle.model.specs.Set.{Own, Wide, OwnProper}
use Rattle.model.specs.Restore.{pieces_of, pieces_states, states_until, returns_of}
use Rattle.model.proofs.Lists.{All-replicate}
use Rattle.model.proofs.Frame.{quiet-sends}
use Rattle.model.proofs.Restore.{Ready, pieces-sent, sent-four}
use Rattle.clocked.specs.Clock.{Clocked, registers_of, Placed, Running, devices_in, last_boundary}
use Rattle.clocked.specs.Cut.{CutClocked}
use Rattle.clocked.proofs.Erase.{returned}
use Rattle.watchdog.specs.Watched.{Watched, clocks_in, run_watched, expires, expired_within}
use Rattle.watchdog.specs.Faded.{faded}
use Rattle.watchdog.proofs.Faint.{returned as watched-returned}
use Rattle.watchdog.proofs.Restored.{cut-watched, restored-watched}
use Rattle.claims.specs.Claims.{RowRestores, AnyRow, four_banks, one_bank, ones}

module _ (p : Part) (os : List Own) (ws : List Watched) (edge : Command → Edge) (gap tail : Command → List Bool) (last : List Bool)
    (some : 1 ≤ length ws) (few : length ws ≤ 1023) (running : Running p) (ready : Pairwise (Ready p) os (registers_in (devices_in (clocks_in ws)))) (placed : All Placed (clocks_in ws)) where
  abbrev given : List State
  given = pieces_states p os edge gap tail ++ lows last

  all-returned : (run_watched ws (pieces_states p os edge gap tail ++ lows last)).1 ≡ flatten (map clocked (returns_of tail (registers_in (devices_in (clocks_in ws)))))
  all-returned =
      let ds : List Device = devices_in (clocks_in ws) in
      let n : length ds ≡ length ws = length-map (clocks_in ws) (λ (c : Clocked). c.device) ∙ length-map ws (λ (w : Watched). w.clocked) in
      let m : length (registers_in ds) ≡ length ds = length-map ds (λ (d : Device). d.registers) in
      let one : 1 ≤ length ds = omega (arith, n, some) in
      let then : List Device = (run_chain ds (pieces_states p os edge gap tail)).0 in
      watched-returned ws given
      ∙ returned (clocks_in ws) given
      ∙ rw (
        chain-append step_device ds (pieces_states p os edge gap tail) (lows last),
        quiet-sends last then (rw (length-chain step_device ds (pieces_states p os edge gap tail)) one),
        append-nil,
        pieces-sent ds (pieces_of p os edge gap tail) one,
        sent-four p os edge gap tail ds one (omega (arith, n, m, few)) ready,
      )

  all-cut : (k device : ℕ) (o : Own) (z : Watched) → 1 ≤ device → device ≤ length os → k ≤ length (pieces_states p os edge gap tail ++ lows last)
      → ((clock : ℕ) → states_until p os gap tail Individual device ≤ clock → clock ≤ k → expires ws (pieces_states p os edge gap tail ++ lows last) clock device ≡ false)
      → let after : ℕ → Clocked = λ j. (get_or (run_watched ws (take j (pieces_states p os edge gap tail ++ lows last))).0 (device - 1) z).clocked in
      CutClocked (λ c j. leb (states_until p os gap tail c device) j) k (last_boundary after k) (get_or os (device - 1) o)
      (faded (expired_within ws (pieces_states p os edge gap tail ++ lows last) k device) (registers_of (get_or ws (device - 1) z).clocked)) (registers_of (after k))
  all-cut k device o z one within l calm =
      let after : ℕ → Clocked = λ j. (get_or (run_watched ws (take j given)).0 (device - 1) z).clocked in
      let e : suc (device - 1) ≡ device = omega arith in
      subst (λ (n : ℕ). CutClocked (λ c j. leb (states_until p os gap tail c n) j) k (last_boundary after k) (get_or os (device - 1) o)
      (faded (expired_within ws given k n) (registers_of (get_or ws (device - 1) z).clocked)) (registers_of (after k))) e
      (cut-watched p os edge gap tail last ws ready k (device - 1) o z (omega arith) l (rw e calm))

  row-restores : RowRestores p os ws edge gap tail last
  row-restores = record {
    restored = λ returns calm. restored-watched p os edge gap tail last ws ready some (omega arith) running placed calm returns;
    returned = all-returned;
    cut = all-cut;
  }

ones-proper : (p : Part) → Wide p → OwnProper p (ones p)
ones-proper p w =
    record {
      wide = w;
      configuration = lit< tt;
      global = lit< tt;
      calibration = All-replicate (λ v. v < 2 ^ 8) p.banks 1 (lit< tt);
      calibration_length = length-replicate p.banks 1;
      individual = All-replicate (λ v. v < 2 ^ p.width) (outputs p) 1 (pow_mono w.width);
      individual_length = length-replicate (outputs p) 1 ∙ omega arith;
    }

-- its four numbers of subframes are some
four-running : Running four_banks
four-running configuration =
    let k : ℕ = multiplex configuration + 2 * glb4 configuration in
    let l : k < 4 = omega arith in
    let n : 0 < subframes four_banks configuration = ltb→lt 0 (subframes four_banks configuration) (every_place-at (λ k n. ltb 0 n) four_banks.subframes_by tt k l) in
    let m : 0 < phase_count configuration * 256 = omega arith in
    mul-pos n m

pub any-row : AnyRow
any-row = record {
  restores = row-restores;
  frame_on = λ p configuration global h. frame_on_lem p configuration global h;
  window_lead = λ p configuration global from w h. window-lead p configuration global h from w;
  made_up = (ones-proper four_banks (record { width = lit< tt; banks = lit< tt }), ones-proper one_bank (record { width = lit< tt; banks = lit< tt }));
  running = (four-running, (λ p u configuration. frame-clocks-pos p u configuration));
  parts = usable;
  fifth = usable-row one_bank refl refl refl tt tt;
}
