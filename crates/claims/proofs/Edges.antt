-- A rising edge of load, seen in the model: the phase after a line history is that of the model's device, whose laws say which readings it takes.
-- What a device sends on of a frame is `framed`, for any edge. Assumes nothing.
use mathlib.Core.Path.{◌≡◌, sym, ap, ◌∙◌}
use mathlib.Core.Bool.{Bool}
use mathlib.Core.List.{List, [], ◌∷◌, ◌++◌, map, flatten, append-nil}
use Prim.Native.Nat.{ℕ, ◌<◌}
use native.Mathlib.Omega.{arith}
use Rattle.parts.specs.Parts.{part_of, multiplex}
use Rattle.parts.specs.Wire.{State, high, Edge, state_code, clocked_at, frame}
use Rattle.parts.proofs.Laws.{usable}
use Rattle.parts.proofs.Rows.{slice-bits-pos}
use Rattle.phases.specs.Phases.{phase_of, window_of}
use Rattle.phases.proofs.Places.{phase-small}
use Rattle.device.specs.declared.device.Device.{Device}
use Rattle.model.specs.Device.{frame_states, slice_length}
use Rattle.model.specs.Device as model
use Rattle.model.proofs.Wire.{map-state_at-state_code}
use Rattle.model.specs.Edge.{RisesAs}
use Rattle.model.proofs.Edge.{edge-read, edge-heard, edge-lost, one-reading}
use Rattle.model.proofs.Frame.{framed}
use Rattle.link.specs.View.{device_of}
use Rattle.link.proofs.View.{Sound}
use Rattle.link.proofs.Device.{window_same, run_agree, run-sent}
use Rattle.claims.specs.Claims.{phase_after, lows_seen, RisingEdge, SentOn}

-- the phase after line states is the model's
phase-same : (d : Device) (ls : List State) → Sound d → phase_after d ls ≡ (model.run_device (device_of d) ls).0.phase
phase-same d ls o = ap (λ (x : model.Device × List State). x.0.phase) (rw map-state_at-state_code at (run_agree d (map state_code ls) o))

window-view : (d : Device) → model.window (device_of d).phase ≡ window_of (phase_of d.place)
unfolding device_of
window-view d = window_same d.registers (phase_of d.place)

module _ (d : Device) (ls : List State) (first : Bool) (w : ℕ) (o : Sound d) (h : phase_after d ls ≡ model.hunting w) where
  small : model.window (device_of d).phase < 512
  small = rw window-view (phase-small d.place)

  hunts : (model.run_device (device_of d) ls).0.phase ≡ model.hunting w
  hunts = sym (phase-same d ls o) ∙ h

  heard-view : (e : Edge) (got : List Bool) → RisesAs e (lows_seen d ls) first got → phase_after d (ls ++ high first ∷ []) ≡ model.begun got
  heard-view e got r = phase-same d (ls ++ high first ∷ []) o ∙ edge-heard (device_of d) ls first w small hunts e got (rw window-view r)

  lost-view : ((e : Edge) (got : List Bool) → RisesAs e (lows_seen d ls) first got → ⊥) → phase_after d (ls ++ high first ∷ []) ≡ model.lost
  lost-view none = phase-same d (ls ++ high first ∷ []) o ∙ edge-lost (device_of d) ls first w small hunts (rw window-view none)

pub rising-edge : RisingEdge
rising-edge = record {
  one = λ ls first e f got had r q. one-reading e f _ first got had r q;
  accepted = λ d ls first e got a f r. phase-same d (ls ++ high first ∷ []) (record { fit = f; arrays = a }) ∙ edge-read (device_of d) ls first e got r;
  heard = λ d ls first w e got a f h r. heard-view d ls first w (record { fit = f; arrays = a }) h e got r;
  lost = λ d ls first w a f h none. lost-view d ls first w (record { fit = f; arrays = a }) h none;
}

pub sent-on : SentOn
unfolding device_of frame_states flatten slice_length
sent-on d e c n slice behind tail a f h l =
    let o : Sound d = record { fit = f; arrays = a } in
    let p = slice-bits-pos (part_of d.registers.part) (usable d.registers.part) c (multiplex d.registers.configuration) in
    let k = framed e (device_of d) c n slice (behind ∷ []) tail h (omega (arith, p, l)) l in
    run-sent d (clocked_at e (frame c n (slice ++ behind) tail)) o ∙ ap (λ (x : model.Device × List State). map state_code x.1) (rw append-nil at k)
