-- The fours, and then the values that are left. Assumes nothing.
use mathlib.Core.Path.{◌≡◌, ap, ap₂, ◌∙◌}
use mathlib.Core.List.{List, []}
use Prim.Native.Nat.{ℕ, ◌+◌, ◌*◌, ◌/◌, ◌≤◌}
use native.Mathlib.Omega.{arith}
use lib.ListN.{length, get_or, take, drop}
use Rattle.bits.specs.Bits.{number, fields}
use Rattle.bits.proofs.Fits.{room-more}
use Rattle.packing.proofs.Chunks as chunks
use Rattle.packing.proofs.Writing as writing
use Rattle.packing.proofs.Writing.{rest-room}
use Rattle.packing.proofs.groups.push_fours.Goals as goal

pub loop-four-init : goal.loop-four-init
loop-four-init g c = writing.pushed_none _

pub push_wide-behind-requires : goal.push_wide-behind-requires
push_wide-behind-requires g c = let n = length c.args.values.now in
    let i = c.loop-four.four-index in
    (omega arith, omega (arith, c.loop-four.invariant.count, room-more g.row.WIDTH 4 (i * 4) n (omega (arith, c.as_chunks.ensures.front_len))))

pub push_each-requires : goal.push_each-requires
push_each-requires g c = let vs = c.args.values.now in
    let all : c.loop-four.four-index * 4 ≡ length vs / 4 * 4 = omega (arith, c.as_chunks.ensures.front_len) in
    let rest = rest-room g.row.WIDTH vs _ (length vs / 4 * 4) (omega arith) c.as_chunks.ensures.back in
    (omega arith, omega (arith, c.loop-four.invariant.count, ap (λ (n : ℕ). n * g.row.WIDTH) all, rest))

pub loop-four-preserved : goal.loop-four-preserved
loop-four-preserved g c = let a = c.args in
    let i = c.loop-four.four-index in
    let room : i * 4 + 4 ≤ length a.values.now = omega (arith, c.as_chunks.ensures.front_len) in
    let number_is : c.number_of.result ≡ number (fields g.row.WIDTH (take 4 (drop (i * 4) a.values.now)))
    = c.number_of.ensures ∙ ap₂ (λ (w : ℕ) (z : List ℕ). number (fields w z)) c.new-lanes.ensures
    (ap (λ (z : List (List ℕ)). get_or z i []) c.as_chunks.ensures.front ∙ chunks.chunk_at 4 _ i a.values.now [] (omega arith)) in
    let next : (i + 1) * 4 ≡ i * 4 + 4 = omega arith in
    rw next (writing.pushed_more g.row.WIDTH 4 a.values.now (i * 4) c.loop-four.invariant
    (writing.pushed-group g.row.WIDTH 4 a.values.now (i * 4) room number_is c.push_wide-behind.ensures))

pub returns : goal.returns
returns g c = let a = c.args in
    let all : c.loop-four.four-index * 4 ≡ length a.values.now / 4 * 4 = omega (arith, c.as_chunks.ensures.front_len) in
    writing.pushed-rest g.row.WIDTH a.values.now _ (length a.values.now / 4 * 4) (omega arith) c.as_chunks.ensures.back
    (rw all at c.loop-four.invariant) c.push_each.ensures
