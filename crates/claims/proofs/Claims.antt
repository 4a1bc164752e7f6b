-- Each claim of specs/Claims, under its name, from the theorem that proves it. Assumes nothing.
use mathlib.Core.Path.{refl}
use Rattle.bits.proofs.Groups.{group-bytes}
use Rattle.parts.specs.Parts.{part_of}
use Rattle.parts.proofs.Laws.{usable, whole-frames}
use Rattle.frame_laws.proofs.Grouped.{framed-groups}
use Rattle.frame_laws.proofs.RoundTrip.{written_read_lem, read-written}
use Rattle.subframes.proofs.Claims as subframes
use Rattle.schedule.proofs.Claims as light
use Rattle.schedule.proofs.Lit.{lit-count}
use Rattle.schedule.proofs.Visits.{visited}
use Rattle.device_light.proofs.Claims as device-light
use Rattle.lit_now.proofs.Answered.{lit-now-schedule}
use Rattle.current.proofs.Closed.{closed-form}
use Rattle.clocked.proofs.Lengths.{length-6972, length-6973, length-6974, length-6975}
use Rattle.claims.specs.Claims as claim
use Rattle.claims.proofs.Tables.{accepted-exactly}
use Rattle.claims.proofs.Chains as chains
use Rattle.claims.proofs.Edges as edges
use Rattle.claims.proofs.Demand as demand
use Rattle.claims.proofs.Watchdogs.{watchdogs-hold}
use Rattle.claims.proofs.Compared as compared
use Rattle.claims.proofs.RestoredSame.{restored_same_lem}
use Rattle.claims.proofs.Scheduled.{sum-over-schedule}
use Rattle.claims.proofs.Largest.{largest-totals}
use Rattle.claims.proofs.AnyRow.{any-row}
use Rattle.claims.proofs.Examples.{examples-hold}
use Rattle.claims.proofs.EdgeExamples.{edge-examples-hold}
use Rattle.claims.proofs.ClockExamples.{clock-examples-hold}
use Rattle.claims.proofs.WatchExamples.{watch-examples-hold}

pub accepted_exactly : claim.AcceptedExactly
accepted_exactly = accepted-exactly

pub written_read : claim.WrittenRead
written_read = written_read_lem

pub read_written : claim.ReadWritten
read_written = read-written

pub in_groups : claim.InGroups
in_groups = record { sizes = refl; bytes = refl; whole = group-bytes; framed = framed-groups }

pub step_modelled : claim.StepModelled
step_modelled = chains.step-modelled

pub call_modelled : claim.CallModelled
call_modelled = chains.call-modelled

pub frame_length : claim.FrameLength
frame_length = record { of6972 = length-6972; of6973 = length-6973; of6974 = length-6974; of6975 = length-6975 }

pub rising_edge : claim.RisingEdge
rising_edge = edges.rising-edge

pub sent_on : claim.SentOn
sent_on = edges.sent-on

pub demand_three : claim.DemandThree
demand_three = demand.demand-three

pub demand_three_expired : claim.DemandThreeExpired
demand_three_expired = demand.demand-three-expired

pub demand_three_each : claim.DemandThreeEach
demand_three_each = demand.demand-three-each

pub counted : claim.Counted
counted = demand.counted

pub restorable : claim.Restorable
restorable = demand.restorable

pub longest_wait : claim.LongestWait
longest_wait = demand.longest-wait

pub watchdogs : claim.Watchdogs
watchdogs = watchdogs-hold

pub room : claim.Room
room = chains.room

pub kept : claim.Kept
kept = chains.kept

pub flags : claim.Flags
flags = chains.flags

pub same_holds : claim.SameHolds
same_holds = compared.same-holds

pub holds_same : claim.HoldsSame
holds_same = compared.holds_same_lem

pub restored_same : claim.RestoredSame
restored_same = restored_same_lem

pub named : claim.Named
named = compared.named

pub frame_on : claim.FrameOn
frame_on part configuration global = subframes.frame_on_lem (part_of part) configuration global ((usable part).subframes configuration).0

pub window_lead : claim.WindowLead
window_lead part configuration global = subframes.window-lead (part_of part) configuration global ((usable part).subframes configuration).0

pub lit_clocks : claim.LitClocks
lit_clocks = record {
  numbers = light.lit-clocks;
  numbers_answered = light.lit-clocks-accepted;
  device = device-light.device-clocks;
  device_answered = device-light.device-clocks-accepted;
}

pub lit_at_position : claim.LitAtPosition
lit_at_position = record { now = lit-now-schedule; mux0 = chains.lit-mux0; frame = visited }

pub lit_count : claim.LitCount
lit_count = lit-count

pub sum_over_schedule : claim.SumOverSchedule
sum_over_schedule = sum-over-schedule

pub closed_form : claim.ClosedForm
closed_form = closed-form

pub period : claim.Period
period = whole-frames

pub largest : claim.Largest
largest = largest-totals

pub any_row : claim.AnyRow
any_row = any-row

pub examples_hold : claim.ExamplesHold
examples_hold = examples-hold

pub edge_examples_hold : claim.EdgeExamplesHold
edge_examples_hold = edge-examples-hold

pub clock_examples_hold : claim.ClockExamplesHold
clock_examples_hold = clock-examples-hold

pub watch_examples_hold : claim.WatchExamplesHold
watch_examples_hold = watch-examples-hold
