-- The log is safe by the laws of the layers below, whether there was memory for a disk or not; its text is that of the
-- pair's run.

use Rattle.std.proofs.Common.{[], arith, false, refl, subst}
use Rattle.end_pair.specs.Laws.{IsOfMoves}
use Rattle.end_pair.specs.Run as pair
use Rattle.tool_step.specs.End as equipment
use Rattle.tool_law.specs.Laws.{DidOf}
use Rattle.gl_base.proofs.Appending.{part_before, wrote_nothing}
use Rattle.host_node.specs.Host as host
use Rattle.message_end.specs.Core.{Step}
use Rattle.trace_log.specs.Log.{Happening}
use Rattle.line_world.specs.Run.{EquipmentView, equipment_start, host_start, trace_text}
use Rattle.line_world.specs.Safe.{HostDid, plans_of}
use Rattle.line_world.proofs.Claims.{safe}
use Rattle.line_world.proofs.Disks.{blank-empty, blank_spool, ends-by-no-store, first-is, hands-over, holds_empty, opens_empty, runs-over}
use Rattle.line_world.proofs.Events.{all-happen, all-have, no-loss, slice-happens}
use Rattle.line_world.proofs.running.run.Goals as goal

-- the laws hold whether there was memory for a disk or not
pub returns-in_default : goal.returns-in_default
returns-in_default g c =
    let events = c.args.schedule.now.events in
    let plans = c.args.plans.now in
    let fit = c.requires.plans in
    let blank = blank-empty plans.slots fit.slots_at_least (omega (arith, fit.slots_at_most)) in
    let moved =
    subst (λ (first : Step EquipmentView Happening).
    IsOfMoves (DidOf plans.equipment) (HostDid plans.host) (plans_of plans)
    (pair.log_of equipment.machine host.host_machine first (host_start plans.host) events))
    (first-is plans (blank_spool plans.slots) blank)
    (c.runs_are_moves.ensures plans.equipment (blank_spool plans.slots) plans.host tt (plans_of plans) events
    fit.equipment fit.host (holds_empty plans.slots (blank_spool plans.slots) blank) tt
    (opens_empty plans (blank_spool plans.slots) blank) tt
    (record { equipment_is = refl; host_is = refl }) (all-happen false ⊥ no-loss events c.requires.schedule.events)
    (all-have false events c.requires.schedule.events))
    in
    let courses =
    c.entries_are_of_courses.ensures equipment.machine host.host_machine (equipment_start plans)
    (host_start plans.host) events
    in
    record {
      text = part_before [] (trace_text plans c.args.schedule.now) wrote_nothing;
      world = tt;
      store = λ is. cc;
      safe = safe plans c.args.schedule.now fit c.laws_hold.ensures moved courses;
    }

pub run-end-requires-clause-events : goal.run-end-requires-clause-events
run-end-requires-clause-events g c =
    slice-happens false ⊥ no-loss c.as_slice.result.now c.args.schedule.now.events c.as_slice.ensures
    c.requires.schedule.events

pub run-end-requires-clause-equipment_store : goal.run-end-requires-clause-equipment_store
run-end-requires-clause-equipment_store g c = holds_empty c.args.plans.now.slots c.in-Ok.spool c.in-Ok.ensures

pub run-end-requires-clause-equipment_opens : goal.run-end-requires-clause-equipment_opens
run-end-requires-clause-equipment_opens g c = opens_empty c.args.plans.now c.in-Ok.spool c.in-Ok.ensures

pub returns : goal.returns
returns g c =
    let events = c.args.schedule.now.events in
    let plans = c.args.plans.now in
    let fit = c.requires.plans in
    let empty = c.in-Ok.ensures in
    let is = first-is plans c.in-Ok.spool empty in
    let moved =
    subst (λ (first : Step EquipmentView Happening).
    IsOfMoves (DidOf plans.equipment) (HostDid plans.host) (plans_of plans)
    (pair.log_of equipment.machine host.host_machine first (host_start plans.host) events)) is
    (c.runs_are_moves.ensures plans.equipment c.in-Ok.spool plans.host tt (plans_of plans) events fit.equipment
    fit.host (holds_empty plans.slots c.in-Ok.spool empty) tt (opens_empty plans c.in-Ok.spool empty) tt
    (record { equipment_is = refl; host_is = refl }) (all-happen false ⊥ no-loss events c.requires.schedule.events)
    (all-have false events c.requires.schedule.events))
    in
    let courses =
    c.entries_are_of_courses.ensures equipment.machine host.host_machine (equipment_start plans)
    (host_start plans.host) events
    in
    let text =
    runs-over plans c.args.schedule.now _ is _ c.as_slice.ensures _ c.run-end.result.0 c.run-end.ensures.text
    in
    record {
      text = text;
      world =
          hands-over plans c.args.schedule.now _ is _ c.as_slice.ensures _ c.run-end.result.0 c.run-end.result.1
          c.run-end.ensures.world;
      store =
          ends-by-no-store plans c.args.schedule.now _ c.run-end.result.0
          (c.never_full.ensures equipment.machine host.host_machine (equipment_start plans) (host_start plans.host)
          events (λ s input now. refl) (λ s input now. refl))
          text;
      safe = safe plans c.args.schedule.now fit c.laws_hold.ensures moved courses;
    }
