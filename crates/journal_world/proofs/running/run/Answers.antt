-- The log is safe by the laws of the layers below, whether there was memory for the disks or not; its text is that of
-- the pair's run.

use Rattle.std.proofs.Common.{[], true}
use Rattle.gl_base.proofs.Appending.{part_before, wrote_nothing}
use Rattle.line_world.proofs.Disks.{first-is, holds_empty, opens_empty}
use Rattle.line_world.proofs.Events.{slice-happens}
use Rattle.journal_world.specs.Run.{trace_text}
use Rattle.journal_world.proofs.Disks.{hands-over, holds-journal, journal-first, opens-journal, runs-over}
use Rattle.journal_world.proofs.SafeRuns.{is-safe}
use Rattle.journal_world.proofs.running.run.Goals as goal

pub run-end-requires-clause-events : goal.run-end-requires-clause-events
run-end-requires-clause-events g c =
    slice-happens true (Unit {0}) (λ is. tt) c.as_slice.result.now c.args.schedule.now.events c.as_slice.ensures
    c.requires.schedule.events

pub run-end-requires-clause-equipment_store : goal.run-end-requires-clause-equipment_store
run-end-requires-clause-equipment_store g c = holds_empty c.args.plans.now.slots c.in-Ok.spool c.in-Ok.ensures

pub run-end-requires-clause-equipment_opens : goal.run-end-requires-clause-equipment_opens
run-end-requires-clause-equipment_opens g c = opens_empty c.args.plans.now c.in-Ok.spool c.in-Ok.ensures

pub run-end-requires-clause-host_store : goal.run-end-requires-clause-host_store
run-end-requires-clause-host_store g c =
    holds-journal c.args.slots c.in-Ok-empty_spool.journal c.in-Ok-empty_spool.ensures

pub run-end-requires-clause-host_opens : goal.run-end-requires-clause-host_opens
run-end-requires-clause-host_opens g c =
    opens-journal c.args.plans.now.host c.args.slots c.in-Ok-empty_spool.journal c.in-Ok-empty_spool.ensures

pub returns-in_default : goal.returns-in_default
returns-in_default g c = record {
  text = part_before [] (trace_text c.args.plans.now c.args.slots c.args.schedule.now) wrote_nothing;
  world = tt;
  safe =
      is-safe c.args.plans.now c.args.slots c.args.schedule.now c.requires.plans c.requires.some c.requires.most
      c.requires.schedule c.journal_laws_hold.ensures c.runs_are_moves.ensures c.entries_are_of_courses.ensures;
}

pub returns-in_default-empty_spool : goal.returns-in_default-empty_spool
returns-in_default-empty_spool g c = record {
  text = part_before [] (trace_text c.args.plans.now c.args.slots c.args.schedule.now) wrote_nothing;
  world = tt;
  safe =
      is-safe c.args.plans.now c.args.slots c.args.schedule.now c.requires.plans c.requires.some c.requires.most
      c.requires.schedule c.journal_laws_hold.ensures c.runs_are_moves.ensures c.entries_are_of_courses.ensures;
}

pub returns : goal.returns
returns g c =
    let plans = c.args.plans.now in
    let slots = c.args.slots in
    let is = first-is plans c.in-Ok.spool c.in-Ok.ensures in
    let is_there = journal-first plans.host slots c.in-Ok-empty_spool.journal c.in-Ok-empty_spool.ensures in
    record {
      text =
          runs-over plans slots c.args.schedule.now _ is _ is_there _ c.as_slice.ensures _ c.run-end.result.0
          c.run-end.ensures.text;
      world =
          hands-over plans slots c.args.schedule.now _ is _ is_there _ c.as_slice.ensures _ c.run-end.result.0
          c.run-end.result.1 c.run-end.ensures.world;
      safe =
          is-safe c.args.plans.now c.args.slots c.args.schedule.now c.requires.plans c.requires.some c.requires.most
          c.requires.schedule c.journal_laws_hold.ensures c.runs_are_moves.ensures c.entries_are_of_courses.ensures;
    }
