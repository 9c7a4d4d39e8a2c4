-- A run by how it ends: at the start, at a write, at an event, at its close. Past each event the rest leads to the
-- whole.

use Rattle.std.proofs.Common.{◌≤◌, ◌+◌, List, length, drop, refl, ap, arith}
use Rattle.std.proofs.lemmas.List.{drop_all}
use Rattle.line_schedule.specs.declared.event.Event.{Event}
use Rattle.message_end.specs.Core.{step_in}
use Rattle.end_pair.specs.declared.answers.RunEnd.TheVariants as end
use Rattle.end_pair.specs.Kept.{seen}
use Rattle.end_pair.specs.Run.{piece_of}
use Rattle.end_pair.specs.World.{after_event, after_events, begun}
use Rattle.end_pair.proofs.Progress.{at_first, closed, kept, kept_back, never_began, next_event, past_event, of_event, put_failed, stopped}
use Rattle.end_pair.proofs.running.run.Goals as goal

pub events-init : goal.events-init
events-init g c =
    let e = g.E.End in
    let h = g.H.End in
    at_first (begun e.machine h.machine (step_in (e.start c.args.equipment.now c.args.equipment_store))
    (step_in (h.start c.args.host.now c.args.host_store)))
    (after_events e.machine h.machine c.args.events.now) (seen e.means h.means c.in-Ok.world)
    _ _ _ c.new-page.ensures c.new-lines.ensures
    c.in-Ok.ensures.world c.in-Ok.ensures.lines

pub returns-in-Err : goal.returns-in-Err
returns-in-Err g c =
    let e = g.E.End in
    let h = g.H.End in
    record {
      text =
          never_began _ (begun e.machine h.machine (step_in (e.start c.args.equipment.now c.args.equipment_store))
          (step_in (h.start c.args.host.now c.args.host_store)))
          (after_events e.machine h.machine c.args.events.now) c.new-lines.result
          c.new-page.result.bytes.items c.start.new.lines c.as_slice.result.now c.in-Err.how c.stop.result
          c.new-lines.ensures c.new-page.ensures c.as_slice.ensures c.in-Err.ensures.lines c.in-Err.ensures.stops
          c.in-Err.ensures.powered c.stop.ensures;
      world =
          kept_back (seen e.means h.means)
          (piece_of e.machine h.machine (step_in (e.start c.args.equipment.now c.args.equipment_store))
          (step_in (h.start c.args.host.now c.args.host_store)) c.args.events.now).world
          _ _ c.in-Err.how c.stop.result c.in-Err.ensures.stops c.stop.ensures;
    }

pub returns-in_default-clause-text : goal.returns-in_default-clause-text
returns-in_default-clause-text g c =
    put_failed _ _ _ _ _ _ _ c.put.new.self.bytes.items c.events.invariant c.as_slice-in-events.ensures
    c.in_default.ensures.passes

pub returns-in_default-step : goal.returns-in_default-step
returns-in_default-step g c =
    let e = g.E.End in
    let h = g.H.End in
    let i = c.events.event-index in
    let next =
    ap (λ (events : List Event). after_events e.machine h.machine events (seen e.means h.means c.events.world))
    (next_event _ _ i c.event-item.result refl c.events-test.true c.event-item.is)
    in
    record {
      text =
          stopped _ _ _ _ _ _ _ _ c.events.invariant _ c.put.new.self.bytes.items _ c.step.new.lines _
          (after_event e.machine h.machine c.event-item.result (seen e.means h.means c.events.world))
          (after_events e.machine h.machine (drop (i + 1) c.args.events.now))
          (seen e.means h.means c.step.new.self) c.step.result c.stop-in_default-step.result
          c.as_slice-in-events.ensures
          c.in-Done.ensures.passes c.truncate.ensures next c.in_default-step.not-Went
          (of_event (after_event e.machine h.machine c.event-item.result (seen e.means h.means c.events.world))
          (seen e.means h.means c.step.new.self) _ c.step.new.lines c.step.result c.step.ensures.powered
          c.step.ensures.lines c.step.ensures.world)
          c.as_slice-in_default-step.ensures c.stop-in_default-step.ensures;
      world = kept_back (seen e.means h.means)
          (piece_of e.machine h.machine (step_in (e.start c.args.equipment.now c.args.equipment_store))
          (step_in (h.start c.args.host.now c.args.host_store)) c.args.events.now).world _ _ c.step.result
          c.stop-in_default-step.result c.in_default-step.not-Went c.stop-in_default-step.ensures;
    }

pub events-preserved : goal.events-preserved
events-preserved g c =
    let e = g.E.End in
    let h = g.H.End in
    let i = c.events.event-index in
    let next =
    ap (λ (events : List Event). after_events e.machine h.machine events (seen e.means h.means c.events.world))
    (next_event _ _ i c.event-item.result refl c.events-test.true c.event-item.is)
    in
    past_event _ _ _ _ _ _ c.events.invariant _ c.put.new.self.bytes.items _ c.step.new.lines
    (after_event e.machine h.machine c.event-item.result (seen e.means h.means c.events.world))
    (after_events e.machine h.machine (drop (i + 1) c.args.events.now)) (seen e.means h.means c.step.new.self)
    c.as_slice-in-events.ensures c.in-Done.ensures.passes c.truncate.ensures next
    (record { puts = c.in-Went.ensures.lines; world = c.in-Went.ensures.world })

pub returns-in-Whole : goal.returns-in-Whole
returns-in-Whole g c =
    let e = g.E.End in
    let h = g.H.End in
    let past : length c.args.events.now ≤ c.events.event-index =
    omega (arith, c.events-test.false) in
    let over =
    ap (λ (events : List Event). after_events e.machine h.machine events (seen e.means h.means c.events.world))
    (drop_all c.events.event-index c.args.events.now past)
    in
    let whole =
    closed _ _ _ _ _ _ c.events.invariant (seen e.means h.means c.events.world) c.close-went.new.lines _
    c.moment.result c.close-went.result end.Whole over c.moment.ensures c.close-went.ensures.puts c.as_slice-2.ensures
    c.in-Whole.ensures
    in
    record { text = whole.0; world = whole.1 }

pub returns : goal.returns
returns g c =
    let e = g.E.End in
    let h = g.H.End in
    let past : length c.args.events.now ≤ c.events.event-index =
    omega (arith, c.events-test.false) in
    let over =
    ap (λ (events : List Event). after_events e.machine h.machine events (seen e.means h.means c.events.world))
    (drop_all c.events.event-index c.args.events.now past)
    in
    record {
      text =
          (closed _ _ _ _ _ _ c.events.invariant (seen e.means h.means c.events.world) c.close-went.new.lines _
          c.moment.result c.close-went.result c.stop-2.result over c.moment.ensures c.close-went.ensures.puts
          c.as_slice-2.ensures c.stop-2.ensures).0;
      world = kept (seen e.means h.means)
          (piece_of e.machine h.machine (step_in (e.start c.args.equipment.now c.args.equipment_store))
          (step_in (h.start c.args.host.now c.args.host_store)) c.args.events.now).world c.stop-2.result
          c.in_default-stop.not-Whole;
    }
