-- Event by event: one ends the run, or all are carried out and what is behind them goes on.

use Rattle.std.proofs.Common.{◌++◌, ◌+◌, ◌≤◌, List, length, drop, refl, ap, subst, arith}
use Rattle.std.proofs.lemmas.List.{drop_all}
use Rattle.end_pair.specs.Kept.{seen}
use Rattle.end_pair.specs.World.{Piece, after_event, after_events}
use Rattle.end_pair.proofs.Progress.{next_event}
use Rattle.line_schedule.specs.declared.event.Event.{Event}
use Rattle.line_world.specs.Making.{Leads}
use Rattle.line_world.proofs.Carried.{carries-stop, leads-on, leads-stop}
use Rattle.line_world.proofs.making.Making.carry_all.Goals as goal

pub returns-in_default : goal.returns-in_default
returns-in_default g c =
    let e = g.E.End in
    let h = g.H.End in
    let i = c.events.event-index in
    λ rest whole before leads.
    let next =
    ap (λ (events : List Event). after_events e.machine h.machine (events ++ rest)
    (seen e.means h.means c.events.self.world))
    (next_event _ _ i c.event-item.result refl c.events-test.true c.event-item.is)
    in
    carries-stop c.carry.result _ whole (seen e.means h.means c.carry.new.self.world) before c.carry.new.self.counts
    c.in_default.not-Went
    (leads-stop (after_event e.machine h.machine c.event-item.result (seen e.means h.means c.events.self.world))
    (after_events e.machine h.machine (drop (i + 1) c.args.events.now ++ rest))
    (seen e.means h.means c.carry.new.self.world) c.events.self.counts c.carry.new.self.counts c.carry.result whole
    before c.in_default.not-Went c.carry.ensures
    (subst (λ (left : Piece e.State h.State). Leads left c.events.self.counts whole before) next
    (c.events.invariant rest whole before leads)))

pub events-preserved : goal.events-preserved
events-preserved g c =
    let e = g.E.End in
    let h = g.H.End in
    let i = c.events.event-index in
    λ rest whole before leads.
    let next =
    ap (λ (events : List Event). after_events e.machine h.machine (events ++ rest)
    (seen e.means h.means c.events.self.world))
    (next_event _ _ i c.event-item.result refl c.events-test.true c.event-item.is)
    in
    leads-on (after_event e.machine h.machine c.event-item.result (seen e.means h.means c.events.self.world))
    (after_events e.machine h.machine (drop (i + 1) c.args.events.now ++ rest))
    (seen e.means h.means c.carry.new.self.world) c.events.self.counts c.carry.new.self.counts whole before
    c.in-Went.ensures
    (subst (λ (left : Piece e.State h.State). Leads left c.events.self.counts whole before) next
    (c.events.invariant rest whole before leads))

pub returns : goal.returns
returns g c =
    let e = g.E.End in
    let h = g.H.End in
    let past : length c.args.events.now ≤ c.events.event-index = omega (arith, c.events-test.false) in
    λ rest whole before leads.
    subst (λ (events : List Event).
    Leads (after_events e.machine h.machine (events ++ rest) (seen e.means h.means c.events.self.world))
    c.events.self.counts whole before)
    (drop_all c.events.event-index c.args.events.now past) (c.events.invariant rest whole before leads)
