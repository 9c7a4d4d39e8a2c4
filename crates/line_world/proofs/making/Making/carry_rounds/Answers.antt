-- The first events and then round by round: one ends the run, or all are carried out.

use Rattle.std.proofs.Common.{◌-◌, List, subst}
use Rattle.end_pair.specs.Kept.{seen}
use Rattle.end_pair.specs.World.{after_events}
use Rattle.line_schedule.specs.declared.event.Event.{Event}
use Rattle.line_world.specs.Make.{numbers_behind, rounds_of}
use Rattle.line_world.specs.Making.{Leads}
use Rattle.line_world.proofs.Carried.{carries-as}
use Rattle.line_world.proofs.RoundEvents.{next-round, no-round}
use Rattle.line_world.proofs.making.Making.carry_rounds.Goals as goal

-- what comes first leads on to the rounds
pub rounds-init : goal.rounds-init
rounds-init g c =
    λ whole before leads.
    c.in-Went.ensures (rounds_of (numbers_behind c.args.rounds c.args.rounds)) whole before leads

pub returns-in_default : goal.returns-in_default
returns-in_default g c =
    λ whole before leads.
    carries-as c.carry_first.result _ _ whole _ before _ c.in_default.not-Went
    (c.carry_first.ensures (rounds_of (numbers_behind c.args.rounds c.args.rounds)) whole before leads)

pub returns-in_default-carry_round : goal.returns-in_default-carry_round
returns-in_default-carry_round g c =
    let e = g.E.End in
    let h = g.H.End in
    let left = c.rounds.left - 1 in
    let x = c.next_number-x.result in
    let next =
    next-round c.rounds.left c.rounds.x x c.rounds-test.true c.next_number-x.ensures
    in
    λ whole before leads.
    carries-as c.carry_round.result _ _ whole _ before _ c.in_default-carry_round.not-Went
    (c.carry_round.ensures (rounds_of (numbers_behind left x)) whole before
    (subst (λ (events : List Event).
    Leads (after_events e.machine h.machine events (seen e.means h.means c.rounds.self.world)) c.rounds.self.counts
    whole before) next
    (c.rounds.invariant whole before leads)))

pub rounds-preserved : goal.rounds-preserved
rounds-preserved g c =
    let e = g.E.End in
    let h = g.H.End in
    let left = c.rounds.left - 1 in
    let x = c.next_number-x.result in
    let next =
    next-round c.rounds.left c.rounds.x x c.rounds-test.true c.next_number-x.ensures
    in
    λ whole before leads.
    c.in-Went-carry_round.ensures (rounds_of (numbers_behind left x)) whole before
    (subst (λ (events : List Event).
    Leads (after_events e.machine h.machine events (seen e.means h.means c.rounds.self.world)) c.rounds.self.counts
    whole before) next
    (c.rounds.invariant whole before leads))

pub returns : goal.returns
returns g c =
    let e = g.E.End in
    let h = g.H.End in
    λ whole before leads.
    subst (λ (events : List Event).
    Leads (after_events e.machine h.machine events (seen e.means h.means c.rounds.self.world)) c.rounds.self.counts
    whole before)
    (no-round c.rounds.left c.rounds.x c.rounds-test.false) (c.rounds.invariant whole before leads)
