-- Turn by turn: one ends the run, or the polls are over. Past each turn the rest leads to the whole, and no fault was
-- counted.

use Rattle.std.proofs.Common.{◌≡◌, ◌∙◌, suc, ◌-◌, [], None, Some, refl, arith}
use Rattle.end_run.specs.Commands.{as_it_comes}
use Rattle.end_run.specs.Counts.{counted}
use Rattle.end_run.specs.Run.{polled}
use Rattle.end_run.specs.Scenes.{scene}
use Rattle.end_run.proofs.Counting.{counts_behind}
use Rattle.end_run.proofs.Polling.{polled_first}
use Rattle.end_run.proofs.Beside.{told_as, told_on, told_out, told_over}
use Rattle.end_run.proofs.live.poll_told.Goals as goal

pub polls-init : goal.polls-init
polls-init g c =
    let e = g.E.LinkedEnd in (
      λ known. (
        record {
          came = [];
          may = λ later may. may;
          polled = λ later. polled_first e.machine e.due as_it_comes c.args.side _ _;
        },
        known,
      ),
      (refl, refl, refl),
      c.requires.sound,
      refl,
    )

pub returns-in-Some-clause-runs : goal.returns-in-Some-clause-runs
returns-in-Some-clause-runs g c =
    λ known.
    let e = g.E.LinkedEnd in
    let n = g.N.Teller in
    let more : c.polls.left ≡ suc (c.polls.left - 1) = omega (arith, c.polls-test.true) in
    let here = c.polls.invariant.0 known in
    told_out e.machine e.due c.args.side (n.to_come c.args.told.now)
    (λ coming answers. polled e.machine e.due as_it_comes c.args.side c.args.polls coming 0 answers
    (e.means c.args.end.now))
    (scene g.L.Link g.W.Sink c.args.link.now c.args.out.now (e.means c.args.end.now) (e.room c.args.end.now) None)
    e.known e.left c.turn_told.new.end
    (scene g.L.Link g.W.Sink c.polls.link c.polls.out (e.means c.polls.end) (e.room c.polls.end) None)
    (scene g.L.Link g.W.Sink c.turn_told.new.link c.turn_told.new.out (e.means c.turn_told.new.end)
    (e.room c.turn_told.new.end))
    (n.to_come c.polls.told) (n.to_come c.turn_told.new.told) (c.polls.left - 1) (e.means c.polls.end) c.polls.moment
    c.turn_told.new.moment
    (told_as e.machine e.due c.args.side _ _ _ _ _ c.polls.left (suc (c.polls.left - 1)) _ _ more here.0)
    c.in-Some.ending (c.in-Some.ensures.turned here.1)

pub polls-preserved : goal.polls-preserved
polls-preserved g c = (
  λ known.
      let e = g.E.LinkedEnd in
      let n = g.N.Teller in
      let more : c.polls.left ≡ suc (c.polls.left - 1) = omega (arith, c.polls-test.true) in
      let here = c.polls.invariant.0 known in
      told_on e.machine e.due c.args.side (n.to_come c.args.told.now)
      (λ coming answers. polled e.machine e.due as_it_comes c.args.side c.args.polls coming 0 answers
      (e.means c.args.end.now))
      (scene g.L.Link g.W.Sink c.args.link.now c.args.out.now (e.means c.args.end.now) (e.room c.args.end.now) None)
      e.known e.left c.turn_told.new.end
      (scene g.L.Link g.W.Sink c.polls.link c.polls.out (e.means c.polls.end) (e.room c.polls.end) None)
      (scene g.L.Link g.W.Sink c.turn_told.new.link c.turn_told.new.out (e.means c.turn_told.new.end)
      (e.room c.turn_told.new.end))
      (n.to_come c.polls.told) (n.to_come c.turn_told.new.told) (c.polls.left - 1) (e.means c.polls.end)
      c.polls.moment c.turn_told.new.moment
      (told_as e.machine e.due c.args.side _ _ _ _ _ c.polls.left (suc (c.polls.left - 1)) _ _ more here.0)
      (c.in-None.ensures.turned here.1),
  counts_behind _ (counted g.L.Link g.W.Sink c.polls.link c.polls.out (g.E.LinkedEnd.device c.polls.end))
      (counted g.L.Link g.W.Sink c.turn_told.new.link c.turn_told.new.out
      (g.E.LinkedEnd.device c.turn_told.new.end)) None
      c.polls.invariant.1 c.in-None.ensures.counts,
  c.in-None.ensures.sound,
  c.in-None.ensures.connected ∙ c.polls.invariant.3,
)

pub returns-clause-runs : goal.returns-clause-runs
returns-clause-runs g c =
    λ known.
    let e = g.E.LinkedEnd in
    let n = g.N.Teller in
    let none : c.polls.left ≡ 0 = omega (arith, c.polls-test.false) in
    let here = c.polls.invariant.0 known in
    told_over e.machine e.due c.args.side (n.to_come c.args.told.now)
    (λ coming answers. polled e.machine e.due as_it_comes c.args.side c.args.polls coming 0 answers
    (e.means c.args.end.now))
    (scene g.L.Link g.W.Sink c.args.link.now c.args.out.now (e.means c.args.end.now) (e.room c.args.end.now) None)
    e.known e.left c.polls.end
    (scene g.L.Link g.W.Sink c.polls.link c.polls.out (e.means c.polls.end) (e.room c.polls.end))
    (n.to_come c.polls.told) (e.means c.polls.end) c.polls.moment
    (told_as e.machine e.due c.args.side _ _ _ _ _ c.polls.left 0 _ _ none here.0) here.1

pub returns-in-Some-clause-counts : goal.returns-in-Some-clause-counts
returns-in-Some-clause-counts g c =
    counts_behind _ (counted g.L.Link g.W.Sink c.polls.link c.polls.out (g.E.LinkedEnd.device c.polls.end))
    (counted g.L.Link g.W.Sink c.turn_told.new.link c.turn_told.new.out (g.E.LinkedEnd.device c.turn_told.new.end))
    (Some c.in-Some.ending) c.polls.invariant.1 c.in-Some.ensures.counts

pub returns-clause-counts : goal.returns-clause-counts
returns-clause-counts g c = c.polls.invariant.1

pub returns-in-Some-clause-connected : goal.returns-in-Some-clause-connected
returns-in-Some-clause-connected g c = c.in-Some.ensures.connected ∙ c.polls.invariant.3

pub returns-clause-connected : goal.returns-clause-connected
returns-clause-connected g c = c.polls.invariant.3
