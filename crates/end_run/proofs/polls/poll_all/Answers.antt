-- Turn by turn: one ends the run, or the polls are over. Past each turn the rest leads to the whole, and no fault was
-- counted.

use Rattle.std.proofs.Common.{◌≡◌, ◌∙◌, suc, ◌-◌, List, None, Some, refl, arith}
use Rattle.gl_base.specs.declared.link.LinkIn.{LinkIn}
use Rattle.end_run.specs.Calls.{left_of}
use Rattle.end_run.specs.Run.{polled}
use Rattle.end_run.specs.Scenes.{scene}
use Rattle.end_run.specs.Script.{by_script}
use Rattle.end_run.proofs.Polling.{polled_as, polled_first, polled_on, polled_out, polled_over}
use Rattle.end_run.specs.Counts.{counted}
use Rattle.end_run.proofs.Counting.{counts_behind}
use Rattle.end_run.proofs.polls.poll_all.Goals as goal

pub polls-init : goal.polls-init
polls-init g c =
    let e = g.E.LinkedEnd in (
      λ known. (polled_first e.machine e.due (by_script e.told) c.args.side _ _, known),
      (refl, refl, refl),
      c.requires.sound,
      omega arith,
      refl,
    )

pub returns-in-Some-clause-runs : goal.returns-in-Some-clause-runs
returns-in-Some-clause-runs g c =
    λ known.
    let e = g.E.LinkedEnd in
    let more : c.polls.left ≡ suc (c.polls.left - 1) = omega (arith, c.polls-test.true) in
    let before = left_of (e.means c.polls.end) c.args.lines.now c.polls.place in
    let here = c.polls.invariant.0 known in
    polled_out e.machine e.due (by_script e.told) c.args.side e.known e.left c.turn.new.end
    (scene g.L.Link g.W.Sink c.turn.new.link c.turn.new.out (e.means c.turn.new.end) (e.room c.turn.new.end))
    (λ (answers : List LinkIn). polled e.machine e.due (by_script e.told) c.args.side c.args.polls c.args.lines.now 0 answers
    (e.means c.args.end.now))
    (c.polls.left - 1) before (left_of (e.means c.turn.new.end) c.args.lines.now c.turn.new.place) refl
    (polled_as e.machine e.due (by_script e.told) c.args.side _ _ _ before c.polls.left (suc (c.polls.left - 1)) more here.0)
    c.in-Some.ending (c.in-Some.ensures.turned here.1)

pub polls-preserved : goal.polls-preserved
polls-preserved g c = (
  λ known.
      let e = g.E.LinkedEnd in
      let more : c.polls.left ≡ suc (c.polls.left - 1) = omega (arith, c.polls-test.true) in
      let before = left_of (e.means c.polls.end) c.args.lines.now c.polls.place in
      let here = c.polls.invariant.0 known in
      polled_on e.machine e.due (by_script e.told) c.args.side e.known e.left c.turn.new.end
      (scene g.L.Link g.W.Sink c.turn.new.link c.turn.new.out (e.means c.turn.new.end) (e.room c.turn.new.end))
      (λ (answers : List LinkIn). polled e.machine e.due (by_script e.told) c.args.side c.args.polls c.args.lines.now 0 answers
      (e.means c.args.end.now))
      (c.polls.left - 1) before (left_of (e.means c.turn.new.end) c.args.lines.now c.turn.new.place) refl
      (polled_as e.machine e.due (by_script e.told) c.args.side _ _ _ before c.polls.left (suc (c.polls.left - 1)) more here.0)
      (c.in-None.ensures.turned here.1),
  counts_behind _ (counted g.L.Link g.W.Sink c.polls.link c.polls.out (g.E.LinkedEnd.device c.polls.end))
      (counted g.L.Link g.W.Sink c.turn.new.link c.turn.new.out (g.E.LinkedEnd.device c.turn.new.end)) None
      c.polls.invariant.1 c.in-None.ensures.counts,
  c.in-None.ensures.sound,
  c.in-None.ensures.given,
  c.in-None.ensures.connected ∙ c.polls.invariant.4,
)

pub returns-clause-runs : goal.returns-clause-runs
returns-clause-runs g c =
    λ known.
    let e = g.E.LinkedEnd in
    let none : c.polls.left ≡ 0 = omega (arith, c.polls-test.false) in
    let last = left_of (e.means c.polls.end) c.args.lines.now c.polls.place in
    let here = c.polls.invariant.0 known in (
      None,
      here.1,
      polled_over e.machine e.due (by_script e.told) c.args.side _ _ _ last
          (polled_as e.machine e.due (by_script e.told) c.args.side _ _ _ last c.polls.left 0 none here.0),
    )

pub returns-in-Some-clause-counts : goal.returns-in-Some-clause-counts
returns-in-Some-clause-counts g c =
    counts_behind _ (counted g.L.Link g.W.Sink c.polls.link c.polls.out (g.E.LinkedEnd.device c.polls.end))
    (counted g.L.Link g.W.Sink c.turn.new.link c.turn.new.out (g.E.LinkedEnd.device c.turn.new.end))
    (Some c.in-Some.ending) c.polls.invariant.1 c.in-Some.ensures.counts

pub returns-clause-counts : goal.returns-clause-counts
returns-clause-counts g c = c.polls.invariant.1

pub returns-in-Some-clause-connected : goal.returns-in-Some-clause-connected
returns-in-Some-clause-connected g c = c.in-Some.ensures.connected ∙ c.polls.invariant.4

pub returns-clause-connected : goal.returns-clause-connected
returns-clause-connected g c = c.polls.invariant.4
