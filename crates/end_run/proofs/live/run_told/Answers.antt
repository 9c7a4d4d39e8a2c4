-- A run by where it ends: with its start, or in the polls.

use Rattle.std.proofs.Common.{◌∙◌, Some, inr}
use Rattle.end_run.specs.Commands.{as_it_comes}
use Rattle.end_run.specs.Counts.{counted}
use Rattle.end_run.proofs.Counting.{counts_behind}
use Rattle.end_run.proofs.Starting.{ends_early, runs_on}
use Rattle.end_run.proofs.Beside.{rest_may, rest_told}
use Rattle.end_run.proofs.live.run_told.Goals as goal

pub returns-in-Some-clause-runs : goal.returns-in-Some-clause-runs
returns-in-Some-clause-runs g c =
    λ known start is are.
    let e = g.E.LinkedEnd in
    let told = g.N.Teller.to_come c.args.told.now in
    let begun = c.in-Some.ensures.runs known start is are in (
      rest_told told,
      rest_may told,
      (
        begun.0,
        begun.1,
        ends_early e.machine e.due as_it_comes c.args.side start (rest_told told) c.args.polls _ _ c.in-Some.ending
            begun.2,
      ),
    )

pub returns-clause-runs : goal.returns-clause-runs
returns-clause-runs g c =
    λ known start is are.
    let e = g.E.LinkedEnd in
    let begun = c.in-None.ensures.runs known start is are in
    let over = c.poll_told.ensures.runs begun.1 in (
      over.0,
      over.1,
      (
        over.2.0,
        over.2.1,
        runs_on e.machine e.due as_it_comes c.args.side start over.0 c.args.polls _ _ _
            (e.means c.begin.new.end) c.poll_told.result begun.0 begun.2 over.2.2,
      ),
    )

pub returns-clause-counts : goal.returns-clause-counts
returns-clause-counts g c =
    counts_behind (counted g.L.Link g.W.Sink c.args.link.now c.args.out.now (g.E.LinkedEnd.device c.args.end.now))
    (counted g.L.Link g.W.Sink c.begin.new.link c.begin.new.out (g.E.LinkedEnd.device c.begin.new.end))
    (counted g.L.Link g.W.Sink c.poll_told.new.link c.poll_told.new.out (g.E.LinkedEnd.device c.poll_told.new.end))
    (Some c.poll_told.result) c.in-None.ensures.counts c.poll_told.ensures.counts

pub returns-clause-connected : goal.returns-clause-connected
returns-clause-connected g c = inr (c.poll_told.ensures.connected ∙ c.in-None.ensures.opened)
