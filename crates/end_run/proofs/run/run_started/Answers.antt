-- A run by where it ends: with its start, or in the polls.

use Rattle.std.proofs.Common.{◌∙◌, List, None, Some, inr, subst}
use Rattle.end_run.specs.Counts.{counted}
use Rattle.end_run.specs.Outcome.{ComesOver}
use Rattle.end_run.specs.Run.{polled}
use Rattle.end_run.specs.Scenes.{scene}
use Rattle.end_run.specs.Script.{ScriptLine, by_script}
use Rattle.end_run.proofs.Counting.{counts_behind}
use Rattle.end_run.proofs.Starting.{ends_early, runs_on}
use Rattle.end_run.proofs.run.run_started.Goals as goal

pub returns-in-Some-clause-runs : goal.returns-in-Some-clause-runs
returns-in-Some-clause-runs g c =
    λ known start is are.
    let e = g.E.LinkedEnd in
    let begun = c.in-Some.ensures.runs known start is are in (
      begun.0,
      begun.1,
      ends_early e.machine e.due (by_script e.told) c.args.side start c.args.script.now.lines c.args.polls _ _
          c.in-Some.ending begun.2,
    )

pub returns-clause-runs : goal.returns-clause-runs
returns-clause-runs g c =
    λ known start is are.
    let e = g.E.LinkedEnd in
    let begun = c.in-None.ensures.runs known start is are in
    let over =
    subst
    (λ (lines : List ScriptLine). ComesOver e.known e.left c.poll_all.new.end
    (scene g.L.Link g.W.Sink c.begin.new.link c.begin.new.out (e.means c.begin.new.end) (e.room c.begin.new.end) None)
    (scene g.L.Link g.W.Sink c.poll_all.new.link c.poll_all.new.out
    (e.means c.poll_all.new.end) (e.room c.poll_all.new.end))
    (λ answers. polled e.machine e.due (by_script e.told) c.args.side c.args.polls
    lines 0 answers (e.means c.begin.new.end)) c.poll_all.result)
    c.as_slice.ensures (c.poll_all.ensures.runs begun.1)
    in (
      over.0,
      over.1,
      runs_on e.machine e.due (by_script e.told) c.args.side start c.args.script.now.lines c.args.polls _ _ _
          (e.means c.begin.new.end) c.poll_all.result begun.0 begun.2 over.2,
    )

pub returns-clause-counts : goal.returns-clause-counts
returns-clause-counts g c =
    counts_behind (counted g.L.Link g.W.Sink c.args.link.now c.args.out.now (g.E.LinkedEnd.device c.args.end.now))
    (counted g.L.Link g.W.Sink c.begin.new.link c.begin.new.out (g.E.LinkedEnd.device c.begin.new.end))
    (counted g.L.Link g.W.Sink c.poll_all.new.link c.poll_all.new.out (g.E.LinkedEnd.device c.poll_all.new.end))
    (Some c.poll_all.result) c.in-None.ensures.counts c.poll_all.ensures.counts

pub returns-clause-connected : goal.returns-clause-connected
returns-clause-connected g c = inr (c.poll_all.ensures.connected ∙ c.in-None.ensures.opened)
