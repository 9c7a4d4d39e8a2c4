-- What has come is told, and unless something of it ends the run the plain input comes behind it.

use Rattle.end_run.specs.Calls.{plain_input}
use Rattle.end_run.specs.Counts.{counted}
use Rattle.end_run.specs.Scenes.{scene}
use Rattle.end_run.specs.Steps.{all_told, stepped}
use Rattle.std.proofs.Common.{None}
use Rattle.end_run.proofs.Coming.{comes_more, comes_stop}
use Rattle.end_run.proofs.Counting.{counts_behind}
use Rattle.end_run.proofs.live.answer_told.Goals as goal

pub returns-in-Some-clause-runs : goal.returns-in-Some-clause-runs
returns-in-Some-clause-runs g c =
    λ known.
    let e = g.E.LinkedEnd in
    comes_stop e.known e.left c.tell_here.new.end
    (scene g.L.Link g.W.Sink c.args.link.now c.args.out.now (e.means c.args.end.now) (e.room c.args.end.now) None)
    (scene g.L.Link g.W.Sink c.tell_here.new.link c.tell_here.new.out (e.means c.tell_here.new.end)
    (e.room c.tell_here.new.end))
    (all_told e.machine c.args.side c.args.now (g.N.Teller.here c.args.told.now) (e.means c.args.end.now))
    (stepped e.machine c.args.side c.args.now (plain_input c.args.byte)) c.in-Some.ending
    (c.in-Some.ensures.runs known)

pub returns-in-None-clause-runs : goal.returns-in-None-clause-runs
returns-in-None-clause-runs g c =
    λ known.
    let e = g.E.LinkedEnd in
    let told = c.in-None.ensures.runs known in
    comes_more e.known e.left c.step_plain.new.end c.tell_here.new.end
    (scene g.L.Link g.W.Sink c.args.link.now c.args.out.now (e.means c.args.end.now) (e.room c.args.end.now) None)
    (scene g.L.Link g.W.Sink c.tell_here.new.link c.tell_here.new.out (e.means c.tell_here.new.end)
    (e.room c.tell_here.new.end))
    (scene g.L.Link g.W.Sink c.step_plain.new.link c.step_plain.new.out (e.means c.step_plain.new.end)
    (e.room c.step_plain.new.end))
    (all_told e.machine c.args.side c.args.now (g.N.Teller.here c.args.told.now) (e.means c.args.end.now))
    (stepped e.machine c.args.side c.args.now (plain_input c.args.byte)) c.step_plain.result told
    (c.step_plain.ensures.runs told.1)

pub returns-in-None-clause-counts : goal.returns-in-None-clause-counts
returns-in-None-clause-counts g c =
    let e = g.E.LinkedEnd in
    counts_behind (counted g.L.Link g.W.Sink c.args.link.now c.args.out.now (e.device c.args.end.now))
    (counted g.L.Link g.W.Sink c.tell_here.new.link c.tell_here.new.out (e.device c.tell_here.new.end))
    (counted g.L.Link g.W.Sink c.step_plain.new.link c.step_plain.new.out (e.device c.step_plain.new.end))
    c.step_plain.result
    c.in-None.ensures.counts c.step_plain.ensures.counts
