-- A host without memory to start runs nothing; each other one runs from its start.

use Rattle.std.proofs.Common.{None, refl, ◌∙◌, sym}
use Rattle.message_end.specs.Ends.{none_asked}
use Rattle.end_run.specs.declared.ending.Ending.TheVariants as ending
use Rattle.end_run.proofs.Starting.{nothing_runs}
use Rattle.gemline_app.specs.Host.{host_start}
use Rattle.gl_base.specs.declared.side.Side.TheVariants as side
use Rattle.gemline_app.proofs.Connecting.{once, uncalled}
use Rattle.gemline_app.proofs.Hosting.{start_is, was_run}
use Rattle.gemline_app.proofs.host.run_host.Goals as goal

pub returns-in_default-clause-came : goal.returns-in_default-clause-came
returns-in_default-clause-came g c =
    was_run c.args.plan.now c.args.polls _ _ _ c.args.script.now.lines ending.NoMemory
    (host_start c.args.plan.now).next (host_start c.args.plan.now).next none_asked None refl refl (nothing_runs _ _)

pub returns-clause-came : goal.returns-clause-came
returns-clause-came g c =
    let start = host_start c.args.plan.now in
    let is = start_is start _ _ c.in-Ok.ensures in
    let run = c.run_started.ensures.runs tt start is.0 (is.1 ∙ sym c.as_slice.ensures) in
    was_run c.args.plan.now c.args.polls _ _ _ c.args.script.now.lines c.run_started.result c.in-Ok.host
    c.run_started.new.end.host none_asked run.0 is.0 c.outcome_of_ending.ensures run.2

pub returns-in_default-clause-connects : goal.returns-in_default-clause-connects
returns-in_default-clause-connects g c = uncalled g.L.Link side.Host c.args.address.now c.args.link.now

pub returns-clause-connects : goal.returns-clause-connects
returns-clause-connects g c =
    once g.L.Link side.Host c.args.address.now c.args.link.now c.run_started.new.link c.run_started.ensures.connected
