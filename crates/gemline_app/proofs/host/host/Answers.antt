-- What was read is run, or nothing is done.

use Rattle.std.proofs.Common.{List, refl}
use Rattle.end_run.proofs.Sides.{are_told}
use Rattle.end_run.specs.Script.{ScriptLine}
use Rattle.equipment_tables.specs.declared.plan.Plans.{Plans}
use Rattle.gl_base.specs.Told.{files_told, sink_told, source_told}
use Rattle.gl_base.specs.declared.side.Side.TheVariants as side
use Rattle.gemline_app.specs.Host.{WasRun}
use Rattle.gemline_app.specs.Linked.{IsIdle}
use Rattle.gemline_app.specs.LinkTold.{link_told}
use Rattle.gemline_app.proofs.Connecting.{uncalled}
use Rattle.gemline_app.proofs.Hosting.{linked_refused, linked_runs}
use Rattle.gemline_app.proofs.host.host.Goals as goal

pub run_host-requires-clause-plan : goal.run_host-requires-clause-plan
run_host-requires-clause-plan g c = c.in-Ok.ensures.0.is.fits.host

pub run_host-requires-clause-script : goal.run_host-requires-clause-script
run_host-requires-clause-script g c =
    let is = c.in-Ok.ensures.1.2 in
    are_told _ _ _ is.found.tell is.fits.lines

pub returns-in-Ok-clause-came : goal.returns-in-Ok-clause-came
returns-in-Ok-clause-came g c =
    linked_runs side.Host (IsIdle (link_told g.L.Link c.args.link.now c.run_host.new.link) (sink_told g.W.Sink c.args.out.now c.run_host.new.out))
    (λ (plans : Plans) (lines : List ScriptLine).
    WasRun plans.host lines c.args.polls (link_told g.L.Link c.args.link.now c.run_host.new.link)
    (sink_told g.W.Sink c.args.out.now c.run_host.new.out) c.run_host.result)
    c.args.plan.now (source_told g.R.Source c.args.input.now c.plans_and_script.new.input)
    (files_told g.F.Files c.args.files.now c.plans_and_script.new.files) c.in-Ok.inputs c.run_host.result c.in-Ok.ensures
    c.run_host.ensures.came

pub returns-in-Err-clause-came : goal.returns-in-Err-clause-came
returns-in-Err-clause-came g c =
    linked_refused side.Host (IsIdle (link_told g.L.Link c.args.link.now c.args.link.now) (sink_told g.W.Sink c.args.out.now c.args.out.now))
    (λ (plans : Plans) (lines : List ScriptLine).
    WasRun plans.host lines c.args.polls (link_told g.L.Link c.args.link.now c.args.link.now)
    (sink_told g.W.Sink c.args.out.now c.args.out.now) c.in-Err.refusal)
    c.args.plan.now (source_told g.R.Source c.args.input.now c.plans_and_script.new.input)
    (files_told g.F.Files c.args.files.now c.plans_and_script.new.files) c.in-Err.refusal c.in-Err.ensures
    (record {
      uncalled = record { told = refl; moment = refl; health = refl; connected = refl };
      written = record { received = refl; health = refl };
    })

pub returns-in-Err-clause-connects : goal.returns-in-Err-clause-connects
returns-in-Err-clause-connects g c = uncalled g.L.Link side.Host c.args.address.now c.args.link.now
