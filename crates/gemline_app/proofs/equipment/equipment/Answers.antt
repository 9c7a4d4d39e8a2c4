-- What was read is run, or nothing is done.

use Rattle.std.proofs.Common.{List, refl}
use Rattle.end_run.proofs.Sides.{are_told_tool}
use Rattle.end_run.specs.Script.{ScriptLine}
use Rattle.equipment_tables.specs.declared.plan.Plans.{Plans}
use Rattle.gl_base.specs.Told.{files_told, sink_told, source_told}
use Rattle.gl_base.specs.declared.side.Side.TheVariants as side
use Rattle.spool_show.specs.Told.{disk_told}
use Rattle.gemline_app.specs.Equipment.{FileRuns}
use Rattle.gemline_app.specs.Filed.{IsAllIdle}
use Rattle.gemline_app.specs.LinkTold.{link_told}
use Rattle.gemline_app.proofs.Connecting.{uncalled}
use Rattle.gemline_app.proofs.Hosting.{linked_refused, linked_runs}
use Rattle.gemline_app.proofs.equipment.equipment.Goals as goal

pub run_file-requires-clause-plan : goal.run_file-requires-clause-plan
run_file-requires-clause-plan g c = c.in-Ok.ensures.0.is.fits.equipment

pub run_file-requires-clause-script : goal.run_file-requires-clause-script
run_file-requires-clause-script g c =
    let is = c.in-Ok.ensures.1.2 in
    are_told_tool _ _ _ is.found.tell is.fits.lines

pub returns-in-Ok-clause-came : goal.returns-in-Ok-clause-came
returns-in-Ok-clause-came g c =
    linked_runs side.Equipment (IsAllIdle (disk_told g.D.Disk c.args.disk.now c.run_file.new.disk) (link_told g.L.Link c.args.link.now c.run_file.new.link) (sink_told g.W.Sink c.args.out.now c.run_file.new.out))
    (λ (plans : Plans) (lines : List ScriptLine).
    FileRuns plans.equipment c.args.spool.now lines c.args.polls (disk_told g.D.Disk c.args.disk.now c.run_file.new.disk)
    (link_told g.L.Link c.args.link.now c.run_file.new.link) (sink_told g.W.Sink c.args.out.now c.run_file.new.out) c.run_file.result)
    c.args.plan.now (source_told g.R.Source c.args.input.now c.plans_and_script.new.input)
    (files_told g.F.Files c.args.files.now c.plans_and_script.new.files) c.in-Ok.inputs c.run_file.result c.in-Ok.ensures
    c.run_file.ensures.came

pub returns-in-Err-clause-came : goal.returns-in-Err-clause-came
returns-in-Err-clause-came g c =
    linked_refused side.Equipment (IsAllIdle (disk_told g.D.Disk c.args.disk.now c.args.disk.now) (link_told g.L.Link c.args.link.now c.args.link.now) (sink_told g.W.Sink c.args.out.now c.args.out.now))
    (λ (plans : Plans) (lines : List ScriptLine).
    FileRuns plans.equipment c.args.spool.now lines c.args.polls (disk_told g.D.Disk c.args.disk.now c.args.disk.now)
    (link_told g.L.Link c.args.link.now c.args.link.now) (sink_told g.W.Sink c.args.out.now c.args.out.now) c.in-Err.refusal)
    c.args.plan.now (source_told g.R.Source c.args.input.now c.plans_and_script.new.input)
    (files_told g.F.Files c.args.files.now c.plans_and_script.new.files) c.in-Err.refusal c.in-Err.ensures (
      record { told = refl; faults = refl; file = refl },
      record {
        uncalled = record { told = refl; moment = refl; health = refl; connected = refl };
        written = record { received = refl; health = refl };
      },
    )

pub returns-in-Err-clause-connects : goal.returns-in-Err-clause-connects
returns-in-Err-clause-connects g c = uncalled g.L.Link side.Equipment c.args.address.now c.args.link.now
