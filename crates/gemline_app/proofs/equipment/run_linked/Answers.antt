-- The run from the started equipment, and the faults that it has counted.

use Rattle.std.proofs.Common.{Option, Some, subst}
use Rattle.end_run.specs.Counts.{Counts, counted}
use Rattle.gemline_app.specs.LinkTold.{link_told}
use Rattle.gemline_app.specs.LinkedEquipment.{device_by, device_of}
use Rattle.gl_base.specs.Told.{sink_told}
use Rattle.gemline_app.proofs.Equipping.{runs_from}
use Rattle.gl_base.specs.declared.side.Side.TheVariants as side
use Rattle.gemline_app.proofs.Connecting.{once}
use Rattle.gemline_app.proofs.equipment.run_linked.Goals as goal

pub returns-clause-runs : goal.returns-clause-runs
returns-clause-runs g c in_state start next are =
    runs_from g.D.Disk c.args.equipment start next c.args.script.now.lines c.args.polls
    c.run_started-ended.new.end.going c.run_started-ended.new.end.spent c.into_disk.result
    c.run_started-ended.ensures.sound c.into_disk.ensures
    (link_told g.L.Link c.args.link.now c.run_started-ended.new.link)
    (sink_told g.W.Sink c.args.out.now c.run_started-ended.new.out) c.run_started-ended.result
    (c.run_started-ended.ensures.runs in_state start next are)

pub returns-clause-counts : goal.returns-clause-counts
returns-clause-counts g c =
    subst
    (λ (o : Option _).
    Counts
    (counted g.L.Link g.W.Sink c.args.link.now c.args.out.now (device_of g.D.Disk c.args.equipment.spool.spool.disk))
    (counted g.L.Link g.W.Sink c.run_started-ended.new.link c.run_started-ended.new.out (device_by g.D.Disk o))
    (Some c.run_started-ended.result))
    c.into_disk.ensures c.run_started-ended.ensures.counts

pub returns-clause-connects : goal.returns-clause-connects
returns-clause-connects g c =
    once g.L.Link side.Equipment c.args.address.now c.args.link.now c.run_started-ended.new.link
    c.run_started-ended.ensures.connected
