-- The run from the started equipment, and the faults that it has counted.

use Rattle.std.proofs.Common.{Option, Some, ap, subst}
use Rattle.std.specs.Option.{option_map}
use Rattle.end_run.specs.Counts.{Counts, counted}
use Rattle.gl_base.specs.Told.{sink_told}
use Rattle.gl_base.specs.declared.side.Side.TheVariants as side
use Rattle.gemline_app.specs.LinkTold.{link_told}
use Rattle.gemline_app.specs.LinkedEquipment.{device_by, device_of, disk_in}
use Rattle.gemline_app.specs.declared.equipment.LinkedEquipment.{LinkedEquipment}
use Rattle.gemline_app.proofs.Connecting.{once}
use Rattle.live_commands.specs.Coming.{Standing}
use Rattle.live_teller.specs.Tellings.{told_by}
use Rattle.tool_app.proofs.Live.{runs_live}
use Rattle.live_teller.proofs.Telling.{fresh_stands}
use Rattle.tool_app.proofs.running.run_linked.Goals as goal

pub returns-clause-runs : goal.returns-clause-runs
returns-clause-runs g c in_state start next are =
    let b = g.B.Beside in
    let told = c.args.told.now in
    runs_live g.D.Disk c.args.equipment start next (b.to_come told.beside) _
    (ap (λ (at : Standing). option_map (told_by at) (b.to_come told.beside))
    (fresh_stands told.stage (b.ended told.beside) told.reader (b.bytes told.beside) c.requires))
    c.run_told-ended.new.end.going c.run_told-ended.new.end.spent c.into_disk.result c.run_told-ended.ensures.sound
    c.into_disk.ensures (link_told g.L.Link c.args.link.now c.run_told-ended.new.link)
    (sink_told g.W.Sink c.args.out.now c.run_told-ended.new.out) c.run_told-ended.result
    ((rw c.new-linked.ensures at c.run_told-ended.ensures.runs) in_state start next are)

pub returns-clause-counts : goal.returns-clause-counts
returns-clause-counts g c =
    subst
    (λ (o : Option _).
    Counts
    (counted g.L.Link g.W.Sink c.args.link.now c.args.out.now (device_of g.D.Disk c.args.equipment.spool.spool.disk))
    (counted g.L.Link g.W.Sink c.run_told-ended.new.link c.run_told-ended.new.out (device_by g.D.Disk o))
    (Some c.run_told-ended.result))
    c.into_disk.ensures
    (subst
    (λ (linked : LinkedEquipment _).
    Counts
    (counted g.L.Link g.W.Sink c.args.link.now c.args.out.now (device_by g.D.Disk (disk_in linked.going linked.spent)))
    (counted g.L.Link g.W.Sink c.run_told-ended.new.link c.run_told-ended.new.out
    (device_by g.D.Disk (disk_in c.run_told-ended.new.end.going c.run_told-ended.new.end.spent)))
    (Some c.run_told-ended.result))
    c.new-linked.ensures c.run_told-ended.ensures.counts)

pub returns-clause-connects : goal.returns-clause-connects
returns-clause-connects g c =
    once g.L.Link side.Equipment c.args.address.now c.args.link.now c.run_told-ended.new.link
    c.run_told-ended.ensures.connected
