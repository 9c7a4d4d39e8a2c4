-- The run from the started host, and the faults that it has counted.

use Rattle.std.proofs.Common.{Option, Some, subst}
use Rattle.end_run.specs.Counts.{Counts, counted}
use Rattle.gl_base.specs.Told.{sink_told}
use Rattle.gl_base.specs.declared.side.Side.TheVariants as side
use Rattle.journal_link.specs.Linked.{device_by, device_of, disk_in}
use Rattle.journal_link.specs.declared.linked.LinkedJournal.{LinkedJournal}
use Rattle.journal_node.specs.Held.{disk_held}
use Rattle.gemline_app.specs.LinkTold.{link_told}
use Rattle.gemline_app.proofs.Connecting.{once}
use Rattle.gemline_app.proofs.Journaling.{runs_from}
use Rattle.gemline_app.proofs.journal.run_linked.Goals as goal

pub returns-clause-runs : goal.returns-clause-runs
returns-clause-runs g c in_state start next are =
    runs_from g.D.Disk c.args.host start next c.args.script.now.lines c.args.polls
    c.run_started-ended.new.end.going c.run_started-ended.new.end.spent c.into_disk.result
    c.run_started-ended.ensures.sound c.into_disk.ensures
    (link_told g.L.Link c.args.link.now c.run_started-ended.new.link)
    (sink_told g.W.Sink c.args.out.now c.run_started-ended.new.out) c.run_started-ended.result
    ((rw c.new-linked.ensures at c.run_started-ended.ensures.runs) in_state start next are)

pub returns-clause-counts : goal.returns-clause-counts
returns-clause-counts g c =
    subst
    (λ (o : Option _).
    Counts
    (counted g.L.Link g.W.Sink c.args.link.now c.args.out.now (device_of g.D.Disk (disk_held c.args.host)))
    (counted g.L.Link g.W.Sink c.run_started-ended.new.link c.run_started-ended.new.out (device_by g.D.Disk o))
    (Some c.run_started-ended.result))
    c.into_disk.ensures
    (subst
    (λ (linked : LinkedJournal _).
    Counts
    (counted g.L.Link g.W.Sink c.args.link.now c.args.out.now (device_by g.D.Disk (disk_in linked.going linked.spent)))
    (counted g.L.Link g.W.Sink c.run_started-ended.new.link c.run_started-ended.new.out
    (device_by g.D.Disk (disk_in c.run_started-ended.new.end.going c.run_started-ended.new.end.spent)))
    (Some c.run_started-ended.result))
    c.new-linked.ensures c.run_started-ended.ensures.counts)

pub returns-clause-connects : goal.returns-clause-connects
returns-clause-connects g c =
    once g.L.Link side.Host c.args.address.now c.args.link.now c.run_started-ended.new.link
    c.run_started-ended.ensures.connected
