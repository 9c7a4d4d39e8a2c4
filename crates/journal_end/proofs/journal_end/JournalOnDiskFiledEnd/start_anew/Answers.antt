use Rattle.std.proofs.Common.{ap, subst, sym, Some}
use Rattle.std.specs.Prelude.{Err}
use Rattle.disk_base.specs.MemDisk.{DiskState}
use Rattle.disk_base.specs.contracts.mem_disk.MemDiskDisk.TheImpl.{ghosts}
use Rattle.filed_end.specs.InMemory.{starts_over}
use Rattle.journal_end.specs.Filed.{form}
use Rattle.journal_end.specs.declared.journal_end.JournalOnDisk.{JournalOnDisk}
use Rattle.journal_end.proofs.Starting.{anew-ends, anew-power, anew-reach, start-whole}
use Rattle.journal_node.specs.End.{machine}
use Rattle.journal_node.specs.Held.{disk_held}
use Rattle.journal_node.specs.Starting.{KeepsSure, start_calls}
use Rattle.message_end.specs.declared.end.Stop.{Stop}
use Rattle.message_end.specs.Ends.{IsNotStopped, Starts}
use Rattle.spool_file.specs.File.{file_in}
use Rattle.spool_works.specs.DiskCalls.{HasMade}
use Rattle.journal_end.proofs.journal_end.JournalOnDiskFiledEnd.start_anew.Goals as goal

pub returns-in-Ok-clause-start : goal.returns-in-Ok-clause-start
returns-in-Ok-clause-start c =
    let disk = c.args.disk in
    (c.in-Ok.ensures.begins disk.story (ap (λ (d : DiskState). Some d.story) c.new.ensures)).gone

pub returns-in-Ok-clause-power : goal.returns-in-Ok-clause-power
returns-in-Ok-clause-power c =
    let disk = c.args.disk in
    let told = ap (λ (d : DiskState). Some d.story) c.new.ensures in
    anew-power c.args.plan.now disk c.requires.disk c.start.new.out (record { host = c.in-Ok.host })
    (c.in-Ok.ensures.begins disk.story told)
    (subst (λ (d : DiskState). HasMade ghosts d (disk_held c.in-Ok.host) (start_calls (file_in disk.story.now.bytes)))
    c.new.ensures (c.in-Ok.ensures.calls disk.story told))
    (subst (λ (d : DiskState). KeepsSure ghosts d (disk_held c.in-Ok.host)) c.new.ensures c.in-Ok.ensures.keeps)
    c.requires.plan c.stops_in.ensures.fitted

pub returns-in-Ok-clause-reach : goal.returns-in-Ok-clause-reach
returns-in-Ok-clause-reach c =
    let disk = c.args.disk in
    let told = ap (λ (d : DiskState). Some d.story) c.new.ensures in
    anew-reach c.args.plan.now disk c.requires.disk c.start.new.out (record { host = c.in-Ok.host })
    (c.in-Ok.ensures.begins disk.story told)
    (subst (λ (d : DiskState). HasMade ghosts d (disk_held c.in-Ok.host) (start_calls (file_in disk.story.now.bytes)))
    c.new.ensures (c.in-Ok.ensures.calls disk.story told))
    (subst (λ (d : DiskState). KeepsSure ghosts d (disk_held c.in-Ok.host)) c.new.ensures c.in-Ok.ensures.keeps)

pub returns-in-Err-clause-start : goal.returns-in-Err-clause-start
returns-in-Err-clause-start c =
    let plan = c.args.plan.now in
    let disk = c.args.disk in
    subst
    (λ (e : Stop).
    Starts {E = JournalOnDisk} machine.start_stops (starts_over (form ghosts) plan disk) (form ghosts).view
    c.start.new.out (Err e))
    (sym c.stop_at_start.ensures)
    (anew-ends plan disk c.requires.disk c.start.new.out c.in-Err.why
    (c.in-Err.ensures.begins disk.story (ap (λ (d : DiskState). Some d.story) c.new.ensures)))

pub returns-in-Err-clause-whole : goal.returns-in-Err-clause-whole
returns-in-Err-clause-whole c =
    subst (λ (e : Stop). IsNotStopped {R = JournalOnDisk} (Err e)) (sym c.stop_at_start.ensures)
    (start-whole JournalOnDisk c.in-Err.why)
