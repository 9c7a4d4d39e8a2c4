use Rattle.std.proofs.Common.{refl, subst, sym}
use Rattle.std.specs.Prelude.{Err}
use Rattle.disk_base.specs.contracts.mem_disk.MemDiskDisk.TheImpl.{ghosts}
use Rattle.filed_end.specs.InMemory.{starts_over}
use Rattle.journal_end.specs.Filed.{form}
use Rattle.journal_end.specs.declared.journal_end.JournalOnDisk.{JournalOnDisk}
use Rattle.journal_end.proofs.Starting.{first-ends, first-gone, first-power, first-reach, start-whole}
use Rattle.journal_node.specs.End.{machine}
use Rattle.message_end.specs.declared.end.Stop.{Stop}
use Rattle.message_end.specs.Ends.{IsNotStopped, Starts}
use Rattle.journal_end.proofs.journal_end.JournalOnDiskFiledEnd.start_over.Goals as goal

pub returns-in-Ok-clause-start : goal.returns-in-Ok-clause-start
returns-in-Ok-clause-start c =
    first-gone c.args.plan.now c.args.spool (c.len.ensures.rests c.args.spool.disk.story refl) c.requires.spool
    c.start_over.new.out (record { host = c.in-Ok.host }) c.in-Ok.ensures

pub returns-in-Ok-clause-power : goal.returns-in-Ok-clause-power
returns-in-Ok-clause-power c =
    first-power c.args.plan.now c.args.spool (c.len.ensures.rests c.args.spool.disk.story refl) c.requires.spool
    c.start_over.new.out (record { host = c.in-Ok.host }) c.in-Ok.ensures c.requires.plan c.stops_in.ensures.fitted

pub returns-in-Ok-clause-reach : goal.returns-in-Ok-clause-reach
returns-in-Ok-clause-reach c =
    first-reach c.args.plan.now c.args.spool (c.len.ensures.rests c.args.spool.disk.story refl) c.requires.spool
    c.start_over.new.out (record { host = c.in-Ok.host }) c.in-Ok.ensures

pub returns-in-Err-clause-start : goal.returns-in-Err-clause-start
returns-in-Err-clause-start c =
    let plan = c.args.plan.now in
    let spool = c.args.spool in
    subst
    (λ (e : Stop).
    Starts {E = JournalOnDisk} machine.start_stops (starts_over (form ghosts) plan spool.disk) (form ghosts).view
    c.start_over.new.out (Err e))
    (sym c.stop_at_start.ensures)
    (first-ends plan spool
    (c.len.ensures.rests spool.disk.story refl) c.requires.spool c.start_over.new.out c.in-Err.why
    c.in-Err.ensures)

pub returns-in-Err-clause-whole : goal.returns-in-Err-clause-whole
returns-in-Err-clause-whole c =
    subst (λ (e : Stop). IsNotStopped {R = JournalOnDisk} (Err e)) (sym c.stop_at_start.ensures)
    (start-whole JournalOnDisk c.in-Err.why)
