use Rattle.std.proofs.Common.{subst, sym}
use Rattle.std.specs.Prelude.{Err}
use Rattle.disk_base.specs.MemDisk.{DiskState}
use Rattle.disk_base.specs.contracts.mem_disk.MemDiskDisk.TheImpl.{ghosts}
use Rattle.filed_end.specs.declared.ended.Ended.{Ended}
use Rattle.filed_end.specs.Breaking.{Breaks, Moves}
use Rattle.journal_end.specs.Filed.{CanStep, MayHold, form}
use Rattle.journal_end.proofs.Endings.{breaks, ends, moved, passes}
use Rattle.journal_node.specs.Held.{disk_held, view_in}
use Rattle.journal_node.specs.Works.{losses}
use Rattle.message_end.specs.Ends.{input_of}
use Rattle.journal_end.proofs.journal_end.JournalOnDiskFiledEnd.step.Goals as goal

pub returns-in-Ok-clause-moves : goal.returns-in-Ok-clause-moves
returns-in-Ok-clause-moves c =
    moved c.args.self c.requires.can (input_of c.args.input) c.args.now c.step.new.out (record { host = c.in-Ok.host })
    c.requires.input (c.in-Ok.ensures.moves c.requires.can.on) c.stops_in.ensures.fitted

pub returns-in-Ok-clause-breaks : goal.returns-in-Ok-clause-breaks
returns-in-Ok-clause-breaks c =
    passes c.args.self c.requires.can (input_of c.args.input) c.args.now c.step.new.out (disk_held c.in-Ok.host)
    (c.in-Ok.ensures.breaks c.requires.can.on)

pub returns-in-Err-clause-moves : goal.returns-in-Err-clause-moves
returns-in-Err-clause-moves c =
    subst
    (λ (e : Ended DiskState).
    Moves (form ghosts) (CanStep ghosts) c.args.self (input_of c.args.input) c.args.now c.step.new.out (Err e))
    (sym c.left_by.ensures)
    (ends c.args.self c.requires.can (input_of c.args.input) c.args.now c.step.new.out c.in-Err.ended
    (c.in-Err.ensures.moves c.requires.can.on))

pub returns-in-Err-clause-breaks : goal.returns-in-Err-clause-breaks
returns-in-Err-clause-breaks c =
    subst
    (λ (e : Ended DiskState).
    Breaks (form ghosts) ghosts MayHold c.args.self
    (losses (view_in ghosts c.args.self.host) (input_of c.args.input) c.args.now) c.step.new.out.notes (Err e))
    (sym c.left_by.ensures)
    (breaks c.args.self c.requires.can (input_of c.args.input) c.args.now c.step.new.out c.in-Err.ended
    (c.in-Err.ensures.breaks c.requires.can.on) (c.in-Err.ensures.calls c.requires.can.on))
