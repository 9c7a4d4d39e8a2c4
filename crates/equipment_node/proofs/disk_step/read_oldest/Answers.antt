use Rattle.std.proofs.Common.{ap, inl, subst, sym, ℕ, None, Some, is_some, Option}
use Rattle.std.specs.Prelude.{Ok, Err}
use Rattle.gem_spool.specs.Oldest.{ReadsOldest}
use Rattle.gem_spool.specs.declared.kept.Unread.{Unread}
use Rattle.gem_spool.specs.declared.kept.Unread.TheVariants as unread
use Rattle.spool_slots.specs.Changes.{IsFirstSize}
use Rattle.tool_step.specs.Disk.{standing_in}
use Rattle.spool_works.specs.HandedBack.{HasFailed}
use Rattle.message_end.specs.Parts.{Node}
use Rattle.tool_core.specs.Node.{node_of}
use Rattle.tool_step.specs.Own.{OwnView}
use Rattle.tool_step.specs.declared.kind.Kind.{Kind}
use Rattle.equipment_node.proofs.HandingBack.{kept-at, kept-then, looked-back, unlooked-back}
use Rattle.equipment_node.proofs.LastParts.{no-list, none-there, read-at, read-there, served-done}
use Rattle.equipment_node.proofs.OnDisk.{kept-of}
use Rattle.equipment_node.proofs.Readying.{read-ready, same-ready}
use Rattle.equipment_node.proofs.Sizing.{first-size}
use Rattle.equipment_node.proofs.StepCalls.{look-called, looked-all, some-there, unread-called}
use Rattle.equipment_node.proofs.StepBreaks.{look-breaks, looked-passes}
use Rattle.equipment_node.proofs.disk_step.read_oldest.Goals as goal

pub oldest_message-requires : goal.oldest_message-requires
oldest_message-requires g c = record {
  size = λ some.
      subst (λ (slots : ℕ). IsFirstSize g.D.Disk c.args.spool.spool slots) (sym c.oldest_size-slots.ensures)
      (first-size g.D.Disk c.args.spool.spool c.args.tool.now.own.ledger c.requires.ready.counted c.requires.owes some);
}

-- ---- it was read

pub returns-in-Ok-clause-ready : goal.returns-in-Ok-clause-ready
returns-in-Ok-clause-ready g c =
    read-ready g.D.Disk c.args.spool.spool c.oldest_message.new.self.spool _ _ (node_of c.args.tool.now)
    c.requires.ready c.in-Ok.ensures.reads.0

pub returns-in-Ok-clause-can : goal.returns-in-Ok-clause-can
returns-in-Ok-clause-can g c = c.report_of-report.ensures.can

pub returns-in-Ok-clause-reads : goal.returns-in-Ok-clause-reads
returns-in-Ok-clause-reads g c t out now asked some at = (
  ap (λ (n : Node OwnView Kind). n.own.owed) asked,
  λ new after result does.
      served-done g.D.Disk now t (node_of c.args.tool.now) new out after c.oldest_message.new.self
      (Some (c.args.number, c.report_of-report.result))
      (read-at g.D.Disk t out c.args.spool c.oldest_message.new.self at
      (c.in-Ok.ensures.stands (standing_in t.next) at.clear.stands) c.in-Ok.ensures.reads.0.told)
      asked
      (read-there g.D.Disk t c.args.number c.args.spool.spool c.oldest_message.new.self.spool c.in-Ok.kept
      c.report_of-report.result at.clear at.told some c.oldest_size-slots.result c.in-Ok.ensures.reads
      c.report_of-report.ensures.is)
      result does,
)

pub returns-in-Ok-clause-calls : goal.returns-in-Ok-clause-calls
returns-in-Ok-clause-calls g c st stands some =
    let reads =
    subst
    (λ (slots : ℕ). ReadsOldest g.D.Disk c.args.spool.spool c.oldest_message.new.self.spool slots (Ok c.in-Ok.kept))
    c.oldest_size-slots.ensures c.in-Ok.ensures.reads in
    looked-all g.D.Disk st c.args.spool.spool stands _ c.oldest_message.new.self.spool reads.0

pub returns-in-Ok-clause-disk : goal.returns-in-Ok-clause-disk
returns-in-Ok-clause-disk g c =
    looked-back g.D.Disk c.args.spool.spool c.oldest_message.new.self.spool _ c.in-Ok.ensures.reads.0

pub returns-in-Ok-clause-breaks : goal.returns-in-Ok-clause-breaks
returns-in-Ok-clause-breaks g c s st stands some told front notes noted =
    let reads =
    subst
    (λ (slots : ℕ). ReadsOldest g.D.Disk c.args.spool.spool c.oldest_message.new.self.spool slots (Ok c.in-Ok.kept))
    c.oldest_size-slots.ensures c.in-Ok.ensures.reads in
    looked-passes g.D.Disk s c.args.spool.spool c.oldest_message.new.self.spool _ st front stands reads.0

-- ---- there is none

pub returns-in-Err-Empty-clause-ready : goal.returns-in-Err-Empty-clause-ready
returns-in-Err-Empty-clause-ready g c =
    let reads =
    subst
    (λ (why : Unread).
    ReadsOldest g.D.Disk c.args.spool.spool c.oldest_message.new.self.spool c.oldest_size-slots.result (Err why))
    c.in-Err-Empty.field-0-is c.in-Err-Empty.ensures.reads in
    same-ready g.D.Disk c.args.spool.spool c.oldest_message.new.self.spool (node_of c.args.tool.now) c.requires.ready
    reads.0

pub returns-in-Err-Empty-clause-reads : goal.returns-in-Err-Empty-clause-reads
returns-in-Err-Empty-clause-reads g c t out now asked some at = (
  ap (λ (n : Node OwnView Kind). n.own.owed) asked,
  λ new after result does.
      let reads =
      subst
      (λ (why : Unread).
      ReadsOldest g.D.Disk c.args.spool.spool c.oldest_message.new.self.spool c.oldest_size-slots.result (Err why))
      c.in-Err-Empty.field-0-is c.in-Err-Empty.ensures.reads in
      served-done g.D.Disk now t (node_of c.args.tool.now) new out after c.oldest_message.new.self None
      (read-at g.D.Disk t out c.args.spool c.oldest_message.new.self at
      (c.in-Err-Empty.ensures.stands (standing_in t.next) at.clear.stands)
      (ap (λ v. g.D.Disk.told v.disk) reads.0))
      asked
      (none-there g.D.Disk t c.args.number some (no-list g.D.Disk t c.args.spool.spool at.clear reads.1))
      result does,
)

pub returns-in-Err-Empty-clause-calls : goal.returns-in-Err-Empty-clause-calls
returns-in-Err-Empty-clause-calls g c st stands some =
    let reads =
    subst
    (λ (why : Unread).
    ReadsOldest g.D.Disk c.args.spool.spool c.oldest_message.new.self.spool c.oldest_size-slots.result (Err why))
    c.in-Err-Empty.field-0-is c.in-Err-Empty.ensures.reads in
    absurd (some-there g.D.Disk st c.args.spool.spool stands reads.1 some)

pub returns-in-Err-Empty-clause-disk : goal.returns-in-Err-Empty-clause-disk
returns-in-Err-Empty-clause-disk g c =
    let reads =
    subst
    (λ (why : Unread).
    ReadsOldest g.D.Disk c.args.spool.spool c.oldest_message.new.self.spool c.oldest_size-slots.result (Err why))
    c.in-Err-Empty.field-0-is c.in-Err-Empty.ensures.reads in
    kept-at g.D.Disk c.args.spool.spool.disk c.oldest_message.new.self.spool.disk (ap (λ v. v.disk) reads.0)

pub returns-in-Err-Empty-clause-breaks : goal.returns-in-Err-Empty-clause-breaks
returns-in-Err-Empty-clause-breaks g c s st stands some told front notes noted =
    let reads =
    subst
    (λ (why : Unread).
    ReadsOldest g.D.Disk c.args.spool.spool c.oldest_message.new.self.spool c.oldest_size-slots.result (Err why))
    c.in-Err-Empty.field-0-is c.in-Err-Empty.ensures.reads in
    absurd (some-there g.D.Disk st c.args.spool.spool stands reads.1 some)

-- ---- the disk failed

pub returns-in-Err-Failed-clause-reads : goal.returns-in-Err-Failed-clause-reads
returns-in-Err-Failed-clause-reads g c t out now asked some at = (
  inl (ap (λ (n : Option ℕ). is_some n) some),
  at.notes,
  kept-of g.D.Disk c.oldest_message.new.self.spool (standing_in t.next) c.retire.result c.retire.ensures.disk
      (c.in-Err-Failed.ensures.stands (standing_in t.next) at.clear.stands),
)

pub returns-in-Err-Failed-clause-calls : goal.returns-in-Err-Failed-clause-calls
returns-in-Err-Failed-clause-calls g c st stands some =
    let reads =
    subst
    (λ (why : Unread).
    ReadsOldest g.D.Disk c.args.spool.spool c.oldest_message.new.self.spool c.oldest_size-slots.result (Err why))
    c.in-Err-Failed.field-0-is c.in-Err-Failed.ensures.reads in
    look-called g.D.Disk st c.args.spool.spool stands _ c.oldest_message.new.self.spool c.retire.result
    (subst
    (λ (slots : ℕ).
    ReadsOldest g.D.Disk c.args.spool.spool c.oldest_message.new.self.spool slots (Err unread.Failed))
    c.oldest_size-slots.ensures reads).0
    c.retire.ensures.disk

pub returns-in-Err-Failed-clause-disk : goal.returns-in-Err-Failed-clause-disk
returns-in-Err-Failed-clause-disk g c =
    let reads =
    subst
    (λ (why : Unread).
    ReadsOldest g.D.Disk c.args.spool.spool c.oldest_message.new.self.spool c.oldest_size-slots.result (Err why))
    c.in-Err-Failed.field-0-is c.in-Err-Failed.ensures.reads in
    subst (λ d. HasFailed g.D.Disk c.args.spool.spool.disk d) (sym c.retire.ensures.disk)
    (unlooked-back g.D.Disk c.args.spool.spool c.oldest_message.new.self.spool _ reads.0)

pub returns-in-Err-Failed-clause-breaks : goal.returns-in-Err-Failed-clause-breaks
returns-in-Err-Failed-clause-breaks g c s st stands some told front notes noted =
    let reads =
    subst
    (λ (why : Unread).
    ReadsOldest g.D.Disk c.args.spool.spool c.oldest_message.new.self.spool c.oldest_size-slots.result (Err why))
    c.in-Err-Failed.field-0-is c.in-Err-Failed.ensures.reads in
    look-breaks g.D.Disk s c.args.spool.spool c.oldest_message.new.self.spool _ c.retire.result st front
    notes stands told noted
    (subst
    (λ (slots : ℕ).
    ReadsOldest g.D.Disk c.args.spool.spool c.oldest_message.new.self.spool slots (Err unread.Failed))
    c.oldest_size-slots.ensures reads).0
    c.retire.ensures.disk

-- ---- memory ran out

pub returns-in-Err-NoMemory-clause-reads : goal.returns-in-Err-NoMemory-clause-reads
returns-in-Err-NoMemory-clause-reads g c t out now asked some at =
    kept-of g.D.Disk c.oldest_message.new.self.spool (standing_in t.next) c.retire-in-Err-NoMemory.result
    c.retire-in-Err-NoMemory.ensures.disk
    (c.in-Err-NoMemory.ensures.stands (standing_in t.next) at.clear.stands)

pub returns-in-Err-NoMemory-clause-calls : goal.returns-in-Err-NoMemory-clause-calls
returns-in-Err-NoMemory-clause-calls g c st stands some =
    let reads =
    subst
    (λ (why : Unread).
    ReadsOldest g.D.Disk c.args.spool.spool c.oldest_message.new.self.spool c.oldest_size-slots.result (Err why))
    c.in-Err-NoMemory.field-0-is c.in-Err-NoMemory.ensures.reads in
    unread-called g.D.Disk st c.args.spool.spool stands _ c.oldest_message.new.self.spool
    c.retire-in-Err-NoMemory.result
    (subst
    (λ (slots : ℕ).
    ReadsOldest g.D.Disk c.args.spool.spool c.oldest_message.new.self.spool slots (Err unread.NoMemory))
    c.oldest_size-slots.ensures reads).0
    c.retire-in-Err-NoMemory.ensures.disk

pub returns-in-Err-NoMemory-clause-disk : goal.returns-in-Err-NoMemory-clause-disk
returns-in-Err-NoMemory-clause-disk g c =
    let reads =
    subst
    (λ (why : Unread).
    ReadsOldest g.D.Disk c.args.spool.spool c.oldest_message.new.self.spool c.oldest_size-slots.result (Err why))
    c.in-Err-NoMemory.field-0-is c.in-Err-NoMemory.ensures.reads in
    kept-then g.D.Disk c.args.spool.spool.disk c.oldest_message.new.self.spool.disk
    c.retire-in-Err-NoMemory.result.disk
    (looked-back g.D.Disk c.args.spool.spool c.oldest_message.new.self.spool _ reads.0.reads)
    (kept-at g.D.Disk c.oldest_message.new.self.spool.disk c.retire-in-Err-NoMemory.result.disk
    c.retire-in-Err-NoMemory.ensures.disk)
