-- The run over the disks of both ends: each starts on an empty file.
use Rattle.std.proofs.Common.{◌≡◌, sym, ap, subst, ◌∙◌, ℕ, List, Option}
use Rattle.disk_base.specs.MemDisk.{DiskState}
use Rattle.disk_base.specs.contracts.mem_disk.MemDiskDisk.TheImpl.{ghosts}
use Rattle.end_pair.specs.Run as pair
use Rattle.end_pair.specs.Run.{HandsBack}
use Rattle.end_pair.specs.World.{World}
use Rattle.end_pair.specs.declared.answers.RunEnd.{RunEnd}
use Rattle.equipment_tables.specs.declared.plan.Plans.{Plans}
use Rattle.filed_end.specs.Form.{making}
use Rattle.filed_end.specs.InMemory.{Holds, starts_over}
use Rattle.gl_base.specs.Told.{SinkTold}
use Rattle.journal_end.specs.Filed.{MayHold, form}
use Rattle.journal_node.specs.End as journal
use Rattle.journal_node.specs.Journal.{JournalView, starts}
use Rattle.line_end.specs.declared.plan.HostPlan.{HostPlan}
use Rattle.line_schedule.specs.declared.event.Event.{Event}
use Rattle.line_schedule.specs.declared.schedule.JournalSchedule.{JournalSchedule}
use Rattle.line_world.specs.Disk.{IsEmptySpool}
use Rattle.line_world.specs.Run.{EquipmentView, equipment_start}
use Rattle.message_end.specs.Core.{Step, Went, step_in}
use Rattle.message_end.specs.Core.Went.{Goes}
use Rattle.message_end.specs.Ends.{Opens}
use Rattle.spool_file.specs.File.{SpoolFile}
use Rattle.spool_slots.specs.Spool.{SpoolView}
use Rattle.spool_works.specs.Found.{first_in}
use Rattle.tool_step.specs.End as equipment
use Rattle.trace_log.specs.Log.{Happening}
use Rattle.journal_world.specs.Run.{Runs, host_start, piece_of}

-- ---- the journal, which is made as a spool is

pub holds-journal : (slots : ℕ) (spool : SpoolView DiskState) → IsEmptySpool slots spool → Holds MayHold spool
holds-journal slots spool is = record {
  may = ap (λ (file : SpoolFile). file.version) is.file;
  first = is.first ∙ sym (ap first_in is.file);
  sure = record { fails_not = is.fails_not; stops_not = is.stops_not; going = is.going };
  bounded = is.bounded;
  asked = is.asked ∙ ap making (sym (ap (λ (file : SpoolFile). file.slots) is.file));
}

starts-journal : (plan : HostPlan) (slots : ℕ) (spool : SpoolView DiskState) → IsEmptySpool slots spool
    → starts_over (form ghosts) plan spool.disk ≡ Goes (host_start plan slots)
starts-journal plan slots spool is = ap (λ (file : SpoolFile). starts plan file) is.file

pub opens-journal : (plan : HostPlan) (slots : ℕ) (spool : SpoolView DiskState) → IsEmptySpool slots spool
    → Opens (starts_over (form ghosts) plan spool.disk)
opens-journal plan slots spool is =
    subst (λ (went : Went JournalView Happening). Opens went) (sym (starts-journal plan slots spool is)) tt

pub journal-first : (plan : HostPlan) (slots : ℕ) (spool : SpoolView DiskState) → IsEmptySpool slots spool
    → step_in (starts_over (form ghosts) plan spool.disk) ≡ host_start plan slots
journal-first plan slots spool is =
    ap (λ (went : Went JournalView Happening). step_in went) (starts-journal plan slots spool is)

-- ---- the run, over the starts that the values have

module _ (plans : Plans) (slots : ℕ) (schedule : JournalSchedule) (first : Step EquipmentView Happening)
    (is : first ≡ equipment_start plans) (second : Step JournalView Happening)
    (is_there : second ≡ host_start plans.host slots) (events : List Event) (same : events ≡ schedule.events) where
  over : (P : Step EquipmentView Happening → Step JournalView Happening → List Event → Type 0) → P first second events
      → P (equipment_start plans) (host_start plans.host slots) schedule.events
  over P now =
      subst (λ (s : Step EquipmentView Happening). P s (host_start plans.host slots) schedule.events) is
      (subst (λ (t : Step JournalView Happening). P first t schedule.events) is_there
      (subst (λ (them : List Event). P first second them) same now))

  pub runs-over :
      (out : SinkTold) (ended : RunEnd)
      → pair.Runs out (pair.trace_text equipment.machine journal.machine first second events)
      (pair.went_of equipment.machine journal.machine first second events) ended → Runs out plans slots schedule ended
  runs-over out ended runs =
      over
      (λ s t them.
      pair.Runs out (pair.trace_text equipment.machine journal.machine s t them)
      (pair.went_of equipment.machine journal.machine s t them) ended)
      runs

  pub hands-over :
      {W : Type 0} (show : W → World EquipmentView JournalView) (ended : RunEnd) (handed : Option W)
      → HandsBack show (pair.piece_of equipment.machine journal.machine first second events).world ended handed
      → HandsBack show (piece_of plans slots schedule).world ended handed
  hands-over show ended handed hands =
      over
      (λ s t them. HandsBack show (pair.piece_of equipment.machine journal.machine s t them).world ended handed) hands
