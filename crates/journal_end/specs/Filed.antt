-- The host with its journal as an end with a file on a disk in memory.
use Rattle.std.specs.Prelude.{◌≡◌, ℕ, List}
use Rattle.disk_base.specs.MemDisk.{DiskState}
use Rattle.disk_base.specs.declared.disk.Disk as disk
use Rattle.filed_end.specs.declared.ended.Ended.{Ended}
use Rattle.filed_end.specs.declared.ended.Ended.TheVariants as filed
use Rattle.filed_end.specs.Form.{Form}
use Rattle.journal_end.specs.declared.journal_end.JournalOnDisk.{JournalOnDisk}
use Rattle.journal_node.specs.declared.journal_host.JournalEnded.{JournalEnded}
use Rattle.journal_node.specs.declared.journal_host.JournalEnded.TheVariants as ended
use Rattle.journal_node.specs.declared.journal_host.JournalStarting.{JournalStarting}
use Rattle.journal_node.specs.declared.journal_host.JournalStarting.TheVariants as starting
use Rattle.journal_node.specs.End.{machine}
use Rattle.journal_node.specs.Held.{IsIn, disk_held, view_in}
use Rattle.journal_node.specs.Journal.{JournalView, started_on, starts}
use Rattle.journal_node.specs.Law.{DidOf}
use Rattle.line_end.specs.Plan.{HostPlanFits}
use Rattle.line_end.specs.declared.plan.HostPlan.{HostPlan}
use Rattle.message_end.specs.Doings.{Doing}
use Rattle.message_end.specs.declared.end.Stop.{Stop}
use Rattle.message_end.specs.declared.end.Stop.TheVariants as stop
use Rattle.spool_file.specs.File.{SpoolFile}
use Rattle.spool_file.specs.Format.{empty_file}
use Rattle.trace_log.specs.declared.commands.HostCommand.{HostCommand}

-- its journal is one of version 2
abbrev pub MayHold : SpoolFile → Type 0
MayHold file = file.version ≡ 2

abbrev pub form : disk.Ghosts DiskState → Form JournalOnDisk HostPlan JournalView HostCommand
form members = record {
  view = λ end. view_in members end.host;
  disk = λ end. disk_held end.host;
  plan = λ s. s.node.own.plan;
  file = λ s. s.file;
  machine = machine;
  starts = starts;
  idle = λ plan. (started_on plan (empty_file 0)).next;
}

-- some doings since a start have made it what it is
pub record IsMade (s : JournalView) : Type 0 where
  pub plan : HostPlan
  pub fits : HostPlanFits plan
  pub base : ℕ
  pub doings : List Doing
  pub did : DidOf plan base doings s

-- the journal in hand is that of its state
pub record CanStep (members : disk.Ghosts DiskState) (end : JournalOnDisk) : Type 0 where
  pub on : IsIn members end.host
  pub made : IsMade (view_in members end.host)

-- why it has stopped
abbrev pub ended_by : JournalEnded DiskState → Ended DiskState
ended_by (ended.NoMemory spent) = filed.NoMemory
ended_by (ended.DiskFailed spent) = filed.DiskFailed spent.disk
ended_by (ended.NumbersSpent spent) = filed.NumbersSpent spent.disk
ended_by (ended.JournalFull spent) = filed.Full spent.disk

-- why it doesn't start: where the disk fails, or gives no journal, the list of its calls has no memory for them
abbrev pub stop_at_start : {D : Type 0} → JournalStarting D → Stop
stop_at_start (starting.NoMemory spent) = stop.NoMemory
stop_at_start (starting.NotSpool raw break) = stop.NoMemory
stop_at_start (starting.DiskFailed spent) = stop.NoMemory
stop_at_start (starting.NumbersSpent spent) = stop.NumbersSpent
