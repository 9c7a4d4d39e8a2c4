-- The host with its journal as it is run over a link: it goes on, or a step has stopped it and its device is left.
use Rattle.std.specs.Prelude.{◌≡◌, Bool, ℕ, List, Option, Some, None, is_some, false}
use Rattle.disk_base.specs.Story.{Moment, Story}
use Rattle.disk_base.specs.declared.disk.Disk as disk
use Rattle.end_run.specs.Counts.{Device}
use Rattle.end_run.specs.Scenes.{StopAt}
use Rattle.journal_link.specs.declared.linked.LinkedJournal.{LinkedJournal}
use Rattle.journal_node.specs.declared.journal_host.JournalEnded.{JournalEnded}
use Rattle.journal_node.specs.declared.journal_host.JournalEnded.TheVariants as ended
use Rattle.journal_node.specs.End.{machine}
use Rattle.journal_node.specs.Held.{Held, IsIn, IsLeftBy, disk_held, view_in}
use Rattle.journal_node.specs.Journal.{JournalView, standing_in, started_on}
use Rattle.journal_node.specs.Left.{HasBegunAt, HasFailedAt, Holds, HoldsEnded}
use Rattle.line_end.specs.declared.plan.HostPlan.{HostPlan}
use Rattle.message_end.specs.declared.end.Stop.{Stop}
use Rattle.message_end.specs.declared.end.Stop.TheVariants as stop
use Rattle.message_end.specs.Calls.{deadline_of_end}
use Rattle.message_end.specs.Ends.{Asked, Input, Machine}
use Rattle.message_flow.specs.declared.step.StepOut.{StepOut}
use Rattle.spool_file.specs.Format.{empty_file}
use Rattle.spool_slots.specs.declared.states.Spent.{Spent}
use Rattle.trace_log.specs.declared.commands.HostCommand.{HostCommand}

-- when it acts next by itself
abbrev pub journal_due : JournalView → Option ℕ
journal_due s = deadline_of_end s.node.core

-- over a link nothing is said of how much its disk has room for: a step may fail at a call of it
abbrev pub one_call : Asked
one_call = record { calls = 1; bytes = 0 }

abbrev pub linked_machine : Machine JournalView HostCommand
linked_machine = record machine { asks = λ s input now. one_call; start_asks = one_call }

-- a plan, for a state of which nothing is said
unfoldable pub some_plan : HostPlan
some_plan = record {
  line = record {
    device = 0;
    times = record { t1 = 500; t2 = 10000; rty = 3 };
    t3 = 45000;
    t4 = 45000;
    max_body = 1048576;
  };
  enable = false;
}

-- of one that has stopped nothing is known: some state stands for it
unfoldable pub nowhere : JournalView
nowhere = (started_on some_plan (empty_file 0)).next

abbrev pub linked_view : {D : Type 0} → disk.Ghosts D → Option (Held D) → JournalView
linked_view members None = nowhere
linked_view members (Some h) = view_in members h

-- one that goes on is known where its disk tells its bytes
abbrev pub IsGoing : {D : Type 0} → disk.Ghosts D → Option (Held D) → Type 0
IsGoing members None = ⊥
IsGoing members (Some h) = IsIn members h

-- it goes on, or its device is left
abbrev pub HoldsOne : {D : Type 0} → Option (Held D) → Option (Spent D) → Type 0
HoldsOne None None = ⊥
HoldsOne None (Some spent) = Unit {0}
HoldsOne (Some h) None = Unit {0}
HoldsOne (Some h) (Some spent) = ⊥

-- what the device of one that a step has stopped for this reason may hold: all works that were decided by then; those
-- before the call that failed, amid whose work it is; or some first ones
abbrev pub MayHold : JournalView → Input HostCommand → ℕ → StepOut → Stop → Moment → Type 0
MayHold s input now out stop.NumbersSpent moment = HoldsEnded s input now moment
MayHold s input now out stop.Full moment = HoldsEnded s input now moment
MayHold s input now out stop.DiskFailed moment = HasFailedAt s input now out moment
MayHold s input now out stop.NoMemory moment = HasBegunAt s input now moment

-- it holds that
abbrev pub HasLeft :
    {D : Type 0} → disk.Ghosts D → JournalView → Input HostCommand → ℕ → StepOut → Stop → Spent D → Type 0
HasLeft members s input now out why spent = IsLeftBy members spent (λ t. MayHold s input now out why t.now)

abbrev pub IsLeftSo :
    {D : Type 0} → disk.Ghosts D → JournalView → Input HostCommand → ℕ → StepOut → Stop → Option (Spent D) → Type 0
IsLeftSo members s input now out why None = ⊥
IsLeftSo members s input now out why (Some spent) = HasLeft members s input now out why spent

-- the same of the value
abbrev pub IsKnown : {D : Type 0} → disk.Ghosts D → LinkedJournal D → Type 0
IsKnown members linked = IsGoing members linked.going

abbrev pub LeavesDevice :
    {D : Type 0} → disk.Ghosts D → JournalView → Input HostCommand → ℕ → StepOut → Stop → LinkedJournal D → Type 0
LeavesDevice members s input now out why linked = IsLeftSo members s input now out why linked.spent

-- the device that it has, or that is left
abbrev pub disk_in : {D : Type 0} → Option (Held D) → Option (Spent D) → Option D
disk_in None None = None
disk_in None (Some spent) = Some spent.disk
disk_in (Some h) spent = Some (disk_held h)

-- what the disk holds behind a run, where it tells its bytes: of a host that is on its way, the journal of its state,
-- whatever a crash leaves; of one that a step has stopped, what that step may leave
abbrev pub HoldsLeft : JournalView → Option (StopAt JournalView HostCommand) → Option Story → Type 0
HoldsLeft left None after = (t : Story) → after ≡ Some t → Holds (standing_in left) t.now
HoldsLeft left (Some halt) after =
    (t : Story) → after ≡ Some t → MayHold halt.at.state halt.at.input halt.at.moment halt.out halt.why t.now

-- which disk it is, which file it has, and whether it tells its bytes, no step changes
abbrev pub Fixed : Type 0
Fixed = Option (ℕ × Option (List ℕ) × Bool)

abbrev pub device_of : {D : Type 0} → disk.Ghosts D → D → Device Fixed
device_of members d =
    record {
      faults = (members.health d).faults;
      fixed = Some (members.name d, members.file_is d, is_some (members.told d));
    }

abbrev pub device_by : {D : Type 0} → disk.Ghosts D → Option D → Device Fixed
device_by members None = record { faults = 0; fixed = None }
device_by members (Some d) = device_of members d

-- what a step leaves of one that it stops, and why
abbrev pub spent_by : {D : Type 0} → JournalEnded D → Spent D
spent_by (ended.NoMemory spent) = spent
spent_by (ended.DiskFailed spent) = spent
spent_by (ended.NumbersSpent spent) = spent
spent_by (ended.JournalFull spent) = spent

abbrev pub stop_by : {D : Type 0} → JournalEnded D → Stop
stop_by (ended.NoMemory spent) = stop.NoMemory
stop_by (ended.DiskFailed spent) = stop.DiskFailed
stop_by (ended.NumbersSpent spent) = stop.NumbersSpent
stop_by (ended.JournalFull spent) = stop.Full
