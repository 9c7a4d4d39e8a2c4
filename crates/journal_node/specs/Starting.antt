-- What the code says of a start over the device of a journal.
use Rattle.std.specs.Prelude.{◌≡◌, ◌≢◌, ◌⊎◌, ℕ, ◌==◌, ◌≤◌, if◌then◌else◌, true, false, List, [], ◌∷◌, ◌++◌, length, Option, None, Some}
use Rattle.std.specs.Prelude.{Result, Ok, Err}
use Rattle.std.specs.List.{All}
use Rattle.disk_base.specs.Calls.{DiskCall, Logs, sync_call}
use Rattle.disk_base.specs.Faults.{DiskHealth, IsLeftOut}
use Rattle.disk_base.specs.Story.{Story, with_sync}
use Rattle.disk_base.specs.Through.{EachImage}
use Rattle.disk_base.specs.declared.disk.CallKind.TheVariants.{Read}
use Rattle.disk_base.specs.declared.disk.Disk as disk
use Rattle.disk_base.specs.declared.disk.DiskAnswer.TheVariants.{Failed}
use Rattle.gem_spool.specs.Updates.{syncs}
use Rattle.line_end.specs.declared.plan.HostPlan.{HostPlan}
use Rattle.message_flow.specs.declared.step.StepOut.{StepOut}
use Rattle.spool_file.specs.File.{SpoolFile, StandsFor, file_in, spool_break}
use Rattle.spool_file.specs.Reading.{IsBreak}
use Rattle.spool_file.specs.Reads.{most_reads, recover_calls}
use Rattle.spool_slots.specs.Calls.{upgrade_calls}
use Rattle.spool_slots.specs.Changes.{Upgrades}
use Rattle.spool_slots.specs.Files.{upgraded, with_mark_moved}
use Rattle.spool_slots.specs.Spool.{SpoolView}
use Rattle.spool_slots.specs.declared.states.Recovering.{Recovering}
use Rattle.spool_slots.specs.declared.states.Recovering.TheVariants as recovering
use Rattle.spool_slots.specs.declared.states.Spent.{Spent}
use Rattle.spool_works.specs.DiskCalls.{HasFailedIn, HasMade, disk_calls, with_calls}
use Rattle.spool_works.specs.DiskWorks.DiskWork.{Reserve}
use Rattle.spool_works.specs.HandedBack.{HasFailed, IsKept}
use Rattle.message_end.specs.Ends.{HasGone, IsEmpty}
use Rattle.journal_node.specs.declared.journal_host.JournalStarting.{JournalStarting}
use Rattle.journal_node.specs.declared.journal_host.JournalStarting.TheVariants as starting
use Rattle.journal_node.specs.Held.{Held, IsIn, disk_held, view_in}
use Rattle.journal_node.specs.Journal.{is_marked_out, standing_of_file, starts}

-- ---- what there is then

-- it is as the file says, and its numbers are those behind the mark
pub record HasBegunOn
    {D : Type 0} (members : disk.Ghosts D) (plan : HostPlan) (file : SpoolFile) (out : StepOut) (h : Held D)
    : Type 0 where
  pub gone : HasGone (starts plan file) (view_in members h) out
  pub in_state : IsIn members h

-- the file as it was, or of version 2, with the old mark, or with the new one
abbrev pub HasMark : SpoolFile → List ℕ → Type 0
HasMark file image =
    StandsFor image file ⊎ (StandsFor image (upgraded file) ⊎ StandsFor image (with_mark_moved (upgraded file)))

abbrev pub IsMarkedIn : {D : Type 0} → disk.Ghosts D → SpoolFile → Spent D → Type 0
IsMarkedIn members file spent = (t : Story) → members.told spent.disk ≡ Some t → EachImage (HasMark file) t.now

-- nothing was written yet
abbrev pub IsUntouched : Story → Story → Type 0
IsUntouched s t = (t ≡ s) ⊎ (t ≡ with_sync s)

-- over what a device tells. Where it doesn't start nothing is noted
abbrev pub Begins :
    {D : Type 0} → disk.Ghosts D → HostPlan → Story → StepOut → Result (Held D) (JournalStarting D) → Type 0
Begins members plan s out (Ok h) = HasBegunOn members plan (file_in s.now.bytes) out h
Begins members plan s out (Err (starting.NotSpool raw break)) =
    IsEmpty out × IsBreak s.now.bytes (spool_break s.now.bytes) break
    × ((t : Story) → members.told raw.disk ≡ Some t → IsUntouched s t)
Begins members plan s out (Err (starting.NumbersSpent spent)) =
    IsEmpty out × (is_marked_out (file_in s.now.bytes).mark.value ≡ true)
    × ((t : Story) → members.told spent.disk ≡ Some t
    → EachImage (λ image. StandsFor image (upgraded (file_in s.now.bytes))) t.now)
Begins members plan s out (Err (starting.DiskFailed spent)) =
    IsEmpty out
    × ((t : Story) → members.told spent.disk ≡ Some t
    → IsUntouched s t ⊎ EachImage (HasMark (file_in s.now.bytes)) t.now)
Begins members plan s out (Err (starting.NoMemory spent)) =
    (out.line.items ≡ []) × IsMarkedIn members (file_in s.now.bytes) spent

-- what it told stands for a journal where it starts, or lacks memory or numbers; of bytes that are none `Begins` tells
-- the break
abbrev pub FindsFile : {D : Type 0} → Story → Result (Held D) (JournalStarting D) → Type 0
FindsFile s (Ok h) = spool_break s.now.bytes ≡ None
FindsFile s (Err (starting.NoMemory spent)) = spool_break s.now.bytes ≡ None
FindsFile s (Err (starting.NumbersSpent spent)) = spool_break s.now.bytes ≡ None
FindsFile s (Err (starting.NotSpool raw break)) = Unit {0}
FindsFile s (Err (starting.DiskFailed spent)) = Unit {0}

-- why it doesn't start, where its device gives no spool
abbrev pub starting_by : {D : Type 0} → Recovering D → JournalStarting D
starting_by (recovering.NotSpool raw break) = starting.NotSpool raw break
starting_by (recovering.Failed spent) = starting.DiskFailed spent

-- it is one of version 2 already, or becomes one
abbrev pub UpgradesOnce : {D : Type 0} → disk.Ghosts D → SpoolView D → Result (SpoolView D) (Spent D) → Type 0
UpgradesOnce members v (Ok w) = ((v.version ≡ 2) × (w ≡ v)) ⊎ ((v.version ≡ 1) × Upgrades members v (Ok w))
UpgradesOnce members v (Err spent) = (v.version ≡ 1) × Upgrades members v (Err spent)

-- ---- the calls of the disk

-- a file of version 1 becomes one of version 2
abbrev pub upgrades : SpoolFile → List DiskCall
upgrades file = if file.version == 1 then upgrade_calls else []

-- the mark is moved on
abbrev pub reserve_calls : SpoolFile → List DiskCall
reserve_calls file = disk_calls (standing_of_file file) Reserve

-- the file is looked through before: a sync, a read of what is in front of its slots, and those of the slots by its
-- version
abbrev pub taking_calls : SpoolFile → List DiskCall
taking_calls file = recover_calls file.version file.slots ++ upgrades file

abbrev pub start_calls : SpoolFile → List DiskCall
start_calls file = taking_calls file ++ reserve_calls file

-- the calls are a sync, and then at most so many, all of them reads
pub record AreLooks (before after : Option (List DiskCall)) (most : ℕ) : Type 0 where
  pub looks : List DiskCall
  pub are : All (λ call. call.kind ≡ Read) looks
  pub few : length looks ≤ most
  pub listed : after ≡ with_calls (syncs ∷ looks) before

-- of bytes that stand for a file some first calls of its start were done, and the next one failed. Of others the sync
-- failed; or a look, which is the last one then, and may be missing where it was left out
abbrev pub FailsOnTheWay : {D : Type 0} → disk.Ghosts D → D → D → List ℕ → Type 0
FailsOnTheWay members old new bytes =
    (spool_break bytes ≡ None → HasFailedIn members old new (start_calls (file_in bytes)))
    × (spool_break bytes ≢ None →
    Logs sync_call (IsLeftOut (members.health old) (members.health new) 0 0) (members.calls old) (members.calls new)
    Failed
    ⊎ AreLooks (members.calls old) (members.calls new) (most_reads (members.told old) (members.size_is old)))

-- the disk's calls in a start over these bytes are these; memory is wanting behind all of them
abbrev pub CallsInStart : {D : Type 0} → disk.Ghosts D → D → List ℕ → Result (Held D) (JournalStarting D) → Type 0
CallsInStart members old bytes (Ok h) = HasMade members old (disk_held h) (start_calls (file_in bytes))
CallsInStart members old bytes (Err (starting.NoMemory spent)) =
    HasMade members old spent.disk (start_calls (file_in bytes))
CallsInStart members old bytes (Err (starting.NumbersSpent spent)) =
    HasMade members old spent.disk (taking_calls (file_in bytes))
CallsInStart members old bytes (Err (starting.NotSpool raw break)) =
    AreLooks (members.calls old) (members.calls raw.disk) (most_reads (members.told old) (members.size_is old))
CallsInStart members old bytes (Err (starting.DiskFailed spent)) = FailsOnTheWay members old spent.disk bytes

-- ---- the device

-- of a start that came to nothing: it is handed back, and has counted a fault where a call of it failed
abbrev pub UnstartedBack : {D : Type 0} → disk.Ghosts D → D → JournalStarting D → Type 0
UnstartedBack members old (starting.NoMemory spent) = IsKept members old spent.disk
UnstartedBack members old (starting.NotSpool raw break) = IsKept members old raw.disk
UnstartedBack members old (starting.DiskFailed spent) = HasFailed members old spent.disk
UnstartedBack members old (starting.NumbersSpent spent) = IsKept members old spent.disk

-- and of a start
abbrev pub StartHandsBack : {D : Type 0} → disk.Ghosts D → D → Result (Held D) (JournalStarting D) → Type 0
StartHandsBack members old (Ok h) = IsKept members old (disk_held h)
StartHandsBack members old (Err why) = UnstartedBack members old why

-- no call of a disk is to fail
pub record IsSureDisk (health : DiskHealth) : Type 0 where
  pub fails_not : health.fail_in ≡ 0
  pub stops_not : health.stop_in ≡ 0
  pub going : health.stopped ≡ false

-- where none was to none is still
abbrev pub KeepsSure : {D : Type 0} → disk.Ghosts D → D → D → Type 0
KeepsSure members old new = IsSureDisk (members.health old) → IsSureDisk (members.health new)
