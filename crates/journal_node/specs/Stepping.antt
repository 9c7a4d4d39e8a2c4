-- What a step of the code says of the disk of its journal, call by call, and of its endings by their causes.
use Rattle.std.specs.Prelude.{◌≡◌, ◌⊎◌, ◌+◌, ℕ, true, List, [], ◌∷◌, ◌++◌, length, map, Some, Result, Ok, Err}
use Rattle.disk_base.specs.Calls.{DiskCall}
use Rattle.disk_base.specs.Cut.{image_of}
use Rattle.disk_base.specs.Faults.{IsLeftOut}
use Rattle.disk_base.specs.Story.{Story}
use Rattle.disk_base.specs.declared.cut.CutChoice.{CutChoice}
use Rattle.disk_base.specs.declared.disk.Disk as disk
use Rattle.spool_file.specs.File.{StandsFor}
use Rattle.spool_file.specs.Logs.{written_by}
use Rattle.message_end.specs.Ends.{Input, Loss, call_of, printed}
use Rattle.message_flow.specs.declared.step.Note.{Note}
use Rattle.spool_works.specs.Breaking.{IsGoingDisk, LeavesImages}
use Rattle.spool_works.specs.DiskCalls.{HasBegunWorks, HasFailedIn, HasMade, all_disk_calls, failing, with_calls}
use Rattle.spool_works.specs.HandedBack.{HasFailed, IsKept}
use Rattle.trace_log.specs.declared.commands.HostCommand.{HostCommand}
use Rattle.journal_node.specs.declared.journal_host.JournalEnded.{JournalEnded}
use Rattle.journal_node.specs.declared.journal_host.JournalEnded.TheVariants as ended
use Rattle.journal_node.specs.Held.{Held, disk_held, view_in}
use Rattle.journal_node.specs.Journal.{JournalView, standing_in}
use Rattle.journal_node.specs.Works.{losses, works_of}

-- ---- the calls of the disk

-- they are those of the works of the step, up to the first that fails. Where it ends early all are done that were
-- decided by then, and for want of memory some first works
abbrev pub CallsInStep :
    {D : Type 0} → disk.Ghosts D → Held D → Input HostCommand → ℕ → Result (Held D) (JournalEnded D) → Type 0
CallsInStep members h input now (Ok k) =
    let s = view_in members h in
    HasMade members (disk_held h) (disk_held k) (all_disk_calls (standing_in s) (works_of s input now))
CallsInStep members h input now (Err (ended.NumbersSpent spent)) =
    let s = view_in members h in
    HasMade members (disk_held h) spent.disk (all_disk_calls (standing_in s) (works_of s input now))
CallsInStep members h input now (Err (ended.JournalFull spent)) =
    let s = view_in members h in
    HasMade members (disk_held h) spent.disk (all_disk_calls (standing_in s) (works_of s input now))
CallsInStep members h input now (Err (ended.DiskFailed spent)) =
    let s = view_in members h in
    HasFailedIn members (disk_held h) spent.disk (all_disk_calls (standing_in s) (works_of s input now))
CallsInStep members h input now (Err (ended.NoMemory spent)) =
    let s = view_in members h in
    HasBegunWorks members (disk_held h) spent.disk (standing_in s) (works_of s input now)

-- ---- the device

-- it is handed back, and has counted a fault where a call of it failed, and nowhere else
abbrev pub EndsBack : {D : Type 0} → disk.Ghosts D → D → JournalEnded D → Type 0
EndsBack members old (ended.NoMemory spent) = IsKept members old spent.disk
EndsBack members old (ended.DiskFailed spent) = HasFailed members old spent.disk
EndsBack members old (ended.NumbersSpent spent) = IsKept members old spent.disk
EndsBack members old (ended.JournalFull spent) = IsKept members old spent.disk

abbrev pub StepHandsBack : {D : Type 0} → disk.Ghosts D → D → Result (Held D) (JournalEnded D) → Type 0
StepHandsBack members old (Ok h) = IsKept members old (disk_held h)
StepHandsBack members old (Err end) = EndsBack members old end

-- ---- where a planned call stops the disk

-- the call of this place was made, at which the disk stops, and a crash leaves what this loss says, with what is noted
-- by then
pub record HasBrokenAt (losses : List (Loss JournalView)) (call : ℕ) (after : Story) (notes : List Note) : Type 0
  where
    pub loss : Loss JournalView
    pub is : call_of call losses ≡ Some loss
    pub left : (choice : CutChoice) → StandsFor (image_of choice after) (loss.left choice).file
    pub noted : notes ≡ printed loss.front

-- the disk fails where it was stopped, or for want of room. Where it was stopped, that was at the planned call
abbrev pub BreaksAt : {D : Type 0} → disk.Ghosts D → D → List (Loss JournalView) → D → List Note → Type 0
BreaksAt members old losses new notes =
    (t : Story) → members.told new ≡ Some t → LeavesImages t → (members.health new).stopped ≡ true
    → HasBrokenAt losses (members.health old).stop_in t notes

-- what each of these losses says that its call writes, and what each of these calls writes
abbrev pub sizes_of : List (Loss JournalView) → List ℕ
sizes_of losses = map (λ loss. loss.bytes) losses

abbrev pub bytes_of : List DiskCall → List ℕ
bytes_of calls = map (λ call. length call.bytes) calls

-- all calls of these losses were made
pub record Passes {D : Type 0} (members : disk.Ghosts D) (old : D) (losses : List (Loss JournalView)) (new : D)
    : Type 0 where
  pub made : List DiskCall
  pub sized : bytes_of made ≡ sizes_of losses
  pub are : HasMade members old new made

-- a call failed: those before it were made, with what is noted by then; and it was left out behind them, or is listed
-- as one that has failed
pub record HasMissedAt {D : Type 0}
    (members : disk.Ghosts D) (old new : D) (losses : List (Loss JournalView)) (notes : List Note) : Type 0 where
  pub first : List (Loss JournalView)
  pub loss : Loss JournalView
  pub rest : List (Loss JournalView)
  pub are : losses ≡ first ++ loss ∷ rest
  pub noted : notes ≡ printed loss.front
  pub made : List DiskCall
  pub sized : bytes_of made ≡ sizes_of first
  pub listed :
      (IsLeftOut (members.health old) (members.health new) (length made) (written_by made + loss.bytes)
      × (members.calls new ≡ with_calls made (members.calls old)))
      ⊎ ((last : DiskCall) × (members.calls new ≡ with_calls (made ++ failing last ∷ []) (members.calls old)))

-- or they were made up to the planned one; these are the notes then
abbrev pub BreaksBy :
    {D : Type 0} → disk.Ghosts D → Held D → Input HostCommand → ℕ → List Note → Result (Held D) (JournalEnded D)
    → Type 0
BreaksBy members h input now notes (Ok k) =
    Passes members (disk_held h) (losses (view_in members h) input now) (disk_held k)
BreaksBy members h input now notes (Err (ended.NumbersSpent spent)) =
    Passes members (disk_held h) (losses (view_in members h) input now) spent.disk
BreaksBy members h input now notes (Err (ended.JournalFull spent)) =
    Passes members (disk_held h) (losses (view_in members h) input now) spent.disk
BreaksBy members h input now notes (Err (ended.DiskFailed spent)) =
    (IsGoingDisk (members.health (disk_held h))
    → BreaksAt members (disk_held h) (losses (view_in members h) input now) spent.disk notes)
    × HasMissedAt members (disk_held h) spent.disk (losses (view_in members h) input now) notes
BreaksBy members h input now notes (Err (ended.NoMemory spent)) = Unit {0}
