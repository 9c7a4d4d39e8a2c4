-- What the code says of the pieces of a step: what the calls below have said of them.
use Rattle.std.specs.Prelude.{◌≡◌, ◌⊎◌, ◌+◌, ◌-◌, ◌^◌, ◌<◌, ◌≤◌, ℕ, List, [], ◌∷◌, ◌++◌, length, Option, None, Some, Result, Ok, Err, if◌then◌else◌}
use Rattle.disk_base.specs.Story.{Story}
use Rattle.disk_base.specs.Through.{GoesThrough}
use Rattle.disk_base.specs.declared.disk.Disk as disk
use Rattle.gem_spool.specs.declared.spool.GemSpool.{GemSpool}
use Rattle.gem_spool.specs.declared.works.Work.{Work}
use Rattle.gem_spool.specs.Spool.{ReservesFrom, ReservesMore}
use Rattle.gem_spool.specs.Standing.{Standing, Stands, count_of, standing_of}
use Rattle.gem_spool.specs.Works.{HasCarried, HasUndone, IsMarked}
use Rattle.gem_spool.specs.Works.{reserved as marked}
use Rattle.host_journal.specs.Fitting.{fit_in}
use Rattle.host_journal.specs.Listing.{listing_works}
use Rattle.host_journal.specs.declared.listing.Fit.{Fit}
use Rattle.host_journal.specs.declared.listing.Fit.TheVariants as fit
use Rattle.host_node.specs.Calls.{HasStepped, refilled}
use Rattle.host_node.specs.Host.{HostOwn, Kind, at_start, host_machine}
use Rattle.host_node.specs.declared.calls.HostEnded.TheVariants as host_ended
use Rattle.line_end.specs.declared.plan.HostPlan.{HostPlan}
use Rattle.message_end.specs.Core.{Went, at_first}
use Rattle.message_end.specs.Core.Went.{Goes}
use Rattle.message_end.specs.Ends.{Input, IsEmpty}
use Rattle.message_end.specs.Parts.{Node}
use Rattle.message_flow.specs.declared.step.Note.{Note}
use Rattle.message_flow.specs.declared.step.StepOut.{StepOut}
use Rattle.spool_law.specs.Journal.{entry_of}
use Rattle.spool_slots.specs.Spool.{SpoolView}
use Rattle.spool_slots.specs.declared.states.Spent.{Spent}
use Rattle.trace_log.specs.declared.commands.HostCommand.{HostCommand}
use Rattle.trace_log.specs.Log.{Happening}
use Rattle.trace_log.specs.Log.Happening.{Listed, Listing}
use Rattle.trace_log.specs.Names.{Record}
use Rattle.trace_log.specs.Text.{IsStartNote, note_of}
use Rattle.transact.specs.Numbers.{numbers_from}
use Rattle.journal_node.specs.declared.journal_host.JournalEnded.{JournalEnded}
use Rattle.journal_node.specs.declared.journal_host.JournalEnded.TheVariants as ended
use Rattle.journal_node.specs.declared.journal_host.JournalStarting.{JournalStarting}
use Rattle.journal_node.specs.declared.journal_host.JournalStarting.TheVariants as starting
use Rattle.journal_node.specs.Held.{Held, IsOn}
use Rattle.journal_node.specs.Journal.{JournalView, begins, listed_of, needs_numbers, reserved}
use Rattle.journal_node.specs.Starting.{UpgradesOnce}

-- ---- system bytes

-- as many are left as a step may need
abbrev pub HasEnough : Node HostOwn Kind → Type 0
HasEnough node = 128 ≤ node.core.numbers.end - node.core.numbers.next

abbrev pub HasFew : Node HostOwn Kind → Type 0
HasFew node = node.core.numbers.end - node.core.numbers.next < 128

-- more were reserved, and the host has them
pub record HasReserved
    {D : Type 0} (members : disk.Ghosts D) (old : Node HostOwn Kind) (g : GemSpool D) (new : Node HostOwn Kind)
    (h : GemSpool D) : Type 0 where
  pub few : HasFew old
  pub base : ℕ
  pub more : new ≡ refilled base old
  pub reserve : ReservesFrom members g h (Some base)
  pub stands : (st : Standing) → Stands members g.spool st → Stands members h.spool (marked st)
  pub moments :
      (st : Standing) → Stands members g.spool st → (s : Story) → members.told g.spool.disk ≡ Some s
      → GoesThrough s (members.told h.spool.disk) (IsMarked st)

-- there were none to reserve
pub record HasNone {D : Type 0} (old : Node HostOwn Kind) (g : GemSpool D) (spent : Spent D) : Type 0 where
  pub few : HasFew old
  pub none : 2 ^ 32 < g.spool.mark + 4096
  pub same_disk : spent.disk ≡ g.spool.disk

-- the disk has failed in that
pub record HasFailedToReserve
    {D : Type 0} (members : disk.Ghosts D) (old : Node HostOwn Kind) (g : GemSpool D) (spent : Spent D) : Type 0
  where
    pub few : HasFew old
    pub reserve : ReservesMore members g (Err spent)
    pub moments :
        (st : Standing) → Stands members g.spool st → (s : Story) → members.told g.spool.disk ≡ Some s
        → GoesThrough s (members.told spent.disk) (IsMarked st)

abbrev pub Opens :
    {D : Type 0} → disk.Ghosts D → Node HostOwn Kind → GemSpool D → Node HostOwn Kind
    → Result (GemSpool D) (JournalEnded D) → Type 0
Opens members old g new (Ok h) = (HasEnough old × (new ≡ old) × (h ≡ g)) ⊎ HasReserved members old g new h
Opens members old g new (Err (ended.NumbersSpent spent)) = HasNone old g spent
Opens members old g new (Err (ended.DiskFailed spent)) = HasFailedToReserve members old g spent
Opens members old g new (Err (ended.JournalFull spent)) = ⊥
Opens members old g new (Err (ended.NoMemory spent)) = ⊥

-- as a step begins with them
abbrev pub opened : JournalView → JournalView
opened s = if needs_numbers s then reserved s else s

pub record HasOpened
    {D : Type 0} (members : disk.Ghosts D) (s : JournalView) (node : Node HostOwn Kind) (g : GemSpool D) : Type 0
  where
    pub went : begins s ≡ Goes (at_first (opened s))
    pub node_is : node ≡ (opened s).node
    pub on : IsOn members g.spool (opened s)

-- ---- what was delivered

-- what this record asks of the journal
abbrev pub entry_works : Record → List Work
entry_works listed = listing_works listed.stream listed.function (entry_of listed).body

abbrev pub fit_on : {D : Type 0} → GemSpool D → Record → Fit
fit_on g listed = fit_in (count_of g.spool) (length (entry_of listed).body)

-- it was listed; or it can't be; or the disk has failed in that, and its first line is noted; or memory has run out
-- before
abbrev pub ListsOne :
    {D : Type 0} → disk.Ghosts D → Record → GemSpool D → StepOut → StepOut → Result (GemSpool D) (JournalEnded D)
    → Type 0
ListsOne members listed g out_old out_new (Ok h) =
    (fit_on g listed ≡ fit.Fits) × HasCarried members g (entry_works listed) h
    × (out_new.notes
    ≡ out_old.notes ++ note_of (Listing g.spool.next listed) ∷ note_of (Listed g.spool.next listed) ∷ [])
ListsOne members listed g out_old out_new (Err (ended.JournalFull spent)) =
    (fit_on g listed ≡ fit.Full) × (out_new.notes ≡ out_old.notes) × (spent.disk ≡ g.spool.disk)
ListsOne members listed g out_old out_new (Err (ended.NumbersSpent spent)) =
    (fit_on g listed ≡ fit.NumbersSpent) × (out_new.notes ≡ out_old.notes) × (spent.disk ≡ g.spool.disk)
ListsOne members listed g out_old out_new (Err (ended.DiskFailed spent)) =
    (fit_on g listed ≡ fit.Fits) × HasUndone members g (entry_works listed) (record { at = 0; spent = spent })
    × (out_new.notes ≡ out_old.notes ++ note_of (Listing g.spool.next listed) ∷ [])
ListsOne members listed g out_old out_new (Err (ended.NoMemory spent)) = spent.disk ≡ g.spool.disk

-- there is nothing to list
abbrev pub ListsNone :
    {D : Type 0} → GemSpool D → StepOut → StepOut → Result (GemSpool D) (JournalEnded D) → Type 0
ListsNone g out_old out_new (Ok h) = (h ≡ g) × (out_new ≡ out_old)
ListsNone g out_old out_new (Err end) = ⊥

abbrev pub ListsOf :
    {D : Type 0} → disk.Ghosts D → Option Record → GemSpool D → StepOut → StepOut
    → Result (GemSpool D) (JournalEnded D) → Type 0
ListsOf members None g out_old out_new result = ListsNone g out_old out_new result
ListsOf members (Some listed) g out_old out_new result = ListsOne members listed g out_old out_new result

-- ---- a step with system bytes enough

-- what the host has delivered is listed; where it isn't nothing is sent
abbrev pub ListsHeld :
    {D : Type 0} → disk.Ghosts D → Node HostOwn Kind → GemSpool D → StepOut → StepOut
    → Result (Held D) (JournalEnded D) → Type 0
ListsHeld members node g out_old out_new (Ok k) =
    (k.host ≡ node) × ListsOf members (listed_of node.own.delivered) g out_old out_new (Ok k.journal)
    × (out_new.line ≡ out_old.line)
ListsHeld members node g out_old out_new (Err end) =
    ListsOf members (listed_of node.own.delivered) g out_old out_new (Err end) × (out_new.line.items ≡ [])

-- the host has made its step, and what that has delivered was listed
pub record HasActed
    {D : Type 0} (members : disk.Ghosts D) (node : Node HostOwn Kind) (g : GemSpool D) (input : Input HostCommand)
    (now : ℕ) (out : StepOut) (k : Held D) : Type 0 where
  pub mid : StepOut
  pub stepped : HasStepped (host_machine.act node input now) mid (Ok k.host)
  pub lists : ListsOf members (listed_of k.host.own.delivered) g mid out (Ok k.journal)
  pub line : out.line ≡ mid.line

-- it has made its step, and what that has delivered wasn't listed
pub record HasNotListed
    {D : Type 0} (members : disk.Ghosts D) (node : Node HostOwn Kind) (g : GemSpool D) (input : Input HostCommand)
    (now : ℕ) (out : StepOut) (end : JournalEnded D) : Type 0 where
  pub mid : StepOut
  pub next : Node HostOwn Kind
  pub stepped : HasStepped (host_machine.act node input now) mid (Ok next)
  pub lists : ListsOf members (listed_of next.own.delivered) g mid out (Err end)
  pub quiet : out.line.items ≡ []

-- its own step has ended early
abbrev pub EndsHost :
    {D : Type 0} → Went (Node HostOwn Kind) Happening → GemSpool D → StepOut → JournalEnded D → Type 0
EndsHost went g out (ended.NoMemory spent) = HasStepped went out (Err host_ended.NoMemory) × (spent.disk ≡ g.spool.disk)
EndsHost went g out (ended.NumbersSpent spent) =
    HasStepped went out (Err host_ended.NumbersSpent) × (spent.disk ≡ g.spool.disk)
EndsHost went g out (ended.JournalFull spent) = ⊥
EndsHost went g out (ended.DiskFailed spent) = ⊥

abbrev pub Acts :
    {D : Type 0} → disk.Ghosts D → Node HostOwn Kind → GemSpool D → Input HostCommand → ℕ → StepOut
    → Result (Held D) (JournalEnded D) → Type 0
Acts members node g input now out (Ok k) = HasActed members node g input now out k
Acts members node g input now out (Err end) =
    EndsHost (host_machine.act node input now) g out end ⊎ HasNotListed members node g input now out end

-- ---- a start

-- with the system bytes from a base on, unless memory runs out
abbrev pub StartsWith :
    {D : Type 0} → HostPlan → GemSpool D → ℕ → StepOut → Result (Held D) (JournalStarting D) → Type 0
StartsWith plan g base out (Ok h) =
    (h.journal ≡ g) × (h.host ≡ at_start plan (numbers_from base 4096))
    × ((note : Note) × IsStartNote g.spool.len base note × (out.notes ≡ note ∷ [])) × (out.line.items ≡ [])
StartsWith plan g base out (Err (starting.NoMemory spent)) = (spent.disk ≡ g.spool.disk) × (out.line.items ≡ [])
StartsWith plan g base out (Err (starting.NumbersSpent spent)) = ⊥
StartsWith plan g base out (Err (starting.DiskFailed spent)) = ⊥
StartsWith plan g base out (Err (starting.NotSpool raw break)) = ⊥

-- the mark was moved on, and the host starts behind it
pub record HasMoved
    {D : Type 0} (members : disk.Ghosts D) (plan : HostPlan) (g : GemSpool D) (out : StepOut)
    (result : Result (Held D) (JournalStarting D)) : Type 0 where
  pub base : ℕ
  pub h : GemSpool D
  pub reserve : ReservesFrom members g h (Some base)
  pub stands : (st : Standing) → Stands members g.spool st → Stands members h.spool (marked st)
  pub moments :
      (st : Standing) → Stands members g.spool st → (s : Story) → members.told g.spool.disk ≡ Some s
      → GoesThrough s (members.told h.spool.disk) (IsMarked st)
  pub starts : StartsWith plan h base out result

-- it can't be; or the disk has failed in that. Nothing is noted then
pub record HasNoMark {D : Type 0} (g : GemSpool D) (out : StepOut) (spent : Spent D) : Type 0 where
  pub none : 2 ^ 32 < g.spool.mark + 4096
  pub same_disk : spent.disk ≡ g.spool.disk
  pub empty : IsEmpty out

pub record HasNotMoved {D : Type 0} (members : disk.Ghosts D) (g : GemSpool D) (out : StepOut) (spent : Spent D)
    : Type 0 where
  pub reserve : ReservesMore members g (Err spent)
  pub moments :
      (st : Standing) → Stands members g.spool st → (s : Story) → members.told g.spool.disk ≡ Some s
      → GoesThrough s (members.told spent.disk) (IsMarked st)
  pub empty : IsEmpty out

abbrev pub StartsOn :
    {D : Type 0} → disk.Ghosts D → HostPlan → GemSpool D → StepOut → Result (Held D) (JournalStarting D) → Type 0
StartsOn members plan g out (Ok h) = HasMoved members plan g out (Ok h)
StartsOn members plan g out (Err (starting.NoMemory spent)) =
    HasMoved members plan g out (Err (starting.NoMemory spent))
StartsOn members plan g out (Err (starting.NumbersSpent spent)) = HasNoMark g out spent
StartsOn members plan g out (Err (starting.DiskFailed spent)) = HasNotMoved members g out spent
StartsOn members plan g out (Err (starting.NotSpool raw break)) = ⊥

-- it was made one of version 2 before
pub record HasUpgraded
    {D : Type 0} (members : disk.Ghosts D) (plan : HostPlan) (v : SpoolView D) (out : StepOut)
    (result : Result (Held D) (JournalStarting D)) : Type 0 where
  pub w : SpoolView D
  pub g : GemSpool D
  pub up : UpgradesOnce members v (Ok w)
  pub made : g.spool ≡ w
  pub stands : Stands members w (standing_of members w)
  pub on : StartsOn members plan g out result

pub record HasNotUpgraded {D : Type 0} (members : disk.Ghosts D) (v : SpoolView D) (out : StepOut) (spent : Spent D)
    : Type 0 where
  pub up : UpgradesOnce members v (Err spent)
  pub empty : IsEmpty out

abbrev pub StartsOver :
    {D : Type 0} → disk.Ghosts D → HostPlan → SpoolView D → StepOut → Result (Held D) (JournalStarting D) → Type 0
StartsOver members plan v out (Ok h) = HasUpgraded members plan v out (Ok h)
StartsOver members plan v out (Err (starting.DiskFailed spent)) =
    HasUpgraded members plan v out (Err (starting.DiskFailed spent)) ⊎ HasNotUpgraded members v out spent
StartsOver members plan v out (Err (starting.NoMemory spent)) =
    HasUpgraded members plan v out (Err (starting.NoMemory spent))
StartsOver members plan v out (Err (starting.NumbersSpent spent)) =
    HasUpgraded members plan v out (Err (starting.NumbersSpent spent))
StartsOver members plan v out (Err (starting.NotSpool raw break)) = ⊥
