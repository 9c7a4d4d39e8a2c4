-- Which calls of the disk the works of a step are, one by one, and which of them were made (this profile).
use Rattle.std.specs.Prelude.{◌≡◌, ◌⊎◌, ◌+◌, ◌<◌, ◌≤◌, ℕ, List, [], ◌∷◌, ◌++◌, length, Option, Result, Ok, Err}
use Rattle.std.specs.Option.{option_map}
use Rattle.disk_base.specs.Calls.{DiskCall}
use Rattle.disk_base.specs.Faults.{DiskFault, IsLeftOut, IsUsed}
use Rattle.disk_base.specs.declared.disk.Disk as disk
use Rattle.disk_base.specs.declared.disk.DiskAnswer.TheVariants.{Failed}
use Rattle.gem_spool.specs.declared.spool.GemSpool.{GemSpool}
use Rattle.gem_spool.specs.Updates.{calls_in}
use Rattle.gem_spool.specs.Standing.{Standing}
use Rattle.spool_file.specs.Logs.{written_by}
use Rattle.spool_works.specs.declared.ended.Ended.{Ended}
use Rattle.spool_works.specs.declared.ended.Ended.TheVariants as ended
use Rattle.spool_works.specs.DiskWorks.{DiskWork, standing_behind, standings_behind, updates_at}
use Rattle.spool_works.specs.DiskWorks.DiskWork.{Change, Keep, ReadOldest, Reserve}

-- ---- the calls of a work, in their order

-- where the spool stands so
abbrev pub disk_calls : Standing → DiskWork → List DiskCall
disk_calls st one = calls_in (updates_at st one)

-- one after the other, each where the spool stands as those before it have left it
abbrev pub all_disk_calls : Standing → List DiskWork → List DiskCall
all_disk_calls st [] = []
all_disk_calls st (one ∷ works) = disk_calls st one ++ all_disk_calls (standing_behind st one) works

-- ---- which of them were made

-- a disk's list of calls, where it tells it, with these behind the others
abbrev pub with_calls : List DiskCall → Option (List DiskCall) → Option (List DiskCall)
with_calls calls told = option_map (λ all. all ++ calls) told

-- the same call, where it failed
abbrev pub failing : DiskCall → DiskCall
failing call = record call { answer = Failed }

-- these calls were made and done, and no others; they have used up no more of the disk's room than for them
pub record HasMade {D : Type 0} (members : disk.Ghosts D) (old new : D) (calls : List DiskCall) : Type 0 where
  pub listed : members.calls new ≡ with_calls calls (members.calls old)
  pub used : IsUsed (members.health old) (members.health new) (length calls) (written_by calls)

-- of these calls some first ones were done, the next one failed, and no others were made; it is told by what is said of
-- a fault among them. The list lacks the one that failed only where it was left out behind them
pub record HasFailedIn {D : Type 0} (members : disk.Ghosts D) (old new : D) (calls : List DiskCall) : Type 0 where
  pub first : List DiskCall
  pub failed : DiskCall
  pub rest : List DiskCall
  pub are : calls ≡ first ++ failed ∷ rest
  pub listed : (members.calls new ≡ with_calls (first ++ failing failed ∷ []) (members.calls old))
      ⊎ (IsLeftOut (members.health old) (members.health new) (length first) (written_by first + length failed.bytes)
      × (members.calls new ≡ with_calls first (members.calls old)))
  pub fault : DiskFault (members.health old) (members.health new) (length calls)
      ((members.health old).room < written_by calls)

-- of the next work, where it reads the oldest message, some first slots were read; of any other one nothing was begun
abbrev pub AreFirstReads : Standing → List DiskWork → List DiskCall → Type 0
AreFirstReads st (ReadOldest slots ∷ works) calls =
    (made : ℕ) × (made ≤ slots) × (calls ≡ disk_calls st (ReadOldest made))
AreFirstReads st (Reserve ∷ works) calls = calls ≡ []
AreFirstReads st (Change work ∷ works) calls = calls ≡ []
AreFirstReads st (Keep bytes ∷ works) calls = calls ≡ []
AreFirstReads st [] calls = calls ≡ []

-- the calls of some first works were made and done, and perhaps first reads of the next one, and no others
pub record HasBegunWorks
    {D : Type 0} (members : disk.Ghosts D) (old new : D) (st : Standing) (works : List DiskWork)
    : Type 0 where
  pub first : List DiskWork
  pub rest : List DiskWork
  pub are : works ≡ first ++ rest
  pub reads : List DiskCall
  pub are_reads : AreFirstReads (standings_behind st first) rest reads
  pub made : HasMade members old new (all_disk_calls st first ++ reads)

-- the disk's calls are those of these works, up to the first that fails. Where numbers were spent all of them are done,
-- since they were decided by then; where memory was wanting, some first works are, and perhaps first reads of the next
abbrev pub HasCalled :
    {D R : Type 0} → disk.Ghosts D → (R → D) → D → Standing → List DiskWork → Result R (Ended D) → Type 0
HasCalled members disk_of old st works (Ok r) = HasMade members old (disk_of r) (all_disk_calls st works)
HasCalled members disk_of old st works (Err (ended.NumbersSpent spent)) =
    HasMade members old spent.disk (all_disk_calls st works)
HasCalled members disk_of old st works (Err (ended.DiskFailed spent)) =
    HasFailedIn members old spent.disk (all_disk_calls st works)
HasCalled members disk_of old st works (Err (ended.NoMemory spent)) =
    HasBegunWorks members old spent.disk st works

-- the disk of a spool in hand, and of an equipment
abbrev pub disk_in : {D : Type 0} → GemSpool D → D
disk_in g = g.spool.disk
