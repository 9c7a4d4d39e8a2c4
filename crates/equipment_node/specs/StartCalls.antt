-- Which calls of the disk a start makes (this profile).
use Rattle.std.specs.Prelude.{◌≡◌, ◌≢◌, ◌⊎◌, ℕ, ◌+◌, ◌≤◌, List, ◌∷◌, ◌++◌, length, sum_by, Option, None, Result, Ok}
use Rattle.std.specs.Prelude.{Err}
use Rattle.std.specs.List.{All}
use Rattle.disk_base.specs.Calls.{DiskCall, Logs, sync_call}
use Rattle.disk_base.specs.Faults.{IsLeftOut}
use Rattle.disk_base.specs.declared.disk.CallKind.TheVariants.{Read}
use Rattle.disk_base.specs.declared.disk.Disk as disk
use Rattle.disk_base.specs.declared.disk.DiskAnswer.TheVariants.{Failed}
use Rattle.gem_spool.specs.Updates.{syncs}
use Rattle.gem_spool.specs.Standing.{Standing}
use Rattle.spool_file.specs.File.{SpoolFile, file_in, spool_break}
use Rattle.spool_file.specs.Reads.{most_reads, recover_calls}
use Rattle.spool_file.specs.Slot.{width}
use Rattle.equipment_node.specs.declared.equipment.Starting.{Starting}
use Rattle.equipment_node.specs.declared.equipment.Starting.TheVariants as starting
use Rattle.spool_works.specs.DiskCalls.{HasFailedIn, HasMade, disk_calls, with_calls}
use Rattle.spool_works.specs.DiskWorks.DiskWork.{Reserve}
use Rattle.spool_works.specs.Found.{first_in}
use Rattle.equipment_node.specs.DiskCalls.{disk_held}
use Rattle.equipment_node.specs.Held.{Held}
use Rattle.equipment_node.specs.MadeReady.{HasBegun, ready_calls}
use Rattle.equipment_node.specs.StartSetup.{setup_looks}

-- how a spool stands that a start finds in a file
abbrev pub standing_found : SpoolFile → Standing
standing_found file = record { next = first_in file + sum_by width file.list; file = file }

-- the mark is moved on
abbrev pub reserve_calls : SpoolFile → List DiskCall
reserve_calls file = disk_calls (standing_found file) Reserve

-- the file is looked through before: a sync, a read of what is in front of its slots, and those of the slots by its
-- version; then its setup is read
abbrev pub finding_calls : SpoolFile → List DiskCall
finding_calls file = recover_calls file.version file.slots ++ setup_looks file

-- and its messages are looked at, and it is made one of version 2
abbrev pub taking_calls : SpoolFile → List DiskCall
taking_calls file = recover_calls file.version file.slots ++ (setup_looks file ++ ready_calls file)

abbrev pub start_calls : SpoolFile → List DiskCall
start_calls file = taking_calls file ++ reserve_calls file

-- ---- over a spool in hand

-- behind some calls those are made that move the mark, unless it can't be moved
abbrev pub StartMoves :
    {D K : Type 0} → disk.Ghosts D → D → (first moves : List DiskCall) → Result (Held D K) (Starting D K) → Type 0
StartMoves members old first moves (Ok h) = HasMade members old (disk_held h) (first ++ moves)
StartMoves members old first moves (Err (starting.NoMemory spent keeper)) =
    HasBegun members old spent.disk (first ++ moves)
StartMoves members old first moves (Err (starting.NumbersSpent spent keeper)) = HasMade members old spent.disk first
StartMoves members old first moves (Err (starting.DiskFailed spent keeper)) =
    HasFailedIn members old spent.disk (first ++ moves)
StartMoves members old first moves (Err (starting.NotSpool raw break keeper)) = ⊥

-- over a spool that was just taken up: behind the looks at its setup, and where that breaks there are no others
abbrev pub StartAsks : {D K : Type 0} → disk.Ghosts D → D → SpoolFile → Result (Held D K) (Starting D K) → Type 0
StartAsks members old file (Ok h) =
    StartMoves members old (setup_looks file ++ ready_calls file) (reserve_calls file) (Ok h)
StartAsks members old file (Err (starting.NoMemory spent keeper)) =
    StartMoves members old (setup_looks file ++ ready_calls file) (reserve_calls file)
    (Err (starting.NoMemory spent keeper))
StartAsks members old file (Err (starting.NumbersSpent spent keeper)) =
    StartMoves members old (setup_looks file ++ ready_calls file) (reserve_calls file)
    (Err (starting.NumbersSpent spent keeper))
StartAsks members old file (Err (starting.DiskFailed spent keeper)) =
    StartMoves members old (setup_looks file ++ ready_calls file) (reserve_calls file)
    (Err (starting.DiskFailed spent keeper))
StartAsks members old file (Err (starting.NotSpool raw break keeper)) = HasMade members old raw.disk (setup_looks file)

-- ---- from a device

-- the calls are a sync, and then at most so many, all of them reads
pub record AreLooks (before after : Option (List DiskCall)) (most : ℕ) : Type 0 where
  pub looks : List DiskCall
  pub are : All (λ call. call.kind ≡ Read) looks
  pub few : length looks ≤ most
  pub listed : after ≡ with_calls (syncs ∷ looks) before

-- of bytes that stand for a file some first calls of its start were done, and the next one failed. Of others the sync
-- failed; or a look, which is the last one then, and may be missing where it was left out
abbrev pub FailsOnTheWay : {D : Type 0} → disk.Ghosts D → D → D → List ℕ → Type 0
FailsOnTheWay members old new bytes =
    (spool_break bytes ≡ None → HasFailedIn members old new (start_calls (file_in bytes)))
    × (spool_break bytes ≢ None →
    Logs sync_call (IsLeftOut (members.health old) (members.health new) 0 0) (members.calls old) (members.calls new)
    Failed
    ⊎ AreLooks (members.calls old) (members.calls new) (most_reads (members.told old) (members.size_is old)))

-- of bytes that stand for a file its setup is read as well, which breaks; of others there are looks alone
abbrev pub LooksInVain : {D : Type 0} → disk.Ghosts D → D → D → List ℕ → Type 0
LooksInVain members old new bytes =
    (spool_break bytes ≡ None → HasMade members old new (finding_calls (file_in bytes)))
    × (spool_break bytes ≢ None →
    AreLooks (members.calls old) (members.calls new) (most_reads (members.told old) (members.size_is old)))

-- the disk's calls in a start over these bytes are these
abbrev pub CallsInStart : {D K : Type 0} → disk.Ghosts D → D → List ℕ → Result (Held D K) (Starting D K) → Type 0
CallsInStart members old bytes (Ok h) = HasMade members old (disk_held h) (start_calls (file_in bytes))
CallsInStart members old bytes (Err (starting.NoMemory spent keeper)) =
    HasBegun members old spent.disk (start_calls (file_in bytes))
CallsInStart members old bytes (Err (starting.NumbersSpent spent keeper)) =
    HasMade members old spent.disk (taking_calls (file_in bytes))
CallsInStart members old bytes (Err (starting.NotSpool raw break keeper)) = LooksInVain members old raw.disk bytes
CallsInStart members old bytes (Err (starting.DiskFailed spent keeper)) = FailsOnTheWay members old spent.disk bytes
