-- What dropping the first messages of a spool file comes to (this profile).
use Rattle.std.specs.Prelude.{◌≡◌, ◌⊎◌, ℕ, zero, suc, ◌≤◌, List, [], ◌++◌, length, min, codes, Option, Some}
use Rattle.std.specs.Prelude.{Result, Ok, Err}
use Rattle.std.specs.Option.{option_map}
use Rattle.disk_base.specs.Faults.{Rose}
use Rattle.disk_base.specs.SameDisk.{IsSameDisk}
use Rattle.disk_base.specs.Story.{Story, with_sync}
use Rattle.disk_base.specs.Through.{Through}
use Rattle.disk_base.specs.declared.disk.Disk as trait
use Rattle.gl_base.specs.Sending.{WroteShort, WroteText}
use Rattle.gl_base.specs.Told.{SinkTold}
use Rattle.spool_file.specs.File.{Ends, SpoolFile, StandsFor, file_in}
use Rattle.spool_show.specs.Showing.{BreaksAt, HasFile, IsCounted, IsSound, Keeps}
use Rattle.spool_show.specs.Text.{count_text}
use Rattle.spool_show.specs.Told.{DiskTold}
use Rattle.spool_show.specs.declared.spool_end.SpoolEnd.{SpoolEnd}
use Rattle.spool_show.specs.declared.spool_end.SpoolEnd.TheVariants.{Done, NotSpool, DiskFailed, WriteFailed}
use Rattle.spool_slots.specs.Changes.{HoldsThrough}
use Rattle.spool_slots.specs.Files.{upgraded, without_first}
use Rattle.spool_slots.specs.Spool.{SpoolView}
use Rattle.spool_slots.specs.declared.states.Spent.{Spent}

-- a file without so many of its first messages
abbrev pub without : ℕ → SpoolFile → SpoolFile
without zero file = file
without (suc n) file = without_first (without n file)

-- the same of bytes, whose file is made one of version 2 before
abbrev pub upgraded_without : ℕ → List ℕ → SpoolFile
upgraded_without n bytes = without n (upgraded (file_in bytes))

-- how many are dropped where so many are asked for: all where there are fewer
abbrev pub few_of : ℕ → SpoolFile → ℕ
few_of count file = min count (length file.list)

-- bytes stand for a file without some of its first messages, no more than so many
abbrev pub IsWithout : (most : ℕ) → SpoolFile → List ℕ → Type 0
IsWithout most file image = (n : ℕ) × (n ≤ most) × StandsFor image (without n file)

-- what a crash may leave where so many are dropped: the file as it was, or, in version 2, without some of them
abbrev pub MayBeLeft : (most : ℕ) → List ℕ → List ℕ → Type 0
MayBeLeft most bytes image = StandsFor image (file_in bytes) ⊎ IsWithout most (upgraded (file_in bytes)) image

-- where the disk told its bytes before, it does so now; a crash at every moment between leaves bytes with P of what was
-- there before, and what is there now stands for this file of it, settled
abbrev pub GetsTo : Option Story → Option Story → (List ℕ → List ℕ → Type 0) → (List ℕ → SpoolFile) → Type 0
GetsTo before after P file =
    (s : Story) → before ≡ Some s
    → (t : Story) × (after ≡ Some t) × Through s t (P s.now.bytes) × Ends t (file s.now.bytes)

-- ---- a list in hand

-- a disk failed so often as before, and has the same file
pub record IsUnharmed {D : Type 0} (members : trait.Ghosts D) (old new : D) : Type 0 where
  pub faults : (members.health new).faults ≡ (members.health old).faults
  pub same_disk : IsSameDisk members old new

-- a disk failed once more, and has the same file
pub record IsHarmed {D : Type 0} (members : trait.Ghosts D) (old new : D) : Type 0 where
  pub faults : Rose (members.health old).faults (members.health new).faults
  pub same_disk : IsSameDisk members old new

-- as many of a list as asked for are off, or all where there are fewer, in a file of version 2; a crash on the way has
-- left some of these
abbrev pub DropsListed :
    {D : Type 0} → trait.Ghosts D → SpoolView D → ℕ → Result (SpoolView D × ℕ) (Spent D) → Type 0
DropsListed members v count (Ok (w, few)) =
    (few ≡ min count v.len)
    × GetsTo (members.told v.disk) (members.told w.disk) (MayBeLeft few) (upgraded_without few)
    × IsUnharmed members v.disk w.disk
DropsListed members v count (Err spent) =
    HoldsThrough (members.told v.disk) (members.told spent.disk) (MayBeLeft (min count v.len))
    × IsHarmed members v.disk spent.disk

-- ---- all of it

abbrev pub dropped_line : ℕ → List ℕ
dropped_line few = count_text (codes "dropped ") few ++ codes "\n"

-- the line was written, or a part of it
abbrev pub WritesDropped : ℕ → SinkTold → SpoolEnd → Type 0
WritesDropped few out Done = WroteText out (dropped_line few)
WritesDropped few out WriteFailed = WroteShort out (dropped_line few)
WritesDropped few out _ = ⊥

-- all that was to be dropped is, and the line was to go out: the bytes that were told stand for a file, and behind a
-- sync each crash has left some of these messages
pub record HasDropped (count : ℕ) (before after : Option Story) (out : SinkTold) (end : SpoolEnd) : Type 0 where
  pub few : ℕ
  pub few_is : (s : Story) → before ≡ Some s → few ≡ few_of count (file_in s.now.bytes)
  pub sound : IsSound before
  pub left : GetsTo (option_map with_sync before) after (MayBeLeft few) (upgraded_without few)
  pub written : WritesDropped few out end

-- the disk failed at a call that reads or syncs, or at one that drops
abbrev pub HasStopped : ℕ → Option Story → Option Story → Type 0
HasStopped count before after =
    Keeps before after
    ⊎ (IsSound before × ((most : ℕ) × ((s : Story) → before ≡ Some s → most ≡ few_of count (file_in s.now.bytes))
    × HoldsThrough (option_map with_sync before) after (MayBeLeft most)))

abbrev pub Leaves : ℕ → Option Story → Option Story → SinkTold → SpoolEnd → Type 0
Leaves count before after out Done = HasDropped count before after out Done
Leaves count before after out WriteFailed = HasDropped count before after out WriteFailed
Leaves count before after out DiskFailed = WroteText out [] × HasStopped count before after
Leaves count before after out (NotSpool place) = WroteText out [] × BreaksAt before place × Keeps before after

-- what came of the file that a disk has
pub record DropsOf (count : ℕ) (disk : DiskTold) (out : SinkTold) (end : SpoolEnd) : Type 0 where
  pub left : Leaves count disk.before disk.after out end
  pub count_is : IsCounted disk.health.faults disk.health_after.faults end

-- what came of the file of this name
pub record DropsMessages (name : List ℕ) (count : ℕ) (disk : DiskTold) (out : SinkTold) (end : SpoolEnd) : Type 0 where
  pub file : HasFile name disk.file disk.file_after end
  pub dropped : DropsOf count disk out end
