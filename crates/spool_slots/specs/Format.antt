-- What making a spool does (this profile).
use Rattle.std.specs.Prelude.{◌≡◌, ◌⊎◌, ℕ, ◌+◌, ◌<◌, ◌≤◌, Some, Result, Ok, Err}
use Rattle.disk_base.specs.Faults.{HasCause}
use Rattle.disk_base.specs.SameDisk.{IsSameDisk}
use Rattle.disk_base.specs.Story.{Story}
use Rattle.disk_base.specs.declared.disk.Disk as disk
use Rattle.disk_base.specs.declared.disk.DiskAnswer.{DiskAnswer}
use Rattle.disk_base.specs.declared.disk.DiskAnswer.TheVariants.{Done, Failed}
use Rattle.spool_file.specs.Added.{OnlyAdds, WritesOrSyncs}
use Rattle.spool_file.specs.Format.{EndsEmpty}
use Rattle.spool_file.specs.Setup.{area_end}
use Rattle.spool_slots.specs.Spool.{SpoolView}
use Rattle.spool_slots.specs.declared.states.Formatting.{Formatting}
use Rattle.spool_slots.specs.declared.states.Formatting.TheVariants as formatting

-- a page, a byte a slot, the area in 32 parts, and a sync, as far as that went
pub record HasFormatted {D : Type 0} (members : disk.Ghosts D) (old new : D) (slots : ℕ) (answer : DiskAnswer) :
    Type 0 where
  pub size : members.size_is new ≡ members.size_is old
  pub cause : HasCause (members.health old) (members.health new) (slots + 34) (slots + 528384)
      ((members.health old).room < slots + 528384) answer
  pub calls : OnlyAdds WritesOrSyncs (members.calls old) (members.calls new)
  pub same_disk : IsSameDisk members old new

-- the empty list stands, with all slots closed, mark, floor and setup cell 0 in their first copies, and an area of
-- zeros, and is in hand
abbrev pub Formats : {D : Type 0} → disk.Ghosts D → D → ℕ → Result (SpoolView D) (Formatting D) → Type 0
Formats members old slots (Ok v) =
    HasFormatted members old v.disk slots Done
    × (v ≡ record { disk = v.disk; version = 2; slots = slots; first = 0; next = 0; len = 0; mark = 0 })
    × ((t : Story) → members.told v.disk ≡ Some t → EndsEmpty t slots)
Formats members old slots (Err (formatting.Slots raw)) = (raw.disk ≡ old) × ((slots ≡ 0) ⊎ (65535 < slots))
Formats members old slots (Err (formatting.Small raw size need)) =
    (raw.disk ≡ old) × (size ≡ members.size_is old) × (need ≡ area_end slots)
    × (size < need) × (1 ≤ slots) × (slots ≤ 65535)
Formats members old slots (Err (formatting.Failed spent)) = HasFormatted members old spent.disk slots Failed
