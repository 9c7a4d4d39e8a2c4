-- What every call of a disk keeps, but an attaching (this profile).
use Rattle.std.specs.Prelude.{◌≡◌}
use Rattle.disk_base.specs.Disk.{TellsAsBefore}
use Rattle.disk_base.specs.declared.disk.Disk as trait

-- it is the same disk, with the same file, and tells its bytes where it did
abbrev pub IsSameDisk : {D : Type 0} → trait.Ghosts D → D → D → Type 0
IsSameDisk members before after =
    (members.name after ≡ members.name before) × (members.file_is after ≡ members.file_is before)
    × TellsAsBefore (members.told before) (members.told after)
