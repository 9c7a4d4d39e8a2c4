-- What reading parts of a file of recipes comes to (this profile).
use Rattle.std.specs.Prelude.{◌≡◌, ◌≤◌, ◌&&◌, ◌==◌, ℕ, Bool, true, false, bytes_eq, nat_lt, List, length, Option, Some, None, Result, Ok, Err}
use Rattle.std.specs.List.{slice_get}
use Rattle.disk_base.specs.Calls.{DiskCall}
use Rattle.disk_base.specs.SameDisk.{IsSameDisk}
use Rattle.disk_base.specs.Story.{Story}
use Rattle.disk_base.specs.declared.disk.CallKind.TheVariants.{Read}
use Rattle.disk_base.specs.declared.disk.Disk as disk
use Rattle.disk_base.specs.declared.disk.DiskAnswer.{DiskAnswer}
use Rattle.disk_base.specs.declared.disk.DiskAnswer.TheVariants.{Done, Failed}
use Rattle.gem_recipes.specs.Keeper.{HasKeeperCause}
use Rattle.gem_recipes.specs.declared.keeper.RecipeDrop.{RecipeDrop}
use Rattle.gem_recipes.specs.declared.keeper.RecipeDrop.TheVariants as deleting
use Rattle.gem_recipes.specs.declared.keeper.RecipePut.{RecipePut}
use Rattle.gem_recipes.specs.declared.keeper.RecipePut.TheVariants as putting
use Rattle.spool_file.specs.Added.{OnlyAdds}
use Rattle.spool_file.specs.Reading.{IsBreak}
use Rattle.recipe_disk.specs.File.{front_break, front_in, slots_of}
use Rattle.recipe_disk.specs.Slot.{name_in, slot_place}
use Rattle.recipe_disk.specs.declared.head.Head.{Head}
use Rattle.recipe_disk.specs.declared.reading.Reading.{Reading}
use Rattle.recipe_disk.specs.declared.reading.Reading.TheVariants as reading
use Rattle.recipe_disk.specs.declared.sought.Sought.{Sought}
use Rattle.recipe_disk.specs.declared.sought.Sought.TheVariants.{Name, Newer, Number}

abbrev pub disk_failed : DiskAnswer → Bool
disk_failed Done = false
disk_failed Failed = true

abbrev pub IsAnyCall : DiskCall → Type 0
IsAnyCall call = Unit {0}

abbrev pub IsReadCall : DiskCall → Type 0
IsReadCall call = call.kind ≡ Read

-- only such calls were made, of which the last one failed, or none; and the disk is the one that it was
pub record HasMade (Is : DiskCall → Type 0) {D : Type 0} (members : disk.Ghosts D) (old new : D) (answer : DiskAnswer) :
    Type 0 where
  pub size : members.size_is new ≡ members.size_is old
  pub calls : OnlyAdds Is (members.calls old) (members.calls new)
  pub cause : HasKeeperCause (disk_failed answer) (members.health old).faults (members.health new).faults
  pub same_disk : IsSameDisk members old new

-- only reads were made, and nothing was changed
pub record HasLooked {D : Type 0} (members : disk.Ghosts D) (old new : D) (answer : DiskAnswer) : Type 0 where
  pub told : members.told new ≡ members.told old
  pub made : HasMade IsReadCall members old new answer

-- whether the disk failed
abbrev pub look_answer : {T E : Type 0} → Result T E → DiskAnswer
look_answer (Ok value) = Done
look_answer (Err fault) = Failed

abbrev pub reading_answer : {T : Type 0} → Reading T → DiskAnswer
reading_answer (reading.Whole value) = Done
reading_answer (reading.Broken break) = Done
reading_answer reading.Failed = Failed

abbrev pub put_answer_of : RecipePut → DiskAnswer
put_answer_of putting.Stored = Done
put_answer_of putting.TooLong = Done
put_answer_of putting.NoSpace = Done
put_answer_of putting.Failed = Failed

abbrev pub delete_answer_of : RecipeDrop → DiskAnswer
delete_answer_of deleting.Dropped = Done
delete_answer_of deleting.Unknown = Done
delete_answer_of deleting.Failed = Failed

-- what was read is so of the bytes, where they are told
abbrev pub SaysOf : {T E : Type 0} → Option Story → (List ℕ → T → Type 0) → Result T E → Type 0
SaysOf told P (Ok value) = (s : Story) → told ≡ Some s → P s.now.bytes value
SaysOf told P (Err fault) = Unit {0}

-- a break is at this place, with the byte there
abbrev pub Breaks : {T : Type 0} → Option Story → ℕ → Reading T → Type 0
Breaks told at (reading.Whole value) = ⊥
Breaks told at (reading.Broken break) =
    (s : Story) → told ≡ Some s → (break.at ≡ at) × (break.got ≡ slice_get s.now.bytes at)
Breaks told at reading.Failed = Unit {0}

-- a test of the bytes finds nothing, and this is so; or its finding is the break, with the byte there
abbrev pub Finds : {T : Type 0} → Option Story → (List ℕ → Option ℕ) → (List ℕ → T → Type 0) → Reading T → Type 0
Finds told test P (reading.Whole value) =
    (s : Story) → told ≡ Some s → (test s.now.bytes ≡ None) × P s.now.bytes value
Finds told test P (reading.Broken break) = (s : Story) → told ≡ Some s → IsBreak s.now.bytes (test s.now.bytes) break
Finds told test P reading.Failed = Unit {0}

-- whether a head is such a one: it has this number, or this name, or this name and a greater number
abbrev pub is_sought : Sought → Head → Bool
is_sought (Number number) head = head.number == number
is_sought (Name name) head = bytes_eq (name_in head) name.now
is_sought (Newer name number) head = bytes_eq (name_in head) name.now && nat_lt number head.number

-- what the front's bytes say
abbrev pub FrontSays : List ℕ → ℕ → Reading ℕ → Type 0
FrontSays front size (reading.Whole slots) = (front_break front size ≡ None) × (slots ≡ slots_of front)
FrontSays front size (reading.Broken break) =
    (bytes : List ℕ) → length bytes ≡ size → front ≡ front_in bytes → IsBreak bytes (front_break front size) break
FrontSays front size reading.Failed = ⊥

-- the number of slots that was read is in its range, also over a disk that tells nothing
abbrev pub FrontFits : ℕ → Reading ℕ → Type 0
FrontFits size (reading.Whole slots) = (2 ≤ slots) × (slots ≤ 4096) × (slot_place slots ≤ size)
FrontFits size (reading.Broken break) = Unit {0}
FrontFits size reading.Failed = Unit {0}
