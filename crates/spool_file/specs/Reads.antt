-- Some calls of a disk that are all reads (this profile).
use Rattle.std.specs.Prelude.{◌≡◌, ℕ, ◌+◌, ◌*◌, ◌/◌, ◌%◌, ◌-◌, ◌≤◌, ◌==◌, if◌then◌else◌, List, [], ◌∷◌, ◌++◌}
use Rattle.std.specs.Prelude.{length, min, Option, Some, None}
use Rattle.std.specs.List.{All}
use Rattle.std.specs.Option.{option_map}
use Rattle.disk_base.specs.Calls.{DiskCall, read_call, sync_call}
use Rattle.disk_base.specs.Faults.{DiskHealth, HasCause}
use Rattle.disk_base.specs.declared.disk.CallKind.TheVariants.{Read}
use Rattle.disk_base.specs.declared.disk.DiskAnswer.{DiskAnswer}
use Rattle.disk_base.specs.declared.disk.DiskAnswer.TheVariants.{Done}
use Rattle.disk_base.specs.Story.{Story}
use Rattle.spool_file.specs.File.{slots_in, spool_break, version_in}
use Rattle.spool_file.specs.Front.{front_break, front_in, front_size}
use Rattle.spool_file.specs.Logs.{MakesAll, calls_below}
use Rattle.spool_file.specs.Slot.{slot_place}
use Rattle.spool_file.specs.declared.reading.Reading.{Reading}
use Rattle.spool_file.specs.declared.reading.Reading.TheVariants as reading
use Rattle.spool_file.specs.declared.recovery.Known.{Known}

-- at most so many calls were made, of which those that came into the list are reads; the last one failed, or none
pub record HasRead (before now : DiskHealth) (listed listed_now : Option (List DiskCall)) (most : ℕ)
    (answer : DiskAnswer) : Type 0 where
  pub made : ℕ
  pub few : made ≤ most
  pub cause : HasCause before now made 0 ⊥ answer
  pub more : List DiskCall
  pub calls : listed_now ≡ option_map (λ all. all ++ more) listed
  pub reads : All (λ call. call.kind ≡ Read) more
  pub short : length more ≤ made

-- how many slots a file is read for: as many as its front says, where that isn't broken; where the disk tells nothing
-- its size has room for them
abbrev pub slots_if : Option ℕ → ℕ → ℕ
slots_if None slots = slots
slots_if (Some place) slots = 0

abbrev pub slots_looked : Option Story → (size : ℕ) → ℕ
slots_looked None size = size / 4096
slots_looked (Some s) size =
    slots_if (front_break (front_in s.now.bytes) (length s.now.bytes)) (slots_in s.now.bytes)

-- how many reads it takes at most: one of its front and three a slot
abbrev pub most_reads : Option Story → (size : ℕ) → ℕ
most_reads told size = 3 * slots_looked told size + 1

abbrev pub file_reads : Option Story → (size : ℕ) → Reading Known → ℕ
file_reads told size (reading.Whole known) = 3 * known.slots + 1
file_reads told size (reading.Broken break) = most_reads told size
file_reads told size reading.Failed = most_reads told size

-- the read of what is in front of the slots of a file of this size, and that of the start of a slot
abbrev pub front_look : ℕ → List DiskCall
front_look size = read_call 0 (min front_size size) Done ∷ []

abbrev pub start_look : ℕ → List DiskCall
start_look k = read_call (slot_place k) 15 Done ∷ []

-- those of the slots at the first n of some places
abbrev pub looks_at : (ℕ → ℕ) → ℕ → List DiskCall
looks_at slot_of n = calls_below (λ k. start_look (slot_of k)) n

abbrev pub start_looks : ℕ → List DiskCall
start_looks slots = looks_at (λ k. k) slots

-- how far behind a slot the one can stand that it follows, and the slots in the order in which each is read behind so
-- many: the last ones, and then all
abbrev pub look_back : ℕ → ℕ
look_back slots = min slots 257

abbrev pub slot_behind : (slots place : ℕ) → ℕ
slot_behind slots place = (place + (slots - look_back slots)) % slots

-- the reads of the slots of a file that stands for a list
abbrev pub slots_looks : (version slots : ℕ) → List DiskCall
slots_looks version slots =
    if version == 1 then start_looks slots
    else start_looks slots ++ looks_at (slot_behind slots) (slots + look_back slots)

abbrev pub file_looks : (version slots : ℕ) → List DiskCall
file_looks version slots = read_call 0 front_size Done ∷ slots_looks version slots

-- and the calls of a recovery of it
abbrev pub recover_calls : (version slots : ℕ) → List DiskCall
recover_calls version slots = sync_call Done ∷ file_looks version slots

-- where a disk tells such a file, these of its version and its slots are the calls, up to one that failed
abbrev pub MakesWhole : ((version slots : ℕ) → List DiskCall) → Option Story → (before now : DiskHealth) →
    (listed listed_now : Option (List DiskCall)) → DiskAnswer → Type 0
MakesWhole calls told before now listed listed_now answer =
    (s : Story) → told ≡ Some s → spool_break s.now.bytes ≡ None →
    MakesAll before now listed listed_now (calls (version_in s.now.bytes) (slots_in s.now.bytes)) answer
