-- What a list of works does to the spool of the equipment (this profile).
use Rattle.std.specs.Prelude.{◌≡◌, ◌⊎◌, ℕ, ◌+◌, ◌-◌, ◌%◌, ◌<◌, ◌≤◌, Bool, true, false, List, [], ◌∷◌, ◌++◌, drop}
use Rattle.std.specs.Prelude.{fold, length, replicate, set, take, Option, Some, None, Result, Ok, Err}
use Rattle.std.specs.List.{slice_get}
use Rattle.disk_base.specs.Faults.{HasCause}
use Rattle.disk_base.specs.Story.{Story}
use Rattle.disk_base.specs.Through.{EachImage, GoesThrough}
use Rattle.disk_base.specs.declared.disk.Disk as disk
use Rattle.disk_base.specs.declared.disk.DiskAnswer.{DiskAnswer}
use Rattle.disk_base.specs.declared.disk.DiskAnswer.TheVariants.{Done, Failed}
use Rattle.gate_cell.specs.Cell.{Cell, with_value}
use Rattle.gem_spool.specs.Updates.{IsAmidUpdates, Update, calls_in, cell_update, closing, gated, opening, reads}
use Rattle.gem_spool.specs.Updates.Commit.{ByGates}
use Rattle.gem_spool.specs.Spool.{HasList, PurgesAll, Stores, room_in}
use Rattle.gem_spool.specs.declared.count.Count.{Count}
use Rattle.gem_spool.specs.Standing.{Standing, Stands, count_in, count_of}
use Rattle.gem_spool.specs.declared.spool.GemSpool.{GemSpool}
use Rattle.gem_spool.specs.declared.spool.PutAnswer.{PutAnswer}
use Rattle.gem_spool.specs.declared.spool.PutAnswer.TheVariants as answer
use Rattle.gem_spool.specs.declared.spool.Room.TheVariants as room
use Rattle.gem_spool.specs.declared.works.Undone.{Undone}
use Rattle.gem_spool.specs.declared.works.Work.{Work}
use Rattle.gem_spool.specs.declared.works.Work.TheVariants as work
use Rattle.spool_file.specs.Area.{first_of}
use Rattle.spool_file.specs.File.{SpoolFile, StandsFor, file_in}
use Rattle.spool_file.specs.Front.{floor_cell}
use Rattle.spool_file.specs.Logs.{written_by}
use Rattle.spool_file.specs.Sizes.{slots_for}
use Rattle.spool_file.specs.Slot.{Message, width}
use Rattle.spool_slots.specs.Calls.{gate_looks, gate_shuts, number_place, part_calls}
use Rattle.spool_slots.specs.Changes.{DropsSized, open_gates}
use Rattle.spool_slots.specs.Files.{gates_shut, with_mark_moved, with_shut}
use Rattle.spool_slots.specs.Losses.{shut_marks}
use Rattle.spool_slots.specs.Spool.{SpoolView}
use Rattle.spool_slots.specs.declared.states.Dropping.TheVariants as dropping
use Rattle.spool_slots.specs.declared.states.Spent.{Spent}

-- ---- what a work makes

-- the number that the next message gets
abbrev pub next_after : ℕ → Work → ℕ
next_after next (work.Put stream function body) = next + slots_for (length body)
next_after next (work.DropOldest slots) = next
next_after next work.Purge = next

-- how many messages there are
abbrev pub len_after : ℕ → Work → ℕ
len_after len (work.Put stream function body) = len + 1
len_after len (work.DropOldest slots) = len - 1
len_after len work.Purge = 0

-- how many slots these take
abbrev pub used_after : ℕ → Work → ℕ
used_after used (work.Put stream function body) = used + slots_for (length body)
used_after used (work.DropOldest slots) = used - slots
used_after used work.Purge = 0

-- the list, where this is the next number
abbrev pub list_after : ℕ → List Message → Work → List Message
list_after next list (work.Put stream function body) =
    list ++ record { number = next; stream = stream; function = function; body = body } ∷ []
list_after next list (work.DropOldest slots) = drop 1 list
list_after next list work.Purge = []

abbrev pub count_after : Count → Work → Count
count_after c one = record {
  version = c.version;
  slots = c.slots;
  next = next_after c.next one;
  len = len_after c.len one;
  used = used_after c.used one;
}

-- which slots are open: the first one of a message that is put, and none of its further ones, and no more the first one
-- of a message that leaves alone
abbrev pub gates_after : ℕ → SpoolFile → Work → List Bool
gates_after next file (work.Put stream function body) =
    set (gates_shut file.slots next (slots_for (length body)) file.gates) (next % file.slots) true
gates_after next file (work.DropOldest slots) = set file.gates (first_of file.floor.value file.list % file.slots) false
gates_after next file work.Purge = file.gates

-- where the list isn't empty, a purge moves the floor to the next number
abbrev pub floor_above : ℕ → List Message → Cell → Cell
floor_above next [] floor = floor
floor_above next (message ∷ list) floor = with_value next floor

abbrev pub floor_after : ℕ → SpoolFile → Work → Cell
floor_after next file (work.Put stream function body) = file.floor
floor_after next file (work.DropOldest slots) = file.floor
floor_after next file work.Purge = floor_above next file.list file.floor

abbrev pub file_after : ℕ → SpoolFile → Work → SpoolFile
file_after next file one = record {
  version = file.version;
  slots = file.slots;
  gates = gates_after next file one;
  mark = file.mark;
  floor = floor_after next file one;
  setup = file.setup;
  list = list_after next file.list one;
}

abbrev pub standing_after : Standing → Work → Standing
standing_after st one = record { next = next_after st.next one; file = file_after st.next st.file one }

-- the same behind the other calls
abbrev pub standing_after_put : PutAnswer → Standing → ℕ → ℕ → List ℕ → Standing
standing_after_put (answer.Stored number) st stream function body = standing_after st (work.Put stream function body)
standing_after_put answer.Full st stream function body = st
standing_after_put answer.TooLong st stream function body = st
standing_after_put answer.NumbersSpent st stream function body = st

-- how many slots the oldest message takes
abbrev pub oldest_width : List Message → ℕ
oldest_width [] = 0
oldest_width (message ∷ list) = width message

abbrev pub standing_after_confirm : Bool → Standing → Standing
standing_after_confirm true st = standing_after st (work.DropOldest (oldest_width st.file.list))
standing_after_confirm false st = st

abbrev pub reserved : Standing → Standing
reserved st = record { next = st.next; file = with_mark_moved st.file }

abbrev pub standing_after_reserve : Option ℕ → Standing → Standing
standing_after_reserve (Some base) st = reserved st
standing_after_reserve None st = st

-- ---- and all of them

abbrev pub counts_after : Count → List Work → Count
counts_after = fold count_after

abbrev pub standings_after : Standing → List Work → Standing
standings_after = fold standing_after

abbrev pub lists_after : ℕ → List Message → List Work → List Message
lists_after next list [] = list
lists_after next list (one ∷ works) = lists_after (next_after next one) (list_after next list one) works

-- a put finds room, and a drop a message, of which it frees the slots: it leaves one at least to each other message,
-- and none to none
abbrev pub IsDue : Count → Work → Type 0
IsDue c (work.Put stream function body) =
    (function % 2 ≡ 1) × (stream < 128) × (room_in c (length body) ≡ room.Fits)
IsDue c (work.DropOldest slots) =
    (0 < c.len) × (1 ≤ slots) × (slots + (c.len - 1) ≤ c.used) × (c.len ≡ 1 → slots ≡ c.used)
IsDue c work.Purge = Unit {0}

-- each does so in its turn
abbrev pub AreDue : Count → List Work → Type 0
AreDue c [] = Unit {0}
AreDue c (one ∷ works) = IsDue c one × AreDue (count_after c one) works

-- a drop frees the slots of the oldest message, as a list has it, and each does so in its turn
abbrev pub IsSized : List Message → Work → Type 0
IsSized list (work.Put stream function body) = Unit {0}
IsSized list (work.DropOldest slots) = slots ≡ oldest_width list
IsSized list work.Purge = Unit {0}

abbrev pub AreSized : (next : ℕ) → List Message → List Work → Type 0
AreSized next list [] = Unit {0}
AreSized next list (one ∷ works) =
    IsSized list one × AreSized (next_after next one) (list_after next list one) works

-- so of the list that a disk tells
abbrev pub AreSizedOn : {D : Type 0} → disk.Ghosts D → SpoolView D → List Work → Type 0
AreSizedOn members v works =
    (s : Story) → members.told v.disk ≡ Some s → AreSized v.next (file_in s.now.bytes).list works

-- ---- what one call does

-- one of them was done, or its call failed as it says by itself
abbrev pub Does : {D : Type 0} → disk.Ghosts D → GemSpool D → Work → Result (GemSpool D) (Spent D) → Type 0
Does members g (work.Put stream function body) done = Stores members g stream function body done
Does members g (work.DropOldest slots) (Ok h) = DropsSized members g.spool slots (Ok h.spool) × (h.active ≡ g.active)
Does members g (work.DropOldest slots) (Err spent) = DropsSized members g.spool slots (Err (dropping.Failed spent))
Does members g work.Purge done = PurgesAll members g done

-- they were done one after the other
abbrev pub DoesAll : {D : Type 0} → disk.Ghosts D → GemSpool D → List Work → GemSpool D → Type 0
DoesAll members g [] h = h ≡ g
DoesAll {D} members g (one ∷ works) h = (u : GemSpool D) × Does members g one (Ok u) × DoesAll members u works h

-- ---- how it is made on the disk

-- where the slot of the next message begins, and that of the oldest one
abbrev pub next_place : Standing → ℕ
next_place st = number_place st.file.slots st.next

abbrev pub oldest_in : Count → ℕ
oldest_in c = c.next - c.used

abbrev pub oldest_place : Standing → ℕ
oldest_place st = number_place st.file.slots (oldest_in (count_in st))

-- of the slots of the next message, which takes so many, those whose gates are open are stale: no message stands there
abbrev pub stale_gates : Standing → (size : ℕ) → List Bool
stale_gates st size = open_gates st.next size st.file

abbrev pub unstale : Standing → (size : ℕ) → Standing
unstale st size = record { next = st.next; file = with_shut st.next size st.file }

-- they are looked at, and closed
abbrev pub stale_update : Standing → (size : ℕ) → Update
stale_update st size = record {
  early = gate_looks st.file.slots st.next size;
  commit = ByGates (record {
    calls = gate_shuts st.file.slots st.next (stale_gates st size);
    marks = λ m. shut_marks st.file.slots st.next (stale_gates st size) m (replicate st.file.slots false);
    behind = unstale st size;
  });
}

-- of an empty list nothing is purged
abbrev pub purge_updates : List Message → Standing → List Update
purge_updates [] st = []
purge_updates (message ∷ list) st = cell_update floor_cell st.file.floor st.next (standing_after st work.Purge) ∷ []

-- a put looks at the gates of its slots, and closes the stale ones; the message is written, and then its first gate. A
-- drop reads the oldest message's length, and closes its first gate, and a purge moves the floor
abbrev pub updates_of : Standing → Work → List Update
updates_of st (work.Put stream function body) =
    stale_update st (slots_for (length body))
    ∷ gated (part_calls st.file.slots st.next stream function body)
    (opening (next_place st) (standing_after st (work.Put stream function body)))
    ∷ []
updates_of st (work.DropOldest slots) =
    gated (reads (oldest_place st + 11) 4 ∷ []) (closing (oldest_place st) (standing_after st (work.DropOldest slots)))
    ∷ []
updates_of st work.Purge = purge_updates st.file.list st

-- how many calls of the disk a work makes, and how many bytes it writes
abbrev pub calls_of : Standing → Work → ℕ
calls_of st one = length (calls_in (updates_of st one))

abbrev pub bytes_of : Standing → Work → ℕ
bytes_of st one = written_by (calls_in (updates_of st one))

abbrev pub all_calls : Standing → List Work → ℕ
all_calls st [] = 0
all_calls st (one ∷ works) = calls_of st one + all_calls (standing_after st one) works

abbrev pub all_bytes : Standing → List Work → ℕ
all_bytes st [] = 0
all_bytes st (one ∷ works) = bytes_of st one + all_bytes (standing_after st one) works

-- ---- what a crash leaves

-- bytes stand for the list before a work, or amid it, or behind it
abbrev pub IsAmid : Standing → Work → List ℕ → Type 0
IsAmid st one image = IsAmidUpdates st (updates_of st one) image

-- bytes stand for what some first works make, or amid the next one
abbrev pub IsOnWay : Standing → List Work → List ℕ → Type 0
IsOnWay st [] image = StandsFor image st.file
IsOnWay st (one ∷ works) image = IsAmid st one image ⊎ IsOnWay (standing_after st one) works image

-- a standing with as many slots and messages, and the same next number
abbrev pub HasNumbers : Count → Standing → Type 0
HasNumbers c st = (c.slots ≡ st.file.slots) × (c.next ≡ st.next) × (c.len ≡ length st.file.list)

-- each work costs what it does from some standing of its numbers: a disk that doesn't tell its bytes may hold any gates
abbrev pub Costs : Count → List Work → (calls bytes : ℕ) → Type 0
Costs c [] calls bytes = (calls ≡ 0) × (bytes ≡ 0)
Costs c (one ∷ works) calls bytes =
    (st : Standing) × HasNumbers c st
    × ((more : ℕ) × (longer : ℕ) × Costs (count_after c one) works more longer
    × (calls ≡ calls_of st one + more) × (bytes ≡ bytes_of st one + longer))

-- at every moment till then a crash leaves what some of these works make; a fault was counted where a call failed. The
-- numbers of the list say how many calls that are, and how many bytes, but for the gates that puts find; what the disk
-- tells says it wholly
pub record GoesOn {D : Type 0} (members : disk.Ghosts D) (g : GemSpool D) (works : List Work) (after : D)
    (said : DiskAnswer) : Type 0 where
  pub images : (st : Standing) → Stands members g.spool st → (s : Story) → members.told g.spool.disk ≡ Some s →
      GoesThrough s (members.told after) (IsOnWay st works)
  pub made : ℕ
  pub wrote : ℕ
  pub cause : HasCause (members.health g.spool.disk) (members.health after) made wrote
      ((members.health g.spool.disk).room < wrote) said
  pub costs : Costs (count_of g.spool) works made wrote
  pub are : (st : Standing) → Stands members g.spool st → (s : Story) → members.told g.spool.disk ≡ Some s →
      (made ≡ all_calls st works) × (wrote ≡ all_bytes st works)

-- the device behind a reserve
abbrev pub reserve_disk : {D : Type 0} → Result (GemSpool D × Option ℕ) (Spent D) → D
reserve_disk (Ok r) = r.0.spool.disk
reserve_disk (Err spent) = spent.disk

-- amid a reserve bytes stand for the list with the old mark or the new one
abbrev pub IsMarked : Standing → List ℕ → Type 0
IsMarked st image = StandsFor image st.file ⊎ StandsFor image (reserved st).file

-- ---- the call

-- the numbers are those that the works make, and mark and switch are as they were
pub record HasCarried {D : Type 0} (members : disk.Ghosts D) (g : GemSpool D) (works : List Work) (h : GemSpool D) :
    Type 0 where
  pub done : DoesAll members g works h
  pub count : count_of h.spool ≡ counts_after (count_of g.spool) works
  pub mark : h.spool.mark ≡ g.spool.mark
  pub active : h.active ≡ g.active
  pub goes_on : GoesOn members g works h.spool.disk Done
  pub list : (list : List Message) → HasList members g.spool list →
      HasList members h.spool (lists_after g.spool.next list works)
  pub stands : (st : Standing) → Stands members g.spool st → AreSized st.next st.file.list works →
      Stands members h.spool (standings_after st works)

-- those before it were done, this one failed, and none behind it was begun
pub record HasUndone {D : Type 0} (members : disk.Ghosts D) (g : GemSpool D) (works : List Work) (undone : Undone D) :
    Type 0 where
  pub failed : Work
  pub is : slice_get works undone.at ≡ Some failed
  pub before : GemSpool D
  pub done : DoesAll members g (take undone.at works) before
  pub fails : Does members before failed (Err undone.spent)
  pub goes_on : GoesOn members g (take undone.at works ++ failed ∷ []) undone.spent.disk Failed
  pub left : (st : Standing) → Stands members g.spool st → (s t : Story) → members.told g.spool.disk ≡ Some s →
      members.told undone.spent.disk ≡ Some t →
      EachImage (IsAmid (standings_after st (take undone.at works)) failed) t.now

abbrev pub CarriesOut : {D : Type 0} → disk.Ghosts D → GemSpool D → List Work → Result (GemSpool D) (Undone D) →
    Type 0
CarriesOut members g works (Ok h) = HasCarried members g works h
CarriesOut members g works (Err undone) = HasUndone members g works undone
