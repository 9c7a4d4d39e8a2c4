-- What loading and keeping a list do to the spool on the disk (this profile).
use Rattle.std.specs.Prelude.{◌≡◌, ◌⊎◌, ◌+◌, ◌/◌, ◌^◌, ◌<◌, Bool, true, false, ℕ, List, [], ◌∷◌, ◌++◌, length}
use Rattle.std.specs.Prelude.{Some, None, Result, Ok, Err}
use Rattle.std.specs.Option.{option_map}
use Rattle.disk_base.specs.Cut.{image_of}
use Rattle.disk_base.specs.Faults.{GoesAsListed, HasCause, IsPlanned}
use Rattle.disk_base.specs.Listed.{AsListed}
use Rattle.disk_base.specs.SameDisk.{IsSameDisk}
use Rattle.disk_base.specs.Story.{Story}
use Rattle.disk_base.specs.declared.cut.CutChoice.{CutChoice}
use Rattle.disk_base.specs.declared.disk.Disk as disk
use Rattle.disk_base.specs.declared.disk.DiskAnswer.{DiskAnswer}
use Rattle.disk_base.specs.declared.disk.DiskAnswer.TheVariants.{Done, Failed}
use Rattle.disk_base.specs.Calls.{DiskCall}
use Rattle.gate_cell.specs.Cell.{cell_in, copy_place}
use Rattle.gate_cell.specs.declared.cell.CellAnswer.TheVariants.{Value}
use Rattle.gate_cell.specs.declared.cell.CellAnswer.TheVariants as cell
use Rattle.spool_file.specs.File.{Ends, StandsFor, file_in}
use Rattle.spool_file.specs.Logs.{MakesAll}
use Rattle.spool_file.specs.Setup.{has_area, setup_cell, setup_in}
use Rattle.spool_file.specs.declared.reading.NotSpool.{NotSpool}
use Rattle.spool_slots.specs.Changes.{HasMade, HoldsThrough, IsSame, IsSameOr}
use Rattle.spool_slots.specs.Losses.{IsSure, file_left, gate_counts, names_spare}
use Rattle.spool_slots.specs.Setup.{ReadsCell, SetsCell, WritesArea}
use Rattle.spool_slots.specs.Spool.{SpoolView, in_hand, known_of}
use Rattle.spool_slots.specs.declared.states.Spent.{Spent}
use Rattle.setup_store.specs.declared.store.Keeping.{Keeping}
use Rattle.setup_store.specs.declared.store.Keeping.TheVariants as keeping
use Rattle.setup_store.specs.declared.store.Loading.{Loading}
use Rattle.setup_store.specs.declared.store.Loading.TheVariants as loading
use Rattle.setup_store.specs.Copies.{HoldsList, cell_look, copy_begin, copy_number, kept_in, kept_length, keep_calls, list_place}
use Rattle.setup_store.specs.Copies.{many_bytes, many_calls, many_early, names_list, spare_number, value_looks}
use Rattle.setup_store.specs.Copies.{value_with}
use Rattle.setup_store.specs.Entries.{break_of, entries_in, has_room}

-- whether the file has an area
abbrev pub has_setup : {D : Type 0} → disk.Ghosts D → SpoolView D → Bool
has_setup members v = has_area v.slots (members.size_is v.disk)

-- what the cell's value names is no longer than its copy, where the disk tells its bytes; and so it is unless the file
-- has no area
abbrev pub NamesList : {D : Type 0} → disk.Ghosts D → SpoolView D → Type 0
NamesList members v =
    (s : Story) → members.told v.disk ≡ Some s → names_list (cell_in s.now.bytes setup_cell).value ≡ true

-- it has none, and so the disk tells
abbrev pub IsWithout : {D : Type 0} → disk.Ghosts D → SpoolView D → Type 0
IsWithout members v =
    (has_setup members v ≡ false)
    × ((s : Story) → members.told v.disk ≡ Some s → (setup_in s.now.bytes).bytes ≡ None)

abbrev pub HoldsKept : {D : Type 0} → disk.Ghosts D → SpoolView D → Type 0
HoldsKept members v = (s : Story) → members.told v.disk ≡ Some s → HoldsList (file_in s.now.bytes)

-- ---- load

-- some reads were made, as far as they went, and all else is as it was
pub record HasOnlyRead {D : Type 0} (members : disk.Ghosts D) (v w : SpoolView D) (looks : List DiskCall)
    (answer : DiskAnswer) : Type 0 where
  pub same : w ≡ in_hand w.disk (known_of v)
  pub told : members.told w.disk ≡ members.told v.disk
  pub made : HasMade members v.disk w.disk looks answer

-- the cell has this value
abbrev pub HasValue : {D : Type 0} → disk.Ghosts D → SpoolView D → (value : ℕ) → Type 0
HasValue members v value =
    (s : Story) → members.told v.disk ≡ Some s → value ≡ (cell_in s.now.bytes setup_cell).value

-- what is looked at behind the cell: the list that its value names, or the gate that tells the place of a bad one. Some
-- looks were made before
abbrev pub looks_behind : List DiskCall → (slots value : ℕ) → List DiskCall
looks_behind before slots value = before ++ value_looks slots value

-- the value names these bytes, which were read
pub record HasReadList {D : Type 0} (members : disk.Ghosts D) (v w : SpoolView D) (before : List DiskCall) (value : ℕ)
    (bytes : List ℕ) : Type 0 where
  pub good : names_list value ≡ true
  pub long : length bytes ≡ kept_length value
  pub room : has_room bytes ≡ true
  pub are : (s : Story) → members.told v.disk ≡ Some s → (setup_in s.now.bytes).bytes ≡ Some bytes
  pub reads : HasOnlyRead members v w (looks_behind before v.slots value) Done

-- a value names no list, and breaks where the named copy of the cell begins, with its highest byte
pub record IsBadValue {D : Type 0} (members : disk.Ghosts D) (v w : SpoolView D) (before : List DiskCall) (value : ℕ)
    (e : NotSpool) : Type 0 where
  pub bad : names_list value ≡ false
  pub got : e.got ≡ Some (value / 2 ^ 56)
  pub at : (e.at ≡ setup_cell) ⊎ (e.at ≡ setup_cell + 8)
  pub at_is : (s : Story) → members.told v.disk ≡ Some s →
      e.at ≡ setup_cell + copy_place (cell_in s.now.bytes setup_cell).second
  pub reads : HasOnlyRead members v w (looks_behind before v.slots value) Done

-- a place among the bytes of a list, as one of the file
abbrev pub behind : ℕ → NotSpool → NotSpool
behind begin e = record { at = begin + e.at; got = e.got }

-- the bytes that it names are no list of entries
pub record IsBadList {D : Type 0} (members : disk.Ghosts D) (v w : SpoolView D) (before : List DiskCall) (value : ℕ)
    (e : NotSpool) : Type 0 where
  pub bytes : List ℕ
  pub read : HasReadList members v w before value bytes
  pub breaks : option_map (behind (list_place v.slots (copy_number value))) (break_of (entries_in bytes)) ≡ Some e

-- the bytes that a value of the cell names are a list of entries; or why not. Memory is taken before they are read
abbrev pub LoadsFrom : {D : Type 0} → disk.Ghosts D → (v w : SpoolView D) → List DiskCall → (value : ℕ) →
    Result (List ℕ) Loading → Type 0
LoadsFrom members v w before value (Ok bytes) =
    HasReadList members v w before value bytes × (break_of (entries_in bytes) ≡ None)
LoadsFrom members v w before value (Err loading.NoArea) = ⊥
LoadsFrom members v w before value (Err (loading.NotSetup e)) =
    IsBadValue members v w before value e ⊎ IsBadList members v w before value e
LoadsFrom members v w before value (Err loading.Failed) =
    HasOnlyRead members v w (looks_behind before v.slots value) Failed
LoadsFrom members v w before value (Err loading.NoMemory) =
    (names_list value ≡ true) × HasOnlyRead members v w before Done

-- the bytes that a good value names were read
abbrev pub ReadsList : {D : Type 0} → disk.Ghosts D → (v w : SpoolView D) → (value : ℕ) → Result (List ℕ) Loading →
    Type 0
ReadsList members v w value (Ok bytes) = HasReadList members v w [] value bytes
ReadsList members v w value (Err loading.NoArea) = ⊥
ReadsList members v w value (Err (loading.NotSetup e)) = ⊥
ReadsList members v w value (Err loading.Failed) = LoadsFrom members v w [] value (Err loading.Failed)
ReadsList members v w value (Err loading.NoMemory) = LoadsFrom members v w [] value (Err loading.NoMemory)

-- so it is of the value that the cell has, behind a look at it
abbrev pub LoadsNamed : {D : Type 0} → disk.Ghosts D → (v w : SpoolView D) → Result (List ℕ) Loading → Type 0
LoadsNamed members v w said =
    (has_setup members v ≡ true)
    × ((value : ℕ) × HasValue members v value × LoadsFrom members v w cell_look value said)

abbrev pub Loads : {D : Type 0} → disk.Ghosts D → (v w : SpoolView D) → Result (List ℕ) Loading → Type 0
Loads members v w (Ok bytes) = LoadsNamed members v w (Ok bytes)
Loads members v w (Err loading.NoArea) = IsWithout members v × (w ≡ v)
Loads members v w (Err (loading.NotSetup e)) = LoadsNamed members v w (Err (loading.NotSetup e))
Loads members v w (Err loading.Failed) =
    ((has_setup members v ≡ true) × HasOnlyRead members v w cell_look Failed)
    ⊎ LoadsNamed members v w (Err loading.Failed)
Loads members v w (Err loading.NoMemory) = LoadsNamed members v w (Err loading.NoMemory)

-- ---- keep

-- the list was written where the cell named none, and then the cell named it, as far as that went
pub record HasKept {D : Type 0} (members : disk.Ghosts D) (v : SpoolView D) (after : D) (bytes : List ℕ)
    (answer : DiskAnswer) : Type 0 where
  pub images : HoldsThrough (members.told v.disk) (members.told after) (IsSameOr (kept_in bytes))
  pub size : members.size_is after ≡ members.size_is v.disk
  pub calls : (s : Story) → members.told v.disk ≡ Some s →
      MakesAll (members.health v.disk) (members.health after) (members.calls v.disk) (members.calls after)
      (keep_calls v.slots (cell_in s.now.bytes setup_cell) bytes) answer
  pub listed : GoesAsListed (members.health v.disk) →
      AsListed (members.told v.disk) (members.calls v.disk) (members.told after) (members.calls after)
  pub cause : HasCause (members.health v.disk) (members.health after) (many_calls bytes) (many_bytes bytes)
      ((members.health v.disk).room < many_bytes bytes) answer
  pub same_disk : IsSameDisk members v.disk after

-- where a call before the write of the cell's gate was to fail, a crash leaves the file as it was; elsewhere the gate
-- decides
pub record HasLostKeep {D : Type 0} (members : disk.Ghosts D) (v : SpoolView D) (after : D) (bytes : List ℕ) : Type 0
  where
    pub early : IsPlanned (members.health v.disk) (many_early bytes) →
        HoldsThrough (members.told v.disk) (members.told after) IsSame
    pub late : IsSure (members.health v.disk) (members.health after) (many_calls bytes) (many_bytes bytes) →
        (IsPlanned (members.health v.disk) (many_early bytes) → ⊥) →
        (s t : Story) → members.told v.disk ≡ Some s → members.told after ≡ Some t → (choice : CutChoice) →
        StandsFor (image_of choice t)
        (file_left (gate_counts choice (names_spare (cell_in s.now.bytes setup_cell))) (kept_in bytes s.now.bytes)
        (file_in s.now.bytes))

-- ---- its pieces

-- the list was written in a copy that begins at a place of the area, unless it is empty
abbrev pub WritesCopy : {D : Type 0} → disk.Ghosts D → SpoolView D → (at : ℕ) → List ℕ →
    Result (SpoolView D) (Spent D) → Type 0
WritesCopy members v at [] done = done ≡ Ok v
WritesCopy members v at (byte ∷ bytes) done = WritesArea members v at (byte ∷ bytes) done

-- so it was, and then the cell named it; or one of these failed
abbrev pub WritesAndNames : {D : Type 0} → disk.Ghosts D → SpoolView D → (value : ℕ) → List ℕ →
    Result (SpoolView D) (Spent D) → Type 0
WritesAndNames {D} members v value bytes (Ok w) =
    (u : SpoolView D) × WritesCopy members v (copy_begin (spare_number value)) bytes (Ok u)
    × SetsCell members u (value_with value bytes) (Ok w)
WritesAndNames {D} members v value bytes (Err spent) =
    WritesCopy members v (copy_begin (spare_number value)) bytes (Err spent)
    ⊎ ((u : SpoolView D) × WritesCopy members v (copy_begin (spare_number value)) bytes (Ok u)
    × SetsCell members u (value_with value bytes) (Err spent))

-- behind a look at the cell
pub record LooksAndWrites {D : Type 0} (members : disk.Ghosts D) (v : SpoolView D) (bytes : List ℕ)
    (done : Result (SpoolView D) (Spent D)) : Type 0 where
  pub seen : SpoolView D
  pub value : ℕ
  pub looks : ReadsCell members v seen (Value value)
  pub writes : WritesAndNames members seen value bytes done

abbrev pub KeepsList : {D : Type 0} → disk.Ghosts D → SpoolView D → List ℕ → Result (SpoolView D) (Spent D) → Type 0
KeepsList members v bytes (Ok w) = LooksAndWrites members v bytes (Ok w)
KeepsList {D} members v bytes (Err spent) =
    ((seen : SpoolView D) × ReadsCell members v seen cell.Failed × (spent.disk ≡ seen.disk))
    ⊎ LooksAndWrites members v bytes (Err spent)

-- ---- all of it

-- the list is kept; or why not, and what that leaves
abbrev pub Keeps : {D : Type 0} → disk.Ghosts D → SpoolView D → List ℕ → Result (SpoolView D) (Keeping D) → Type 0
Keeps members v bytes (Ok w) =
    (has_setup members v ≡ true) × (has_room bytes ≡ true) × HasKept members v w.disk bytes Done
    × (w ≡ in_hand w.disk (known_of v))
    × ((s t : Story) → members.told v.disk ≡ Some s → members.told w.disk ≡ Some t → Ends t (kept_in bytes s.now.bytes))
Keeps members v bytes (Err (keeping.NoArea w)) = IsWithout members v × (w ≡ v)
Keeps members v bytes (Err (keeping.NoRoom w)) =
    (has_setup members v ≡ true) × (has_room bytes ≡ false) × (w ≡ v)
Keeps members v bytes (Err (keeping.Failed spent)) =
    (has_setup members v ≡ true) × (has_room bytes ≡ true) × HasKept members v spent.disk bytes Failed
    × HasLostKeep members v spent.disk bytes
