-- What an equipment keeps of the setup that its host makes, as its own notes tell it, and what it owes for each of these
-- notes. Notes have the newest first; the list that is kept has the oldest entry first.
use Rattle.std.specs.Prelude.{◌≡◌, ◌⊎◌, Bool, true, List, [], ◌∷◌, Option, Some, None, if◌then◌else◌}
use Rattle.std.specs.Option.{option_map, unwrap_or}
use Rattle.message_flow.specs.declared.message.Message.{Message}
use Rattle.setup_store.specs.Entries.{Entry, bytes_of, has_room}
use Rattle.setup_store.specs.Kept.{kept}
use Rattle.trace_log.specs.Log.{Happening, Past}
use Rattle.equipment_tables.specs.declared.plan.EquipmentPlan.{EquipmentPlan}
use Rattle.equipment_tables.specs.Past.{tables_at}
use Rattle.equipment_tables.specs.Setup.{accepts_primary, asked_of, primary_of}
use Rattle.equipment_tables.specs.Tables.{TablesState}

-- ---- what a note says of the setup

pub data Change : Type 0 where
  -- the equipment has started; it has found this list; one of its entries is refused
  Starts : Change
  Finds : (found : Option (List Entry)) → Change
  Refuses : Change
  -- a command or a request counts from here on
  Counts : (past : Past) → Change
  -- before and after a primary is kept; a note of something else
  Keeps : (primary : Message) → Change
  HasKept : (primary : Message) → Change
  Other : Change

abbrev pub change_of : Happening → Change
change_of (Happening.EquipmentStarted found base) = Starts
change_of (Happening.Setup found) = Finds found
change_of Happening.Refused = Refuses
change_of (Happening.Recorded past) = Counts past
change_of (Happening.Keeping primary) = Keeps primary
change_of (Happening.Kept primary) = HasKept primary
change_of _ = Other

-- ---- the tables since the newest start

-- what counts when the equipment looks back
abbrev pub past_in : List Happening → List Past
past_in [] = []
past_in (Happening.EquipmentStarted found base ∷ before) = []
past_in (Happening.Recorded past ∷ before) = past ∷ past_in before
past_in (_ ∷ before) = past_in before

-- each variable, constant, report, link, enable and alarm as it is looked back for, and the rule of spooling
abbrev pub tables_in : EquipmentPlan → List Happening → TablesState
tables_in plan notes = tables_at plan (past_in notes)

-- the primary changes the setup, and isn't refused by then
abbrev pub is_accepted : EquipmentPlan → List Happening → Entry → Bool
is_accepted plan notes primary = accepts_primary (tables_in plan notes) primary

-- ---- the list that is kept

-- one more is kept; None where the file has no room for any list
abbrev pub with_kept : Message → Option (List Entry) → Option (List Entry)
with_kept primary list = option_map (λ l. kept l (primary_of primary)) list

abbrev pub list_behind : Change → Option (List Entry) → Option (List Entry)
list_behind (Finds found) list = found
list_behind (HasKept primary) list = with_kept primary list
list_behind _ list = list

-- over all starts, from what the file held before the first of them
abbrev pub list_in : Option (List Entry) → List Happening → Option (List Entry)
list_in held [] = held
list_in held (what ∷ before) = list_behind (change_of what) (list_in held before)

-- the primary that is being kept, also where power was lost meanwhile, until a start has found what became of it
abbrev pub keeping_behind : Change → Option Message → Option Message
keeping_behind (Finds found) keeping = None
keeping_behind (Keeps primary) keeping = Some primary
keeping_behind (HasKept primary) keeping = None
keeping_behind _ keeping = keeping

abbrev pub keeping_in : List Happening → Option Message
keeping_in [] = None
keeping_in (what ∷ before) = keeping_behind (change_of what) (keeping_in before)

-- what is to be kept of a request that counts: the list behind it, where it is accepted; None where it isn't, and where
-- the file has no room for any
abbrev pub to_keep : EquipmentPlan → Option (List Entry) → List Happening → Past → Option (List Entry)
to_keep plan held notes (Past.Commanded command) = None
to_keep plan held notes (Past.Asked request) =
    if is_accepted plan notes (primary_of request) then with_kept request (list_in held notes) else None

-- ---- what is noted next

pub data Due : Type 0 where
  -- a start, first of all; behind any start, the list that it finds; behind that, its entries in their order, each by
  -- one note, and the end of the step
  AStart : Due
  ASetup : Due
  Entries : (left : List Entry) → Due
  -- that a request is being kept, and that it is
  AKeep : (primary : Message) → Due
  ItsEnd : (primary : Message) → Due
  -- what there may be else
  Anything : Due

-- behind the note of an entry
abbrev pub due_behind_entry : Due → Due
due_behind_entry (Entries (entry ∷ left)) = Entries left
due_behind_entry _ = Anything

-- behind a request of the host, which is to be kept or not
abbrev pub due_behind_request : Past → Option (List Entry) → Due
due_behind_request (Past.Asked request) (Some list) = AKeep request
due_behind_request _ _ = Anything

abbrev pub due_behind_past : Past → Option (List Entry) → Due → Due
due_behind_past past list (Entries left) = due_behind_entry (Entries left)
due_behind_past past list _ = due_behind_request past list

-- behind a loss of power that has cut off a keep
abbrev pub due_behind_other : Due → Due
due_behind_other (ItsEnd primary) = AStart
due_behind_other _ = Anything

abbrev pub due_behind : Change → Option (List Entry) → Due → Due
due_behind Starts list due = ASetup
due_behind (Finds found) list due = Entries (unwrap_or found [])
due_behind Refuses list due = due_behind_entry due
due_behind (Counts past) list due = due_behind_past past list due
due_behind (Keeps primary) list due = ItsEnd primary
due_behind (HasKept primary) list due = Anything
due_behind Other list due = due_behind_other due

-- what a note that counts leaves to be kept
abbrev pub list_by : EquipmentPlan → Option (List Entry) → List Happening → Change → Option (List Entry)
list_by plan held notes (Counts past) = to_keep plan held notes past
list_by plan held notes _ = None

abbrev pub due_in : EquipmentPlan → Option (List Entry) → List Happening → Due
due_in plan held [] = AStart
due_in plan held (what ∷ before) =
    due_behind (change_of what) (list_by plan held before (change_of what)) (due_in plan held before)

-- ---- the law of the notes

-- what was kept is found again; the primary that was being kept as power was lost may count as kept (this profile)
abbrev pub list_if : Bool → Option Message → Option (List Entry) → Option (List Entry)
list_if true (Some primary) list = with_kept primary list
list_if _ _ list = list

pub record IsFoundOf (list : Option (List Entry)) (keeping : Option Message) (found : Option (List Entry)) : Type 0
  where
    pub counted : Bool
    pub is : found ≡ list_if counted keeping list

-- an entry is carried out as if the host had just sent it; one that is refused changes nothing, and stays in the list
-- (this profile)
abbrev pub carried_line : TablesState → Entry → Happening
carried_line t entry = if accepts_primary t entry then Happening.Recorded (asked_of entry) else Happening.Refused

-- what is kept has room; so a request for whose list there is none doesn't count, and changes no table
abbrev pub HasRoom : Option (List Entry) → Type 0
HasRoom None = Unit {0}
HasRoom (Some list) = has_room (bytes_of list) ≡ true

-- where nothing is due: a setup is found, and a primary is kept, nowhere but where that is due
abbrev pub MayChange : EquipmentPlan → Option (List Entry) → List Happening → Change → Type 0
MayChange plan held notes Starts = Unit {0}
MayChange plan held notes (Finds found) = ⊥
MayChange plan held notes Refuses = Unit {0}
MayChange plan held notes (Counts past) = HasRoom (to_keep plan held notes past)
MayChange plan held notes (Keeps primary) = ⊥
MayChange plan held notes (HasKept primary) = ⊥
MayChange plan held notes Other = Unit {0}

abbrev pub IsStart : Change → Type 0
IsStart Starts = Unit {0}
IsStart _ = ⊥

abbrev pub IsSetup : Option (List Entry) → List Happening → Change → Type 0
IsSetup held notes (Finds found) = IsFoundOf (list_in held notes) (keeping_in notes) found
IsSetup held notes _ = ⊥

-- what is due is noted, right there; a keep alone may be cut off, by a loss of power, behind which comes a start
abbrev pub IsNext : EquipmentPlan → Option (List Entry) → List Happening → Due → Happening → Type 0
IsNext plan held notes AStart what = IsStart (change_of what)
IsNext plan held notes ASetup what = IsSetup held notes (change_of what)
IsNext plan held notes (Entries []) what = what ≡ Happening.StepEnded
IsNext plan held notes (Entries (entry ∷ left)) what = what ≡ carried_line (tables_in plan notes) entry
IsNext plan held notes (AKeep primary) what = what ≡ Happening.Keeping primary
IsNext plan held notes (ItsEnd primary) what = (what ≡ Happening.Kept primary) ⊎ (what ≡ Happening.Power)
IsNext plan held notes Anything what = MayChange plan held notes (change_of what)

-- An equipment keeps it over all its notes, over a file that held this list before the first of them, or had no room for
-- any. Each start finds the list that the start before it found, with each primary behind it that was kept since; the
-- one that was being kept may count, and no other. It carries out all of it, in order, before anything else. And each
-- request that is accepted is kept right behind the note that it counts, so in its step and before its answer, and one
-- at a time (this profile).
abbrev pub KeepsSetup : EquipmentPlan → Option (List Entry) → List Happening → Type 0
KeepsSetup plan held [] = Unit {0}
KeepsSetup plan held (what ∷ before) =
    IsNext plan held before (due_in plan held before) what × KeepsSetup plan held before
