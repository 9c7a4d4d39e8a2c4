-- The works that a step owes to the disk of a spool, one by one: what is noted by then, what stands behind, and by
-- which updates they are made (this profile).
use Rattle.std.specs.Prelude.{◌≡◌, ℕ, ◌+◌, List, [], ◌∷◌, ◌++◌, fold, length, if◌then◌else◌}
use Rattle.gem_spool.specs.declared.works.Work.{Work}
use Rattle.gem_spool.specs.Oldest.{slot_looks}
use Rattle.gem_spool.specs.Updates.{IsAmidUpdates, Update, behind_updates, calls_in, cell_update, only_early}
use Rattle.gem_spool.specs.Standing.{Standing, count_in}
use Rattle.gem_spool.specs.Works.{oldest_in, reserved as marked, standing_after, updates_of}
use Rattle.spool_file.specs.Front.{mark_cell}
use Rattle.spool_file.specs.Logs.{written_by}
use Rattle.spool_file.specs.Setup.{setup_cell}
use Rattle.setup_store.specs.Copies.{list_calls, value_with, with_kept}
use Rattle.trace_log.specs.Log.{Happening, is_before_change}
use Rattle.message_end.specs.Ends.{Asked}

-- ---- the works of a step

-- system bytes are reserved; the list changes; these bytes become the setup that is kept; the oldest message is read,
-- which takes so many slots
pub data DiskWork : Type 0 where
  Reserve : DiskWork
  Change : (work : Work) → DiskWork
  Keep : (bytes : List ℕ) → DiskWork
  ReadOldest : (slots : ℕ) → DiskWork

-- ---- what is noted where the disk fails at one of them

-- up to the first such line, and behind it
abbrev pub up_to_change : List Happening → List Happening
up_to_change [] = []
up_to_change (what ∷ rest) = what ∷ (if is_before_change what then [] else up_to_change rest)

abbrev pub behind_change : List Happening → List Happening
behind_change [] = []
behind_change (what ∷ rest) = if is_before_change what then rest else behind_change rest

-- of a step's notes those in front of what comes behind a work, and those behind: a change and a keep have a line of
-- their own, and pass it
abbrev pub lines_up_to : DiskWork → (before notes : List Happening) → List Happening
lines_up_to Reserve before notes = before
lines_up_to (Change work) before notes = before ++ up_to_change notes
lines_up_to (Keep bytes) before notes = before ++ up_to_change notes
lines_up_to (ReadOldest slots) before notes = before

abbrev pub lines_behind : DiskWork → List Happening → List Happening
lines_behind Reserve notes = notes
lines_behind (Change work) notes = behind_change notes
lines_behind (Keep bytes) notes = behind_change notes
lines_behind (ReadOldest slots) notes = notes

-- those where the disk fails at it: at a change and at a keep all up to its line, at the read all of them
abbrev pub front_at : DiskWork → (before notes : List Happening) → List Happening
front_at Reserve before notes = before
front_at (Change work) before notes = before ++ up_to_change notes
front_at (Keep bytes) before notes = before ++ up_to_change notes
front_at (ReadOldest slots) before notes = before ++ notes

-- so at each of some works
abbrev pub fronts_of : List Happening → List DiskWork → List Happening → List (List Happening)
fronts_of before [] notes = []
fronts_of before (one ∷ works) notes =
    front_at one before notes ∷ fronts_of (lines_up_to one before notes) works (lines_behind one notes)

-- ---- what they make, and how

-- these bytes are the setup that is kept
abbrev pub set_up : List ℕ → Standing → Standing
set_up bytes st = record { next = st.next; file = with_kept bytes st.file }

abbrev pub standing_behind : Standing → DiskWork → Standing
standing_behind st Reserve = marked st
standing_behind st (Change work) = standing_after st work
standing_behind st (Keep bytes) = set_up bytes st
standing_behind st (ReadOldest slots) = st

abbrev pub standings_behind : Standing → List DiskWork → Standing
standings_behind = fold standing_behind

-- the cell of the setup is read, the bytes go where its value names none, and then it names them
abbrev pub keep_updates : Standing → List ℕ → List Update
keep_updates st bytes =
    let cell = st.file.setup.cell in
    only_early (list_calls st.file.slots cell.value bytes)
    ∷ cell_update setup_cell cell (value_with cell.value bytes) (set_up bytes st)
    ∷ []

-- the mark is moved on; the list changes; the setup does; the slots of the oldest message are read
abbrev pub updates_at : Standing → DiskWork → List Update
updates_at st Reserve = cell_update mark_cell st.file.mark (st.file.mark.value + 4096) (marked st) ∷ []
updates_at st (Change work) = updates_of st work
updates_at st (Keep bytes) = keep_updates st bytes
updates_at st (ReadOldest slots) = only_early (slot_looks st.file.slots (oldest_in (count_in st)) slots) ∷ []

-- what a crash leaves amid a work
abbrev pub IsAmidWork : Standing → DiskWork → List ℕ → Type 0
IsAmidWork st one image = IsAmidUpdates st (updates_at st one) image

-- calls of the disk, and bytes that are written
abbrev pub calls_of : Standing → DiskWork → ℕ
calls_of st one = length (calls_in (updates_at st one))

abbrev pub bytes_of : Standing → DiskWork → ℕ
bytes_of st one = written_by (calls_in (updates_at st one))

abbrev pub all_calls : Standing → List DiskWork → ℕ
all_calls st [] = 0
all_calls st (work ∷ works) = calls_of st work + all_calls (standing_behind st work) works

abbrev pub all_bytes : Standing → List DiskWork → ℕ
all_bytes st [] = 0
all_bytes st (work ∷ works) = bytes_of st work + all_bytes (standing_behind st work) works

abbrev pub reserve_asks : Asked
reserve_asks = record { calls = 5; bytes = 9 }

-- behind the last update of a work stands what the work makes
abbrev pub WorksAreUpdates : Type 0
WorksAreUpdates =
    (st : Standing) (one : DiskWork) → behind_updates st (updates_at st one) ≡ standing_behind st one
