-- What the journal of a host holds, as the host's own notes tell it: a spool into which records are put, and which none
-- leaves. Notes have the newest first.
use Rattle.std.specs.Prelude.{ℕ, Bool, false, List, [], ◌++◌, Option, Some, None}
use Rattle.std.specs.Int.{w32, to_be_bytes}
use Rattle.std.specs.List.{filter_map}
use Rattle.message_end.specs.Core.{Step}
use Rattle.message_end.specs.Course.{Meeting, course_of, notes_of}
use Rattle.message_end.specs.Ends.{Machine}
use Rattle.trace_log.specs.Log.{Happening, Journal}
use Rattle.trace_log.specs.Log.Happening.{EquipmentStarted, HostStarted, Listed, Listing, Stored, Storing}
use Rattle.trace_log.specs.Names.{Record, Spooled}
use Rattle.spool_law.specs.Shelf.{KeepsSpoolFrom, Policy}

-- a record as its file has it: in front of the text stand its system bytes, the high one first. Not each message of
-- such a file is a record's: it may hold some of another origin, with texts of any length
abbrev pub entry_of : Record → Spooled
entry_of listed = record {
  stream = listed.stream;
  function = listed.function;
  body = to_be_bytes w32 listed.system ++ listed.body;
}

-- ---- as a spool

-- a start of a host finds what its file holds; one without a journal finds nothing
abbrev pub start_over : Option Journal → Happening
start_over None = EquipmentStarted [] 0
start_over (Some journal) = EquipmentStarted journal.found journal.base

-- what a note says of the file, as that of a spool; the others say nothing of it
abbrev pub as_stored : Happening → Option Happening
as_stored (HostStarted journal) = Some (start_over journal)
as_stored (Listing number listed) = Some (Storing number (entry_of listed))
as_stored (Listed number listed) = Some (Stored number)
as_stored _ = None

-- whether a file that holds these messages has room for one more
abbrev pub Room : Type 0
Room = List (ℕ × Spooled) → Spooled → Bool

abbrev pub nothing_leaves : Room → Policy
nothing_leaves has_room = record { purges = λ message. false; has_room = has_room; overwrites = λ notes. false }

-- ---- the law

-- over a file that held these messages before: each start of the host finds all that stood, in order, and what was
-- being listed may stand last; what is listed goes behind all others, with a number above theirs, one at a time, where
-- there is room beside them (this profile)
abbrev pub KeepsJournal : Room → List (ℕ × Spooled) → List Happening → Type 0
KeepsJournal has_room held notes = KeepsSpoolFrom (nothing_leaves has_room) held (filter_map as_stored notes)

-- a host does so whatever it meets over all its starts, from this first one on (this profile)
abbrev pub JournalIsKept : {S C : Type 0} → Room → List (ℕ × Spooled) → Step S Happening → Machine S C → Type 0
JournalIsKept {S} {C} has_room held start machine =
    (meetings : List (Meeting C)) → KeepsJournal has_room held (notes_of (course_of start machine meetings))
