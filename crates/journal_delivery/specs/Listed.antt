-- The log of two ends, read by what the host has listed in its journal, in place of what it has received.
use Rattle.std.specs.Prelude.{◌==◌, ℕ, Bool, true, false, List, [], ◌∷◌, Option, Some, None, if◌then◌else◌}
use Rattle.gl_base.specs.declared.side.Side.{Side}
use Rattle.gl_base.specs.declared.side.Side.TheVariants.{Equipment, Host}
use Rattle.message_flow.specs.declared.message.Message.{Message}
use Rattle.spool_law.specs.Listing.{Owed, owed_behind}
use Rattle.spool_law.specs.Listing.Owed.{Nothing, ToHaveListed, ToList}
use Rattle.trace_log.specs.Log.{Entry, Happening, Journal, Past}
use Rattle.trace_log.specs.Log.Entry.{Noted}
use Rattle.trace_log.specs.Log.Happening.{HostStarted, Listed, Received, Recorded}
use Rattle.trace_log.specs.Names.{Record, Spooled}

-- ---- what the host owes its journal, by its notes in the log

abbrev pub owed_by : Side → Happening → Owed → Owed
owed_by Equipment what owed = owed
owed_by Host what owed = owed_behind what owed

abbrev pub owed_after : Entry → Owed → Owed
owed_after (Noted moment side what) owed = owed_by side what owed
owed_after _ owed = owed

abbrev pub owed_of : List Entry → Owed
owed_of [] = Nothing
owed_of (entry ∷ before) = owed_after entry (owed_of before)

-- ---- what is listed

abbrev pub has_number : List (ℕ × Spooled) → ℕ → Bool
has_number [] number = false
has_number (one ∷ found) number = if one.0 == number then true else has_number found number

-- what was being listed as the host lost its power is listed where the journal found has its number, and never by what
-- it says
abbrev pub found_among : List (ℕ × Spooled) → Owed → Option Record
found_among found Nothing = None
found_among found (ToList listed) = None
found_among found (ToHaveListed number listed) = if has_number found number then Some listed else None

abbrev pub found_in : Option Journal → Owed → Option Record
found_in None owed = None
found_in (Some journal) owed = found_among journal.found owed

-- what is listed by this note of the host: from here on it counts
abbrev pub listed_by : Owed → Happening → Option Record
listed_by owed (Listed number listed) = Some listed
listed_by owed (HostStarted journal) = found_in journal owed
listed_by owed _ = None

-- ---- the log, read so

-- the message that was listed; whether its reply was awaited the journal doesn't know
abbrev pub listed_message : Record → Message
listed_message listed = record {
  stream = listed.stream;
  function = listed.function;
  wait = true;
  system = listed.system;
  body = listed.body;
}

-- a message that is received alone isn't taken: it becomes a note that no reading of the spool looks at
abbrev pub unlisted : Happening → Happening
unlisted (Received message) = Recorded (Past.Asked message)
unlisted what = what

abbrev pub with_listed : Option Record → Happening → Happening
with_listed None what = unlisted what
with_listed (Some listed) what = Received (listed_message listed)

abbrev pub read_by : Side → Owed → Happening → Happening
read_by Equipment owed what = what
read_by Host owed what = with_listed (listed_by owed what) what

abbrev pub read_behind : Owed → Entry → Entry
read_behind owed (Noted moment side what) = Noted moment side (read_by side owed what)
read_behind owed entry = entry

-- entry for entry: what the host lists is what it takes
abbrev pub listed_log : List Entry → List Entry
listed_log [] = []
listed_log (entry ∷ before) = read_behind (owed_of before) entry ∷ listed_log before
