-- The lines of a log (this profile).
use Rattle.std.specs.Prelude.{◌≡◌, ℕ, Bool, List, [], ◌∷◌, ◌++◌, length, codes, decimal, Option, Some, None, false, if◌then◌else◌}
use Rattle.std.specs.List.{flat_map}
use Rattle.std.specs.Option.{option_map_or}
use Rattle.hex.specs.Hex.{encode_upper}
use Rattle.block_codec.specs.declared.header.Header.{Header}
use Rattle.block_codec.specs.Header.{header_bytes}
use Rattle.gl_base.specs.declared.side.Side.{Side}
use Rattle.gl_base.specs.Side.{side_letter}
use Rattle.message_flow.specs.declared.message.Message.{Message}
use Rattle.message_flow.specs.declared.step.Note.{Note}
use Rattle.short_text.specs.Shown.{shown_text}
use Rattle.trace_log.specs.Log.{Entry, Happening, is_before_change}
use Rattle.trace_log.specs.Log.Entry.{Noted, Slipped, Ended}
use Rattle.trace_log.specs.Log.Happening.{EquipmentStarted, HostStarted, Setup, Power, Closed, Sent, Received, Wrote, Comms, Control, Spool, Set, Event, Alarm, Carried, Display, Refused, Storing, Stored, Leaving, Gone, Try, Keeping, Kept, Listing, Listed, Duplicate, Unexpected, Foreign, TooLongBlock, Crowded, DroppedByT4, Failed, TimedOut, Stranger, Dropped, Denied, Discarded, TooLong, Full, Recorded, StepEnded}
use Rattle.trace_log.specs.declared.names.Cause.{Cause}
use Rattle.trace_log.specs.Names.{Spooled, cause_text, comms_text, control_text, message_name, name_text, record_name, spooled_name, system_text, title_of, title_text}

-- the moment and the end
abbrev pub head_text : ℕ → Side → List ℕ
head_text moment side = decimal moment ++ codes " " ++ (side_letter side ∷ []) ++ codes " "

abbrev pub body_text : List ℕ → List ℕ
body_text [] = codes "-"
body_text (byte ∷ bytes) = encode_upper (byte ∷ bytes)

abbrev pub message_text : Message → List ℕ
message_text message = title_text (title_of message) ++ codes " " ++ body_text message.body

abbrev pub header_text : Header → List ℕ
header_text header = encode_upper (header_bytes header)

abbrev pub set_text : Bool → List ℕ
set_text set = if set then codes "set" else codes "clear"

abbrev pub active_text : Bool → List ℕ
active_text active = if active then codes "ACTIVE" else codes "INACTIVE"

-- a start that finds so many messages, with the first number that the end may draw
abbrev pub start_text : ℕ → ℕ → List ℕ
start_text len base = codes "start len=" ++ decimal len ++ codes " base=" ++ decimal base

abbrev pub happening_text : Happening → List ℕ
happening_text (EquipmentStarted found base) = start_text (length found) base
happening_text (HostStarted None) = codes "start"
happening_text (HostStarted (Some journal)) = start_text (length journal.found) journal.base
happening_text (Setup None) = []
happening_text (Setup (Some found)) = codes "setup " ++ decimal (length found)
happening_text Power = codes "power"
happening_text Closed = codes "closed"
happening_text (Sent message) = codes "sent " ++ message_text message
happening_text (Received message) = codes "rx " ++ message_text message
happening_text (Wrote characters) = codes "tx " ++ encode_upper characters
happening_text (Comms state) = codes "comms " ++ comms_text state
happening_text (Control state) = codes "control " ++ control_text state
happening_text (Spool active) = codes "spool " ++ active_text active
happening_text (Set vid) = codes "set " ++ decimal vid
happening_text (Event ceid dataid) = codes "event " ++ decimal ceid ++ codes " " ++ decimal dataid
happening_text (Alarm alid set) = codes "alarm " ++ decimal alid ++ codes " " ++ set_text set
happening_text (Carried rcmd) = codes "command " ++ flat_map shown_text rcmd
happening_text (Display tid text) = codes "display " ++ decimal tid ++ codes " " ++ body_text text
happening_text Refused = codes "refused"
happening_text (Storing number message) =
    codes "storing " ++ decimal number ++ codes " " ++ name_text (spooled_name message)
happening_text (Stored number) = codes "stored " ++ decimal number
happening_text (Leaving number cause room_for) = codes "leaving " ++ decimal number ++ codes " " ++ cause_text cause
happening_text (Gone number) = codes "gone " ++ decimal number
happening_text (Try number system) = codes "try " ++ decimal number ++ codes " " ++ system_text system
happening_text (Keeping primary) = codes "keeping " ++ name_text (message_name primary)
happening_text (Kept primary) = codes "kept " ++ name_text (message_name primary)
happening_text (Listing number listed) =
    codes "listing " ++ decimal number ++ codes " " ++ name_text (record_name listed)
happening_text (Listed number listed) = codes "listed " ++ decimal number
happening_text (Duplicate header) = codes "duplicate " ++ header_text header
happening_text (Unexpected header) = codes "unexpected " ++ header_text header
happening_text (Foreign header) = codes "foreign " ++ header_text header
happening_text (TooLongBlock header) = codes "toolong " ++ header_text header
happening_text (Crowded header) = codes "crowded " ++ header_text header
happening_text (DroppedByT4 header) = codes "t4 " ++ header_text header
happening_text (Failed title) = codes "failed " ++ title_text title
happening_text (TimedOut title) = codes "t3 " ++ title_text title
happening_text (Stranger title) = codes "stranger " ++ title_text title
happening_text (Dropped name) = codes "dropped " ++ name_text name
happening_text (Denied name) = codes "denied " ++ name_text name
happening_text (Discarded name) = codes "discarded " ++ name_text name
happening_text (TooLong name) = codes "toolong " ++ name_text name
happening_text (Full name) = codes "full " ++ name_text name
happening_text (Recorded past) = []
happening_text StepEnded = []

-- a note that stands before no change of a file
abbrev pub plain : List ℕ → Note
plain text = record { text = text; before_change = false }

-- what is noted as a note of its end, without moment and end
abbrev pub note_of : Happening → Note
note_of what = record { text = happening_text what; before_change = is_before_change what }

-- that of a start whose spool holds so many messages, and that of a message that is put into the spool
abbrev pub IsStartNote : ℕ → ℕ → Note → Type 0
IsStartNote len base note =
    (found : List (ℕ × Spooled)) → length found ≡ len → note ≡ note_of (EquipmentStarted found base)

abbrev pub IsStoringNote : ℕ → ℕ → ℕ → Note → Type 0
IsStoringNote number stream function note =
    (body : List ℕ) → note ≡ note_of (Storing number (record { stream = stream; function = function; body = body }))

-- that of a message that leaves the spool, whatever is to be put in its place
abbrev pub IsLeavingNote : ℕ → Cause → Note → Type 0
IsLeavingNote number cause note = (room_for : Option Spooled) → note ≡ note_of (Leaving number cause room_for)

-- the note that is printed; what is recorded alone, a setup in which nothing is kept, and the end of a step have none
abbrev pub printed_note : Happening → Option Note
printed_note (Setup None) = None
printed_note (Setup (Some [])) = None
printed_note (Recorded past) = None
printed_note StepEnded = None
printed_note what = Some (note_of what)

-- the line of a note
abbrev pub note_line : ℕ → Side → Note → List ℕ
note_line moment side note = head_text moment side ++ note.text ++ codes "\n"

-- a frame's number, and `-` for a character of no frame
abbrev pub frame_text : Option ℕ → List ℕ
frame_text None = codes "-"
frame_text (Some frame) = decimal frame

abbrev pub entry_text : Entry → List ℕ
entry_text (Noted moment side what) = option_map_or (note_line moment side) (printed_note what) []
entry_text (Slipped moment side frame characters) =
    head_text moment side ++ codes "slip " ++ frame_text frame ++ codes " " ++ encode_upper characters ++ codes "\n"
entry_text (Ended moment) = decimal moment ++ codes " end\n"

-- the lines of a log, whose newest entry comes first in it and last in the text
abbrev pub text_of : List Entry → List ℕ
text_of [] = []
text_of (entry ∷ before) = text_of before ++ entry_text entry
