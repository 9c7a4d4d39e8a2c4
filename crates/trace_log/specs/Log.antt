-- The log of a run: what both ends note, in its order.
use Rattle.std.specs.Prelude.{ℕ, Bool, true, false, List, Option}
use Rattle.block_codec.specs.Block.{BlockView}
use Rattle.block_codec.specs.declared.header.Header.{Header}
use Rattle.gl_base.specs.declared.side.Side.{Side}
use Rattle.message_flow.specs.declared.message.Message.{Message}
use Rattle.trace_log.specs.declared.commands.ToolCommand.{ToolCommand}
use Rattle.trace_log.specs.declared.names.Cause.{Cause}
use Rattle.trace_log.specs.declared.names.CommsName.{CommsName}
use Rattle.trace_log.specs.declared.names.ControlName.{ControlName}
use Rattle.trace_log.specs.declared.names.Name.{Name}
use Rattle.trace_log.specs.declared.names.Title.{Title}
use Rattle.trace_log.specs.Names.{KeptPrimary, Record, Spooled}

-- the message that a block carries alone (SEMI E4, block)
abbrev pub message_of : BlockView → Message
message_of block = record {
  stream = block.header.stream;
  function = block.header.function;
  wait = block.header.wait;
  system = block.header.system;
  body = block.body;
}

-- what counts when the equipment looks back on its start: a command of the tool that was carried out or refused, and a
-- request of the host that came as far as its own action, whatever it was answered (this profile)
pub data Past : Type 0 where
  Commanded : (command : ToolCommand) → Past
  Asked : (request : Message) → Past

-- what a host finds at a start in the file of its journal, each message with its number, and the first number that it
-- may draw; each one that it has listed there begins with its system bytes
pub record Journal : Type 0 where
  pub found : List (ℕ × Spooled)
  pub base : ℕ

-- what an end notes (this profile); each is one line of the trace, but `Recorded` and `StepEnded`, which print none,
-- and `Setup` where nothing was kept
pub data Happening : Type 0 where
  -- a start; of the equipment's, the messages that its spool holds, each with its number, and the first number that it
  -- may draw; of the host's, its journal, where it has one
  EquipmentStarted : (found : List (ℕ × Spooled)) (base : ℕ) → Happening
  HostStarted : (journal : Option Journal) → Happening
  -- what the equipment finds kept of its setup at a start, the oldest first; None where its file has no room for that
  Setup : (found : Option (List KeptPrimary)) → Happening
  -- power was lost; the peer has closed the connection
  Power : Happening
  Closed : Happening
  -- a message was given to the line's queue; a message was delivered; a step has written these characters
  Sent : (message : Message) → Happening
  Received : (message : Message) → Happening
  Wrote : (characters : List ℕ) → Happening
  -- a state has changed to this one
  Comms : (state : CommsName) → Happening
  Control : (state : ControlName) → Happening
  Spool : (active : Bool) → Happening
  -- a variable was set; an event happened, with its number within the start; an alarm was set or cleared; a remote
  -- command was accepted; a terminal displays a text; a command of the tool was refused, or, at a start, a primary that
  -- its setup keeps
  Set : (vid : ℕ) → Happening
  Event : (ceid dataid : ℕ) → Happening
  Alarm : (alid : ℕ) (set : Bool) → Happening
  Carried : (rcmd : List ℕ) → Happening
  Display : (tid : ℕ) (text : List ℕ) → Happening
  Refused : Happening
  -- before and after a message is put into the spool, and before and after one is removed, with the message that is to
  -- be put in its place where it is overwritten; a message of the spool was read and goes out next, with these system
  -- bytes
  Storing : (number : ℕ) (message : Spooled) → Happening
  Stored : (number : ℕ) → Happening
  Leaving : (number : ℕ) (cause : Cause) (room_for : Option Spooled) → Happening
  Gone : (number : ℕ) → Happening
  Try : (number system : ℕ) → Happening
  -- before and after a primary that was accepted is kept with the setup; before and after a message that was delivered
  -- is put into the journal
  Keeping : (primary : Message) → Happening
  Kept : (primary : Message) → Happening
  Listing : (number : ℕ) (listed : Record) → Happening
  Listed : (number : ℕ) (listed : Record) → Happening
  -- what a block that arrived was, where it is no part of a message; T4 has dropped the message of this last block
  Duplicate : (header : Header) → Happening
  Unexpected : (header : Header) → Happening
  Foreign : (header : Header) → Happening
  TooLongBlock : (header : Header) → Happening
  Crowded : (header : Header) → Happening
  DroppedByT4 : (header : Header) → Happening
  -- a message could not be sent, or ended with its communication; no reply came in time, or the one that had begun was
  -- given up; a reply to nothing that is open came
  Failed : (title : Title) → Happening
  TimedOut : (title : Title) → Happening
  Stranger : (title : Title) → Happening
  -- a message isn't sent, or isn't stored: for the state of its end, for want of the peer's grant, the spool being
  -- full, for its length, and for want of room among those that are open
  Dropped : (name : Name) → Happening
  Denied : (name : Name) → Happening
  Discarded : (name : Name) → Happening
  TooLong : (name : Name) → Happening
  Full : (name : Name) → Happening
  Recorded : (past : Past) → Happening
  -- the end has come to the end of a step
  StepEnded : Happening

-- a note that stands before a change of what the file of its end keeps: where the disk stops that change, nothing is
-- noted behind it
abbrev pub is_before_change : Happening → Bool
is_before_change (Storing number message) = true
is_before_change (Leaving number cause room_for) = true
is_before_change (Keeping primary) = true
is_before_change (Listing number listed) = true
is_before_change _ = false

-- an entry of a log, with its moment in milliseconds: what an end has noted; the characters of a block that are no
-- frame's, with the number of the frame of the first of them; the end of the run (this profile)
pub data Entry : Type 0 where
  Noted : (moment : ℕ) (side : Side) (what : Happening) → Entry
  Slipped : (moment : ℕ) (side : Side) (frame : Option ℕ) (characters : List ℕ) → Entry
  Ended : (moment : ℕ) → Entry
