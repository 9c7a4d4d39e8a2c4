-- How messages and states are named in a log (this profile).
use Rattle.std.specs.Prelude.{ℕ, true, List, codes, ◌++◌}
use Rattle.std.specs.Int.{w32, to_be_bytes}
use Rattle.hex.specs.Hex.{encode_upper}
use Rattle.block_codec.specs.declared.header.Header.{Header}
use Rattle.message_flow.specs.declared.message.Message.{Message}
use Rattle.short_text.specs.Name.{name_of}
use Rattle.trace_log.specs.declared.names.Cause.{Cause}
use Rattle.trace_log.specs.declared.names.Cause.TheVariants as cause
use Rattle.trace_log.specs.declared.names.CommsName.{CommsName}
use Rattle.trace_log.specs.declared.names.CommsName.TheVariants as comms
use Rattle.trace_log.specs.declared.names.ControlName.{ControlName}
use Rattle.trace_log.specs.declared.names.ControlName.TheVariants as control
use Rattle.trace_log.specs.declared.names.Name.{Name}
use Rattle.trace_log.specs.declared.names.Title.{Title}

-- a message as the spool stores it: a primary whose reply is awaited, which gets its system bytes only when it goes out
pub record Spooled : Type 0 where
  pub stream : ℕ
  pub function : ℕ
  pub body : List ℕ

-- a message as a journal lists it, with its system bytes; it is named as one whose reply is awaited, whatever it had
pub record Record : Type 0 where
  pub stream : ℕ
  pub function : ℕ
  pub system : ℕ
  pub body : List ℕ

-- a primary of the host as the setup keeps it; whether its reply was awaited isn't kept
pub record KeptPrimary : Type 0 where
  pub stream : ℕ
  pub function : ℕ
  pub body : List ℕ

-- the names of a message, of a spooled one, of a record, and of the message of a block
abbrev pub message_name : Message → Name
message_name message = record { stream = message.stream; function = message.function; wait = message.wait }

abbrev pub spooled_name : Spooled → Name
spooled_name message = record { stream = message.stream; function = message.function; wait = true }

abbrev pub record_name : Record → Name
record_name listed = record { stream = listed.stream; function = listed.function; wait = true }

abbrev pub header_name : Header → Name
header_name header = record { stream = header.stream; function = header.function; wait = header.wait }

-- name and system bytes of a message, and of the message of a block
abbrev pub title_of : Message → Title
title_of message = record { name = message_name message; system = message.system }

abbrev pub header_title : Header → Title
header_title header = record { name = header_name header; system = header.system }

-- SxFy, and W where a reply is awaited
abbrev pub name_text : Name → List ℕ
name_text name = name_of name.stream name.function name.wait

-- system bytes as eight hex digits
abbrev pub system_text : ℕ → List ℕ
system_text system = encode_upper (to_be_bytes w32 system)

abbrev pub title_text : Title → List ℕ
title_text title = name_text title.name ++ codes " " ++ system_text title.system

-- the states of communication, of the equipment and of the host (SEMI E30, communications state model)
abbrev pub comms_text : CommsName → List ℕ
comms_text comms.Disabled = codes "DISABLED"
comms_text comms.WaitCra = codes "WAIT-CRA"
comms_text comms.WaitDelay = codes "WAIT-DELAY"
comms_text comms.NotCommunicating = codes "NOT-COMMUNICATING"
comms_text comms.Communicating = codes "COMMUNICATING"

-- the states of control (SEMI E30, control state model)
abbrev pub control_text : ControlName → List ℕ
control_text control.EquipmentOffLine = codes "EQUIPMENT-OFF-LINE"
control_text control.AttemptOnLine = codes "ATTEMPT-ON-LINE"
control_text control.HostOffLine = codes "HOST-OFF-LINE"
control_text control.Local = codes "LOCAL"
control_text control.Remote = codes "REMOTE"

-- why a message leaves the spool (SEMI E30, spooling)
abbrev pub cause_text : Cause → List ℕ
cause_text cause.Confirmed = codes "confirmed"
cause_text cause.Purged = codes "purged"
cause_text cause.Overwritten = codes "overwritten"
