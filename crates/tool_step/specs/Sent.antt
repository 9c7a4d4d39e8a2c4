-- What the equipment sends by itself.
use Rattle.std.specs.Prelude.{ℕ, Bool, true, false, not, nat_le, List, [], ◌∷◌, ◌++◌, length, Option, Some, None, if◌then◌else◌}
use Rattle.std.specs.List.{count_by}
use Rattle.block_codec.specs.declared.header.Header.{Header}
use Rattle.block_codec.specs.Header.{header_bytes}
use Rattle.gem_shapes.specs.Answers.{pair_item}
use Rattle.message_flow.specs.declared.message.Message.{Message}
use Rattle.secs_items.specs.declared.item.Item.{Item}
use Rattle.secs_items.specs.declared.item.Item.TheVariants as item
use Rattle.secs_items.specs.Items.{number_item}
use Rattle.trace_log.specs.declared.names.Name.{Name}
use Rattle.trace_log.specs.Log.{Happening}
use Rattle.trace_log.specs.Names.{Spooled}
use Rattle.transact.specs.Numbers.{next_number}
use Rattle.message_end.specs.declared.unsent.Unsent.{Unsent}
use Rattle.message_end.specs.Core.{EndView, is_crowded_out, reply_function}
use Rattle.message_end.specs.Core.Command.{Abort, Note, Primary, Reply}
use Rattle.message_end.specs.Parts.{fixed_turn}
use Rattle.tool_step.specs.declared.kind.Kind.{Kind}
use Rattle.tool_step.specs.declared.kind.Kind.TheVariants as kind
use Rattle.equipment_tables.specs.declared.answers.Answer.{Answer}
use Rattle.equipment_tables.specs.declared.answers.Answer.TheVariants as answer
use Rattle.equipment_tables.specs.Answers.{identity_of, spelled_body}
use Rattle.tool_step.specs.Own.{OwnView, ToolCommands, ToolDuty, ToolTurn, event_report, is_communicating, quiet_turn, with_for_grant, with_report}

abbrev pub primary_of : ℕ → ℕ → Kind → List ℕ → Unsent Kind
primary_of stream function kind body = record {
  stream = stream;
  function = function;
  kind = Some kind;
  body = body;
}

-- S1F1 W, which asks to be on-line (SEMI E30, ATTEMPT ON-LINE)
abbrev pub online_request : Unsent Kind
online_request = primary_of 1 1 kind.Attempt []

-- S6F5 W, which asks for a grant to send so many bytes: DATAID and DATALENGTH (SEMI E5, S6F5)
abbrev pub grant_item : ℕ → ℕ → Item
grant_item dataid len = pair_item (number_item dataid) (number_item len)

abbrev pub grant_request : List ℕ → Unsent Kind
grant_request = primary_of 6 5 kind.Grant

-- S5F1, S6F11 and S10F1, all with W (SEMI E5)
abbrev pub alarm_report : List ℕ → Spooled
alarm_report body = record { stream = 5; function = 1; body = body }

abbrev pub terminal_report : List ℕ → Spooled
terminal_report body = record { stream = 10; function = 1; body = body }

-- TID and the text (SEMI E5, S10F1)
abbrev pub terminal_item : ℕ → List ℕ → Item
terminal_item tid text = pair_item (item.B (tid ∷ [])) (item.A text)

-- S1F13 W, the request to establish communications: MDLN and SOFTREV (SEMI E5, S1F13)
abbrev pub establish_request : List ℕ → Unsent Kind
establish_request = primary_of 1 13 kind.Establish

-- ---- texts

-- an item as a text of this equipment
abbrev pub text_of : OwnView → Item → Answer
text_of own text = spelled_body own.plan.line.max_body text

-- a primary with a text that is short by its form
abbrev pub primary_commands : (List ℕ → Unsent Kind) → Answer → ToolCommands
primary_commands unsent (answer.Body body) = Primary (unsent body) ∷ []
primary_commands unsent _ = []

abbrev pub establish_commands : OwnView → ToolCommands
establish_commands own = primary_commands establish_request (text_of own (identity_of own.tables))

-- ---- messages without W

-- how many messages without W wait; beside 64 of them no other one is queued (this profile)
abbrev pub without_wait : EndView Kind → ℕ
without_wait e = count_by (λ waiting. not waiting.message.wait) e.outgoing.waiting

abbrev pub has_room : EndView Kind → Bool
has_room e = not (nat_le 64 (without_wait e))

-- S9, an error about a block with this header: MHEAD or SHEAD (SEMI E5, stream 9)
abbrev pub error_item : Header → Item
error_item header = item.B (header_bytes header)

abbrev pub error_primary : ℕ → List ℕ → Unsent Kind
error_primary function body = record {
  stream = 9;
  function = function;
  kind = None;
  body = body;
}

abbrev pub error_name : ℕ → Name
error_name function = record { stream = 9; function = function; wait = false }

abbrev pub error_commands : ℕ → Answer → EndView Kind → ToolCommands
error_commands function text e =
    if has_room e then primary_commands (error_primary function) text
    else Note (Happening.Full (error_name function)) ∷ []

-- in COMMUNICATING alone (this profile)
abbrev pub error_duty : ℕ → Header → OwnView → ToolDuty
error_duty function header own e =
    if is_communicating own then error_commands function (text_of own (error_item header)) e else []

-- ---- replies

-- the name of the reply to a message, and of function 0 in its place
abbrev pub reply_name : Message → Name
reply_name message = record { stream = message.stream; function = reply_function message.function; wait = false }

abbrev pub abort_name : Message → Name
abort_name message = record { stream = message.stream; function = 0; wait = false }

-- a message with W is answered so, where there is room for the reply
abbrev pub reply_commands : Message → Name → ToolCommands → EndView Kind → ToolCommands
reply_commands message name commands e =
    if message.wait then if has_room e then commands else Note (Happening.Full name) ∷ [] else []

-- SxF0 (SEMI E5, function 0)
abbrev pub abort_duty : Message → ToolDuty
abort_duty message = reply_commands message (abort_name message) (Abort ∷ [])

abbrev pub body_duty : List ℕ → Message → ToolDuty
body_duty body message = reply_commands message (reply_name message) (Reply body ∷ [])

-- an answer over the longest text is noted, and SxF0 goes in its place (this profile)
abbrev pub long_duties : Message → List ToolDuty
long_duties message =
    (λ e. if message.wait then Note (Happening.TooLong (reply_name message)) ∷ [] else []) ∷ abort_duty message ∷ []

abbrev pub answer_duties : Answer → Message → List ToolDuty
answer_duties (answer.Body body) message = body_duty body message ∷ []
answer_duties answer.TooLong message = long_duties message

-- ---- reports

-- a report as a primary, with W (SEMI E5, S5F1, S6F11, S10F1)
abbrev pub live_report : Spooled → Unsent Kind
live_report message = primary_of message.stream message.function kind.Report message.body

-- a report is kept until its transaction ends, under the number that it gets; unless it isn't sent
abbrev pub kept_report : Option ℕ → Spooled → OwnView → OwnView
kept_report None message own = own
kept_report (Some system) message own = with_report system message own

abbrev pub live_own : Spooled → OwnView → EndView Kind → OwnView
live_own message own e = if is_crowded_out true e then own else kept_report (next_number e.numbers) message own

-- it goes
abbrev pub going_turn : Spooled → OwnView → EndView Kind → ToolTurn
going_turn message own e = fixed_turn (live_own message own e) (Primary (live_report message) ∷ [])

-- an S6F11 of several blocks waits for S6F6, under the number of its S6F5, unless that isn't sent: then it is dropped
-- with it (SEMI E5, S6F5; the latter is this profile's)
abbrev pub with_asked : Option ℕ → List ℕ → OwnView → OwnView
with_asked None body own = own
with_asked (Some system) body own =
    with_for_grant (own.for_grant ++ record { system = system; body = body } ∷ []) own

abbrev pub granted_own : List ℕ → OwnView → EndView Kind → OwnView
granted_own body own e = if is_crowded_out true e then own else with_asked (next_number e.numbers) body own

abbrev pub asking_turn : Answer → List ℕ → OwnView → EndView Kind → ToolTurn
asking_turn (answer.Body text) body own e = fixed_turn (granted_own body own e) (Primary (grant_request text) ∷ [])
asking_turn _ body own e = quiet_turn own

abbrev pub grant_turn : ℕ → List ℕ → OwnView → EndView Kind → ToolTurn
grant_turn dataid body own e = asking_turn (text_of own (grant_item dataid (length body))) body own e

-- an S6F11 goes, alone or behind S6F6 (SEMI E4, block; SEMI E5, S6F5)
abbrev pub event_turn : ℕ → List ℕ → OwnView → EndView Kind → ToolTurn
event_turn dataid body own e =
    if nat_le (length body) 244 then going_turn (event_report body) own e else grant_turn dataid body own e
