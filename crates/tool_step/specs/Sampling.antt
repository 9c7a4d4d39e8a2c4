-- The samples of a step, and what becomes of the S6F1 that they bring; and S2F23 (SEMI E30, trace data collection).
use Rattle.std.specs.Prelude.{ℕ, ◌∷◌, ◌++◌, [], true, List, length, nat_le, replicate, Option, Some, None, if◌then◌else◌}
use Rattle.gem_shapes.specs.Answers.{code_item}
use Rattle.gem_trace.specs.declared.request.TraceRequest.{TraceRequest}
use Rattle.gem_trace.specs.declared.request.Tiaack.{Tiaack}
use Rattle.gem_trace.specs.declared.request.Tiaack.TheVariants as tiaack
use Rattle.gem_trace.specs.Settings.{tiaack_of}
use Rattle.gem_trace.specs.Traces.{Running, after_samples, after_setting, bodies_due}
use Rattle.gem_vars.specs.Tables.{VarsTable}
use Rattle.message_flow.specs.declared.message.Message.{Message}
use Rattle.secs_items.specs.declared.item.Item.{Item}
use Rattle.trace_log.specs.declared.names.Name.{Name}
use Rattle.trace_log.specs.Log.{Happening}
use Rattle.transact.specs.Numbers.{next_number}
use Rattle.message_end.specs.declared.unsent.Unsent.{Unsent}
use Rattle.message_end.specs.Core.{EndView, is_crowded_out}
use Rattle.message_end.specs.Core.Command.{Note, Primary}
use Rattle.message_end.specs.Parts.{fixed_turn}
use Rattle.equipment_tables.specs.declared.answers.Answer.{Answer}
use Rattle.equipment_tables.specs.declared.answers.Answer.TheVariants as answer
use Rattle.tool_step.specs.declared.kind.Kind.{Kind}
use Rattle.tool_step.specs.declared.kind.Kind.TheVariants as kind
use Rattle.tool_step.specs.Own.{OwnView, ToolCommands, ToolPart, ToolTurn, TracingView, is_communicating, is_online, quiet_turn, turn_of, with_waiting_data, with_tracing}
use Rattle.tool_step.specs.Reports.{unreported_turn}
use Rattle.tool_step.specs.Sent.{answer_duties, grant_item, primary_of, text_of}
use Rattle.tool_step.specs.Spooling.{dataid_in}

-- ---- S2F23 and S2F24

-- TIAACK (SEMI E5, TIAACK; this profile)
abbrev pub tiaack_code : Tiaack → ℕ
tiaack_code tiaack.Done = 0
tiaack_code tiaack.TooMany = 1
tiaack_code tiaack.NoMore = 2
tiaack_code tiaack.BadPeriod = 3
tiaack_code (tiaack.Unknown svid) = 4
tiaack_code tiaack.BadGroup = 5

-- what runs then: one that is refused changes nothing (SEMI E5, S2F23)
abbrev pub running_by : Tiaack → TraceRequest → ℕ → List Running → List Running
running_by tiaack.Done request now running = after_setting request now running
running_by _ request now running = running

abbrev pub tiaack_in : TraceRequest → OwnView → Tiaack
tiaack_in request own = tiaack_of own.tables.vars own.tracing.running request

abbrev pub with_running : List Running → OwnView → OwnView
with_running running own = with_tracing (record own.tracing { running = running }) own

abbrev pub trace_turn : TraceRequest → ℕ → Message → OwnView → ToolTurn
trace_turn request now message own =
    turn_of (with_running (running_by (tiaack_in request own) request now own.tracing.running) own)
    (answer_duties (text_of own (code_item (tiaack_code (tiaack_in request own)))) message)

-- ---- samples

-- a sample of each trace that is due, and the S6F1 that are due with them (SEMI E30, trace data collection)
abbrev pub with_samples_taken : VarsTable → ℕ → TracingView → TracingView
with_samples_taken vars now tracing = record tracing {
  running = after_samples vars now tracing.running;
  made = bodies_due vars now tracing.running;
}

abbrev pub sampling : ℕ → ToolPart
sampling now own e = quiet_turn (with_tracing (with_samples_taken own.tables.vars now own.tracing) own)

-- ---- S6F1

abbrev pub trace_name : Name
trace_name = record { stream = 6; function = 1; wait = true }

-- S6F1 W; and the S6F5 that asks for a grant to send it (SEMI E5, S6F1, S6F5)
abbrev pub trace_data : List ℕ → Unsent Kind
trace_data = primary_of 6 1 kind.Trace

abbrev pub trace_inquiry : List ℕ → Unsent Kind
trace_inquiry = primary_of 6 5 kind.TraceGrant

-- it goes; nothing is kept of it
abbrev pub trace_sent_turn : List ℕ → OwnView → ToolTurn
trace_sent_turn body own = fixed_turn own (Primary (trace_data body) ∷ [])

-- one of several blocks waits for S6F6, under the number of its S6F5; where that isn't sent it is dropped with it
-- (SEMI E5, S6F5; the latter is this profile's)
abbrev pub with_data_inquiry : Option ℕ → List ℕ → OwnView → OwnView
with_data_inquiry None body own = own
with_data_inquiry (Some system) body own =
    with_waiting_data (own.tracing.for_grant ++ record { system = system; body = body } ∷ []) own

abbrev pub data_inquiry_own : List ℕ → OwnView → EndView Kind → OwnView
data_inquiry_own body own e = if is_crowded_out true e then own else with_data_inquiry (next_number e.numbers) body own

abbrev pub data_inquiry_turn : Answer → List ℕ → OwnView → EndView Kind → ToolTurn
data_inquiry_turn (answer.Body text) body own e =
    fixed_turn (data_inquiry_own body own e) (Primary (trace_inquiry text) ∷ [])
data_inquiry_turn _ body own e = quiet_turn own

-- DATAID is the TRID, the first value of its text (this profile)
abbrev pub trace_grant_turn : List ℕ → OwnView → EndView Kind → ToolTurn
trace_grant_turn body own e = data_inquiry_turn (text_of own (grant_item (dataid_in body) (length body))) body own e

-- alone or behind S6F6, as an S6F11 (SEMI E4, block; SEMI E5, S6F5)
abbrev pub trace_data_turn : List ℕ → OwnView → EndView Kind → ToolTurn
trace_data_turn body own e = if nat_le (length body) 244 then trace_sent_turn body own else trace_grant_turn body own e

-- an S6F1 that a sample brings goes the way of a report that no rule covers: it goes where the communication is
-- established, and is never put into the spool (SEMI E30, establishing communications; the latter is this profile's)
abbrev pub sampled_text_turn : Answer → OwnView → EndView Kind → ToolTurn
sampled_text_turn (answer.Body body) own e =
    if is_communicating own then trace_data_turn body own e else unreported_turn trace_name own
sampled_text_turn answer.TooLong own e = fixed_turn own (Note (Happening.TooLong trace_name) ∷ [])

-- off-line it is dropped, whatever its text; else one that is too long (SEMI E30, OFF-LINE; the order is this
-- profile's)
abbrev pub sampled_turn : Item → OwnView → EndView Kind → ToolTurn
sampled_turn item own e =
    if is_online own then sampled_text_turn (text_of own item) own e else unreported_turn trace_name own

abbrev pub with_made : List Item → OwnView → OwnView
with_made made own = with_tracing (record own.tracing { made = made }) own

-- the first of those that are due has its turn
abbrev pub first_turn : List Item → OwnView → EndView Kind → ToolTurn
first_turn [] own e = quiet_turn own
first_turn (item ∷ items) own e = sampled_turn item (with_made items own) e

abbrev pub made_part : ToolPart
made_part own e = first_turn own.tracing.made own e

-- the samples, and then each S6F1: as many as there can be
unfoldable pub sample_parts : ℕ → List ToolPart
sample_parts now = sampling now ∷ replicate 16 made_part

-- ---- what becomes of an S6F1 that waits for S6F6

-- without a grant it isn't sent (SEMI E5, GRANT6)
abbrev pub denied_data_turn : OwnView → ToolTurn
denied_data_turn own = fixed_turn own (Note (Happening.Denied trace_name) ∷ [])

-- with a grant it goes, whatever has become of its trace; its system bytes are drawn now (SEMI E5, GRANT6)
abbrev pub granted_trace_turn : Option (List ℕ) → OwnView → ToolTurn
granted_trace_turn None own = quiet_turn own
granted_trace_turn (Some body) own = trace_sent_turn body own

-- where the open messages end it is dropped, behind its S6F5
abbrev pub notes_data_unsent : ToolCommands
notes_data_unsent = Note (Happening.Dropped trace_name) ∷ []
