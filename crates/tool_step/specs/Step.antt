-- A step of the equipment, in its parts.
use Rattle.std.specs.Prelude.{ℕ, Bool, true, false, not, ◌-◌, ◌==◌, ◌||◌, List, [], ◌∷◌, ◌++◌, replicate, Option, Some, None, if◌then◌else◌}
use Rattle.block_codec.specs.declared.header.Header.{Header}
use Rattle.gem_states.specs.declared.comms.CommsIn.TheVariants.{Enable, SendFailed, Time}
use Rattle.gem_trace.specs.Traces.{deadline}
use Rattle.gl_base.specs.declared.side.Side.TheVariants.{Equipment}
use Rattle.message_flow.specs.declared.flow.Flow.{Flow}
use Rattle.message_flow.specs.declared.flow.Flow.TheVariants as flow
use Rattle.trace_log.specs.declared.commands.ToolCommand.{ToolCommand}
use Rattle.trace_log.specs.Names.{Spooled}
use Rattle.message_end.specs.declared.end.Took.{Took}
use Rattle.message_end.specs.declared.end.Took.TheVariants as took
use Rattle.message_end.specs.Calls.{deadline_of_end, failed_at, least, took_at}
use Rattle.message_end.specs.Core.{EndView}
use Rattle.message_end.specs.Core.Command.{Halt, Offer, Take, Tick}
use Rattle.message_end.specs.Ends.{Input}
use Rattle.message_end.specs.Parts.{Node, closes, fixed_turn, leads, led_turn}
use Rattle.message_end.specs.Plan.{EndPlan}
use Rattle.equipment_tables.specs.declared.plan.EquipmentPlan.{EquipmentPlan}
use Rattle.tool_step.specs.declared.kind.Kind.{Kind}
use Rattle.tool_step.specs.Messages.{message_turn}
use Rattle.tool_step.specs.declared.owed.Owed.{Owed}
use Rattle.tool_step.specs.declared.owed.Owed.TheVariants.{Answered, Keep, Recipes}
use Rattle.tool_step.specs.Own.{OwnView, ToolPart, ToolTurn, quiet_turn, turn_of, unowed}
use Rattle.tool_step.specs.Recipes.{recipes_text}
use Rattle.tool_step.specs.Replies.{block_timer, given_up_turn, reply_timer}
use Rattle.tool_step.specs.Sampling.{sample_parts}
use Rattle.tool_step.specs.Sent.{answer_duties, error_duty, text_of}
use Rattle.tool_step.specs.Setup.{accepted_item}
use Rattle.tool_step.specs.Spooling.{end_of_spooling, unload_part}
use Rattle.tool_step.specs.States.{comms_turn, end_of_talk}
use Rattle.tool_step.specs.Tool.{told_turn}

-- ---- the line

-- a block failed (SEMI E4, send failure; SEMI E30, communications state model)
abbrev pub failed_turn : ℕ → Option Header → OwnView → EndView Kind → ToolTurn
failed_turn now None own e = quiet_turn own
failed_turn now (Some header) own e = end_of_talk SendFailed (Some header) now own e

-- no system bytes are left (a step begins with 128 of them at least)
abbrev pub is_spent : EndView Kind → Bool
is_spent e = e.numbers.end - e.numbers.next == 0

-- the host is told by S9F11 before a reply is given up; where no system bytes are left for that nothing more is done
-- (SEMI E5, S9F11; the latter is this profile's)
abbrev pub long_turn : Bool → Header → OwnView → ToolTurn → ToolTurn
long_turn true header own turn = fixed_turn own (Halt ∷ [])
long_turn false header own turn = turn_of turn.own (error_duty 11 header own ∷ turn.duties)

-- a block came and was this: S9F1 answers a foreign one, S9F11 one that made its message too long; a reply that is no
-- good is given up (SEMI E5, S9F1, S9F11; the latter is this profile's)
abbrev pub flow_turn : ℕ → Header → Flow → OwnView → EndView Kind → ToolTurn
flow_turn now header flow.Part own e = quiet_turn own
flow_turn now header (flow.Whole message check) own e = message_turn now header message own e
flow_turn now header flow.Duplicate own e = quiet_turn own
flow_turn now header (flow.Foreign address) own e = turn_of own (error_duty 1 header own ∷ [])
flow_turn now header flow.Unexpected own e = given_up_turn now header own e
flow_turn now header flow.TooLong own e = long_turn (is_spent e) header own (given_up_turn now header own e)
flow_turn now header flow.Crowded own e = given_up_turn now header own e

abbrev pub took_turn : ℕ → Took → OwnView → EndView Kind → ToolTurn
took_turn now took.Nothing own e = quiet_turn own
took_turn now (took.Failed header) own e = failed_turn now (Some header) own e
took_turn now (took.Came header flow) own e = flow_turn now header flow own e

-- ---- the parts of a step

-- the plan enables the communication in the first step of a start (this profile)
abbrev pub begun : OwnView → OwnView
begun own = record own { has_begun = true }

abbrev pub beginning : ℕ → ToolPart
beginning now own e =
    if own.has_begun || not own.plan.enable then quiet_turn (begun own) else comms_turn Enable now (begun own)

-- the line's timer (SEMI E4, timers)
abbrev pub line_timer : ℕ → ToolPart
line_timer now own e = leads (Tick now) (failed_turn now (failed_at e now) own) e

-- WAIT DELAY ends (SEMI E30, WAIT DELAY)
abbrev pub delay_timer : ℕ → ToolPart
delay_timer now own e = comms_turn Time now own

abbrev pub character : ℕ → ℕ → ToolPart
character byte now own e = leads (Take byte now) (took_turn now (took_at e byte now) own) e

abbrev pub input_part : Input ToolCommand → ℕ → ToolPart
input_part (Input.Char byte) now = character byte now
input_part Input.Time now = λ own e. quiet_turn own
input_part (Input.Command command) now = told_turn command now

-- the line's turn
abbrev pub offer : ℕ → ToolPart
offer now own e = led_turn (Offer now) (fixed_turn own [])

-- all of T4, then all of T3: as many as there can be
unfoldable pub late_parts : ℕ → List ToolPart
late_parts now = replicate 16 (block_timer now) ++ replicate 64 (reply_timer now)

-- all that is due, in its order: timers, and then samples, which have the variables as they are before the input (SEMI
-- E30, trace data collection)
abbrev pub due_parts : ℕ → List ToolPart
due_parts now = line_timer now ∷ (late_parts now ++ delay_timer now ∷ sample_parts now)

-- all that is due, and behind it what the equipment is given. What the spool owes then is done by the disk
abbrev pub first_parts : Input ToolCommand → ℕ → List ToolPart
first_parts input now = beginning now ∷ line_timer now
    ∷ ((late_parts now ++ delay_timer now ∷ sample_parts now) ++ input_part input now ∷ [])

-- what was asked of an object outside is done by then, and the primary that asked for it is answered (this profile; what
-- is still asked of the recipes then was never put to them)
abbrev pub owed_turn : Option Owed → OwnView → ToolTurn
owed_turn None own = quiet_turn own
owed_turn (Some (Recipes asked primary)) own = quiet_turn own
owed_turn (Some (Answered given primary)) own = turn_of own (answer_duties (recipes_text own given) primary)
owed_turn (Some (Keep primary)) own = turn_of own (answer_duties (text_of own (accepted_item primary)) primary)

abbrev pub answering : ToolPart
answering own e = owed_turn own.owed (unowed own)

-- what waits for the works is answered, an unload goes on with the oldest message that the spool has by then, spooling
-- ends, it is the line's turn, and the step comes to its end
abbrev pub last_parts : Option Spooled → ℕ → List ToolPart
last_parts oldest now = answering ∷ unload_part oldest ∷ end_of_spooling ∷ offer now ∷ closes ∷ []

-- ---- the equipment as an end

abbrev pub end_plan : EquipmentPlan → EndPlan
end_plan plan = record { side = Equipment; line = plan.line }

-- when it acts next by itself: when the line, T4, T3, the delay or a trace does
abbrev pub deadline_of : Node OwnView Kind → Option ℕ
deadline_of s = least (least (deadline_of_end s.core) s.own.comms.deadline) (deadline s.own.tracing.running)
