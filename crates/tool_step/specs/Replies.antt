-- What comes of the transactions that the equipment has begun: their replies, and those that end without one.
use Rattle.std.specs.Prelude.{ℕ, List, [], ◌∷◌, Option, Some, None, if◌then◌else◌}
use Rattle.std.specs.Option.{option_map}
use Rattle.block_codec.specs.declared.header.Header.{Header}
use Rattle.gem_states.specs.declared.comms.CommsIn.TheVariants.{Accepted, Denied}
use Rattle.gem_states.specs.declared.control.ControlIn.TheVariants.{AttemptDone, AttemptFailed}
use Rattle.message_flow.specs.declared.message.Message.{Message}
use Rattle.trace_log.specs.Log.{Happening}
use Rattle.trace_log.specs.Names.{Spooled}
use Rattle.transact.specs.declared.transactions.Match.{Match}
use Rattle.transact.specs.declared.transactions.Match.TheVariants.{Reply, Abort, Stranger}
use Rattle.transact.specs.Transactions.{match_of, primary_of}
use Rattle.message_end.specs.Calls.{answered_by, dropped_now, due_now}
use Rattle.message_end.specs.Core.{EndView}
use Rattle.message_end.specs.Core.Command.{Answer, DropDue, Expire, GiveUp, Note}
use Rattle.message_end.specs.Parts.{fixed_turn, leads}
use Rattle.tool_step.specs.declared.kind.Kind.{Kind}
use Rattle.tool_step.specs.declared.kind.Kind.TheVariants as kind
use Rattle.tool_step.specs.Codes.{is_accepted_in, is_granted_in}
use Rattle.tool_step.specs.Own.{OwnView, ToolPart, ToolTurn, quiet_turn, turn_before, waiting_report, waiting_data, without_grant, without_report, without_waiting_data}
use Rattle.tool_step.specs.Sampling.{granted_trace_turn, denied_data_turn}
use Rattle.tool_step.specs.Sent.{error_duty, going_turn}
use Rattle.tool_step.specs.Spooling.{confirmed_turn, grant_given_turn, unloaded_own}
use Rattle.tool_step.specs.States.{comms_turn, control_turn, event_name, end_of_talk}

-- ---- no reply, or one that denies

-- without a grant an S6F11 isn't sent (SEMI E5, GRANT6)
abbrev pub denied_turn : OwnView → ToolTurn
denied_turn own = fixed_turn own (Note (Happening.Denied event_name) ∷ [])

-- what is lost with the transaction of this kind, whose primary has these system bytes. A message of the spool stays
-- there, and the unload ends (SEMI E30, establishing communications; SEMI E30, ATTEMPT ON-LINE; SEMI E30, spooling)
abbrev pub loss_turn : ℕ → Kind → ℕ → OwnView → EndView Kind → ToolTurn
loss_turn now kind.Establish system own e = end_of_talk Denied None now own e
loss_turn now kind.Attempt system own e = control_turn AttemptFailed own
loss_turn now kind.Grant system own e = denied_turn (without_grant system own)
loss_turn now kind.Report system own e = quiet_turn (without_report system own)
loss_turn now kind.Unload system own e = quiet_turn (unloaded_own own)
loss_turn now kind.UnloadGrant system own e = denied_turn (unloaded_own own)
loss_turn now kind.Trace system own e = quiet_turn own
loss_turn now kind.TraceGrant system own e = denied_data_turn (without_waiting_data system own)

-- no reply comes: the host is told so by S9F9 with the header of the primary's last block (SEMI E5, S9F9)
abbrev pub told_turn : Header → ToolTurn → ToolTurn
told_turn header turn = turn_before (error_duty 9 header turn.own ∷ []) turn

abbrev pub timeout_turn : ℕ → Option (Header × Kind) → OwnView → EndView Kind → ToolTurn
timeout_turn now None own e = quiet_turn own
timeout_turn now (Some primary) own e = told_turn primary.0 (loss_turn now primary.1 primary.0.system own e)

-- T3 (SEMI E4, T3)
abbrev pub reply_timer : ℕ → ToolPart
reply_timer now own e = leads (Expire now) (timeout_turn now (due_now e now) own) e

-- the block with this header is of a reply that is no good: its transaction ends as by T3 (this profile)
abbrev pub given_up_turn : ℕ → Header → OwnView → EndView Kind → ToolTurn
given_up_turn now header own e =
    leads (GiveUp header) (timeout_turn now (option_map primary_of (answered_by e header)) own) e

-- T4 (SEMI E4, T4)
abbrev pub given_up_by_t4 : ℕ → Option Header → OwnView → EndView Kind → ToolTurn
given_up_by_t4 now None own e = quiet_turn own
given_up_by_t4 now (Some header) own e = given_up_turn now header own e

abbrev pub block_timer : ℕ → ToolPart
block_timer now own e = leads (DropDue now) (given_up_by_t4 now (dropped_now e now) own) e

-- ---- a reply

-- with a grant the S6F11 goes; its system bytes are drawn now (SEMI E5, GRANT6)
abbrev pub granted_turn : Option Spooled → OwnView → EndView Kind → ToolTurn
granted_turn None own e = quiet_turn own
granted_turn (Some message) own e = going_turn message own e

-- what a reply with this text brings (SEMI E30, establishing communications; SEMI E30, ATTEMPT ON-LINE; SEMI E30,
-- spooling)
abbrev pub reply_turn : ℕ → Kind → ℕ → List ℕ → OwnView → EndView Kind → ToolTurn
reply_turn now kind.Establish system body own e =
    if is_accepted_in body then comms_turn Accepted now own else loss_turn now kind.Establish system own e
reply_turn now kind.Attempt system body own e = control_turn AttemptDone own
reply_turn now kind.Grant system body own e =
    if is_granted_in body then granted_turn (waiting_report system own) (without_grant system own) e
    else loss_turn now kind.Grant system own e
reply_turn now kind.Report system body own e = quiet_turn (without_report system own)
reply_turn now kind.Unload system body own e = confirmed_turn own
reply_turn now kind.UnloadGrant system body own e =
    if is_granted_in body then grant_given_turn own e else loss_turn now kind.UnloadGrant system own e
reply_turn now kind.Trace system body own e = quiet_turn own
reply_turn now kind.TraceGrant system body own e =
    if is_granted_in body then granted_trace_turn (waiting_data system own) (without_waiting_data system own)
    else loss_turn now kind.TraceGrant system own e

abbrev pub matched_turn : ℕ → Match Kind → Message → OwnView → EndView Kind → ToolTurn
matched_turn now (Reply kind) message own e = reply_turn now kind message.system message.body own e
matched_turn now (Abort kind) message own e = loss_turn now kind message.system own e
matched_turn now Stranger message own e = quiet_turn own

-- a secondary, the last block of which has this header (SEMI E5, transaction)
abbrev pub secondary_turn : ℕ → Header → Message → OwnView → EndView Kind → ToolTurn
secondary_turn now header message own e =
    leads (Answer header) (matched_turn now (match_of header (answered_by e header)) message own) e
