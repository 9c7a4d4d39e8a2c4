-- What a step of the equipment puts into its spool, and where the spool has no number for that (SEMI E30, spooling).
use Rattle.std.specs.Prelude.{ℕ, Bool, true, false, not, ◌&&◌, ◌||◌, List, [], ◌∷◌, ◌++◌, length, replicate, Option, Some, None, if◌then◌else◌}
use Rattle.std.specs.List.{filter_map}
use Rattle.std.specs.Option.{option_map, option_map_or}
use Rattle.block_codec.specs.declared.header.Header.{Header}
use Rattle.gem_alarms.specs.Alarms.{step_of}
use Rattle.gem_alarms.specs.declared.alarms.AlarmStep.{AlarmStep}
use Rattle.gem_alarms.specs.declared.alarms.AlarmStep.TheVariants.{Changed}
use Rattle.gem_reports.specs.Reporting.{is_enabled_in as is_enabled_event, is_planned}
use Rattle.gem_spool.specs.declared.spool.Room.{Room}
use Rattle.gem_spool.specs.declared.spool.Room.TheVariants as room
use Rattle.gem_states.specs.Comms.{CommsOutcome}
use Rattle.gem_states.specs.declared.comms.CommsIn.{CommsIn}
use Rattle.gem_states.specs.declared.comms.CommsIn.TheVariants.{Denied, Disable, SendFailed}
use Rattle.message_flow.specs.declared.flow.Flow.{Flow}
use Rattle.message_flow.specs.declared.flow.Flow.TheVariants as flow
use Rattle.message_flow.specs.declared.message.Message.{Message}
use Rattle.message_flow.specs.Message.{is_primary}
use Rattle.trace_log.specs.declared.commands.ToolCommand.{ToolCommand}
use Rattle.trace_log.specs.declared.commands.ToolCommand.TheVariants as tool
use Rattle.trace_log.specs.Log.{Happening}
use Rattle.trace_log.specs.Names.{Spooled}
use Rattle.transact.specs.declared.transactions.Match.{Match}
use Rattle.transact.specs.declared.transactions.Match.TheVariants.{Reply, Abort}
use Rattle.transact.specs.Transactions.{match_of, primary_of}
use Rattle.message_end.specs.declared.end.Took.{Took}
use Rattle.message_end.specs.declared.end.Took.TheVariants as took
use Rattle.message_end.specs.Calls.{answered_by, dropped_now, due_now, failed_at, took_at}
use Rattle.message_end.specs.Core.{EndView, Step, Went}
use Rattle.message_end.specs.Core.Command.{Answer, DropDue, Expire, GiveUp, Take, Tick}
use Rattle.message_end.specs.Core.Went.{Goes, Spent}
use Rattle.message_end.specs.Ends.{Input}
use Rattle.message_end.specs.Parts.{Node, after_turn, core_after}
use Rattle.equipment_tables.specs.declared.answers.Answer.{Answer as Text}
use Rattle.equipment_tables.specs.declared.answers.Answer.TheVariants as answer
use Rattle.equipment_tables.specs.Answers.{alarm_item_of, event_item}
use Rattle.equipment_tables.specs.Tables.{alarm_after, overwrites}
use Rattle.spool_ledger.specs.Ledger.{Booked, LedgerView, room_for}
use Rattle.spool_ledger.specs.Storing.{stored}
use Rattle.tool_step.specs.declared.kind.Kind.{Kind}
use Rattle.tool_step.specs.declared.kind.Kind.TheVariants as kind
use Rattle.tool_step.specs.Codes.{is_accepted_in}
use Rattle.tool_step.specs.Own.{OwnView, ToolPart, event_report, is_enabled_in, is_online, with_comms, with_ledger, with_tables}
use Rattle.tool_step.specs.Sent.{alarm_report, terminal_item, terminal_report, text_of}
use Rattle.tool_step.specs.Spooling.{is_spooled}
use Rattle.tool_step.specs.Tool.{with_event}
use Rattle.tool_step.specs.States.{activity_of, begins_spooling, comms_outcome, is_same_comms, stored_of}

-- messages that are put one after the other, the ledger as it is by then, and whether a full spool is overwritten
pub record Putting : Type 0 where
  pub messages : List Spooled
  pub ledger : LedgerView
  pub overwriting : Bool

abbrev pub puts : List Spooled → LedgerView → OwnView → Putting
puts messages ledger own =
    record { messages = messages; ledger = ledger; overwriting = overwrites own.tables }

abbrev pub puts_none : OwnView → Putting
puts_none own = puts [] own.ledger own

-- ---- a number for each of them

-- `room` answers that the numbers of the spool are at their end
abbrev pub is_at_end : Room → Bool
is_at_end room.NumbersSpent = true
is_at_end _ = false

-- it answers so for one of the messages, when those before it are put
abbrev pub runs_out : Bool → List Spooled → LedgerView → Bool
runs_out overwriting [] v = false
runs_out overwriting (message ∷ messages) v =
    is_at_end (room_for v (length message.body))
    || option_map_or (λ booked. runs_out overwriting messages booked.next) (stored overwriting message v) false

abbrev pub lacks_number : Putting → Bool
lacks_number putting = runs_out putting.overwriting putting.messages putting.ledger

-- ---- a report that was made

-- while the spool is active, where the rule covers it
abbrev pub made_puts : Spooled → OwnView → Putting
made_puts message own = if is_spooled message own then puts (message ∷ []) own.ledger own else puts_none own

abbrev pub text_puts : (List ℕ → Spooled) → Text → OwnView → Putting
text_puts report (answer.Body body) own = made_puts (report body) own
text_puts report _ own = puts_none own

abbrev pub report_puts : (List ℕ → Spooled) → Text → OwnView → Putting
report_puts report text own = if is_online own then text_puts report text own else puts_none own

abbrev pub enabled_puts : ℕ → ℕ → OwnView → Putting
enabled_puts ceid dataid own = report_puts event_report (text_of own (event_item own.tables ceid dataid)) own

abbrev pub event_puts : ℕ → OwnView → Putting
event_puts ceid own =
    if is_planned own.tables.reports ceid && is_enabled_event own.tables.reports ceid
    then enabled_puts ceid own.events (with_event own) else puts_none own

abbrev pub alarm_puts : Bool → ℕ → OwnView → Putting
alarm_puts true alid own = report_puts alarm_report (text_of own (alarm_item_of own.tables alid)) own
alarm_puts false alid own = puts_none own

abbrev pub changed_puts : AlarmStep → ℕ → Bool → OwnView → Putting
changed_puts (Changed enabled) alid is_set own =
    alarm_puts enabled alid (with_tables (alarm_after alid is_set own.tables) own)
changed_puts _ alid is_set own = puts_none own

-- ---- the communication is left

-- of the reports of the open transactions those that the rule covers, in the order in which these began
abbrev pub parted_puts : Bool → Booked → OwnView → EndView Kind → Putting
parted_puts spools activity own e =
    puts (filter_map (stored_of spools (with_ledger activity.next own)) e.transactions.begun) activity.next own

abbrev pub left_puts : CommsOutcome → OwnView → EndView Kind → Putting
left_puts outcome own e =
    if is_same_comms own.comms.state outcome.next.state then puts_none own
    else parted_puts (begins_spooling own.comms.state outcome.next.state) (activity_of outcome own)
    (with_comms outcome.next own) e

abbrev pub leaving_puts : CommsIn → ℕ → OwnView → EndView Kind → Putting
leaving_puts input now own e = left_puts (comms_outcome input now own) own e

abbrev pub failed_puts : ℕ → Option Header → OwnView → EndView Kind → Putting
failed_puts now None own e = puts_none own
failed_puts now (Some header) own e = leaving_puts SendFailed now own e

-- ---- a transaction ends

abbrev pub loss_puts : ℕ → Kind → OwnView → EndView Kind → Putting
loss_puts now kind.Establish own e = leaving_puts Denied now own e
loss_puts now _ own e = puts_none own

abbrev pub timeout_puts : ℕ → Option (Header × Kind) → OwnView → EndView Kind → Putting
timeout_puts now None own e = puts_none own
timeout_puts now (Some primary) own e = loss_puts now primary.1 own e

abbrev pub given_up_puts : ℕ → Header → OwnView → EndView Kind → Putting
given_up_puts now header own e =
    timeout_puts now (option_map primary_of (answered_by e header)) own (core_after (GiveUp header) e)

abbrev pub dropped_puts : ℕ → Option Header → OwnView → EndView Kind → Putting
dropped_puts now None own e = puts_none own
dropped_puts now (Some header) own e = given_up_puts now header own e

abbrev pub reply_puts : ℕ → Kind → List ℕ → OwnView → EndView Kind → Putting
reply_puts now kind.Establish body own e =
    if is_accepted_in body then puts_none own else loss_puts now kind.Establish own e
reply_puts now _ body own e = puts_none own

abbrev pub matched_puts : ℕ → Match Kind → Message → OwnView → EndView Kind → Putting
matched_puts now (Reply kind) message own e = reply_puts now kind message.body own e
matched_puts now (Abort kind) message own e = loss_puts now kind own e
matched_puts now _ message own e = puts_none own

-- ---- what comes in

abbrev pub message_puts : ℕ → Header → Message → OwnView → EndView Kind → Putting
message_puts now header message own e =
    if is_enabled_in own.comms.state && not (is_primary message)
    then matched_puts now (match_of header (answered_by e header)) message own (core_after (Answer header) e)
    else puts_none own

abbrev pub flow_puts : ℕ → Header → Flow → OwnView → EndView Kind → Putting
flow_puts now header (flow.Whole message check) own e = message_puts now header message own e
flow_puts now header flow.Unexpected own e = given_up_puts now header own e
flow_puts now header flow.TooLong own e = given_up_puts now header own e
flow_puts now header flow.Crowded own e = given_up_puts now header own e
flow_puts now header _ own e = puts_none own

abbrev pub took_puts : ℕ → Took → OwnView → EndView Kind → Putting
took_puts now took.Nothing own e = puts_none own
took_puts now (took.Failed header) own e = failed_puts now (Some header) own e
took_puts now (took.Came header flow) own e = flow_puts now header flow own e

abbrev pub command_puts : ToolCommand → ℕ → OwnView → EndView Kind → Putting
command_puts (tool.Event ceid) now own e = event_puts ceid own
command_puts (tool.Alarm alid is_set) now own e = changed_puts (step_of own.tables.alarms alid is_set) alid is_set own
command_puts tool.Disable now own e = leaving_puts Disable now own e
command_puts (tool.Terminal tid text) now own e =
    report_puts terminal_report (text_of own (terminal_item tid text)) own
command_puts _ now own e = puts_none own

-- ---- the parts of a step

-- what a part puts, by what the equipment is when the part begins
abbrev pub PartPuts : Type 0
PartPuts = OwnView → EndView Kind → Putting

abbrev pub none_put : PartPuts
none_put own e = puts_none own

abbrev pub line_timer_puts : ℕ → PartPuts
line_timer_puts now own e = failed_puts now (failed_at e now) own (core_after (Tick now) e)

abbrev pub block_timer_puts : ℕ → PartPuts
block_timer_puts now own e = dropped_puts now (dropped_now e now) own (core_after (DropDue now) e)

abbrev pub reply_timer_puts : ℕ → PartPuts
reply_timer_puts now own e = timeout_puts now (due_now e now) own (core_after (Expire now) e)

abbrev pub character_puts : ℕ → ℕ → PartPuts
character_puts byte now own e = took_puts now (took_at e byte now) own (core_after (Take byte now) e)

abbrev pub input_puts : Input ToolCommand → ℕ → PartPuts
input_puts (Input.Char byte) now = character_puts byte now
input_puts Input.Time now = none_put
input_puts (Input.Command command) now = command_puts command now

unfoldable pub late_puts : ℕ → List PartPuts
late_puts now = replicate 16 (block_timer_puts now) ++ replicate 64 (reply_timer_puts now)

-- neither a sample nor an S6F1 that it brings puts anything
unfoldable pub sample_puts : List PartPuts
sample_puts = none_put ∷ replicate 16 none_put

-- of all that comes before the works of the disk; behind them nothing is put
abbrev pub timer_puts : ℕ → List PartPuts
timer_puts now = none_put ∷ line_timer_puts now ∷ (late_puts now ++ none_put ∷ sample_puts)

abbrev pub first_puts : Input ToolCommand → ℕ → List PartPuts
first_puts input now = timer_puts now ++ input_puts input now ∷ []

-- ---- one after the other

-- where it goes on
abbrev pub where_goes : {S N : Type 0} → (Step S N → Bool) → Went S N → Bool
where_goes test (Goes step) = test step
where_goes test (Spent step) = false

-- one of the parts puts a message for which there is no number
abbrev pub one_lacks : List PartPuts → List ToolPart → Step (Node OwnView Kind) Happening → Bool
one_lacks [] parts step = false
one_lacks (putting ∷ more) [] step = false
one_lacks (putting ∷ more) (part ∷ parts) step =
    lacks_number (putting step.next.own step.next.core)
    || where_goes (one_lacks more parts) (after_turn Some (part step.next.own step.next.core) step)
