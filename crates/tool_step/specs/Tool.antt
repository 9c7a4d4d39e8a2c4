-- The commands of the tool.
use Rattle.std.specs.Prelude.{ℕ, Bool, true, false, ◌+◌, ◌%◌, ◌^◌, List, [], ◌∷◌, Option, Some, None, if◌then◌else◌}
use Rattle.gem_alarms.specs.Alarms.{step_of}
use Rattle.gem_alarms.specs.declared.alarms.AlarmStep.{AlarmStep}
use Rattle.gem_alarms.specs.declared.alarms.AlarmStep.TheVariants.{Unknown, Same, Changed}
use Rattle.gem_states.specs.declared.comms.CommsIn.TheVariants.{Disable, Enable}
use Rattle.gem_states.specs.declared.control.ControlIn.TheVariants.{AttemptFailed, Offline, Online, ToLocal, ToRemote}
use Rattle.gem_states.specs.declared.control.ControlOut.{ControlOut}
use Rattle.gem_states.specs.declared.control.ControlOut.TheVariants.{SendAttempt}
use Rattle.gem_states.specs.Control.{control_next, control_step}
use Rattle.gem_reports.specs.Reporting.{is_enabled_in, is_planned}
use Rattle.gem_vars.specs.declared.settings.Setting.{Setting}
use Rattle.gem_vars.specs.Settings as settings
use Rattle.secs_items.specs.declared.item.Item.{Item}
use Rattle.trace_log.specs.declared.commands.ToolCommand.{ToolCommand}
use Rattle.trace_log.specs.declared.commands.ToolCommand.TheVariants as tool
use Rattle.trace_log.specs.Log.{Happening, Past}
use Rattle.message_end.specs.Core.{Command, EndView, is_crowded_out}
use Rattle.message_end.specs.Core.Command.{Note, Primary}
use Rattle.message_end.specs.Parts.{fixed_turn, led_turn}
use Rattle.tool_step.specs.declared.kind.Kind.{Kind}
use Rattle.equipment_tables.specs.Answers.{alarm_item_of, event_item}
use Rattle.tool_step.specs.Own.{OwnView, ToolTurn, event_report, is_communicating, quiet_turn, turn_behind, with_control, with_tables}
use Rattle.tool_step.specs.Reports.{judged_turn, report_turn}
use Rattle.tool_step.specs.Sent.{alarm_report, event_turn, online_request, terminal_item, terminal_report, text_of}
use Rattle.tool_step.specs.States.{comms_turn, control_commands, control_lines, control_turn, end_of_talk}
use Rattle.equipment_tables.specs.Tables.{alarm_after, set_after}

abbrev pub refused_turn : OwnView → ToolTurn
refused_turn own = fixed_turn own (Note Happening.Refused ∷ [])

-- ---- variables

abbrev pub set_turn : Option Setting → ℕ → Item → OwnView → ToolTurn
set_turn (Some refusal) vid value own = refused_turn own
set_turn None vid value own =
    fixed_turn (with_tables (set_after vid value own.tables) own) (Note (Happening.Set vid) ∷ [])

-- ---- events

-- an event more; a DATAID has four bytes (this profile)
abbrev pub with_event : OwnView → OwnView
with_event own = record own { events = (own.events + 1) % 2 ^ 32 }

-- the report of an event that is enabled, with what its variables hold now (SEMI E30, event data collection)
abbrev pub enabled_turn : Bool → ℕ → ℕ → OwnView → EndView Kind → ToolTurn
enabled_turn true ceid dataid own e =
    judged_turn event_report (λ message. event_turn dataid message.body own e)
    (text_of own (event_item own.tables ceid dataid)) own
enabled_turn false ceid dataid own e = quiet_turn own

abbrev pub happened_turn : ℕ → OwnView → EndView Kind → ToolTurn
happened_turn ceid own e =
    led_turn (Note (Happening.Event ceid own.events))
    (enabled_turn (is_enabled_in own.tables.reports ceid) ceid own.events (with_event own) e)

abbrev pub known_event_turn : Bool → ℕ → OwnView → EndView Kind → ToolTurn
known_event_turn true ceid own e = happened_turn ceid own e
known_event_turn false ceid own e = refused_turn own

-- ---- alarms

abbrev pub alarm_line : ℕ → Bool → Command Kind
alarm_line alid is_set = Note (Happening.Alarm alid is_set)

-- an alarm whose state changes is reported where it is enabled (SEMI E5, S5F1)
abbrev pub alarm_report_turn : Bool → ℕ → OwnView → EndView Kind → ToolTurn
alarm_report_turn true alid own e = report_turn alarm_report (text_of own (alarm_item_of own.tables alid)) own e
alarm_report_turn false alid own e = quiet_turn own

abbrev pub alarm_turn : AlarmStep → ℕ → Bool → OwnView → EndView Kind → ToolTurn
alarm_turn Unknown alid is_set own e = refused_turn own
alarm_turn Same alid is_set own e = fixed_turn own (alarm_line alid is_set ∷ [])
alarm_turn (Changed enabled) alid is_set own e =
    led_turn (alarm_line alid is_set)
    (alarm_report_turn enabled alid (with_tables (alarm_after alid is_set own.tables) own) e)

-- ---- terminals

-- the operator of a terminal has a text for the host (SEMI E5, S10F1)
abbrev pub terminal_turn : ℕ → List ℕ → OwnView → EndView Kind → ToolTurn
terminal_turn tid text own e = report_turn terminal_report (text_of own (terminal_item tid text)) own e

-- ---- control

-- an attempt to be on-line whose S1F1 has no room has failed (this profile)
abbrev pub attempt_turn : OwnView → EndView Kind → ToolTurn
attempt_turn own e =
    if is_crowded_out true e then
    fixed_turn (with_control (control_next own.control AttemptFailed) own)
    (Primary online_request ∷ control_commands AttemptFailed own.control)
    else fixed_turn own (Primary online_request ∷ [])

abbrev pub attempted_turn : ControlOut → OwnView → EndView Kind → ToolTurn
attempted_turn SendAttempt own e = attempt_turn own e
attempted_turn _ own e = quiet_turn own

-- (SEMI E30, ATTEMPT ON-LINE)
abbrev pub online_turn : OwnView → EndView Kind → ToolTurn
online_turn own e =
    let input = Online (is_communicating own) in
    let outcome = control_step own.control input in
    turn_behind (control_lines own.control.state outcome.next.state)
    (attempted_turn outcome.output (with_control outcome.next own) e)

-- ---- all of them

abbrev pub command_turn : ToolCommand → ℕ → OwnView → EndView Kind → ToolTurn
command_turn (tool.Set vid value) now own e = set_turn (settings.refusal_of own.tables.vars vid value) vid value own
command_turn (tool.Event ceid) now own e = known_event_turn (is_planned own.tables.reports ceid) ceid own e
command_turn (tool.Alarm alid is_set) now own e = alarm_turn (step_of own.tables.alarms alid is_set) alid is_set own e
command_turn tool.Enable now own e = comms_turn Enable now own
command_turn tool.Disable now own e = end_of_talk Disable None now own e
command_turn tool.Online now own e = online_turn own e
command_turn tool.Offline now own e = control_turn Offline own
command_turn tool.Local now own e = control_turn ToLocal own
command_turn tool.Remote now own e = control_turn ToRemote own
command_turn (tool.Terminal tid text) now own e = terminal_turn tid text own e

-- a command counts when the equipment looks back, carried out or refused (this profile)
abbrev pub told_turn : ToolCommand → ℕ → OwnView → EndView Kind → ToolTurn
told_turn command now own e =
    led_turn (Note (Happening.Recorded (Past.Commanded command))) (command_turn command now own e)
