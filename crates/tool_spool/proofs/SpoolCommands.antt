-- What the commands of the tool keep of the spool as it is noted.
use Rattle.std.proofs.Common.{◌≡◌, refl, ap, ◌∙◌, arith, Bool, true, false, ℕ, List, Option, Some, None}
use Rattle.gem_alarms.specs.Alarms.{step_of}
use Rattle.gem_alarms.specs.declared.alarms.AlarmStep.{AlarmStep}
use Rattle.gem_alarms.specs.declared.alarms.AlarmStep.TheVariants as alarm_step
use Rattle.gem_reports.specs.Reporting.{is_enabled_in, is_planned}
use Rattle.gem_states.specs.declared.comms.CommsIn.TheVariants as comms_in
use Rattle.gem_states.specs.declared.control.ControlIn.TheVariants as control_in
use Rattle.gem_vars.specs.Settings.{refusal_of}
use Rattle.gem_vars.specs.declared.settings.Setting.{Setting}
use Rattle.trace_log.specs.declared.commands.ToolCommand.{ToolCommand}
use Rattle.trace_log.specs.declared.commands.ToolCommand.TheVariants as tool
use Rattle.trace_log.specs.Log.{Happening, Past}
use Rattle.message_end.specs.Core.{EndView, noted}
use Rattle.spool_file.specs.Slot.{Message as Put}
use Rattle.equipment_tables.specs.declared.plan.EquipmentPlan.{EquipmentPlan}
use Rattle.equipment_tables.specs.Answers.{alarm_item_of, event_item}
use Rattle.equipment_tables.specs.Laws.{TablesAreLookedBackFor}
use Rattle.equipment_tables.specs.Plan.{EquipmentPlanFits}
use Rattle.equipment_tables.specs.Tables.{TablesState, after_command, alarm_after, set_after}
use Rattle.tool_step.specs.declared.kind.Kind.{Kind}
use Rattle.tool_step.specs.Own.{OwnView, event_report, with_tables}
use Rattle.tool_reports.specs.Reported.{past_in, tables_in}
use Rattle.tool_step.specs.Sent as sent
use Rattle.tool_step.specs.States as states
use Rattle.tool_step.specs.Tool.{alarm_report_turn, alarm_turn, command_turn, enabled_turn, known_event_turn, online_turn, refused_turn, set_turn, told_turn, with_event}
use Rattle.tool_law.proofs.TurnWalks.{note-of, online-of}
use Rattle.tool_spool.proofs.CalmParts.{comms-calm, common-calm, control-calm, event-calm, going-calm, like-as, likes, refused-calm, states-like}
use Rattle.tool_reports.proofs.QuietNotes.{one-behind}
use Rattle.tool_spool.proofs.ShelvedTurns.{like-it}
use Rattle.tool_law.proofs.CoreSteps.{CoreStep}
use Rattle.tool_spool.proofs.SpoolTurns.{HoldsAt, ShelvesAt, TurnEnds, calm-turn, judged-keeps, leaving-keeps, so_far}
use Rattle.tool_spool.proofs.TakenTurns.{full-so}

module _ (plan : EquipmentPlan) (slots : ℕ) (list : List Put) (base before : List Happening) where
  abbrev notes_at : CoreStep → List Happening
  notes_at step = so_far plan slots list base before step

  -- ---- commands of the tool

  -- behind the command as it is noted, with the tables as it leaves them
  pub command-keeps :
      (command : ToolCommand) (now : ℕ) (own : OwnView) (e : EndView Kind) (step : CoreStep)
      → ShelvesAt plan slots list base before own step
      → tables_in plan (notes_at step) ≡ after_command command own.tables
      → TurnEnds plan slots list base before (command_turn command now own e) step
  command-keeps (tool.Set vid value) now own e step holds at = go (refusal_of own.tables.vars vid value)
    where
      go : (refusal : Option Setting) → TurnEnds plan slots list base before (set_turn refusal vid value own) step
      go (Some refusal) =
          calm-turn plan slots list base before own (refused_turn own) step (refused-calm own) holds
      go None =
          calm-turn plan slots list base before own (set_turn None vid value own) step
          (note-of own (with_tables (set_after vid value own.tables) own) (Happening.Set vid)
          (like-as own (with_tables (set_after vid value own.tables) own) refl refl refl)
          ((λ told. tt), ((λ notes. refl), refl))) holds
  command-keeps (tool.Event ceid) now own e step holds at = go (is_planned own.tables.reports ceid)
    where
      next : CoreStep
      next = noted Some (Happening.Event ceid own.events) step

      behind : HoldsAt plan slots list base before (with_event own) next
      behind = record {
        shelves =
            like-it plan slots list base before own (with_event own) next.next (notes_at next)
            (like-as own (with_event own) refl refl refl)
            (full-so plan slots list base before own (Happening.Event ceid own.events) step refl refl holds);
        at = ap (tables_in plan) (one-behind step.notes (Happening.Event ceid own.events) before) ∙ at;
      }

      by : (enabled : Bool)
          → TurnEnds plan slots list base before (enabled_turn enabled ceid own.events (with_event own) e) next
      by true =
          judged-keeps plan slots list base before event_report
          (λ message. sent.event_turn own.events message.body (with_event own) e)
          (sent.text_of (with_event own) (event_item own.tables ceid own.events)) (with_event own) next
          (λ body. (refl, omega arith)) (λ body. event-calm own.events body (with_event own) e) behind
      by false = behind.shelves

      go : (known : Bool) → TurnEnds plan slots list base before (known_event_turn known ceid own e) step
      go true = by (is_enabled_in own.tables.reports ceid)
      go false = calm-turn plan slots list base before own (refused_turn own) step (refused-calm own) holds
  command-keeps (tool.Alarm alid is_set) now own e step holds at = go (step_of own.tables.alarms alid is_set)
    where
      next : CoreStep
      next = noted Some (Happening.Alarm alid is_set) step

      on : OwnView
      on = with_tables (alarm_after alid is_set own.tables) own

      behind : HoldsAt plan slots list base before on next
      behind = record {
        shelves =
            like-it plan slots list base before own on next.next (notes_at next) (like-as own on refl refl refl)
            (full-so plan slots list base before own (Happening.Alarm alid is_set) step refl refl holds);
        at = ap (tables_in plan) (one-behind step.notes (Happening.Alarm alid is_set) before) ∙ at;
      }

      by : (enabled : Bool) → TurnEnds plan slots list base before (alarm_report_turn enabled alid on e) next
      by true =
          judged-keeps plan slots list base before sent.alarm_report (λ message. sent.going_turn message on e)
          (sent.text_of on (alarm_item_of on.tables alid)) on next (λ body. (refl, omega arith))
          (λ body. going-calm (sent.alarm_report body) (refl, omega arith) on e) behind
      by false = behind.shelves

      go : (found : AlarmStep) → TurnEnds plan slots list base before (alarm_turn found alid is_set own e) step
      go alarm_step.Unknown = calm-turn plan slots list base before own (refused_turn own) step (refused-calm own) holds
      go alarm_step.Same =
          calm-turn plan slots list base before own (alarm_turn alarm_step.Same alid is_set own e) step
          (note-of own own (Happening.Alarm alid is_set) (likes own) ((λ told. tt), ((λ notes. refl), refl))) holds
      go (alarm_step.Changed enabled) = by enabled
  command-keeps tool.Enable now own e step holds at =
      calm-turn plan slots list base before own (states.comms_turn comms_in.Enable now own) step
      (comms-calm comms_in.Enable now own) holds
  command-keeps tool.Disable now own e step holds at =
      leaving-keeps plan slots list base before comms_in.Disable None now own e step
      (record { shelves = holds; at = at })
  command-keeps tool.Online now own e step holds at =
      calm-turn plan slots list base before own (online_turn own e) step
      (online-of common-calm states-like refl own e) holds
  command-keeps tool.Offline now own e step holds at =
      calm-turn plan slots list base before own (states.control_turn control_in.Offline own) step
      (control-calm control_in.Offline own) holds
  command-keeps tool.Local now own e step holds at =
      calm-turn plan slots list base before own (states.control_turn control_in.ToLocal own) step
      (control-calm control_in.ToLocal own) holds
  command-keeps tool.Remote now own e step holds at =
      calm-turn plan slots list base before own (states.control_turn control_in.ToRemote own) step
      (control-calm control_in.ToRemote own) holds
  command-keeps (tool.Terminal tid text) now own e step holds at =
      judged-keeps plan slots list base before sent.terminal_report (λ message. sent.going_turn message own e)
      (sent.text_of own (sent.terminal_item tid text)) own step (λ body. (refl, omega arith))
      (λ body. going-calm (sent.terminal_report body) (refl, omega arith) own e)
      (record { shelves = holds; at = at })

  pub told-keeps :
      (command : ToolCommand) (now : ℕ) (own : OwnView) (e : EndView Kind) (step : CoreStep)
      → EquipmentPlanFits plan → TablesAreLookedBackFor → HoldsAt plan slots list base before own step
      → TurnEnds plan slots list base before (told_turn command now own e) step
  told-keeps command now own e step fits looked holds =
      command-keeps command now own e (noted Some what step)
      (full-so plan slots list base before own what step refl refl holds.shelves)
      (ap (tables_in plan) (one-behind step.notes what before)
      ∙ looked.next plan (past_in (notes_at step)) (Past.Commanded command) fits
      ∙ ap (λ (t : TablesState). after_command command t) holds.at)
    where
      what : Happening
      what = Happening.Recorded (Past.Commanded command)
