-- What is said of the tables, in one example that can be followed by hand: the host enables an alarm, and then the tool
-- disables the communication.
use Rattle.std.specs.Prelude.{◌≡◌, Bool, true, false, List, [], ◌∷◌, Some, None}
use Rattle.gem_alarms.specs.declared.alarm.Alarm.{Alarm}
use Rattle.gem_alarms.specs.declared.plan.AlarmPlan.{AlarmPlan}
use Rattle.gem_shapes.specs.declared.request.Request.TheVariants.{OfTables}
use Rattle.gem_shapes.specs.declared.request.TablesRequest.TheVariants as tables_request
use Rattle.message_flow.specs.declared.message.Message.{Message}
use Rattle.trace_log.specs.declared.commands.ToolCommand.TheVariants as tool
use Rattle.trace_log.specs.Log.{Happening, Past}
use Rattle.message_end.specs.Course.Course.{Reached}
use Rattle.equipment_tables.specs.declared.plan.EquipmentPlan.{EquipmentPlan}
use Rattle.equipment_tables.specs.Requests.{request_of}
use Rattle.equipment_tables.specs.Tables.{TablesState, planned_tables, with_alarms}
use Rattle.tool_step.specs.Equipment.{EquipmentView, with_node}
use Rattle.tool_step.specs.Own.{with_tables}
use Rattle.tool_reports.specs.LookedBack.{HasWhatWasSet}

-- a plan with this alarm alone
abbrev pub with_alarm : AlarmPlan → EquipmentPlan → EquipmentPlan
with_alarm planned plan = record plan { alarms = planned ∷ [] }

-- all alarms are to be enabled (SEMI E5, S5F3)
abbrev pub IsEnabling : Message → Type 0
IsEnabling message =
    request_of message.stream message.function message.body ≡ Some (OfTables (tables_request.EnableAlarms true None))

-- the newest comes first
abbrev pub disabled_behind_enabling : Message → List Happening
disabled_behind_enabling message =
    Happening.Recorded (Past.Commanded tool.Disable) ∷ Happening.Recorded (Past.Asked message)
    ∷ Happening.Received message ∷ Happening.EquipmentStarted [] 0 ∷ []

-- the equipment with these tables
abbrev pub tabled : TablesState → EquipmentView → EquipmentView
tabled tables s = with_node s (record s.node { own = with_tables tables s.node.own })

-- the alarm, cleared, and enabled or not
abbrev pub cleared : Bool → AlarmPlan → Alarm
cleared is_enabled planned = record {
  category = planned.category;
  text = planned.text;
  is_enabled = is_enabled;
  is_set = false;
}

-- the tables as planned, but for the alarm
abbrev pub tables_with : Bool → AlarmPlan → EquipmentPlan → TablesState
tables_with is_enabled planned plan =
    with_alarms ((planned.alid, cleared is_enabled planned) ∷ []) (planned_tables (with_alarm planned plan))

-- the alarm is enabled still; and where the equipment has forgotten that, what is said of it doesn't hold
pub record AlarmsStayEnabled : Type 0 where
  pub kept :
      (plan : EquipmentPlan) (planned : AlarmPlan) (message : Message) (s : EquipmentView) → IsEnabling message
      → HasWhatWasSet (with_alarm planned plan)
      (Reached (tabled (tables_with true planned plan) s) (disabled_behind_enabling message))
  pub forgotten :
      (plan : EquipmentPlan) (planned : AlarmPlan) (message : Message) (s : EquipmentView) → IsEnabling message
      → HasWhatWasSet (with_alarm planned plan)
      (Reached (tabled (tables_with false planned plan) s) (disabled_behind_enabling message))
      → ⊥
