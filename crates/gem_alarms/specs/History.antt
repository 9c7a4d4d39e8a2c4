-- What holds of the alarms after a history, looked back for. The newest entry stands first.
use Rattle.std.specs.Prelude.{◌≡◌, ℕ, Bool, false, List, nat_eq, Option, Some, None, if◌then◌else◌}
use Rattle.std.specs.Bool.{beq}
use Rattle.std.specs.List.{find}
use Rattle.gem_alarms.specs.declared.alarm.Alarm.{Alarm}
use Rattle.gem_alarms.specs.declared.alarms.AlarmStep.{AlarmStep}
use Rattle.gem_alarms.specs.declared.alarms.AlarmStep.TheVariants as step
use Rattle.gem_alarms.specs.declared.plan.AlarmPlan.{AlarmPlan}
use Rattle.gem_tables.specs.History.{newest}
use Rattle.gem_tables.specs.Rows.{rows_of}
use Rattle.gem_alarms.specs.Alarms.{AlarmTable}
use Rattle.gem_alarms.specs.Plan.{has_alid}

-- a command that sets or clears an alarm, and an accepted S5F3, of one alarm or of all
pub data AlarmEntry : Type 0 where
  Change : (alid : ℕ) (is_set : Bool) → AlarmEntry
  Enable : (alid : Option ℕ) (is_enabled : Bool) → AlarmEntry

-- what an entry says of an alarm's state, if anything
abbrev pub state_in : ℕ → AlarmEntry → Option Bool
state_in alid (Change other is_set) = if nat_eq other alid then Some is_set else None
state_in alid (Enable other is_enabled) = None

-- what it says of whether the alarm is enabled
abbrev pub enable_in : ℕ → AlarmEntry → Option Bool
enable_in alid (Change other is_set) = None
enable_in alid (Enable (Some other) is_enabled) = if nat_eq other alid then Some is_enabled else None
enable_in alid (Enable None is_enabled) = Some is_enabled

-- whether an alarm is set; none is at first (SEMI E30, alarm management)
abbrev pub alarm_at : List AlarmEntry → ℕ → Bool
alarm_at past alid = newest (state_in alid) false past

-- whether an alarm is enabled; at first the plan says it (SEMI E30, alarm management)
abbrev pub alarm_enabled_at : List AlarmEntry → AlarmPlan → Bool
alarm_enabled_at past planned = newest (enable_in planned.alid) planned.enabled past

abbrev pub alarm_after : List AlarmEntry → AlarmPlan → Alarm
alarm_after past planned = record {
  category = planned.category;
  text = planned.text;
  is_enabled = alarm_enabled_at past planned;
  is_set = alarm_at past planned.alid;
}

-- the table after a history
abbrev pub alarms_at : List AlarmPlan → List AlarmEntry → AlarmTable
alarms_at plan past = rows_of (λ planned. planned.alid) (alarm_after past) plan

-- the table stands for the plan and a history
abbrev pub StandsFor : AlarmTable → List AlarmPlan → List AlarmEntry → Type 0
StandsFor table plan past = table ≡ alarms_at plan past

abbrev pub planned_at : List AlarmPlan → ℕ → Option AlarmPlan
planned_at plan alid = find (has_alid alid) plan

-- what a command for a planned alarm does: nothing where the alarm is in that state already; else its S5F1 is due where
-- the alarm is enabled (SEMI E30, alarm management)
abbrev pub step_at : List AlarmEntry → Bool → AlarmPlan → AlarmStep
step_at past is_set planned =
    if beq (alarm_at past planned.alid) is_set then step.Same else step.Changed (alarm_enabled_at past planned)
