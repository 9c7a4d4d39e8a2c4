-- What holds of the table of alarms after every history.
use Rattle.std.specs.Prelude.{◌≡◌, ℕ, Bool, List, ◌∷◌}
use Rattle.std.specs.Option.{option_map, option_map_or}
use Rattle.gem_tables.specs.Rows.{with_row}
use Rattle.gem_alarms.specs.declared.alarms.AlarmStep.TheVariants as step
use Rattle.gem_alarms.specs.declared.plan.AlarmPlan.{AlarmPlan}
use Rattle.gem_alarms.specs.Alarms.{AlarmTable, alarm_in, enabled_by, step_of, with_set}
use Rattle.gem_alarms.specs.History.{AlarmEntry, StandsFor, alarm_after, planned_at, step_at}
use Rattle.gem_alarms.specs.History.AlarmEntry.{Change, Enable}
use Rattle.gem_alarms.specs.Plan.{AlarmsFit}

-- what an entry leaves
abbrev pub after_entry : AlarmTable → AlarmEntry → AlarmTable
after_entry table (Change alid is_set) = with_row alid (with_set is_set) table
after_entry table (Enable alid is_enabled) = enabled_by alid is_enabled table

-- where the table stands for a history, after one entry more it stands for the longer one; what it has at an ALID is
-- what is looked back for of the planned alarm; and so is what a command for that ALID does
pub record AlarmsAreLookedBackFor : Type 0 where
  pub next :
      (table : AlarmTable) (plan : List AlarmPlan) (past : List AlarmEntry) (entry : AlarmEntry) → AlarmsFit plan
      → StandsFor table plan past → StandsFor (after_entry table entry) plan (entry ∷ past)
  pub at :
      (table : AlarmTable) (plan : List AlarmPlan) (past : List AlarmEntry) (alid : ℕ) → StandsFor table plan past
      → alarm_in table alid ≡ option_map (alarm_after past) (planned_at plan alid)
  pub steps :
      (table : AlarmTable) (plan : List AlarmPlan) (past : List AlarmEntry) (alid : ℕ) (is_set : Bool)
      → StandsFor table plan past
      → step_of table alid is_set ≡ option_map_or (step_at past is_set) (planned_at plan alid) step.Unknown
