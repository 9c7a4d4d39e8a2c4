use Rattle.std.proofs.Common.{◌≡◌, ◌∙◌, ap, sym, Bool, true, false, [], ◌∷◌, Option, None}
use Rattle.gem_alarms.specs.Alarms.{AlarmTable}
use Rattle.gem_alarms.specs.declared.plan.AlarmPlan.{AlarmPlan}
use Rattle.gem_alarms.specs.History.AlarmEntry.{Enable}
use Rattle.gem_shapes.specs.declared.request.Request.{Request}
use Rattle.message_flow.specs.declared.message.Message.{Message}
use Rattle.equipment_tables.specs.declared.plan.EquipmentPlan.{EquipmentPlan}
use Rattle.equipment_tables.specs.Past.{Entries, asked_counts, entries_at, tables_by}
use Rattle.equipment_tables.specs.Tables.{TablesState}
use Rattle.tool_reports.specs.Reported.{past_in, tables_in}
use Rattle.tool_reports.specs.WorkedSettings.{IsEnabling, disabled_behind_enabling, tables_with, with_alarm}
use Rattle.tool_reports.proofs.laws.worked_settings.Goals as goal

-- what counts of the history
abbrev nothing : Entries
nothing = record { vars = []; reports = []; alarms = []; rules = [] }

abbrev enabling : Entries
enabling = record { vars = []; reports = []; alarms = Enable None true ∷ []; rules = [] }

counts : (plan : EquipmentPlan) (message : Message) → IsEnabling message
    → entries_at plan (past_in (disabled_behind_enabling message)) ≡ enabling
counts plan message is = ap (λ (asked : Option Request). asked_counts plan asked nothing) is

tables-are : (plan : EquipmentPlan) (planned : AlarmPlan) (message : Message) → IsEnabling message
    → tables_in (with_alarm planned plan) (disabled_behind_enabling message) ≡ tables_with true planned plan
tables-are plan planned message is =
    ap (λ (entries : Entries). tables_by (with_alarm planned plan) entries)
    (counts (with_alarm planned plan) message is)

-- the first alarm is enabled
abbrev first-enabled : AlarmTable → Bool
first-enabled [] = false
first-enabled (row ∷ rows) = row.1.is_enabled

pub returns : goal.returns
returns c = record {
  kept = λ plan planned message s is. sym (tables-are plan planned message is);
  forgotten = λ plan planned message s is same.
      let enabled : false ≡ true =
      ap (λ (tables : TablesState). first-enabled tables.alarms) (same ∙ tables-are plan planned message is) in
      absurd (cc);
}
