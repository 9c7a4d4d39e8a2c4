-- What the tables are after a history, looked back for. The newest entry stands first.
use Rattle.std.specs.Prelude.{ℕ, Bool, List, [], ◌∷◌, Option, Some, None}
use Rattle.secs_items.specs.declared.item.Item.{Item}
use Rattle.trace_log.specs.declared.commands.ToolCommand.{ToolCommand}
use Rattle.trace_log.specs.declared.commands.ToolCommand.TheVariants as command
use Rattle.trace_log.specs.Log.{Past}
use Rattle.trace_log.specs.Log.Past.{Asked, Commanded}
use Rattle.gem_alarms.specs.declared.alarms.Ackc5.{Ackc5}
use Rattle.gem_alarms.specs.declared.alarms.Ackc5.TheVariants as ackc5
use Rattle.gem_alarms.specs.Alarms.{ackc5_of}
use Rattle.gem_alarms.specs.History.{AlarmEntry, alarms_at}
use Rattle.gem_alarms.specs.History.AlarmEntry.{Change, Enable as EnableAlarm}
use Rattle.gem_reports.specs.declared.answers.Drack.{Drack}
use Rattle.gem_reports.specs.declared.answers.Drack.TheVariants as drack
use Rattle.gem_reports.specs.declared.answers.Erack.{Erack}
use Rattle.gem_reports.specs.declared.answers.Erack.TheVariants as erack
use Rattle.gem_reports.specs.declared.answers.Lrack.{Lrack}
use Rattle.gem_reports.specs.declared.answers.Lrack.TheVariants as lrack
use Rattle.gem_reports.specs.Answers.{drack_of, erack_of, lrack_of, past_after_define, past_after_link}
use Rattle.gem_reports.specs.History.{ReportEntry}
use Rattle.gem_reports.specs.History.ReportEntry.{Enable as EnableEvents}
use Rattle.gem_reports.specs.Reporting.{reporting_at}
use Rattle.gem_shapes.specs.declared.entries.Definition.{Definition}
use Rattle.gem_shapes.specs.declared.entries.Linking.{Linking}
use Rattle.gem_shapes.specs.declared.entries.RuleEntry.{RuleEntry}
use Rattle.gem_shapes.specs.declared.request.Request.{Request}
use Rattle.gem_shapes.specs.declared.request.Request.TheVariants as request
use Rattle.gem_shapes.specs.declared.request.TablesRequest.{TablesRequest}
use Rattle.gem_shapes.specs.declared.request.TablesRequest.TheVariants as tables_request
use Rattle.spool_rule.specs.declared.rule.RuleAnswer.{RuleAnswer}
use Rattle.spool_rule.specs.declared.rule.RuleAnswer.TheVariants.{Rejected, Replaced}
use Rattle.spool_rule.specs.Rule.{answer_of, rule_of}
use Rattle.gem_tables.specs.History.{newest}
use Rattle.gem_vars.specs.declared.settings.Eac.{Eac}
use Rattle.gem_vars.specs.declared.settings.Eac.TheVariants as eac
use Rattle.gem_vars.specs.declared.settings.Setting.{Setting}
use Rattle.gem_vars.specs.History.{VarsEntry, vars_at, with_settings}
use Rattle.gem_vars.specs.History.VarsEntry.{SetValue}
use Rattle.gem_vars.specs.Settings.{eac_of, refusal_of}
use Rattle.gem_vars.specs.Tables.{VarsTable, value_in}
use Rattle.equipment_tables.specs.declared.plan.EquipmentPlan.{EquipmentPlan}
use Rattle.equipment_tables.specs.Requests.{request_of}
use Rattle.equipment_tables.specs.Tables.{TablesState}

-- What counts of a history: what was accepted, of variables and constants, of reports and events, of alarms, and of
-- what is spooled. A command for an alarm that isn't there says nothing of any that is.
pub record Entries : Type 0 where
  pub vars : List VarsEntry
  pub reports : List ReportEntry
  pub alarms : List AlarmEntry
  pub rules : List (List RuleEntry)

abbrev pub vars_by : EquipmentPlan → Entries → VarsTable
vars_by plan e = vars_at plan.vars e.vars

-- the entries of the rule that holds: those of the newest one that counts, and otherwise the plan's (SEMI E5, S2F43)
abbrev pub spooled_by : EquipmentPlan → Entries → List RuleEntry
spooled_by plan e = newest Some plan.spooled e.rules

-- the tables by what counts
abbrev pub tables_by : EquipmentPlan → Entries → TablesState
tables_by plan e = record {
  vars = vars_by plan e;
  reports = reporting_at plan.events e.reports;
  alarms = alarms_at plan.alarms e.alarms;
  remote = plan.remote;
  rule = rule_of (spooled_by plan e);
  mdln = plan.mdln;
  softrev = plan.softrev;
}

abbrev pub set_counts : Option Setting → ℕ → Item → Entries → Entries
set_counts None vid value e = record e { vars = SetValue vid value ∷ e.vars }
set_counts (Some refusal) vid value e = e

-- a command counts by what was before it; none but these does
abbrev pub command_counts : EquipmentPlan → ToolCommand → Entries → Entries
command_counts plan (command.Set vid value) e = set_counts (refusal_of (vars_by plan e) vid value) vid value e
command_counts plan (command.Alarm alid is_set) e = record e { alarms = Change alid is_set ∷ e.alarms }
command_counts plan _ e = e

abbrev pub constants_count : Eac → List (ℕ × ℕ) → Entries → Entries
constants_count eac.Done list e = record e { vars = with_settings list e.vars }
constants_count _ list e = e

abbrev pub definitions_count : Drack → List Definition → Entries → Entries
definitions_count drack.Done list e = record e { reports = past_after_define e.reports list }
definitions_count _ list e = e

abbrev pub linkings_count : Lrack → List Linking → Entries → Entries
linkings_count lrack.Done list e = record e { reports = past_after_link e.reports list }
linkings_count _ list e = e

abbrev pub events_count : Erack → Bool → List ℕ → Entries → Entries
events_count erack.Done on ceids e = record e { reports = EnableEvents on ceids ∷ e.reports }
events_count _ on ceids e = e

abbrev pub alarms_count : Ackc5 → Option ℕ → Bool → Entries → Entries
alarms_count ackc5.Done alid on e = record e { alarms = EnableAlarm alid on ∷ e.alarms }
alarms_count _ alid on e = e

abbrev pub rule_counts : RuleAnswer → List RuleEntry → Entries → Entries
rule_counts Replaced list e = record e { rules = list ∷ e.rules }
rule_counts (Rejected faults) list e = e

-- so does a request of the tables; none but these does
abbrev pub request_counts : EquipmentPlan → TablesRequest → Entries → Entries
request_counts plan (tables_request.SetConstants list) e = constants_count (eac_of (vars_by plan e) list) list e
request_counts plan (tables_request.Define dataid list) e =
    definitions_count (drack_of (value_in (vars_by plan e)) e.reports list) list e
request_counts plan (tables_request.Link dataid list) e = linkings_count (lrack_of plan.events e.reports list) list e
request_counts plan (tables_request.EnableEvents on ceids) e = events_count (erack_of plan.events ceids) on ceids e
request_counts plan (tables_request.ReplaceRule list) e = rule_counts (answer_of list) list e
request_counts plan (tables_request.EnableAlarms on alid) e =
    alarms_count (ackc5_of (alarms_at plan.alarms e.alarms) alid) alid on e
request_counts plan _ e = e

abbrev pub asked_counts : EquipmentPlan → Option Request → Entries → Entries
asked_counts plan (Some (request.OfTables asked)) e = request_counts plan asked e
asked_counts plan _ e = e

abbrev pub entry_counts : EquipmentPlan → Past → Entries → Entries
entry_counts plan (Commanded command) e = command_counts plan command e
entry_counts plan (Asked m) e = asked_counts plan (request_of m.stream m.function m.body) e

-- what counts of a whole history, each of its entries judged by those before it
abbrev pub entries_at : EquipmentPlan → List Past → Entries
entries_at plan [] = record { vars = []; reports = []; alarms = []; rules = [] }
entries_at plan (entry ∷ past) = entry_counts plan entry (entries_at plan past)

-- the tables after a history: each variable, constant, report, event and alarm has what the newest entry that counts
-- says of it, and otherwise what the plan says (SEMI E30)
abbrev pub tables_at : EquipmentPlan → List Past → TablesState
tables_at plan past = tables_by plan (entries_at plan past)
