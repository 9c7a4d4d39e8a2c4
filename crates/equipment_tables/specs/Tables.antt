-- The tables of the equipment, and what becomes of them.
use Rattle.std.specs.Prelude.{ℕ, Bool, true, false, not, ◌==◌, List, [], ◌*◌, Option, Some, None}
use Rattle.std.specs.Option.{unwrap_or}
use Rattle.secs_items.specs.declared.item.Item.{Item}
use Rattle.trace_log.specs.declared.commands.ToolCommand.{ToolCommand}
use Rattle.trace_log.specs.declared.commands.ToolCommand.TheVariants as command
use Rattle.trace_log.specs.Log.{Past}
use Rattle.trace_log.specs.Log.Past.{Asked, Commanded}
use Rattle.gem_alarms.specs.declared.alarms.Ackc5.{Ackc5}
use Rattle.gem_alarms.specs.declared.alarms.Ackc5.TheVariants as ackc5
use Rattle.gem_alarms.specs.Alarms.{AlarmTable, ackc5_of, enabled_by, with_set}
use Rattle.gem_alarms.specs.History.{alarms_at}
use Rattle.gem_remote.specs.declared.plan.RemotePlan.{RemotePlan}
use Rattle.gem_reports.specs.declared.answers.Drack.{Drack}
use Rattle.gem_reports.specs.declared.answers.Drack.TheVariants as drack
use Rattle.gem_reports.specs.declared.answers.Erack.{Erack}
use Rattle.gem_reports.specs.declared.answers.Erack.TheVariants as erack
use Rattle.gem_reports.specs.declared.answers.Lrack.{Lrack}
use Rattle.gem_reports.specs.declared.answers.Lrack.TheVariants as lrack
use Rattle.gem_reports.specs.History.ReportEntry.{Enable}
use Rattle.gem_reports.specs.Reporting.{Reporting, after_entry, drack_in, erack_in, lrack_in, reporting_at, reporting_of, with_definitions, with_linkings}
use Rattle.gem_reports.specs.Tables.{ReportsView}
use Rattle.gem_shapes.specs.declared.entries.Definition.{Definition}
use Rattle.gem_shapes.specs.declared.entries.Linking.{Linking}
use Rattle.gem_shapes.specs.declared.request.Request.{Request}
use Rattle.gem_shapes.specs.declared.request.Request.TheVariants as request
use Rattle.gem_shapes.specs.declared.request.TablesRequest.{TablesRequest}
use Rattle.gem_shapes.specs.declared.request.TablesRequest.TheVariants as tables_request
use Rattle.spool_rule.specs.declared.rule.SpoolRule.{SpoolRule}
use Rattle.spool_rule.specs.Rule.{rule_after, rule_of}
use Rattle.gem_tables.specs.Rows.{with_row}
use Rattle.gem_vars.specs.declared.settings.Eac.{Eac}
use Rattle.gem_vars.specs.declared.settings.Eac.TheVariants as eac
use Rattle.gem_vars.specs.declared.settings.Setting.{Setting}
use Rattle.gem_vars.specs.History.{vars_at}
use Rattle.gem_vars.specs.Settings.{eac_of, refusal_of}
use Rattle.gem_vars.specs.Tables.{VarsTable, constant_in, value_in, with_constants, with_value}
use Rattle.equipment_tables.specs.declared.plan.EquipmentPlan.{EquipmentPlan}
use Rattle.equipment_tables.specs.Requests.{request_of}

-- what a value of the program keeps
pub record TablesView : Type 0 where
  pub vars : VarsTable
  pub reports : ReportsView
  pub alarms : AlarmTable
  pub remote : RemotePlan
  pub rule : SpoolRule
  pub mdln : List ℕ
  pub softrev : List ℕ

-- The tables: variables and constants; events and reports; alarms; remote commands and terminals; which primaries are
-- spooled; and what the equipment is called.
pub record TablesState : Type 0 where
  pub vars : VarsTable
  pub reports : Reporting
  pub alarms : AlarmTable
  pub remote : RemotePlan
  pub rule : SpoolRule
  pub mdln : List ℕ
  pub softrev : List ℕ

-- in which order the reports are kept is nobody's affair
abbrev pub state_of : TablesView → TablesState
state_of view = record {
  vars = view.vars;
  reports = reporting_of view.reports;
  alarms = view.alarms;
  remote = view.remote;
  rule = view.rule;
  mdln = view.mdln;
  softrev = view.softrev;
}

-- as planned, before any command and any request
abbrev pub planned_tables : EquipmentPlan → TablesState
planned_tables plan = record {
  vars = vars_at plan.vars [];
  reports = reporting_at plan.events [];
  alarms = alarms_at plan.alarms [];
  remote = plan.remote;
  rule = rule_of plan.spooled;
  mdln = plan.mdln;
  softrev = plan.softrev;
}

-- the value of a variable, if there is one with this VID
abbrev pub value_of : TablesState → ℕ → Option Item
value_of t vid = value_in t.vars vid

abbrev pub with_vars : VarsTable → TablesState → TablesState
with_vars vars t = record t { vars = vars }

abbrev pub with_reports : Reporting → TablesState → TablesState
with_reports reports t = record t { reports = reports }

abbrev pub with_alarms : AlarmTable → TablesState → TablesState
with_alarms alarms t = record t { alarms = alarms }

abbrev pub with_rule : SpoolRule → TablesState → TablesState
with_rule rule t = record t { rule = rule }

-- ---- the constants that are built in, by their ECIDs (this profile)

abbrev pub built_in : ℕ → TablesState → ℕ
built_in ecid t = unwrap_or (constant_in t.vars ecid) 0

-- EstablishCommunicationsTimeout, in milliseconds (SEMI E30, communications state model)
abbrev pub delay_of : TablesState → ℕ
delay_of t = built_in 1 t * 1000

-- EnableSpool: the spool may become active (SEMI E30, spooling; the name is this profile's)
abbrev pub may_spool : TablesState → Bool
may_spool t = not (built_in 2 t == 0)

-- OverWriteSpool: in a full spool a message takes the place of the oldest (SEMI E30, spooling)
abbrev pub overwrites : TablesState → Bool
overwrites t = not (built_in 3 t == 0)

-- MaxSpoolTransmit: how many messages may go to the host at one request; 0 is no bound (SEMI E30, spooling)
abbrev pub most_transmitted : TablesState → ℕ
most_transmitted t = built_in 4 t

-- ---- what the tool commands

-- a variable is set, unless that is refused
abbrev pub set_by : Option Setting → ℕ → Item → TablesState → TablesState
set_by None vid value t = with_vars (with_value vid value t.vars) t
set_by (Some refusal) vid value t = t

-- it was set
abbrev pub is_done : Option Setting → Bool
is_done None = true
is_done (Some refusal) = false

abbrev pub set_after : ℕ → Item → TablesState → TablesState
set_after vid value t = set_by (refusal_of t.vars vid value) vid value t

-- an alarm is set or cleared, if there is one with this ALID
abbrev pub alarm_after : ℕ → Bool → TablesState → TablesState
alarm_after alid is_set t = with_alarms (with_row alid (with_set is_set) t.alarms) t

-- no other command changes a table
abbrev pub after_command : ToolCommand → TablesState → TablesState
after_command (command.Set vid value) t = set_after vid value t
after_command (command.Alarm alid is_set) t = alarm_after alid is_set t
after_command _ t = t

-- ---- what the host asks for: a request that is refused changes nothing (SEMI E5, S2F15, S2F33, S2F35, S2F37, S2F43,
-- S5F3)

abbrev pub constants_by : Eac → List (ℕ × ℕ) → TablesState → TablesState
constants_by eac.Done list t = with_vars (with_constants list t.vars) t
constants_by _ list t = t

abbrev pub definitions_by : Drack → List Definition → TablesState → TablesState
definitions_by drack.Done list t = with_reports (with_definitions list t.reports) t
definitions_by _ list t = t

abbrev pub linkings_by : Lrack → List Linking → TablesState → TablesState
linkings_by lrack.Done list t = with_reports (with_linkings list t.reports) t
linkings_by _ list t = t

abbrev pub events_by : Erack → Bool → List ℕ → TablesState → TablesState
events_by erack.Done on ceids t = with_reports (after_entry t.reports (Enable on ceids)) t
events_by _ on ceids t = t

abbrev pub alarms_by : Ackc5 → Option ℕ → Bool → TablesState → TablesState
alarms_by ackc5.Done alid on t = with_alarms (enabled_by alid on t.alarms) t
alarms_by _ alid on t = t

-- no other one changes a table
abbrev pub tables_after : TablesRequest → TablesState → TablesState
tables_after (tables_request.SetConstants list) t = constants_by (eac_of t.vars list) list t
tables_after (tables_request.Define dataid list) t = definitions_by (drack_in (value_of t) t.reports list) list t
tables_after (tables_request.Link dataid list) t = linkings_by (lrack_in t.reports list) list t
tables_after (tables_request.EnableEvents on ceids) t = events_by (erack_in t.reports ceids) on ceids t
tables_after (tables_request.ReplaceRule list) t = with_rule (rule_after list t.rule) t
tables_after (tables_request.EnableAlarms on alid) t = alarms_by (ackc5_of t.alarms alid) alid on t
tables_after _ t = t

-- ---- after a history

-- no request but those of the tables changes one
abbrev pub asked_after : Option Request → TablesState → TablesState
asked_after (Some (request.OfTables asked)) t = tables_after asked t
asked_after _ t = t

abbrev pub after_past : Past → TablesState → TablesState
after_past (Commanded command) t = after_command command t
after_past (Asked m) t = asked_after (request_of m.stream m.function m.body) t
