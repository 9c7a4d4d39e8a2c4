-- An entry more of a history changes the tables as it changes what is looked back for.
use Rattle.std.proofs.Common.{◌≡◌, refl, sym, ◌∙◌, ap, ℕ, Bool, List, ◌∷◌, Option, Some, None}
use Rattle.secs_items.specs.declared.item.Item.{Item}
use Rattle.trace_log.specs.declared.commands.ToolCommand.{ToolCommand}
use Rattle.trace_log.specs.declared.commands.ToolCommand.TheVariants as command
use Rattle.trace_log.specs.Log.{Past}
use Rattle.trace_log.specs.Log.Past.{Asked, Commanded}
use Rattle.gem_alarms.specs.declared.alarms.Ackc5.{Ackc5}
use Rattle.gem_alarms.specs.declared.alarms.Ackc5.TheVariants as ackc5
use Rattle.gem_alarms.specs.Alarms.{AlarmTable, ackc5_of}
use Rattle.gem_alarms.specs.History.{AlarmEntry, alarms_at}
use Rattle.gem_alarms.specs.History.AlarmEntry.{Change, Enable as EnableAlarm}
use Rattle.gem_alarms.specs.Laws.{AlarmsAreLookedBackFor}
use Rattle.gem_alarms.specs.Laws as alarm
use Rattle.gem_reports.specs.declared.answers.Drack.{Drack}
use Rattle.gem_reports.specs.declared.answers.Drack.TheVariants as drack
use Rattle.gem_reports.specs.declared.answers.Erack.{Erack}
use Rattle.gem_reports.specs.declared.answers.Erack.TheVariants as erack
use Rattle.gem_reports.specs.declared.answers.Lrack.{Lrack}
use Rattle.gem_reports.specs.declared.answers.Lrack.TheVariants as lrack
use Rattle.gem_reports.specs.Answers.{drack_of, erack_of, lrack_of}
use Rattle.gem_reports.specs.History.ReportEntry.{Enable as EnableEvents}
use Rattle.gem_reports.specs.Laws.{ReportsGoByWhatStands}
use Rattle.gem_reports.specs.Reporting.{Reporting}
use Rattle.gem_shapes.specs.declared.entries.Definition.{Definition}
use Rattle.gem_shapes.specs.declared.entries.Linking.{Linking}
use Rattle.gem_shapes.specs.declared.request.Request.{Request}
use Rattle.gem_shapes.specs.declared.request.Request.TheVariants as request
use Rattle.gem_shapes.specs.declared.request.TablesRequest.{TablesRequest}
use Rattle.gem_shapes.specs.declared.request.TablesRequest.TheVariants as tables_request
use Rattle.gem_shapes.specs.declared.entries.RuleEntry.{RuleEntry}
use Rattle.spool_rule.specs.declared.rule.RuleAnswer.{RuleAnswer}
use Rattle.spool_rule.specs.declared.rule.RuleAnswer.TheVariants.{Rejected, Replaced}
use Rattle.spool_rule.specs.Rule.{answer_of, rule_by, rule_of}
use Rattle.gem_vars.specs.declared.settings.Eac.{Eac}
use Rattle.gem_vars.specs.declared.settings.Eac.TheVariants as eac
use Rattle.gem_vars.specs.declared.settings.Setting.{Setting}
use Rattle.gem_vars.specs.History.VarsEntry.{SetValue}
use Rattle.gem_vars.specs.Laws.{VarsAreLookedBackFor}
use Rattle.gem_vars.specs.Settings.{eac_of, refusal_of}
use Rattle.gem_vars.specs.Tables.{VarsTable, value_in}
use Rattle.equipment_tables.specs.declared.plan.EquipmentPlan.{EquipmentPlan}
use Rattle.equipment_tables.specs.Past.{Entries, alarms_count, asked_counts, command_counts, constants_count, definitions_count, entries_at, events_count, linkings_count, request_counts, rule_counts, set_counts, spooled_by, tables_at, tables_by, vars_by}
use Rattle.equipment_tables.specs.Plan.{EquipmentPlanFits}
use Rattle.equipment_tables.specs.Requests.{request_of}
use Rattle.equipment_tables.specs.Tables.{after_command, after_past, alarms_by, asked_after, constants_by, definitions_by, events_by, linkings_by, set_by, tables_after, with_alarms, with_reports, with_rule, with_vars}

module _ (vars : VarsAreLookedBackFor) (reports : ReportsGoByWhatStands) (alarms : AlarmsAreLookedBackFor)
    (plan : EquipmentPlan) (fits : EquipmentPlanFits plan) where
  set_same :
      (e : Entries) (refusal : Option Setting) (vid : ℕ) (value : Item)
      → tables_by plan (set_counts refusal vid value e) ≡ set_by refusal vid value (tables_by plan e)
  set_same e (Some refusal) vid value = refl
  set_same e None vid value =
      ap (λ (t : VarsTable). with_vars t (tables_by plan e))
      (sym (vars.next (vars_by plan e) plan.vars e.vars (SetValue vid value) fits.vars refl))

  alarm_same :
      (e : Entries) (entry : AlarmEntry)
      → tables_by plan (record e { alarms = entry ∷ e.alarms })
      ≡ with_alarms (alarm.after_entry (alarms_at plan.alarms e.alarms) entry) (tables_by plan e)
  alarm_same e entry =
      ap (λ (t : AlarmTable). with_alarms t (tables_by plan e))
      (sym (alarms.next (alarms_at plan.alarms e.alarms) plan.alarms e.alarms entry fits.alarms refl))

  command_same :
      (e : Entries) (c : ToolCommand)
      → tables_by plan (command_counts plan c e) ≡ after_command c (tables_by plan e)
  command_same e (command.Set vid value) = set_same e (refusal_of (vars_by plan e) vid value) vid value
  command_same e (command.Alarm alid is_set) = alarm_same e (Change alid is_set)
  command_same e (command.Event ceid) = refl
  command_same e command.Enable = refl
  command_same e command.Disable = refl
  command_same e command.Online = refl
  command_same e command.Offline = refl
  command_same e command.Local = refl
  command_same e command.Remote = refl
  command_same e (command.Terminal tid text) = refl

  constants_same :
      (e : Entries) (answer : Eac) (list : List (ℕ × ℕ))
      → tables_by plan (constants_count answer list e) ≡ constants_by answer list (tables_by plan e)
  constants_same e eac.Done list =
      ap (λ (t : VarsTable). with_vars t (tables_by plan e))
      (sym (vars.settings (vars_by plan e) plan.vars e.vars list fits.vars refl))
  constants_same e (eac.Unknown ecid) list = refl
  constants_same e (eac.OutOfRange ecid) list = refl

  definitions_same :
      (e : Entries) (answer : Drack) (list : List Definition)
      → tables_by plan (definitions_count answer list e) ≡ definitions_by answer list (tables_by plan e)
  definitions_same e drack.Done list =
      ap (λ (r : Reporting). with_reports r (tables_by plan e)) (reports.defined plan.events e.reports list)
  definitions_same e drack.NoSpace list = refl
  definitions_same e (drack.Defined rptid) list = refl
  definitions_same e (drack.UnknownVid vid) list = refl

  linkings_same :
      (e : Entries) (answer : Lrack) (list : List Linking)
      → tables_by plan (linkings_count answer list e) ≡ linkings_by answer list (tables_by plan e)
  linkings_same e lrack.Done list =
      ap (λ (r : Reporting). with_reports r (tables_by plan e)) (reports.linked plan.events e.reports list)
  linkings_same e lrack.NoSpace list = refl
  linkings_same e (lrack.Linked ceid) list = refl
  linkings_same e (lrack.UnknownCeid ceid) list = refl
  linkings_same e (lrack.UnknownRptid rptid) list = refl

  events_same :
      (e : Entries) (answer : Erack) (on : Bool) (ceids : List ℕ)
      → tables_by plan (events_count answer on ceids e) ≡ events_by answer on ceids (tables_by plan e)
  events_same e erack.Done on ceids =
      ap (λ (r : Reporting). with_reports r (tables_by plan e))
      (reports.next plan.events e.reports (EnableEvents on ceids))
  events_same e (erack.Unknown ceid) on ceids = refl

  alarms_same :
      (e : Entries) (answer : Ackc5) (alid : Option ℕ) (on : Bool)
      → tables_by plan (alarms_count answer alid on e) ≡ alarms_by answer alid on (tables_by plan e)
  alarms_same e ackc5.Done alid on = alarm_same e (EnableAlarm alid on)
  alarms_same e (ackc5.Unknown n) alid on = refl

  rule_same :
      (e : Entries) (answer : RuleAnswer) (list : List RuleEntry)
      → tables_by plan (rule_counts answer list e)
      ≡ with_rule (rule_by answer list (rule_of (spooled_by plan e))) (tables_by plan e)
  rule_same e Replaced list = refl
  rule_same e (Rejected faults) list = refl

  request_same :
      (e : Entries) (r : TablesRequest) → tables_by plan (request_counts plan r e) ≡ tables_after r (tables_by plan e)
  request_same e (tables_request.SetConstants list) = constants_same e (eac_of (vars_by plan e) list) list
  request_same e (tables_request.Define dataid list) =
      definitions_same e (drack_of (value_in (vars_by plan e)) e.reports list) list
      ∙ ap (λ (a : Drack). definitions_by a list (tables_by plan e))
      (reports.drack (value_in (vars_by plan e)) plan.events e.reports list)
  request_same e (tables_request.Link dataid list) =
      linkings_same e (lrack_of plan.events e.reports list) list
      ∙ ap (λ (a : Lrack). linkings_by a list (tables_by plan e)) (reports.lrack plan.events e.reports list)
  request_same e (tables_request.EnableEvents on ceids) =
      events_same e (erack_of plan.events ceids) on ceids
      ∙ ap (λ (a : Erack). events_by a on ceids (tables_by plan e)) (reports.erack plan.events e.reports ceids)
  request_same e (tables_request.EnableAlarms on alid) =
      alarms_same e (ackc5_of (alarms_at plan.alarms e.alarms) alid) alid on
  request_same e (tables_request.ReplaceRule list) = rule_same e (answer_of list) list
  request_same e tables_request.AreYouThere = refl
  request_same e (tables_request.StatusValues ids) = refl
  request_same e (tables_request.StatusNames ids) = refl
  request_same e (tables_request.ConstantValues ids) = refl
  request_same e (tables_request.ConstantNames ids) = refl
  request_same e (tables_request.Announce dataid len) = refl
  request_same e (tables_request.Command name params) = refl
  request_same e (tables_request.Alarms ids) = refl
  request_same e tables_request.EnabledAlarms = refl
  request_same e (tables_request.EventReport ceid) = refl
  request_same e (tables_request.Report rptid) = refl
  request_same e (tables_request.Display tid text) = refl
  request_same e (tables_request.DisplayLines tid texts) = refl

  asked_same :
      (e : Entries) (r : Option Request)
      → tables_by plan (asked_counts plan r e) ≡ asked_after r (tables_by plan e)
  asked_same e None = refl
  asked_same e (Some (request.OfTables r)) = request_same e r
  asked_same e (Some (request.OfRecipes r)) = refl
  asked_same e (Some request.Establish) = refl
  asked_same e (Some request.GoOffline) = refl
  asked_same e (Some request.GoOnline) = refl
  asked_same e (Some request.TransmitSpool) = refl
  asked_same e (Some request.PurgeSpool) = refl
  asked_same e (Some (request.Trace trid dsper total group svids)) = refl

  pub entry_same :
      (past : List Past) (entry : Past) → tables_at plan (entry ∷ past) ≡ after_past entry (tables_at plan past)
  entry_same past (Commanded c) = command_same (entries_at plan past) c
  entry_same past (Asked m) = asked_same (entries_at plan past) (request_of m.stream m.function m.body)
