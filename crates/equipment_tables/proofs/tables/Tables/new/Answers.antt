-- The tables as planned: the reports stand for no history, and each part is the plan's.

use Rattle.std.proofs.Common.{◌∙◌, ap, ℕ, List, []}
use Rattle.gem_alarms.specs.declared.plan.AlarmPlan.{AlarmPlan}
use Rattle.gem_alarms.specs.History.{alarms_at}
use Rattle.gem_reports.specs.Reporting.{reporting_at}
use Rattle.gem_shapes.specs.declared.entries.RuleEntry.{RuleEntry}
use Rattle.spool_rule.specs.Rule.{rule_of}
use Rattle.equipment_tables.proofs.ReportTables.{same_state}
use Rattle.equipment_tables.proofs.tables.Tables.new.Goals as goal

pub invariant_of-result : goal.invariant_of-result
invariant_of-result c = (c.as_slice-events.result.now, [], c.in_ok-reports.ensures)

pub returns : goal.returns
returns c =
    same_state c.in_ok-vars.ensures
    (c.reports_go_by_what_stands.ensures.at _ c.as_slice-events.result.now [] c.in_ok-reports.ensures
    ∙ ap (λ (events : List ℕ). reporting_at events []) c.as_slice-events.ensures)
    (c.in_ok-alarms.ensures ∙ ap (λ (plan : List AlarmPlan). alarms_at plan []) c.as_slice-planned.ensures)
    c.in_ok-remote.ensures
    (c.new-rule.ensures ∙ ap (λ (plan : List RuleEntry). rule_of plan) c.as_slice-spooled.ensures)
    (c.in_ok-mdln.ensures ∙ c.as_slice-model.ensures)
    (c.in_ok-softrev.ensures ∙ c.as_slice-revision.ensures)
