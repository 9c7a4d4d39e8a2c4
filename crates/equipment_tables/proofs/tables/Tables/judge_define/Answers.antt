-- The answer goes by what stands, since the reports stand for some history.

use Rattle.std.proofs.Common.{◌≡◌, subst, IfOk}
use Rattle.gem_reports.specs.Reporting.{drack_in, reporting_of}
use Rattle.gem_vars.specs.Tables.{value_in}
use Rattle.equipment_tables.specs.Tables.{TablesView, state_of, value_of}
use Rattle.equipment_tables.proofs.ReportTables.{drack_is}
use Rattle.equipment_tables.proofs.tables.Tables.judge_define.Goals as goal

pub returns : goal.returns
returns c =
    let past = c.self.invariant in
    subst (λ (v : TablesView). IfOk c.judge_define.result (λ drack. drack ≡
    drack_in (value_of (state_of v)) (reporting_of v.reports) c.args.list.now)) c.self.view_is
    (drack_is c.reports_go_by_what_stands.ensures c.self.inside.reports c.self.inside.reports past
    (value_in c.self.inside.vars) c.args.list.now c.judge_define.result (c.judge_define.ensures past.0 past.1 past.2))
