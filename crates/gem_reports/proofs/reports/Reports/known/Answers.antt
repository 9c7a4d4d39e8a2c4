-- The rows are those of the plan's events.

use Rattle.std.proofs.Common.{◌∙◌, ap, is_some, nat_eq}
use Rattle.std.specs.Map.{lookup}
use Rattle.gem_reports.specs.Events.{EventTable}
use Rattle.gem_reports.specs.Tables.{ReportsView}
use Rattle.gem_reports.proofs.Rows.{is_known}
use Rattle.gem_reports.proofs.reports.Reports.known.Goals as goal

pub returns : goal.returns
returns c = λ events past stands.
    let rows = ap (λ (v : ReportsView). v.events) c.self.view_is ∙ stands.rows in
    c.contains.ensures
    ∙ ap (λ (t : EventTable). is_some (lookup (nat_eq c.args.ceid) t)) rows
    ∙ is_known events past c.args.ceid
