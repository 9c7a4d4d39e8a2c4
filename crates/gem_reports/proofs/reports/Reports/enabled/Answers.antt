-- The row that is found, or not found, is that of the history.

use Rattle.std.proofs.Common.{sym, ◌∙◌, ap, nat_eq}
use Rattle.std.specs.Map.{lookup}
use Rattle.std.specs.Option.{option_copied}
use Rattle.gem_reports.specs.Events.{event_after}
use Rattle.gem_reports.specs.History.{is_event}
use Rattle.gem_reports.specs.Tables.{ReportsView}
use Rattle.gem_reports.proofs.Rows.{enabled_known, enabled_unknown, looked_up}
use Rattle.gem_reports.proofs.reports.Reports.enabled.Goals as goal

pub returns-in-Some : goal.returns-in-Some
returns-in-Some c = λ events past stands.
    let rows = ap (λ (v : ReportsView). v.events) c.self.view_is ∙ stands.rows in
    enabled_known (is_event events c.args.ceid) c.in-Some.event.now (event_after past c.args.ceid)
    (sym (ap option_copied c.in-Some.is) ∙ c.get.ensures ∙ ap (lookup (nat_eq c.args.ceid)) rows
    ∙ looked_up events past c.args.ceid)

pub returns-in-None : goal.returns-in-None
returns-in-None c = λ events past stands.
    let rows = ap (λ (v : ReportsView). v.events) c.self.view_is ∙ stands.rows in
    enabled_unknown (is_event events c.args.ceid) (event_after past c.args.ceid)
    (sym (ap option_copied c.in-None.is) ∙ c.get.ensures ∙ ap (lookup (nat_eq c.args.ceid)) rows
    ∙ looked_up events past c.args.ceid)
