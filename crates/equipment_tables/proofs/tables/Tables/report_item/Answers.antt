-- The item goes by what stands, since the reports stand for some history.

use Rattle.std.proofs.Common.{◌≡◌, sym, ◌∙◌, ap, subst, IfOk}
use Rattle.secs_items.specs.declared.item.Item.{Item}
use Rattle.gem_reports.specs.Reporting.{Reporting, report_body_in}
use Rattle.gem_vars.specs.Tables.{value_in}
use Rattle.equipment_tables.specs.Answers.{report_item_of}
use Rattle.equipment_tables.specs.Tables.{TablesView, state_of}
use Rattle.equipment_tables.proofs.tables.Tables.report_item.Goals as goal

pub returns : goal.returns
returns c =
    let past = c.self.invariant in
    let law = c.reports_go_by_what_stands.ensures in
    let value = value_in c.self.inside.vars in
    subst (λ (item : Item). IfOk c.report_body.result (λ body. body ≡ item))
    (ap (λ (r : Reporting). report_body_in value r c.args.rptid)
    (sym (law.at c.self.inside.reports past.0 past.1 past.2))
    ∙ ap (λ (v : TablesView). report_item_of (state_of v) c.args.rptid) c.self.view_is)
    (c.report_body.ensures past.0 past.1 past.2)
