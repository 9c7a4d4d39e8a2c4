-- The item goes by what stands, since the reports stand for some history.

use Rattle.std.proofs.Common.{◌≡◌, sym, ◌∙◌, ap, subst, IfOk}
use Rattle.secs_items.specs.declared.item.Item.{Item}
use Rattle.gem_reports.specs.Reporting.{Reporting, event_body_in}
use Rattle.gem_vars.specs.Tables.{value_in}
use Rattle.equipment_tables.specs.Answers.{event_item}
use Rattle.equipment_tables.specs.Tables.{TablesView, state_of}
use Rattle.equipment_tables.proofs.tables.Tables.event_item.Goals as goal

pub returns : goal.returns
returns c =
    let past = c.self.invariant in
    let law = c.reports_go_by_what_stands.ensures in
    let value = value_in c.self.inside.vars in
    subst (λ (item : Item). IfOk c.event_body.result (λ body. body ≡ item))
    (law.event value past.0 past.1 c.args.ceid c.args.dataid
    ∙ ap (λ (r : Reporting). event_body_in value r c.args.ceid c.args.dataid)
    (sym (law.at c.self.inside.reports past.0 past.1 past.2))
    ∙ ap (λ (v : TablesView). event_item (state_of v) c.args.ceid c.args.dataid) c.self.view_is)
    (c.event_body.ensures past.0 past.1 past.2)
