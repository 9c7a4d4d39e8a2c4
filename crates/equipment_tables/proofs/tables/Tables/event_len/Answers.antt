-- The length goes by what stands, since the reports stand for some history.

use Rattle.std.proofs.Common.{sym, ◌∙◌, ap, length}
use Rattle.secs_items.specs.declared.item.Item.{Item}
use Rattle.secs_items.specs.Measures.{capped}
use Rattle.secs_items.specs.Spelling.{shortest_spelling}
use Rattle.gem_reports.specs.Reporting.{Reporting, event_body_in}
use Rattle.gem_vars.specs.Tables.{value_in}
use Rattle.equipment_tables.specs.Answers.{event_item}
use Rattle.equipment_tables.specs.Tables.{TablesView, state_of}
use Rattle.equipment_tables.proofs.tables.Tables.event_len.Goals as goal

pub returns : goal.returns
returns c = λ dataid.
    let past = c.self.invariant in
    let law = c.reports_go_by_what_stands.ensures in
    let value = value_in c.self.inside.vars in
    c.event_body_len.ensures past.0 past.1 past.2 dataid
    ∙ ap (λ (item : Item). capped (length (shortest_spelling item)))
    (law.event value past.0 past.1 c.args.ceid dataid
    ∙ ap (λ (r : Reporting). event_body_in value r c.args.ceid dataid)
    (sym (law.at c.self.inside.reports past.0 past.1 past.2))
    ∙ ap (λ (v : TablesView). event_item (state_of v) c.args.ceid dataid) c.self.view_is)
