-- The copy is a draft with no entry.

use Rattle.std.proofs.Common.{◌∙◌, ap, List, [], ℕ}
use Rattle.gem_tables.specs.Rows.{with_each}
use Rattle.gem_reports.specs.Events.{EventTable, links_in, without}
use Rattle.gem_reports.specs.Tables.{ReportsView}
use Rattle.secs_items.specs.Measures.{capped}
use Rattle.gem_reports.proofs.Entering.{link_drafted}
use Rattle.gem_reports.proofs.reports.Reports.link_draft.Goals as goal

pub returns : goal.returns
returns c = λ events past stands.
    let same = ap (λ (v : ReportsView). v.events) c.self.view_is in
    link_drafted c.args.self.now c.in_ok-without.field-0 c.link_count.result events past stands
    (c.in_ok-without.ensures
    ∙ ap (λ (ids : List ℕ). with_each (without ids) c.self.inside.events) c.new.ensures.empty
    ∙ ap (λ (t : EventTable). with_each (without []) t) same)
    (c.link_count.ensures ∙ ap (λ (t : EventTable). capped (links_in t)) same)
