-- The length that is kept is that of the history's body.

use Rattle.std.proofs.Common.{◌∙◌, ap, length, nat_eq}
use Rattle.std.specs.Map.{lookup}
use Rattle.secs_items.specs.declared.item.Item.{Item}
use Rattle.secs_items.specs.Measures.{capped}
use Rattle.secs_items.specs.Spelling.{shortest_spelling}
use Rattle.gem_vars.specs.Tables.{value_in}
use Rattle.gem_reports.specs.Bodies.{report_body_of}
use Rattle.gem_reports.specs.Tables.{ReportsView}
use Rattle.gem_reports.proofs.Kept.{kept_report}
use Rattle.gem_reports.proofs.reports.Reports.report_body_len.Goals as goal

pub returns : goal.returns
returns c = λ events past stands.
    let value = value_in c.args.vars.now in
    c.body_len.ensures
    ∙ ap (λ (item : Item). capped (length (shortest_spelling item)))
    (ap (λ (v : ReportsView). report_body_of value (lookup (nat_eq c.args.rptid) v.reports)) c.self.view_is
    ∙ kept_report value c.args.self.now events past c.args.rptid stands)
