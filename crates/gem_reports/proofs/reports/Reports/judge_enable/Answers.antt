-- The first CEID that isn't known gives the answer.

use Rattle.std.proofs.Common.{sym, ◌∙◌, ap}
use Rattle.std.specs.Option.{option_copied, option_map_or}
use Rattle.gem_reports.specs.declared.answers.Erack.TheVariants as erack
use Rattle.gem_reports.specs.Tables.{ReportsView}
use Rattle.gem_reports.proofs.Rows.{first_unknown}
use Rattle.gem_reports.proofs.reports.Reports.judge_enable.Goals as goal

pub returns-in-Some : goal.returns-in-Some
returns-in-Some c = λ events past stands.
    let rows = ap (λ (v : ReportsView). v.events) c.self.view_is ∙ stands.rows in
    ap (λ o. option_map_or erack.Unknown o erack.Done)
    (sym (ap option_copied c.in-Some.is) ∙ c.first_unknown.ensures
    ∙ first_unknown events past c.self.inside.events c.args.list.now rows)

pub returns-in-None : goal.returns-in-None
returns-in-None c = λ events past stands.
    let rows = ap (λ (v : ReportsView). v.events) c.self.view_is ∙ stands.rows in
    ap (λ o. option_map_or erack.Unknown o erack.Done)
    (sym (ap option_copied c.in-None.is) ∙ c.first_unknown.ensures
    ∙ first_unknown events past c.self.inside.events c.args.list.now rows)
