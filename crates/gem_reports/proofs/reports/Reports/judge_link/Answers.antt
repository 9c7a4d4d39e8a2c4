-- The draft over a copy gives the answer.

use Rattle.std.proofs.Common.{sym, ap, subst}
use Rattle.gem_reports.specs.Drafts.{IsLinkDraft}
use Rattle.gem_reports.specs.Tables.{ReportsView, ReportTable}
use Rattle.gem_reports.proofs.reports.Reports.judge_link.Goals as goal

pub returns : goal.returns
returns c = λ events past stands.
    c.enter_each.ensures.answer events past
    (subst (λ (t : ReportTable). IsLinkDraft c.in_ok-link_draft.field-0.events c.in_ok-link_draft.field-0.count t
    events past) (sym (ap (λ (v : ReportsView). v.reports) c.self.view_is))
    (c.in_ok-link_draft.ensures events past stands))
