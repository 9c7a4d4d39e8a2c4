-- The draft over a copy gives the answer and what stands.

use Rattle.std.proofs.Common.{sym, ◌∙◌, ap, subst}
use Rattle.gem_reports.specs.Drafts.{IsLinkDraft}
use Rattle.gem_reports.specs.Tables.{ReportsView, ReportTable}
use Rattle.gem_reports.proofs.reports.Reports.link.Goals as goal

pub returns-then-not-is_done-clause-answer : goal.returns-then-not-is_done-clause-answer
returns-then-not-is_done-clause-answer c = λ events past stands.
    c.in_ok-answer.ensures.answer events past
    (subst (λ (t : ReportTable). IsLinkDraft c.in_ok-draft.draft.events c.in_ok-draft.draft.count t events past)
    (sym (ap (λ (v : ReportsView). v.reports) c.self.view_is)) (c.in_ok-draft.ensures events past stands))

pub returns-clause-answer : goal.returns-clause-answer
returns-clause-answer c = λ events past stands.
    sym (c.is_done.ensures.0 c.if-not-is_done.false)
    ∙ c.in_ok-answer.ensures.answer events past
    (subst (λ (t : ReportTable). IsLinkDraft c.in_ok-draft.draft.events c.in_ok-draft.draft.count t events past)
    (sym (ap (λ (v : ReportsView). v.reports) c.self.view_is)) (c.in_ok-draft.ensures events past stands))

pub returns-clause-stands : goal.returns-clause-stands
returns-clause-stands c = λ events past stands done.
    (c.in_ok-answer.ensures.draft events past
    (subst (λ (t : ReportTable). IsLinkDraft c.in_ok-draft.draft.events c.in_ok-draft.draft.count t events past)
    (sym (ap (λ (v : ReportsView). v.reports) c.self.view_is)) (c.in_ok-draft.ensures events past stands))
    (c.is_done.ensures.0 c.if-not-is_done.false)).stands
