-- What is kept gives the bodies of the history.
use Rattle.std.proofs.Common.{◌≡◌, ◌∙◌, ap, ℕ, List, nat_eq, Option}
use Rattle.std.specs.Map.{lookup}
use Rattle.std.specs.Option.{option_map}
use Rattle.secs_items.specs.declared.item.Item.{Item}
use Rattle.gem_reports.specs.declared.event.Event.{Event}
use Rattle.gem_reports.specs.Bodies.{event_body_at, event_body_of, report_body_at, report_body_of}
use Rattle.gem_reports.specs.History.{ReportEntry, report_at}
use Rattle.gem_reports.specs.Tables.{ReportsView, StandsFor}
use Rattle.gem_reports.proofs.Entering.{table_links}

pub kept_event :
    (value : ℕ → Option Item) (view : ReportsView) (events : List ℕ) (past : List ReportEntry) (ceid dataid : ℕ)
    → StandsFor view events past
    → event_body_of value (λ rptid. lookup (nat_eq rptid) view.reports)
    (option_map (λ (event : Event). event.rptids) (lookup (nat_eq ceid) view.events)) ceid dataid
    ≡ event_body_at value events past ceid dataid
kept_event value view events past ceid dataid stands =
    let same : (λ rptid. lookup (nat_eq rptid) view.reports) ≡ report_at past = λ j rptid. stands.standing.each rptid j in
    ap (λ report. event_body_of value report
    (option_map (λ (event : Event). event.rptids) (lookup (nat_eq ceid) view.events)) ceid dataid) same
    ∙ ap (λ links. event_body_of value (report_at past) links ceid dataid)
    (table_links view.events events past ceid stands.rows)

pub kept_report :
    (value : ℕ → Option Item) (view : ReportsView) (events : List ℕ) (past : List ReportEntry) (rptid : ℕ)
    → StandsFor view events past
    → report_body_of value (lookup (nat_eq rptid) view.reports) ≡ report_body_at value past rptid
kept_report value view events past rptid stands = ap (report_body_of value) (stands.standing.each rptid)
