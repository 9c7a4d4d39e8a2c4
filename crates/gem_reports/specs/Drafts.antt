-- What a draft has while a request is worked through.
use Rattle.std.specs.Prelude.{◌≡◌, ℕ, List}
use Rattle.gem_reports.specs.Events.{EventTable, event_after, without}
use Rattle.gem_reports.specs.History.{ReportEntry, link_count, report_at, report_count}
use Rattle.gem_reports.specs.Tables.{ReportTable, StandsFor, vids_behind}

-- The reports that stand are those of the history so far, seen behind the changes, and this many. Without links to the
-- deleted reports, each event is as at the start of the request.
pub record IsDraft (standing changes : ReportTable) (count : ℕ) (deleted : List ℕ)
    (start past : List ReportEntry) : Type 0 where
  pub each : (rptid : ℕ) → vids_behind changes standing rptid ≡ report_at past rptid
  pub counted : count ≡ report_count past
  pub rows : (ceid : ℕ) → without deleted ceid (event_after start ceid) ≡ event_after past ceid

-- the value with these events and reports stands for the history so far, and this many links are counted
pub record IsLinkDraft (table : EventTable) (count : ℕ) (reports : ReportTable)
    (events : List ℕ) (past : List ReportEntry) : Type 0 where
  pub stands : StandsFor (record { events = table; reports = reports }) events past
  pub counted : count ≡ link_count events past
