-- What is kept of the plan's events and of a history.
use Rattle.std.specs.Prelude.{◌≡◌, ◌≤◌, ◌==◌, ℕ, List, length, nat_eq, Option, Some, None, if◌then◌else◌}
use Rattle.std.specs.List.{IsDistinct}
use Rattle.std.specs.Map.{keys_of, lookup}
use Rattle.std.specs.Option.{option_map_or}
use Rattle.gem_reports.specs.Events.{EventTable, events_at}
use Rattle.gem_reports.specs.History.{ReportEntry, link_count, report_at}

-- the reports that stand: their RPTIDs, each with its VIDs
abbrev pub ReportTable : Type 0
ReportTable = List (ℕ × List ℕ)

-- the VIDs that are kept of a report, if it stands
abbrev pub vids_in : ReportTable → ℕ → Option (List ℕ)
vids_in reports rptid = lookup (nat_eq rptid) reports

-- the report that an entry with these VIDs leaves; without VIDs it is deleted
abbrev pub report_of : List ℕ → Option (List ℕ)
report_of vids = if length vids == 0 then None else Some vids

-- the VIDs of a report, if it stands, behind some changes
abbrev pub vids_behind : ReportTable → ReportTable → ℕ → Option (List ℕ)
vids_behind changes reports rptid = option_map_or report_of (vids_in changes rptid) (vids_in reports rptid)

pub record ReportsView : Type 0 where
  pub events : EventTable
  pub reports : ReportTable

-- the reports of a history, in some order
pub record HasReports (reports : ReportTable) (past : List ReportEntry) : Type 0 where
  pub each : (rptid : ℕ) → vids_in reports rptid ≡ report_at past rptid
  pub distinct : IsDistinct nat_eq (keys_of reports)

-- The value stands for the plan's events and a history: what it has of every event and every report is what is looked
-- back for. There are at most 4,096 links (this profile).
pub record StandsFor (view : ReportsView) (events : List ℕ) (past : List ReportEntry) : Type 0 where
  pub rows : view.events ≡ events_at events past
  pub standing : HasReports view.reports past
  pub few : link_count events past ≤ 4096
