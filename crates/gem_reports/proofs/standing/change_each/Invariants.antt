-- Behind the changes that are left, the reports are seen as at the start behind all.

use Rattle.std.proofs.Common.{◌≡◌, ◌≤◌, ℕ, length, nat_eq}
use Rattle.std.specs.List.{IsDistinct}
use Rattle.std.specs.Map.{keys_of}
use Rattle.indexmap.specs.IndexMap.{index_map_len, spare}
use Rattle.gem_reports.specs.Tables.{vids_behind}
use Rattle.gem_reports.proofs.standing.change_each.Given as goal

abbrev pub invariant-changes : goal.invariant-changes
invariant-changes l = record {
  each : (rptid : ℕ)
      → vids_behind l.changes.entries l.reports.entries rptid
      ≡ vids_behind l.fn.changes.entries l.fn.reports.entries rptid;
  room : index_map_len l.changes ≤ spare l.reports;
  distinct : IsDistinct nat_eq (keys_of l.reports.entries);
}

abbrev pub decreases-changes : goal.decreases-changes
decreases-changes l = length l.changes.entries
