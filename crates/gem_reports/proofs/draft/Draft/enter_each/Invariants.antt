-- The entries that are left are answered as all.

use Rattle.std.proofs.Common.{List, drop}
use Rattle.gem_vars.specs.Tables.{value_in}
use Rattle.gem_reports.specs.Drafts.{IsDraft}
use Rattle.gem_reports.specs.History.{ReportEntry}
use Rattle.gem_reports.proofs.Entering.{IsDefining}
use Rattle.gem_reports.proofs.draft.Draft.enter_each.Given as goal

abbrev pub invariant-loop-entry : goal.invariant-loop-entry
invariant-loop-entry l =
    (start past : List ReportEntry)
    → IsDraft l.standing l.fn.self.changes.entries l.fn.self.count l.fn.self.deleted.keys start past
    → IsDefining (value_in l.vars) l.standing l.self.changes.entries l.self.count l.self.deleted.keys start past l.list
    (drop l.entry-index l.list)
