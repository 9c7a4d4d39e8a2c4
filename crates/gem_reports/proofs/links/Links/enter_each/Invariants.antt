-- The entries that are left are answered as all.

use Rattle.std.proofs.Common.{ℕ, List, drop}
use Rattle.gem_reports.specs.Drafts.{IsLinkDraft}
use Rattle.gem_reports.specs.History.{ReportEntry}
use Rattle.gem_reports.proofs.Entering.{IsLinking}
use Rattle.gem_reports.proofs.links.Links.enter_each.Given as goal

abbrev pub invariant-loop-entry : goal.invariant-loop-entry
invariant-loop-entry l =
    (events : List ℕ) (past : List ReportEntry)
    → IsLinkDraft l.fn.self.events l.fn.self.count l.standing events past
    → IsLinking l.self.events l.self.count l.standing events past l.list (drop l.entry-index l.list)
