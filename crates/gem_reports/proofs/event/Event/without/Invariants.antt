-- The links so far that are kept.

use Rattle.std.proofs.Common.{◌≡◌, filter, take, not, nat_eq}
use Rattle.std.specs.List.{list_any}
use Rattle.gem_reports.proofs.event.Event.without.Given as goal

abbrev pub invariant-loop-rptid : goal.invariant-loop-rptid
invariant-loop-rptid l =
    l.kept ≡ filter (λ rptid. not (list_any (nat_eq rptid) l.rptids.keys)) (take l.rptid-index l.self.rptids)
