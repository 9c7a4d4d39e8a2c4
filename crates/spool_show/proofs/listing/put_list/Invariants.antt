-- The messages so far are shown, and some are left where the number isn't the next one.

use Rattle.std.proofs.Common.{◌-◌}
use Rattle.gl_base.specs.Told.{sink_told}
use Rattle.spool_show.proofs.Lists.{AreShown}
use Rattle.spool_show.proofs.listing.put_list.Given as goal

abbrev pub invariant-loop-number : goal.invariant-loop-number
invariant-loop-number g l =
    AreShown g.D.Disk l.fn.spool l.spool l.number (sink_told g.W.Sink l.fn.out l.out) l.fn.page.bytes.items
    l.page.bytes.items

abbrev pub decreases-loop-number : goal.decreases-loop-number
decreases-loop-number g l = l.next - l.number
