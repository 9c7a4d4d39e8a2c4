-- The pieces so far are put, and the others are left.

use Rattle.std.proofs.Common.{◌≡◌, ◌-◌, ◌*◌}
use Rattle.gl_base.specs.Told.{sink_told}
use Rattle.spool_show.proofs.Pieces.{ArePut}
use Rattle.spool_show.proofs.listing.put_further.Given as goal

abbrev pub invariant-loop-part : goal.invariant-loop-part
invariant-loop-part g l =
    ArePut g.D.Disk l.fn.spool l.spool l.head l.part (sink_told g.W.Sink l.fn.out l.out) l.fn.page.bytes.items
    l.page.bytes.items
    × (l.left ≡ l.head.len - 4081 * l.part)
