-- A body that isn't too long takes no more slots than its version allows.

use Rattle.std.proofs.Common.{sym, ◌∙◌}
use Rattle.spool_file.proofs.BodySizes.{within_version}
use Rattle.spool_file.proofs.slot.head_break.Goals as goal

pub returns-clause-size : goal.returns-clause-size
returns-clause-size c none =
    within_version c.args.frame.version c.args.frame.slots c.args.head.len
    (sym c.is_too_long.ensures ∙ c.if-is_too_long.false)
