-- The item that was read is the one that the text means.

use Rattle.std.proofs.Common.{ap, sym}
use Rattle.secs_text.proofs.TextLaws.{as_read}
use Rattle.line_schedule.specs.Items.{found}
use Rattle.line_schedule.proofs.items.item_in.Goals as goal

pub returns-in-Ok : goal.returns-in-Ok
returns-in-Ok c = sym (ap found (as_read c.args.text.now c.in-Ok.item c.in-Ok.ensures.found))
