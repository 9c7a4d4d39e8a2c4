-- The item that was read is the one that the text means.

use Rattle.std.proofs.Common.{ap, sym}
use Rattle.secs_text.proofs.TextLaws.{as_read}
use Rattle.gem_config.specs.Values.{found}
use Rattle.gem_config.proofs.values.item_in.Goals as goal

pub returns-in-Ok : goal.returns-in-Ok
returns-in-Ok c = sym (ap found (as_read c.args.text.now c.in-Ok.item c.in-Ok.ensures.found))
