-- Byte by byte as by lines.

use Rattle.live_commands.proofs.Whole.{parts_are}
use Rattle.live_commands.proofs.laws.parts_are_commands.Goals as goal

pub returns : goal.returns
returns c = parts_are
