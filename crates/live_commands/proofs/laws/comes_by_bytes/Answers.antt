-- By each byte of the first piece.

use Rattle.live_commands.proofs.Cutting.{by_bytes}
use Rattle.live_commands.proofs.laws.comes_by_bytes.Goals as goal

pub returns : goal.returns
returns c = by_bytes
