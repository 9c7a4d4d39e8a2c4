-- The page went out, and the lines behind it.

use Rattle.gl_base.proofs.Appending.{finished}
use Rattle.end_pair.proofs.running.write_rest.Goals as goal

pub returns : goal.returns
returns g c = finished _ _ _ _ _ c.in-Done.ensures.passes c.send.ensures.sent
