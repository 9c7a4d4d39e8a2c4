-- A loss of power is a deed of the line that it stands for.

use Rattle.line_way.proofs.Deeds.{power-stands}
use Rattle.line_way.proofs.ways.Ways.empty.Goals as goal

pub returns-clause-deed : goal.returns-clause-deed
returns-clause-deed c line stands = rw c.empty_both.ensures (power-stands c.args.side c.args.self.now line stands)
