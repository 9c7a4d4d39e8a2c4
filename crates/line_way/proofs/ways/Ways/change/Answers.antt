-- A change is a deed of the line that it stands for.

use Rattle.line_way.proofs.Deeds.{change-stands}
use Rattle.line_way.proofs.ways.Ways.change.Goals as goal

pub returns-clause-deed : goal.returns-clause-deed
returns-clause-deed c line stands = rw c.change_to.ensures (change-stands c.args.side c.args.place c.args.byte c.args.self.now line stands)
