-- The slip that is told is that of the line that it stands for.

use Rattle.line_way.proofs.Slipping.{slip-stands}
use Rattle.line_way.proofs.ways.Ways.slip.Goals as goal

pub returns-clause-line : goal.returns-clause-line
returns-clause-line c line now stands waits =
    slip-stands c.args.side c.args.self.now line now c.args.phase c.args.is_late c.slip_at.result stands waits c.slip_at.ensures
