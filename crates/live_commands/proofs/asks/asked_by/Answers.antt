-- What a line asks for is within its ranges.

use Rattle.live_commands.proofs.Fitting.{asks_fits}
use Rattle.live_commands.proofs.asks.asked_by.Goals as goal

pub returns-clause-fits : goal.returns-clause-fits
returns-clause-fits c = asks_fits c.in_ok-asks.asks c.args.line.now c.in_ok-asks.ensures
