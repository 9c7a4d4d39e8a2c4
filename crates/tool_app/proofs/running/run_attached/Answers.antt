-- The device that is run over is the attached disk.

use Rattle.std.proofs.Common.{rules}
use Rattle.tool_app.proofs.Filing.{spool_same}
use Rattle.tool_app.proofs.running.run_attached.Goals as goal

pub returns-clause-came : goal.returns-clause-came
returns-clause-came g c =
    spool_same _ _ _ _ _ (search rules) (search rules) (search rules) (search rules) c.run_over-outcome.ensures.came
