-- The device that is run over is the attached disk.

use Rattle.std.proofs.Common.{refl, rules}
use Rattle.gemline_app.specs.Equipment.{HoldsLeft, tool}
use Rattle.gemline_app.proofs.Filing.{spool_same}
use Rattle.gemline_app.proofs.equipment.run_attached.Goals as goal

pub returns-clause-runs : goal.returns-clause-runs
returns-clause-runs g c =
    spool_same tool HoldsLeft _ _ _ _ _ (search rules) (search rules) (search rules) (search rules) refl
    c.run_over-outcome.ensures.runs
