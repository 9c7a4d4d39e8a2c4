-- Setting values keeps the ECIDs.

use Rattle.std.proofs.Common.{◌∙◌, ap}
use Rattle.gem_vars.specs.Tables.{ecids_of}
use Rattle.gem_vars.proofs.Kept.{constants_kept}
use Rattle.gem_vars.proofs.vars.Vars.set_constants.Goals as goal

pub returns-in-Done-clause-ecids : goal.returns-in-Done-clause-ecids
returns-in-Done-clause-ecids c =
    ap ecids_of c.put_values.ensures ∙ constants_kept c.args.list.now c.args.self.now
